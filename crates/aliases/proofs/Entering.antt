-- What the changes of the table do to the look-ups of aliases.
use Rattle.std.proofs.Common.{◌≡◌, ◌≢◌, ℕ, Bool, cond, List, [], ◌∷◌, ◌++◌, not, nat_eq, refl, sym}
use Rattle.std.proofs.Common.{◌∙◌, ap, subst, Some, None, Ok, Err, zero, arith}
use Rattle.std.specs.Prelude.{Option, Contains, Result, IsOk, IfErr}
use Rattle.std.specs.Option.{IsSomeAnd}
use Rattle.std.specs.Cmp.Lexicographic.{pointwise}
use Rattle.std.specs.FinMap as fin
use Rattle.std.proofs.lemmas.Map.Entries.{option_filter}
use Rattle.keyed.specs.Maps.{Changed}
use Rattle.keyed.proofs.Decide.{by_test, test_false, some_none, same_some, Contains-parts}
use Rattle.keyed.proofs.Decide.{Contains-later}
use Rattle.keyed.proofs.Maps.{by_key, Changed-insert, get_retained}
use Rattle.ras_module.specs.declared.address.Address.{Address}
use Rattle.ras_module.specs.declared.alias.Alias.{Alias}
use Rattle.ras_module.specs.Same.{texts_decide}
use Rattle.ras_module.proofs.AliasOrder.{alias_cmp_total, alias_cmp-IsAntisymmetric}
use Rattle.aliases.specs.declared.fault.SetFault.{SetFault}
use Rattle.aliases.specs.declared.fault.SetFault.TheVariants.{Duplicate, Memory}
use Rattle.aliases.proofs.StoredAliases.{not_by_another}
use Rattle.aliases.specs.Held.{Held, Holding, IsHeldByAnother, holding_by, with_alias, with_aliases}
use Rattle.aliases.specs.Held.{without_holder}

pub Changed-with_alias : (held : Held) (alias : Alias) (id : List ℕ) (address : Address)
    → Changed (fin.get held) (fin.get (with_alias held alias id address)) alias
    (Some (holding_by id address))
Changed-with_alias held alias id address =
    Changed-insert alias_cmp_total alias_cmp-IsAntisymmetric held alias (holding_by id address)

-- one alias more at the end of the list
pub with_aliases-push : (held : Held) (aliases : List Alias) (alias : Alias)
    (id : List ℕ) (address : Address)
    → with_aliases held (aliases ++ alias ∷ []) id address
    ≡ with_alias (with_aliases held aliases id address) alias id address
with_aliases-push held [] alias id address = refl
with_aliases-push held (a ∷ aliases) alias id address = with_aliases-push
    (with_alias held a id address) aliases alias id address

-- the aliases of the list are held so
pub get-with_aliases : (held : Held) (aliases : List Alias) (id : List ℕ)
    (address : Address) (alias : Alias)
    → Contains aliases alias
    → fin.get (with_aliases held aliases id address) alias ≡ Some (holding_by id address)
get-with_aliases held [] id address alias h = absurd (omega (arith, h.1))
get-with_aliases held (a ∷ aliases) id address alias h = Contains-parts a aliases alias _ h
    (λ is. stays (with_alias held a id address) aliases (ap (fin.get (with_alias held a id address))
    (sym is) ∙ (Changed-with_alias held a id address).here))
    (λ later. get-with_aliases (with_alias held a id address) aliases id address alias later) where
      stays : (held : Held) (aliases : List Alias)
          → fin.get held alias ≡ Some (holding_by id address)
          → fin.get (with_aliases held aliases id address) alias ≡ Some (holding_by id address)
      stays held [] is = is
      stays held (b ∷ aliases) is = stays (with_alias held b id address) aliases
          (by_key alias_cmp_total alias_cmp-IsAntisymmetric alias b _
          (λ e. ap (fin.get (with_alias held b id address)) e
          ∙ (Changed-with_alias held b id address).here)
          (λ differ. (Changed-with_alias held b id address).others alias differ ∙ is))

-- and others as before
pub get-with_other_aliases : (held : Held) (aliases : List Alias) (id : List ℕ)
    (address : Address) (alias : Alias)
    → (Contains aliases alias → ⊥)
    → fin.get (with_aliases held aliases id address) alias ≡ fin.get held alias
get-with_other_aliases held [] id address alias h = refl
get-with_other_aliases held (a ∷ aliases) id address alias h =
    get-with_other_aliases (with_alias held a id address) aliases id address alias
    (λ later. h (Contains-later a aliases alias later))
    ∙ (Changed-with_alias held a id address).others alias (λ e. h (zero, omega arith, sym e))

-- what is left of an endpoint's aliases: nothing
abbrev is_another : List ℕ → Holding → Bool
is_another id h = not (pointwise nat_eq h.holder id)

left_of : (held : Held) (id : List ℕ) (alias : Alias) (w : Option Holding)
    → fin.get held alias ≡ w
    → fin.get (without_holder held id) alias ≡ option_filter (is_another id) w
left_of held id alias w is = get_retained alias_cmp_total alias_cmp-IsAntisymmetric
    (is_another id) held alias ∙ ap (option_filter (is_another id)) is

pub get-without_holder : (held : Held) (id : List ℕ) (alias : Alias) → fin.get held alias ≡ None
    → fin.get (without_holder held id) alias ≡ None
get-without_holder held id alias none = left_of held id alias None none

pub get-without_own : (held : Held) (id : List ℕ) (alias : Alias) (h : Holding)
    → fin.get held alias ≡ Some h → h.holder ≡ id → fin.get (without_holder held id) alias ≡ None
get-without_own held id alias h is same =
    left_of held id alias (Some h) is ∙ ap (λ b. cond (not b) (Some h) None)
    ((texts_decide h.holder id).1 same)

pub get-without_another : (held : Held) (id : List ℕ) (alias : Alias) (h : Holding)
    → fin.get held alias ≡ Some h → h.holder ≢ id
    → fin.get (without_holder held id) alias ≡ Some h
get-without_another held id alias h is differ =
    left_of held id alias (Some h) is ∙ ap (λ b. cond (not b) (Some h) None)
    (test_false (pointwise nat_eq h.holder id) (texts_decide h.holder id) differ)

-- what is held there was held by another before
pub was_held : (held : Held) (id : List ℕ) (alias : Alias) (h : Holding)
    → fin.get (without_holder held id) alias ≡ Some h
    → (fin.get held alias ≡ Some h) × (h.holder ≢ id)
was_held held id alias h is = cases (fin.get held alias) refl where
  another : (x : Holding) → fin.get held alias ≡ Some x → x.holder ≢ id
      → (fin.get held alias ≡ Some h) × (h.holder ≢ id)
  another x there differ =
      let same : x ≡ h = same_some x h
      (sym (get-without_another held id alias x there differ) ∙ is) in
      (there ∙ ap Some same, λ e. differ (ap (λ (y : Holding). y.holder) same ∙ e))

  cases : (w : Option Holding) → fin.get held alias ≡ w
      → (fin.get held alias ≡ Some h) × (h.holder ≢ id)
  cases None none = some_none (sym is ∙ get-without_holder held id alias none)
  cases (Some x) there = by_test (pointwise nat_eq x.holder id) (texts_decide x.holder id) _
      (λ same. some_none (sym is ∙ get-without_own held id alias x there same)) (another x there)

-- if no other endpoint holds an alias, none does after this endpoint entered one
free_with_alias : (held : Held) (a b : Alias) (id : List ℕ) (address : Address)
    → (IsHeldByAnother held a id → ⊥) → IsHeldByAnother (with_alias held b id address) a id → ⊥
free_with_alias held a b id address free other =
    by_key alias_cmp_total alias_cmp-IsAntisymmetric a b ⊥
    (λ e. not_by_another (with_alias held b id address) a id (holding_by id address) (ap (fin.get
    (with_alias held b id address)) e ∙ (Changed-with_alias held b id address).here) refl other)
    (λ differ. free (subst (λ w. IsSomeAnd w (λ h. h.holder ≢ id))
    ((Changed-with_alias held b id address).others a differ) other))

pub free_with_aliases : (held : Held) (aliases : List Alias) (a : Alias)
    (id : List ℕ) (address : Address)
    → (IsHeldByAnother held a id → ⊥)
    → IsHeldByAnother (with_aliases held aliases id address) a id → ⊥
free_with_aliases held [] a id address free other = free other
free_with_aliases held (b ∷ aliases) a id address free other =
    free_with_aliases (with_alias held b id address) aliases a id address
    (free_with_alias held a b id address free) other

pub set_succeeds : (r : Result (Unit {0}) (Alias × SetFault)) (held : Held)
    (alias : Alias) (id : List ℕ)
    → (r ≡ Err (alias, Duplicate) → IsHeldByAnother held alias id)
    → r ≢ Err (alias, Memory) → IfErr r (λ e. e.0 ≡ alias) → (IsHeldByAnother held alias id → ⊥)
    → IsOk r
set_succeeds (Ok x) held alias id duplicate memory back free = refl
set_succeeds (Err (a, Duplicate)) held alias id duplicate memory back free =
    absurd (free (duplicate (λ i. Err (back i, Duplicate))))
set_succeeds (Err (a, Memory)) held alias id duplicate memory back free =
    absurd (memory (λ i. Err (back i, Memory)))

-- what nobody holds, no other endpoint holds
pub not_held : (held : Held) (alias : Alias) (id : List ℕ) → fin.get held alias ≡ None
    → IsHeldByAnother held alias id → ⊥
not_held held alias id none other = subst (λ w. IsSomeAnd w (λ h. h.holder ≢ id)) none other
