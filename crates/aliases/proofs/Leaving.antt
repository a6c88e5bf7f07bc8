-- What is left of the aliases after an endpoint gave up all that are its own.
use Rattle.std.proofs.Common.{◌≡◌, ℕ, Bool, true, false, cond, List, [], ◌∷◌, refl, sym, ◌∙◌, ap}
use Rattle.std.proofs.Common.{Some, None, ◌≢◌, ◌++◌, arith}
use Rattle.std.specs.Prelude.{Option, Contains, nat_eq}
use Rattle.std.specs.Cmp.Lexicographic.{pointwise}
use Rattle.std.specs.FinMap as fin
use Rattle.keyed.proofs.Decide.{Contains-parts}
use Rattle.keyed.proofs.Maps.{by_key, Changed-remove}
use Rattle.ras_module.specs.declared.alias.Alias.{Alias}
use Rattle.ras_module.specs.Same.{texts_decide}
use Rattle.ras_module.proofs.AliasOrder.{alias_cmp_total, alias_cmp-IsAntisymmetric}
use Rattle.aliases.specs.Held.{Held, Holding, is_held_by, without_holder, without_alias}
use Rattle.aliases.specs.Held.{without_aliases}
use Rattle.aliases.proofs.Entering.{get-without_holder, get-without_own, get-without_another}

-- one alias more at the end of the list
pub without_aliases-push : (held : Held) (aliases : List Alias) (alias : Alias) (id : List ℕ)
    → without_aliases held (aliases ++ alias ∷ []) id
    ≡ without_alias (without_aliases held aliases id) alias id
without_aliases-push held [] alias id = refl
without_aliases-push held (a ∷ aliases) alias id =
    without_aliases-push (without_alias held a id) aliases alias id

module _ (id : List ℕ) (q : Alias) where
  -- what is held under an alias after one is given up: the same as before, or nothing if it is that
  -- one
  one_left : (held : Held) (a : Alias) (b : Bool) → is_held_by id (fin.get held a) ≡ b
      → (q ≢ a → fin.get (without_alias held a id) q ≡ fin.get held q)
      × (b ≡ true → fin.get (without_alias held a id) a ≡ None)
      × (b ≡ false → without_alias held a id ≡ held)
  one_left held a true is =
      let removes = Changed-remove alias_cmp_total alias_cmp-IsAntisymmetric held a in
      let gone : without_alias held a id ≡ fin.remove held a =
      ap (λ b. cond b (fin.remove held a) held) is in (
        λ differ. ap (λ m. fin.get m q) gone ∙ removes.others q differ,
        λ e. ap (λ m. fin.get m a) gone ∙ removes.here,
        λ e. absurd (cc e),
      )
  one_left held a false is =
      let kept : without_alias held a id ≡ held =
      ap (λ b. cond b (fin.remove held a) held) is in
      (λ differ. ap (λ m. fin.get m q) kept, λ e. absurd (cc e), λ e. kept)

  -- an alias of others stays as it is
  stays : (held : Held) (aliases : List Alias) → is_held_by id (fin.get held q) ≡ false
      → fin.get (without_aliases held aliases id) q ≡ fin.get held q
  stays held [] other = refl
  stays held (a ∷ aliases) other =
      let same : fin.get (without_alias held a id) q ≡ fin.get held q =
      by_key alias_cmp_total alias_cmp-IsAntisymmetric q a _
      (λ e. ap (λ m. fin.get m q) ((one_left held a false
      (ap (λ x. is_held_by id (fin.get held x)) (sym e) ∙ other)).2 refl))
      (λ differ. (one_left held a (is_held_by id (fin.get held a)) refl).0 differ) in
      stays (without_alias held a id) aliases (ap (is_held_by id) same ∙ other) ∙ same

  -- an alias that nobody holds is held by nobody afterwards
  none_still : (held : Held) (aliases : List Alias) → fin.get held q ≡ None
      → fin.get (without_aliases held aliases id) q ≡ None
  none_still held aliases none = stays held aliases (ap (is_held_by id) none) ∙ none

  -- an alias of the list goes, if this endpoint holds it
  goes : (held : Held) (aliases : List Alias) → Contains aliases q
      → is_held_by id (fin.get held q) ≡ true
      → fin.get (without_aliases held aliases id) q ≡ None
  goes held [] has own = absurd (omega (arith, has.1))
  goes held (a ∷ aliases) has own = Contains-parts a aliases q _ has
      (λ is. none_still (without_alias held a id) aliases
      (ap (fin.get (without_alias held a id)) (sym is) ∙ (one_left held a true
      (ap (λ x. is_held_by id (fin.get held x)) is ∙ own)).1 refl))
      (λ later. by_key alias_cmp_total alias_cmp-IsAntisymmetric q a _
      (λ e. none_still (without_alias held a id) aliases
      (ap (fin.get (without_alias held a id)) e ∙ (one_left held a true
      (ap (λ x. is_held_by id (fin.get held x)) (sym e) ∙ own)).1 refl))
      (λ differ. goes (without_alias held a id) aliases later
      (ap (is_held_by id) ((one_left held a (is_held_by id (fin.get held a)) refl).0 differ)
      ∙ own)))

-- if the list has all aliases that the endpoint holds, the result is as if the endpoint had left
pub without_all : (held : Held) (aliases : List Alias) (id : List ℕ)
    → ((alias : Alias) → is_held_by id (fin.get held alias) ≡ true → Contains aliases alias)
    → without_aliases held aliases id ≡ without_holder held id
without_all held aliases id all =
    fin.same_map alias_cmp_total alias_cmp-IsAntisymmetric _ _
    (λ q. cases q (fin.get held q) refl) where
      own_or_not : (q : Alias) (h : Holding) → fin.get held q ≡ Some h
          → (b : Bool) → pointwise nat_eq h.holder id ≡ b
          → fin.get (without_aliases held aliases id) q ≡ fin.get (without_holder held id) q
      own_or_not q h is true own =
          let held_by = ap (is_held_by id) is ∙ own in
          goes id q held aliases (all q held_by) held_by
          ∙ sym (get-without_own held id q h is ((texts_decide h.holder id).0 own))
      own_or_not q h is false other =
          stays id q held aliases (ap (is_held_by id) is ∙ other)
          ∙ (is ∙ sym (get-without_another held id q h is
          (λ e. cc (sym other ∙ (texts_decide h.holder id).1 e))))

      cases : (q : Alias) (w : Option Holding) → fin.get held q ≡ w
          → fin.get (without_aliases held aliases id) q ≡ fin.get (without_holder held id) q
      cases q None none = none_still id q held aliases none
          ∙ sym (get-without_holder held id q none)
      cases q (Some h) is = own_or_not q h is (pointwise nat_eq h.holder id) refl
