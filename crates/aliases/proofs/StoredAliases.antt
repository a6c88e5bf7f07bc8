-- The stored aliases, and the finite map that they make.
use Rattle.std.proofs.Common.{◌≡◌, ◌≢◌, ℕ, List, sym, ◌∙◌, ap, subst}
use Rattle.std.proofs.Common.{Some, None}
use Rattle.std.specs.Prelude.{filter, not, nat_eq}
use Rattle.std.specs.Cmp.Lexicographic.{pointwise}
use Rattle.std.specs.Option.{IsSomeAnd}
use Rattle.std.specs.HashMap as hash
use Rattle.std.specs.FinMap as fin
use Rattle.indexmap.specs.IndexMap.{IndexMap}
use Rattle.keyed.specs.Places.{row_in, AreApart}
use Rattle.keyed.proofs.Entries.{value_of, entries_again, get_entries}
use Rattle.keyed.proofs.Entries.{AreApart-entries, entries_insert, entries_remove}
use Rattle.keyed.proofs.Rows.{map_retained}
use Rattle.ras_module.specs.declared.alias.Alias.{Alias}
use Rattle.ras_module.specs.Aliases.{same_alias}
use Rattle.ras_module.specs.Same.{alias_decides}
use Rattle.ras_module.proofs.AliasOrder.{alias_cmp_total, alias_cmp-IsAntisymmetric}
use Rattle.aliases.specs.Held.{Held, HeldAliases, Holding, IsHeldByAnother}
use Rattle.aliases.specs.Held.{without_holder}
use Rattle.aliases.specs.inside.Stored.{key_of, held_of}

pub get_alias : {S : Type 0} (rows : IndexMap Alias Holding S) (alias : Alias)
    → hash.get same_alias rows alias ≡ fin.get (held_of rows.entries) alias
get_alias rows alias = sym
    (get_entries alias_decides alias_cmp_total alias_cmp-IsAntisymmetric rows.entries alias)

-- what is known of an alias, as contracts see the rows
pub held_get : {S : Type 0} (rows : IndexMap Alias Holding S) (room : ℕ) (t : HeldAliases)
    (alias : Alias) → record { held = held_of rows.entries; room = room } ≡ t
    → hash.get same_alias rows alias ≡ fin.get t.held alias
held_get rows room t alias view = get_alias rows alias ∙ ap (λ u. fin.get u.held alias) view

module _ {S : Type 0} (old new : IndexMap Alias Holding S) (alias : Alias) where
  pub held_insert : (h : Holding) → hash.Updates same_alias old new alias (Some h)
      → held_of new.entries ≡ fin.insert (held_of old.entries) alias h
  held_insert h u =
      entries_insert alias_decides alias_cmp_total alias_cmp-IsAntisymmetric old new alias h u

  pub held_remove : hash.Updates same_alias old new alias None
      → held_of new.entries ≡ fin.remove (held_of old.entries) alias
  held_remove u =
      entries_remove alias_decides alias_cmp_total alias_cmp-IsAntisymmetric old new alias u

pub AreApart-stored : {S : Type 0} (rows : IndexMap Alias Holding S)
    → hash.IsUnique same_alias rows → AreApart key_of (row_in rows.entries)
AreApart-stored rows unique = AreApart-entries alias_decides rows.entries unique

-- what is left when an endpoint goes
pub held_retained : (entries : List (Alias × Holding)) (id : List ℕ)
    → AreApart key_of (row_in entries)
    → held_of (filter (λ e. not (pointwise nat_eq e.1.holder id)) entries)
    ≡ without_holder (held_of entries) id
held_retained entries id h =
    let left = filter (λ e. not (pointwise nat_eq e.1.holder id)) entries in
    ap held_of (sym (entries_again left))
    ∙ (map_retained alias_cmp_total alias_cmp-IsAntisymmetric key_of value_of
    (λ h. not (pointwise nat_eq h.holder id)) entries h
    ∙ ap (λ es. without_holder (held_of es) id) (entries_again entries))

pub IsHeldByAnother-found : (held : Held) (alias : Alias) (id : List ℕ) (h : Holding)
    → fin.get held alias ≡ Some h → h.holder ≢ id → IsHeldByAnother held alias id
IsHeldByAnother-found held alias id h is differ = subst (λ w. IsSomeAnd w (λ h. h.holder ≢ id))
    (sym is) differ

pub not_by_another : (held : Held) (alias : Alias) (id : List ℕ) (h : Holding)
    → fin.get held alias ≡ Some h → h.holder ≡ id → IsHeldByAnother held alias id → ⊥
not_by_another held alias id h is same other =
    (let differ : h.holder ≢ id = subst (λ w. IsSomeAnd w (λ h. h.holder ≢ id)) is other in
    differ same)
