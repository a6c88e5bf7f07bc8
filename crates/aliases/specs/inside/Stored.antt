-- How the aliases are stored: each with who holds it.
use Rattle.std.specs.Prelude.{◌≡◌, List, ℕ, filter, not, nat_eq}
use Rattle.std.specs.Cmp.Lexicographic.{pointwise}
use Rattle.std.specs.FinMap as map
use Rattle.indexmap.specs.IndexMap.{IndexMap, IsUnique, KeepsRoom}
use Rattle.ras_module.specs.declared.alias.Alias.{Alias}
use Rattle.ras_module.specs.Aliases.{same_alias}
use Rattle.aliases.specs.Held.{Held, Holding}

abbrev pub key_of : Alias × Holding → Alias
key_of e = e.0

abbrev pub held_of : List (Alias × Holding) → Held
held_of entries = map.from_entries entries

-- the aliases of all other endpoints are left, and no memory is taken
pub record OthersLeft {S : Type 0} (old new : IndexMap Alias Holding S) (id : List ℕ)
    : Type 0 where
  pub entries : new.entries ≡ filter (λ e. not (pointwise nat_eq e.1.holder id)) old.entries
  pub room : KeepsRoom old new
  pub unique : IsUnique same_alias new
