-- The aliases that the endpoints of a zone hold, as a finite map.
use Rattle.std.specs.Prelude.{◌≡◌, ◌≢◌, ◌≤◌, ℕ, Bool, false, not, nat_eq, List, [], ◌∷◌, Option}
use Rattle.std.specs.Prelude.{Some, None, filter, if◌then◌else◌}
use Rattle.std.specs.Option.{option_map, IsSomeAnd}
use Rattle.std.specs.Cmp.Lexicographic.{pointwise}
use Rattle.std.specs.FinMap.{FinMap, get, insert, remove}
use Rattle.keyed.specs.Maps.{retain_values}
use Rattle.ras_module.specs.declared.address.Address.{Address}
use Rattle.ras_module.specs.declared.alias.Alias.{Alias}
use Rattle.ras_module.specs.Addresses.{same_address}
use Rattle.ras_module.specs.Aliases.{alias_cmp}

-- the identifier of the endpoint that holds an alias, and its call signal address
pub record Holding : Type 0 where
  pub holder : List ℕ
  pub address : Address

-- what is known of each alias that is held
abbrev pub Held : Type 0
Held = FinMap alias_cmp Holding

-- the aliases, and for how many more there is room, so that no memory is taken for them
pub record HeldAliases : Type 0 where
  pub held : Held
  pub room : ℕ

abbrev pub holder_of : Held → Alias → Option (List ℕ)
holder_of held alias = option_map (λ h. h.holder) (get held alias)

-- another endpoint than this one holds the alias
abbrev pub IsHeldByAnother : Held → Alias → List ℕ → Type 0
IsHeldByAnother held alias id = IsSomeAnd (get held alias) (λ h. h.holder ≢ id)

abbrev pub is_elsewhere : Address → Option Holding → Bool
is_elsewhere address None = false
is_elsewhere address (Some h) = not (same_address h.address address)

-- those of the aliases that an endpoint with another call signal address holds, as they stand in
-- the list
abbrev pub conflicts : Held → Address → List Alias → List Alias
conflicts held address aliases = filter (λ alias. is_elsewhere address (get held alias)) aliases

-- the aliases that other endpoints than this one hold
abbrev pub without_holder : Held → List ℕ → Held
without_holder held id = retain_values held (λ h. not (pointwise nat_eq h.holder id))

-- this endpoint holds the alias
abbrev pub is_held_by : List ℕ → Option Holding → Bool
is_held_by id None = false
is_held_by id (Some h) = pointwise nat_eq h.holder id

-- this endpoint no longer holds the alias; another that holds it still does
abbrev pub without_alias : Held → Alias → List ℕ → Held
without_alias held alias id = if is_held_by id (get held alias) then remove held alias else held

-- the same for each alias of the list
abbrev pub without_aliases : Held → List Alias → List ℕ → Held
without_aliases held [] id = held
without_aliases held (alias ∷ aliases) id =
    without_aliases (without_alias held alias id) aliases id

abbrev pub holding_by : List ℕ → Address → Holding
holding_by id address = record { holder = id; address = address }

-- the alias is held by this endpoint
abbrev pub with_alias : Held → Alias → List ℕ → Address → Held
with_alias held alias id address = insert held alias (holding_by id address)

-- the same for each alias of the list
abbrev pub with_aliases : Held → List Alias → List ℕ → Address → Held
with_aliases held [] id address = held
with_aliases held (alias ∷ aliases) id address =
    with_aliases (with_alias held alias id address) aliases id address

-- after a change that takes no memory and no room, this is held
pub record Becomes (old new : HeldAliases) (held : Held) : Type 0 where
  pub rows : new.held ≡ held
  pub room : old.room ≤ new.room
