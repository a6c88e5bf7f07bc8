-- The aliases within the registrations, and the table of the aliases beside them.
use Rattle.std.specs.Prelude.{◌≡◌, ◌&&◌, ℕ, Bool, not, List, Some, Contains, filter}
use Rattle.std.specs.List.{list_any}
use Rattle.std.specs.FinMap.{get, values}
use Rattle.ras_module.specs.declared.address.Address.{Address}
use Rattle.ras_module.specs.declared.alias.Alias.{Alias}
use Rattle.ras_module.specs.Addresses.{same_address}
use Rattle.ras_module.specs.Aliases.{has_alias}
use Rattle.aliases.specs.Held.{Held, Holding, holding_by}
use Rattle.registrations.specs.declared.registration.Registration.{Registration}
use Rattle.registrations.specs.Registry.{Live}

-- this endpoint is registered, with this alias and this call signal address
pub record IsHolder (live : Live) (alias : Alias) (h : Holding) (r : Registration) : Type 0 where
  pub live_is : get live h.holder ≡ Some r
  pub has : Contains r.aliases alias
  pub address_is : h.address ≡ r.call_signal

-- each alias of a registration is held by its endpoint, at its call signal address; and each alias
-- that is held is one of its holder's
pub record Agree (live : Live) (held : Held) : Type 0 where
  pub holds : (id : List ℕ) (r : Registration) (alias : Alias)
      → get live id ≡ Some r → Contains r.aliases alias
      → get held alias ≡ Some (holding_by id r.call_signal)
  pub held_by : (alias : Alias) (h : Holding) → get held alias ≡ Some h
      → (r : Registration) × IsHolder live alias h r

-- a registration with another call signal address has the alias
abbrev pub is_registered_elsewhere : Live → Address → Alias → Bool
is_registered_elsewhere live address alias =
    list_any (λ r. has_alias r.aliases alias && not (same_address r.call_signal address))
    (values live)

-- those of these aliases that a registration with another call signal address has, in the order of
-- the list
abbrev pub registered_elsewhere : Live → Address → List Alias → List Alias
registered_elsewhere live address aliases = filter (is_registered_elsewhere live address) aliases
