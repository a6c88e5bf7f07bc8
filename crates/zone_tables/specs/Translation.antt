-- Address translation (H.323, 8.2.1): the call signal address that an alias stands for.
use Rattle.std.specs.Prelude.{List, [], ◌∷◌, Option, None, Some}
use Rattle.std.specs.List.{find}
use Rattle.std.specs.FinMap.{values}
use Rattle.ras_module.specs.declared.address.Address.{Address}
use Rattle.ras_module.specs.declared.alias.Alias.{Alias}
use Rattle.ras_module.specs.Aliases.{has_alias}
use Rattle.registrations.specs.declared.registration.Registration.{Registration}
use Rattle.registrations.specs.Registry.{Live}

-- the endpoint that is registered with an alias
abbrev pub registered_with : Live → Alias → Option Registration
registered_with live alias = find (λ r. has_alias r.aliases alias) (values live)

-- its call signal address, or the other if there is no such endpoint
abbrev pub address_or : Option Address → Option Registration → Option Address
address_or other None = other
address_or other (Some r) = Some r.call_signal

-- the call signal address of the first alias that is registered, else the other address
abbrev pub translation : Live → List Alias → Option Address → Option Address
translation live [] other = other
translation live (alias ∷ aliases) other =
    address_or (translation live aliases other) (registered_with live alias)
