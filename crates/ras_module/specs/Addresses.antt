-- Addresses, compared.
use Rattle.std.specs.Prelude.{Bool, ◌&&◌, ◌==◌, nat_eq}
use Rattle.std.specs.Cmp.Lexicographic.{pointwise}
use Rattle.ras_module.specs.declared.address.Address.{Address}

-- addresses are compared by their octets and their port
abbrev pub same_address : Address → Address → Bool
same_address a b = pointwise nat_eq a.ip b.ip && a.port == b.port
