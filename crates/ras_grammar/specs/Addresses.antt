-- Transport addresses (H.225.0, TransportAddress).
use Rattle.std.specs.Prelude.{ℕ, List, [], ◌∷◌, Bool, Option, Some, None}
use Rattle.ras_module.specs.declared.address.Address.{Address}
use Rattle.ras_grammar.specs.Grammar.{Grammar, ◌>>=◌, is, nothing, boolean, bits, whole, length}
use Rattle.ras_grammar.specs.Grammar.{octets, each, either, if◌equals◌take◌else◌}
use Rattle.ras_grammar.specs.Sequences.{list_skipped, choice, null_choice, skipped_additions}
use Rattle.ras_grammar.specs.Sequences.{sized_octet_string, non_standard_parameter}

-- ipAddress: ip, port
unfoldable pub ip_address : Grammar Address
ip_address = do
  ip ← octets 4
  port ← whole 0 65535
  is (record { ip = ip; port = port })

-- routing: strict, loose
abbrev pub routing : Grammar (Unit {0})
routing = null_choice 1

-- ipSourceRoute: ip, port, route, routing
unfoldable pub ip_source_route : Grammar (Unit {0})
ip_source_route = do
  extended ← boolean
  ip ← octets 4
  port ← whole 0 65535
  route ← list_skipped (octets 4)
  how ← routing
  skipped_additions extended

-- ipxAddress: node, netnum, port
unfoldable pub ipx_address : Grammar (Unit {0})
ipx_address = do
  node ← octets 6
  netnum ← octets 4
  port ← bits 16
  nothing

-- ip6Address: ip, port
unfoldable pub ip6_address : Grammar (Unit {0})
ip6_address = do
  extended ← boolean
  ip ← octets 16
  port ← whole 0 65535
  skipped_additions extended

-- netBios
unfoldable pub net_bios : Grammar (Unit {0})
net_bios = do
  name ← octets 16
  nothing

-- nsap
unfoldable pub nsap : Grammar (Unit {0})
nsap = do
  address ← sized_octet_string 1 20
  nothing

-- an address that is read, and is no IPv4 address
abbrev pub no_address : Grammar (Unit {0}) → Grammar (Option Address)
no_address other = do
  address ← other
  is None

abbrev pub some_address : Grammar Address → Grammar (Option Address)
some_address address = do
  ip ← address
  is (Some ip)

-- ipAddress, ipSourceRoute, ipxAddress, ip6Address, netBios, nsap, nonStandardAddress
abbrev pub root_address : ℕ → Grammar (Option Address)
root_address index =
    if index equals 0 take some_address ip_address
    else if index equals 1 take no_address ip_source_route
    else if index equals 2 take no_address ipx_address
    else if index equals 3 take no_address ip6_address
    else if index equals 4 take no_address net_bios
    else if index equals 5 take no_address nsap
    else no_address non_standard_parameter

-- TransportAddress: the address of an ipAddress, None for any other
unfoldable pub transport_address : Grammar (Option Address)
transport_address = choice 6 None root_address

-- the first that is there
abbrev pub first_of : List (Option Address) → Option Address
first_of [] = None
first_of (Some address ∷ others) = Some address
first_of (None ∷ others) = first_of others

-- this many addresses, of which the first ipAddress is kept
abbrev pub first_each : ℕ → Grammar (Option Address)
first_each count = do
  all ← each count transport_address
  is (first_of all)

-- SEQUENCE OF TransportAddress: its first ipAddress
unfoldable pub address_list : Grammar (Option Address)
address_list = do
  count ← length
  first_each count

-- a TransportAddress that is OPTIONAL: its address if it is an ipAddress
abbrev pub optional_address : Bool → Grammar (Option Address)
optional_address present = either present transport_address (is None)
