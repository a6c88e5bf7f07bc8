-- Settings, written as a TOML document.
use Rattle.std.specs.Prelude.{ℕ, ◌==◌, ◌/◌, ◌%◌, ◌||◌, Bool, true, false, cond, nat_lt, List, []}
use Rattle.std.specs.Prelude.{◌∷◌, ◌++◌, codes, encode_utf8, slice_index, Option, Some, None}
use Rattle.std.specs.Fmt.{decimal}
use Rattle.std.specs.Int.{is_in_range}
use Rattle.std.specs.List.{flat_map, zip}
use Rattle.pools.specs.declared.pool_spec.PoolSpec.{PoolSpec}
use Rattle.pools.specs.declared.pool_spec.PoolSpec.TheVariants.{Fixed, Step, Paced}
use Rattle.ras_module.specs.declared.address.Address.{Address}
use Rattle.zone_config.specs.declared.config.ConfigParts.{ConfigParts}
use Rattle.zone_config.specs.declared.key.Key.{Key}
use Rattle.zone_config.specs.declared.network.Network.{Network}
use Rattle.zone_config.specs.Keys as zone
use Rattle.settings.specs.ServeKeys as serve
use Rattle.settings.specs.Settings.{serve_number_in}
use Rattle.settings.specs.declared.serve_key.ServeKey.{ServeKey}
use Rattle.settings.specs.declared.settings.Settings.{Settings}

-- what stands behind a number: a comment if it is its key's default
abbrev pub default_mark : Bool → List ℕ
default_mark true = codes "  # the default"
default_mark false = []

-- a number under its path
abbrev pub number_line : List ℕ → ℕ → ℕ → List ℕ
number_line path number default =
    path ++ codes " = " ++ decimal number ++ default_mark (number == default) ++ codes "\n"

-- the character with this code of 16 bits; U+FFFD stands for half of a surrogate pair
abbrev pub character_of : ℕ → ℕ
character_of code = cond (is_in_range 0xD800 0xDFFF code) 0xFFFD code

-- a digit of base 16
abbrev pub upper_digit : ℕ → ℕ
upper_digit value = slice_index (codes "0123456789ABCDEF") (value % 16)

-- a character between the quotes of a TOML string, as in \" or \u001F
abbrev pub control_text : ℕ → List ℕ
control_text code = codes "\\u00" ++ upper_digit (code / 16) ∷ upper_digit code ∷ []

abbrev pub character_text : ℕ → List ℕ
character_text code =
    cond (code == 34) (codes "\\\"")
    (cond (code == 92) (codes "\\\\")
    (cond (nat_lt code 32 || code == 127) (control_text code) (encode_utf8 (character_of code))))

-- the identifier of the zone
abbrev pub identifier_line : List ℕ → List ℕ
identifier_line identifier =
    codes "zone.identifier = \"" ++ flat_map character_text identifier ++ codes "\"\n"

-- an address under its path, as in serve.status = "127.0.0.1:8719"
abbrev pub address_line : List ℕ → Address → List ℕ
address_line path address =
    path ++ codes " = \"" ++ decimal (slice_index address.ip 0) ++ codes "."
    ++ decimal (slice_index address.ip 1) ++ codes "." ++ decimal (slice_index address.ip 2)
    ++ codes "." ++ decimal (slice_index address.ip 3) ++ codes ":" ++ decimal address.port
    ++ codes "\"\n"

-- the settings of the zone
abbrev pub zone_number_line : ConfigParts → Key → List ℕ
zone_number_line parts key =
    number_line (zone.path_of key) (zone.number_in parts key) (zone.default_of key)

abbrev pub zone_listing : ConfigParts → List ℕ
zone_listing parts =
    identifier_line parts.identifier ++ address_line (codes "zone.address") parts.address
    ++ flat_map (zone_number_line parts) zone.all_keys

-- the settings of the server
abbrev pub serve_number_line : Settings → ServeKey → List ℕ
serve_number_line settings key =
    number_line (serve.path_of key) (serve_number_in settings key) (serve.default_of key)

abbrev pub status_line : Option Address → List ℕ
status_line None = []
status_line (Some address) = address_line (codes "serve.status") address

abbrev pub serve_listing : Settings → List ℕ
serve_listing settings =
    flat_map (serve_number_line settings) serve.all_serve_keys ++ status_line settings.status

-- a pool with its network
abbrev pub kind_lines : PoolSpec → List ℕ
kind_lines (Fixed limit) = codes "kind = \"fixed\"\nlimit = " ++ decimal limit ++ codes "\n"
kind_lines (Step limit step) =
    codes "kind = \"step\"\nlimit = " ++ decimal limit ++ codes "\nstep = " ++ decimal step
    ++ codes "\n"
kind_lines (Paced limit burst) =
    codes "kind = \"paced\"\nlimit = " ++ decimal limit ++ codes "\nburst = " ++ decimal burst
    ++ codes "\n"

abbrev pub network_line : Option Network → List ℕ
network_line None = []
network_line (Some network) =
    codes "network = \"" ++ decimal (slice_index network.ip 0) ++ codes "."
    ++ decimal (slice_index network.ip 1) ++ codes "." ++ decimal (slice_index network.ip 2)
    ++ codes "." ++ decimal (slice_index network.ip 3) ++ codes "/" ++ decimal network.bits
    ++ codes "\"\n"

abbrev pub pool_listing : PoolSpec × Option Network → List ℕ
pool_listing pool = codes "[[pool]]\n" ++ kind_lines pool.0 ++ network_line pool.1

-- all of them
unfoldable pub settings_listing : Settings → List ℕ
settings_listing settings =
    zone_listing settings.config ++ serve_listing settings
    ++ flat_map pool_listing (zip settings.pools settings.config.networks)
