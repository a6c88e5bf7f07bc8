-- The keys of a document that are passed over, since they aren't known.
use Rattle.std.specs.Prelude.{ℕ, ◌≡◌, ◌==◌, ◌&&◌, ◌++◌, Bool, not, List, [], ◌∷◌, map, codes}
use Rattle.std.specs.Prelude.{Option, Some, None, option_map, string_bytes, if◌then◌else◌}
use Rattle.std.specs.List.{list_any}
use Rattle.std.specs.Str.{bytes_eq}
use Rattle.toml.specs.Data.{Data, Items, item, no_items, Members, member, no_members}
use Rattle.toml.specs.Data.{as_array, as_table, get_member}
use Rattle.toml.specs.Parse.{parse_document}
use Rattle.settings.specs.declared.fault.SettingsFault.{SettingsFault}
use Rattle.settings.specs.declared.fault.SettingsFault.TheVariants.{Syntax}
use Rattle.settings.specs.declared.fault.SettingsFault.TheVariants.{Memory}
use Rattle.settings.specs.declared.unknown_key.UnknownKey.{UnknownKey}
use Rattle.settings.specs.SettingKeys.{known_keys, path_of}

-- no known key has a dot in its name, which a quoted one may have
unfoldable pub is_known : List ℕ → List ℕ → Bool
is_known name path =
    not (list_any (λ c. c == 46) name)
    && list_any (λ key. bytes_eq path (path_of key)) known_keys

-- the path of a key that isn't known; nothing of one that is
abbrev pub unknown_key : List ℕ → List ℕ → List (List ℕ)
unknown_key beginning name =
    if is_known name (beginning ++ name) then [] else (beginning ++ name) ∷ []

-- those of a table, whose keys' paths begin so
abbrev pub unknown_in : List ℕ → Members → List (List ℕ)
unknown_in beginning no_members = []
unknown_in beginning (member name value members) =
    unknown_key beginning name ++ unknown_in beginning members

abbrev pub unknown_table : List ℕ → Option Members → List (List ℕ)
unknown_table beginning None = []
unknown_table beginning (Some table) = unknown_in beginning table

abbrev pub unknown_under : List ℕ → Data → List (List ℕ)
unknown_under beginning value = unknown_table beginning (as_table value)

abbrev pub unknown_at : List ℕ → Option Data → List (List ℕ)
unknown_at beginning None = []
unknown_at beginning (Some value) = unknown_under beginning value

-- those of the pools, one after the other
abbrev pub unknown_of_pools : Items → List (List ℕ)
unknown_of_pools no_items = []
unknown_of_pools (item value values) =
    unknown_under (codes "pool.") value ++ unknown_of_pools values

abbrev pub unknown_in_array : Option Items → List (List ℕ)
unknown_in_array None = []
unknown_in_array (Some values) = unknown_of_pools values

abbrev pub unknown_in_pools : Option Data → List (List ℕ)
unknown_in_pools None = []
unknown_in_pools (Some value) = unknown_in_array (as_array value)

-- the paths of all: those outside the tables, then those of the zone, of the server and of the
-- pools
unfoldable pub unknown_paths : Members → List (List ℕ)
unknown_paths document =
    unknown_in [] document ++ unknown_at (codes "zone.") (get_member (codes "zone") document)
    ++ unknown_at (codes "serve.") (get_member (codes "serve") document)
    ++ unknown_in_pools (get_member (codes "pool") document)

-- those of a text; none if it is no TOML document
abbrev pub unknown_of : List ℕ → Option (List (List ℕ))
unknown_of text = option_map unknown_paths (parse_document text)

abbrev pub paths_of : List UnknownKey → List (List ℕ)
paths_of unknown = map (λ k. string_bytes k.path) unknown

-- the text is no document, or memory is refused
abbrev pub IsUnread : List ℕ → SettingsFault → Type 0
IsUnread text (Syntax error) = parse_document text ≡ None
IsUnread text Memory = Unit {0}
IsUnread text fault = ⊥
