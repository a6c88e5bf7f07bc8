-- How a key that is passed over is shown.
use Rattle.std.specs.Prelude.{ℕ, ◌++◌, List, [], Option, Some, None, codes, string_bytes}
use Rattle.std.specs.Fmt.{decimal}
use Rattle.std.specs.Option.{option_copied}
use Rattle.settings.specs.declared.unknown_key.UnknownKey.{UnknownKey}
use Rattle.commands.specs.declared.settings_input.PassedOver.{PassedOver}

-- on which line it stands, if that is known
abbrev pub place_text : Option ℕ → List ℕ
place_text None = []
place_text (Some line) = codes "line " ++ decimal line ++ codes ": "

-- that this known key may be meant, if there is one
abbrev pub hint_text : Option (List ℕ) → List ℕ
hint_text None = []
hint_text (Some nearest) = codes ", nearest " ++ nearest

-- that the nearest known key may be meant
abbrev pub hint_of : UnknownKey → List ℕ
hint_of key = hint_text (option_copied key.nearest)

-- the path of an unknown key, and which known one may be meant
abbrev pub key_text : UnknownKey → List ℕ
key_text key = codes "unknown key " ++ string_bytes key.path ++ hint_of key

-- the same behind its line
abbrev pub passed_over_text : PassedOver → List ℕ
passed_over_text passed = place_text passed.line ++ key_text passed.key
