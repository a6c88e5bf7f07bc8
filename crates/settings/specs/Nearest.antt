-- The known key that is nearest to one that isn't known: a hint at what was meant.
use Rattle.std.specs.Prelude.{ℕ, ◌≡◌, ◌≤◌, ◌+◌, List, All, Contains, Option, Some, None, length}
use Rattle.std.specs.Prelude.{nat_eq}
use Rattle.std.specs.Str.{chars}
use Rattle.strsim.specs.Edits.{levenshtein_row}
use Rattle.settings.specs.SettingKeys.{known_keys, path_of}
use Rattle.settings.specs.declared.setting_key.SettingKey.{SettingKey}
use Rattle.settings.specs.declared.unknown_key.TheConstants.{MOST_EDITS}

-- how many changes of letters lead from a path to that of a key (the distance of Levenshtein)
abbrev pub changes_to : List ℕ → SettingKey → ℕ
changes_to path key =
    levenshtein_row nat_eq (chars path) (chars (path_of key)) (length (chars (path_of key)))

-- none of these keys needs fewer changes than so many
abbrev pub NoneIsNearer : List SettingKey → List ℕ → ℕ → Type 0
NoneIsNearer keys path changes = All (λ key. changes ≤ changes_to path key) keys

-- one of these keys that needs the fewest changes of all, if `MOST_EDITS` or fewer do
abbrev pub IsNearest : List SettingKey → List ℕ → Option SettingKey → Type 0
IsNearest keys path (Some key) = Contains keys key × (changes_to path key ≤ MOST_EDITS)
    × NoneIsNearer keys path (changes_to path key)
IsNearest keys path None = NoneIsNearer keys path (MOST_EDITS + 1)

-- the path of the known key that is nearest, if one is near
abbrev pub IsHint : List ℕ → Option (List ℕ) → Type 0
IsHint path (Some hint) =
    (key : SettingKey) × IsNearest known_keys path (Some key) × (hint ≡ path_of key)
IsHint path None = IsNearest known_keys path None
