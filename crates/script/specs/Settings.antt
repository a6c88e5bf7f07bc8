-- The settings that a line may make.
use Rattle.std.specs.Prelude.{ℕ, List, Option, Some}
use Rattle.zone_config.specs.declared.key.Key.{Key}
use Rattle.zone_config.specs.Keys.{key_of, least_of, most_of}
use Rattle.value_texts.specs.Texts.{◌>>=◌, number_of}

-- a key with a number in its range
abbrev pub setting_of : List ℕ → List ℕ → Option (Key × ℕ)
setting_of key number = do
  key ← key_of key
  number ← number_of (least_of key) (most_of key) number
  Some (key, number)
