-- The whole-number settings of the server: for each key its name, its range and its default.
use Rattle.std.specs.Prelude.{ℕ, Bool, ◌++◌, List, [], ◌∷◌, nat_le, ◌&&◌, codes}
use Rattle.settings.specs.declared.serve_key.ServeKey.{ServeKey}
use Rattle.settings.specs.declared.serve_key.ServeKey.TheVariants.{Receivers, Ring, Faults, Tick}
use Rattle.settings.specs.declared.serve_key.ServeKey.TheVariants.{Buffer}

-- the row of a key in the table: its name, the least and the greatest number that it takes, and its
-- number if nothing is set
pub record Row : Type 0 where
  pub name : List ℕ
  pub least : ℕ
  pub most : ℕ
  pub default : ℕ

abbrev row_with : List ℕ → ℕ → ℕ → ℕ → Row
row_with name least most default =
    record { name = name; least = least; most = most; default = default }

abbrev pub row_of : ServeKey → Row
row_of Receivers = row_with (codes "receivers") 1 15 4
row_of Ring = row_with (codes "ring") 1 4096 64
row_of Faults = row_with (codes "faults") 1 1000 16
row_of Tick = row_with (codes "tick") 1 60000 20
row_of Buffer = row_with (codes "buffer") 0 1073741823 8388608

abbrev pub name_of : ServeKey → List ℕ
name_of key = (row_of key).name

abbrev pub least_of : ServeKey → ℕ
least_of key = (row_of key).least

abbrev pub most_of : ServeKey → ℕ
most_of key = (row_of key).most

abbrev pub default_of : ServeKey → ℕ
default_of key = (row_of key).default

-- its name among all settings
abbrev pub path_of : ServeKey → List ℕ
path_of key = codes "serve." ++ name_of key

-- the order in which they are tested
abbrev pub all_serve_keys : List ServeKey
all_serve_keys = Receivers ∷ Ring ∷ Faults ∷ Tick ∷ Buffer ∷ []

-- the number lies in the range of the key
abbrev pub takes : ServeKey → ℕ → Bool
takes key number = nat_le (least_of key) number && nat_le number (most_of key)
