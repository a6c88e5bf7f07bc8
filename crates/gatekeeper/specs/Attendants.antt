-- Who looks at a zone while it is served.
use Rattle.std.specs.Prelude.{ℕ, ◌+◌, Bool, true, false}

-- one if it is wanted, else none
abbrev pub count_if : Bool → ℕ
count_if true = 1
count_if false = 0

-- how many they are: who serves the page, if there is to be one, and who writes the record, if one
-- is to be written
abbrev pub attendants_wanted : Bool → Bool → ℕ
attendants_wanted has_page has_record = count_if has_page + count_if has_record
