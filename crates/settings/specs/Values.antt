-- The value that stands under a key, or the first test that it fails.
use Rattle.std.specs.Prelude.{ℕ, ℤ, pos, negsuc, ◌&&◌, List, nat_le, if◌then◌else◌}
use Rattle.std.specs.Prelude.{Option, Some, None, Result, Ok, Err}
use Rattle.toml.specs.Data.{Data, as_integer, as_str}
use Rattle.settings.specs.declared.fault.Refusal.{Refusal}
use Rattle.settings.specs.declared.fault.Refusal.TheVariants.{Missing, WrongKind, OutOfRange}
use Rattle.settings.specs.declared.setting_key.SettingKey.{SettingKey}

-- the first that is refused is the answer
infixl 10 ◌>>=◌
abbrev pub ◌>>=◌ : {A B : Type 0} → Result A Refusal → (A → Result B Refusal) → Result B Refusal
Ok value >>= next = next value
Err refusal >>= next = Err refusal

-- a value that has to be there, one of the right kind, and one in its range
abbrev pub required : {A : Type 0} → SettingKey → Option A → Result A Refusal
required key (Some value) = Ok value
required key None = Err (Missing key)

abbrev pub of_kind : {A : Type 0} → SettingKey → Option A → Result A Refusal
of_kind key (Some value) = Ok value
of_kind key None = Err (WrongKind key)

abbrev pub in_range : {A : Type 0} → SettingKey → Option A → Result A Refusal
in_range key (Some value) = Ok value
in_range key None = Err (OutOfRange key)

-- a number from least to most
abbrev pub number_within : ℕ → ℕ → ℤ → Option ℕ
number_within least most (pos number) =
    if nat_le least number && nat_le number most then Some number else None
number_within least most (negsuc number) = None

abbrev pub whole_number : SettingKey → ℕ → ℕ → Option ℤ → Result ℕ Refusal
whole_number key least most value = do
  number ← of_kind key value
  in_range key (number_within least most number)

abbrev pub number_in : SettingKey → ℕ → ℕ → Data → Result ℕ Refusal
number_in key least most value = whole_number key least most (as_integer value)

abbrev pub required_number : SettingKey → ℕ → ℕ → Option Data → Result ℕ Refusal
required_number key least most value = do
  value ← required key value
  number_in key least most value

-- the default stands in for a number that isn't there
abbrev pub number_or : SettingKey → ℕ → ℕ → ℕ → Option Data → Result ℕ Refusal
number_or key least most default (Some value) = number_in key least most value
number_or key least most default None = Ok default

-- a text, which is read as a value of its own kind
abbrev pub text_in : {A : Type 0} → SettingKey → (List ℕ → Option A) → Data → Result A Refusal
text_in key reading value = do
  text ← of_kind key (as_str value)
  in_range key (reading text)

-- one that need not be there
abbrev pub optional_text : {A : Type 0} → SettingKey → (List ℕ → Option A) → Option Data
    → Result (Option A) Refusal
optional_text key reading (Some value) = do
  read ← text_in key reading value
  Ok (Some read)
optional_text key reading None = Ok None

abbrev pub required_text : {A : Type 0} → SettingKey → (List ℕ → Option A) → Option Data
    → Result A Refusal
required_text key reading value = do
  value ← required key value
  text_in key reading value
