-- What a reading of settings from an input returns, and the exit status of each of its faults.
use Rattle.std.specs.Prelude.{ℕ, ◌≡◌, ◌≤◌, ◌<◌, ◌+◌, ◌==◌, ◌++◌, List, [], ◌∷◌, length, map, take}
use Rattle.std.specs.Prelude.{Some, IsUtf8, Result, Ok, Err, string_bytes}
use Rattle.std.specs.List.{count_by}
use Rattle.std.specs.Str.{bytes_eq}
use Rattle.std.specs.Str.Lossy.{utf8_valid_len}
use Rattle.settings.specs.declared.fault.SettingsFault.{SettingsFault}
use Rattle.settings.specs.declared.fault.SettingsFault.TheVariants as settings
use Rattle.settings.specs.Settings.{settings_of, IsAnswer}
use Rattle.settings.specs.declared.settings.Settings.{Settings}
use Rattle.settings.specs.Unknown.{paths_of, unknown_of}
use Rattle.commands.specs.KeyLines.{line_of}
use Rattle.commands.specs.declared.settings_input.TheConstants.{MOST_READ}
use Rattle.commands.specs.declared.settings_input.InputFault.{InputFault}
use Rattle.commands.specs.declared.settings_input.InputFault.TheVariants.{Stream, TooLong}
use Rattle.commands.specs.declared.settings_input.InputFault.TheVariants.{NotText, Refused}
use Rattle.commands.specs.declared.settings_input.InputFault.TheVariants.{Memory}
use Rattle.commands.specs.declared.settings_input.PassedOver.{PassedOver}
use Rattle.commands.specs.declared.settings_input.ReadInput.{ReadInput}

-- 1: the settings are refused; 3: no memory; 4: a read failed
abbrev pub input_status : InputFault → ℕ
input_status Stream = 4
input_status TooLong = 1
input_status (NotText line) = 1
input_status (Refused fault) = 1
input_status Memory = 3

-- a reading of the octets as such ends so: that they are too many is told only if they are
abbrev pub IsReadFault : List ℕ → InputFault → Type 0
IsReadFault octets Stream = Unit {0}
IsReadFault octets TooLong = MOST_READ < length octets
IsReadFault octets Memory = Unit {0}
IsReadFault octets fault = ⊥

-- how a fault of the settings is told; want of memory apart
abbrev pub IsRefusal : SettingsFault → InputFault → Type 0
IsRefusal settings.Memory told = told ≡ Memory
IsRefusal fault told = told ≡ Refused fault

-- a text gives its settings, or is refused by the fault that `read_settings` returns
abbrev pub IsTextRead : List ℕ → Result ReadInput InputFault → Type 0
IsTextRead text (Ok read) = settings_of text ≡ Some (Ok read.settings)
IsTextRead text (Err (Refused fault)) = IsAnswer (settings_of text) (Err fault)
IsTextRead text (Err Memory) = Unit {0}
IsTextRead text (Err fault) = ⊥

-- the line, from 1, in which the octet behind these stands
abbrev pub line_behind : List ℕ → ℕ
line_behind octets = count_by (λ octet. octet == 10) octets + 1

-- the line of the first octet that belongs to no text: the one behind the longest front in UTF-8
abbrev pub line_of_no_text : List ℕ → ℕ
line_of_no_text octets = line_behind (take (utf8_valid_len octets) octets)

-- the octets are no more than are read, are UTF-8, and give settings as a text; or else the fault
-- says which of this fails
abbrev pub IsInputRead : List ℕ → Result ReadInput InputFault → Type 0
IsInputRead octets (Err TooLong) = MOST_READ < length octets
IsInputRead octets (Err (NotText line)) = (IsUtf8 octets → ⊥) × (line ≡ line_of_no_text octets)
IsInputRead octets (Err Stream) = Unit {0}
IsInputRead octets (Err Memory) = Unit {0}
IsInputRead octets answer =
    (length octets ≤ MOST_READ) × IsUtf8 octets × IsTextRead octets answer

-- exactly the keys of the text that aren't known are told, in order
abbrev pub ArePassedOver : List ℕ → List PassedOver → Type 0
ArePassedOver text told = Some (paths_of (map (λ passed. passed.key) told)) ≡ unknown_of text

-- how many of these keys have this path
abbrev pub count_with : List ℕ → List PassedOver → ℕ
count_with path keys = count_by (λ passed. bytes_eq (string_bytes passed.key.path) path) keys

-- Keys that are told behind others have their lines: each stands on a line that names its path,
-- behind as many such lines as there are keys with this path before it.
abbrev pub HaveLinesBehind : List ℕ → List PassedOver → List PassedOver → Type 0
HaveLinesBehind text before [] = Unit {0}
HaveLinesBehind text before (passed ∷ behind) =
    (passed.line ≡ line_of text (string_bytes passed.key.path)
    (count_with (string_bytes passed.key.path) before))
    × HaveLinesBehind text (before ++ passed ∷ []) behind

-- each key that is told has its line
abbrev pub HaveLines : List ℕ → List PassedOver → Type 0
HaveLines text told = HaveLinesBehind text [] told

-- the octets are settings: no more than are read, UTF-8, and a text that gives settings
pub record GivesSettings (octets : List ℕ) : Type 0 where
  pub few : length octets ≤ MOST_READ
  pub text : IsUtf8 octets
  pub values : Settings
  pub given : settings_of octets ≡ Some (Ok values)
