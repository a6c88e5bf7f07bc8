-- The numbers of the faults, and how a fault tells of a refusal.
use Rattle.std.specs.Prelude.{ℕ, ◌≡◌}
use Rattle.settings.specs.declared.fault.Refusal.{Refusal}
use Rattle.settings.specs.declared.fault.Refusal.TheVariants as refused
use Rattle.settings.specs.declared.fault.SettingsFault.{SettingsFault}
use Rattle.settings.specs.declared.fault.SettingsFault.TheVariants.{Syntax, Missing, WrongKind}
use Rattle.settings.specs.declared.fault.SettingsFault.TheVariants.{OutOfRange, NoDefaultPool}
use Rattle.settings.specs.declared.fault.SettingsFault.TheVariants.{Memory}
use Rattle.settings.specs.SettingKeys.{path_of}

abbrev pub fault_number : SettingsFault → ℕ
fault_number (Syntax error) = 1
fault_number (Missing key) = 2
fault_number (WrongKind key) = 3
fault_number (OutOfRange key) = 4
fault_number NoDefaultPool = 5
fault_number Memory = 6

-- the fault is of the kind of the refusal, and has the path of its key
abbrev pub Tells : Refusal → SettingsFault → Type 0
Tells (refused.Missing key) (Missing path) = path.now ≡ path_of key
Tells (refused.WrongKind key) (WrongKind path) = path.now ≡ path_of key
Tells (refused.OutOfRange key) (OutOfRange path) = path.now ≡ path_of key
Tells refused.NoDefaultPool NoDefaultPool = Unit {0}
Tells refused.Memory Memory = Unit {0}
Tells refusal fault = ⊥
