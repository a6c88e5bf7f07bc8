-- What a check of settings returns and writes.
use Rattle.std.specs.Prelude.{ℕ, ◌≡◌, ◌++◌, List, Option, Some, IfSome, Result, Ok, Err, IsTrue}
use Rattle.std.specs.Prelude.{codes}
use Rattle.std.specs.Io.KnownBytes.{Appends}
use Rattle.script.specs.Streams.{OutputState}
use Rattle.settings.specs.Listing.{settings_listing}
use Rattle.settings.specs.Settings.{settings_of}
use Rattle.settings.specs.declared.settings.Settings.{Settings}
use Rattle.commands.specs.Inputs.{GivesSettings, IsInputRead}
use Rattle.commands.specs.declared.settings_input.InputFault.{InputFault}
use Rattle.commands.specs.declared.settings_input.InputFault.TheVariants.{Stream}

-- settings are checked only if the octets are settings; otherwise the fault is that of reading them
abbrev pub AreChecked : {A : Type 0} → List ℕ → Result A InputFault → Type 0
AreChecked octets (Ok done) = GivesSettings octets
AreChecked octets (Err fault) = IsInputRead octets (Err fault)

-- what was written is flushed; of settings that are refused nothing was written
abbrev pub IsWritten : {A : Type 0} → OutputState → OutputState → Result A InputFault → Type 0
IsWritten old new (Ok done) = IsTrue new.flushed
IsWritten old new (Err Stream) = Unit {0}
IsWritten old new (Err fault) = new ≡ old

-- what is written of settings that are well-formed
abbrev pub checked_text : Settings → List ℕ
checked_text settings = codes "settings: ok\n" ++ settings_listing settings

-- Settings were written, once: those that the octets give, if these are known.
abbrev pub WritesSettings : Option (List ℕ) → Option (List ℕ) → Option (List ℕ) → Type 0
WritesSettings left old new =
    (settings : Settings) × IfSome left (λ octets. settings_of octets ≡ Some (Ok settings))
    × Appends old new (checked_text settings)
