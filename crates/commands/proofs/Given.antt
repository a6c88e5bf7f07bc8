-- Settings that were read are those that the octets give, if these are known.
use Rattle.std.proofs.Common.{◌≡◌, ℕ, List, Option, Some, None, Ok, IfSome}
use Rattle.settings.specs.Settings.{settings_of}
use Rattle.commands.specs.Inputs.{IsInputRead}
use Rattle.commands.specs.declared.settings_input.ReadInput.{ReadInput}

pub given_settings : (left : Option (List ℕ)) (read : ReadInput)
    → IfSome left (λ octets. IsInputRead octets (Ok read))
    → IfSome left (λ octets. settings_of octets ≡ Some (Ok read.settings))
given_settings None read is = is
given_settings (Some octets) read is = is.2
