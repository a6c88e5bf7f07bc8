-- The derived test of equality of registrations decides whether they are equal.
use Rattle.std.proofs.Common.{◌≡◌, rules}
use Rattle.std.specs.Bool.{Decides}
use Rattle.ras_module.proofs.Deciding.{aliases_decide}
use Rattle.registrations.specs.declared.registration.Registration.{Registration}
use Rattle.registrations.specs.contracts.registration.RegistrationPartialEq.TheImpl as registration_eq

pub registrations_decide : (a b : Registration)
    → Decides ((registration_eq.ghosts).eq a b) (a ≡ b)
registrations_decide a b = search (rules, aliases_decide)
