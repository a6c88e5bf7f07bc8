use Rattle.std.proofs.Common.{◌≡◌, drop}
use Rattle.registrations.specs.Numbers.{number_in, with_digits}
use Rattle.registrations.proofs.number.number_in.Given as goal

-- with the digits that are left, the number comes to the number of the whole
abbrev pub invariant-loop-character : goal.invariant-loop-character
invariant-loop-character l =
    with_digits l.number (drop l.character-index l.character-items) ≡ number_in l.identifier
