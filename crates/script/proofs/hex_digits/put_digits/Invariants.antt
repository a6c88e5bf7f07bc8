use Rattle.std.proofs.Common.{◌≡◌, ◌*◌, ◌++◌, take, drop}
use Rattle.hex.specs.Hex.{encode_upper}
use Rattle.script.proofs.hex_digits.put_digits.Given as goal

-- with the digits of the octets that are left, those so far are the digits of all
abbrev pub invariant-loop-i : goal.invariant-loop-i
invariant-loop-i l =
    take (2 * l.i) l.digits ++ encode_upper (drop l.i l.octets) ≡ encode_upper l.octets
