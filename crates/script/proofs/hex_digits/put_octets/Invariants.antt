use Rattle.std.proofs.Common.{◌≡◌, ◌*◌, ◌<◌, ◌≤◌, None, take, drop}
use Rattle.std.specs.Result.{result_ok}
use Rattle.hex.specs.Hex.{decode_pairs}
use Rattle.hex.proofs.Pairs.{prepend}
use Rattle.script.proofs.hex_digits.put_octets.Given as goal

abbrev pub invariant-loop-i : goal.invariant-loop-i
invariant-loop-i l = record {
  good : l.most < 16 → decode_pairs 0 l.digits
      ≡ prepend (take l.i l.octets) (decode_pairs (2 * l.i) (drop (2 * l.i) l.digits));
  bad : 16 ≤ l.most → result_ok (decode_pairs 0 l.digits) ≡ None;
}
