use Rattle.std.proofs.Common.{◌≡◌, ◌+◌, ◌≤◌, length}
use Rattle.std.specs.String.{string_bytes}
use Rattle.explaining.specs.Lines.{explained, lines_of, with_lines}
use Rattle.explaining.proofs.lines.explained.Given as goal

abbrev pub invariant-loop-rest : goal.invariant-loop-rest
invariant-loop-rest l = record {
  few : l.number + length l.rest ≤ length l.text;
  told : with_lines (string_bytes l.out) (l.number + 1) (lines_of l.rest) ≡ explained l.text;
}

abbrev pub decreases-loop-rest : goal.decreases-loop-rest
decreases-loop-rest l = length l.rest
