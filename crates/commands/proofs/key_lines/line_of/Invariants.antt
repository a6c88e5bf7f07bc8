use denote.Text.{Utf8}
use denote.Shadow.{shadow}
use Rattle.std.proofs.Common.{length}
use Rattle.commands.specs.KeyLines.{line_of}
use Rattle.commands.proofs.Naming.{Finds}
use Rattle.commands.proofs.key_lines.line_of.Given as goal

abbrev pub invariant-loop-i : goal.invariant-loop-i
invariant-loop-i l = record {
  can : (goal.iterator-loop-i).can_next l.i-iterator;
  ends : (goal.iterator-loop-i).is_finite l.i-iterator;
  table : shadow (Utf8 l.table);
  finds : Finds l.text l.path l.table (length l.yielded) l.left (line_of l.text l.path l.fn.before);
}
