use Rattle.std.proofs.Common.{◌≡◌, ◌++◌}
use Rattle.kept_replies.proofs.list.copies_of.Given as goal

abbrev pub invariant-loop-key : goal.invariant-loop-key
invariant-loop-key l = l.copies.items ++ l.key-iterator ≡ l.rows.entries
