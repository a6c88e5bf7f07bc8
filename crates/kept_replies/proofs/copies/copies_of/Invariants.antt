use Rattle.std.proofs.Common.{◌≡◌, take}
use Rattle.kept_replies.proofs.copies.copies_of.Given as goal

abbrev pub invariant-loop-i : goal.invariant-loop-i
invariant-loop-i l = l.copies.entries ≡ take l.i l.rows.entries
