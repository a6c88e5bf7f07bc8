use Rattle.std.proofs.Common.{◌≡◌, ◌+◌, ℕ, List}
use Rattle.std.specs.Prelude.{IsTrue}
use Rattle.kept_replies.specs.inside.Told.{times, times_in}
use Rattle.kept_replies.proofs.told_counts.ToldCounts.of.Given as goal

abbrev pub invariant-loop-key : goal.invariant-loop-key
invariant-loop-key l =
    IsTrue l.all.is_whole → (id : List ℕ)
    → times l.all id + times_in l._key-iterator id ≡ times_in l.rows.entries id
