use Rattle.std.proofs.Common.{◌≡◌, ◌++◌}
use Rattle.kept_replies.specs.inside.Stored.{identifiers_of}
use Rattle.kept_replies.proofs.searches.identifiers_in.Given as goal

abbrev pub invariant-loop-key : goal.invariant-loop-key
invariant-loop-key l =
    l.ids.items ++ identifiers_of l._key-iterator ≡ identifiers_of l.rows.entries
