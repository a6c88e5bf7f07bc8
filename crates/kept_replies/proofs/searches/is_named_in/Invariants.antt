use Rattle.std.proofs.Common.{◌≡◌}
use Rattle.std.specs.List.{list_any}
use Rattle.kept_replies.specs.inside.Stored.{is_named_by}
use Rattle.kept_replies.proofs.searches.is_named_in.Given as goal

abbrev pub invariant-loop-key : goal.invariant-loop-key
invariant-loop-key l =
    list_any (λ row. is_named_by l.id row.1) l._key-iterator
    ≡ list_any (λ row. is_named_by l.id row.1) l.rows.entries
