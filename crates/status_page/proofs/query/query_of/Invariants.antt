use Rattle.std.proofs.Common.{◌≡◌, length}
use Rattle.status_page.specs.Queries.{parts_of, with_parts}
use Rattle.status_page.proofs.query.query_of.Given as goal

-- what is left of the query, after what was read of it, is the whole query
abbrev pub invariant-loop-rest : goal.invariant-loop-rest
invariant-loop-rest l = with_parts l.table l.query (parts_of 38 l.rest)
    ≡ with_parts l.table l.initial.query (parts_of 38 l.initial.rest)

abbrev pub decreases-loop-rest : goal.decreases-loop-rest
decreases-loop-rest l = length l.rest
