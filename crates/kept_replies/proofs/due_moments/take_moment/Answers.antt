use Rattle.std.proofs.Common.{◌≡◌, ◌≢◌, ◌∙◌, ap, arith}
use Rattle.std.specs.FinMap as map
use Rattle.deadlines.specs.Deadlines.{renamed}
use Rattle.deadlines.proofs.Renamed.{renamed_over, renamed_same}
use Rattle.kept_replies.proofs.due_moments.take_moment.Goals as goal

pub returns-then-place-last-clause-moments : goal.returns-then-place-last-clause-moments
returns-then-place-last-clause-moments c =
    let place = c.args.place in
    let rest = map.remove c.args.deadlines.now.moments place in
    let same : place ≡ c.args.last = omega (arith, c.if-place-last.true) in
    c.clear.ensures.moments
    ∙ (renamed_same rest place ∙ ap (λ k. renamed rest k place) same)

pub returns-else-place-last-clause-moments : goal.returns-else-place-last-clause-moments
returns-else-place-last-clause-moments c =
    let differ : c.args.last ≢ c.args.place = omega (arith, c.if-place-last.false) in
    c.rename.ensures.moments
    ∙ renamed_over c.args.deadlines.now.moments c.args.last c.args.place differ
