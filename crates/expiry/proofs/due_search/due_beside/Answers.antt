use Rattle.std.proofs.Common.{subst}
use Rattle.std.specs.Prelude.{MatchOption}
use Rattle.zone_tables.specs.EndpointsDue.{IsEndpointItem, IsNoEndpointDue}
use Rattle.expiry.proofs.Nothing.{nothing_due}
use Rattle.expiry.proofs.due_search.due_beside.Goals as goal

pub returns : goal.returns
returns c times calls item =
    let live = c.args.registrations.now.live in
    nothing_due c.args.now c.args.next_turn times live calls c.args.kept.now c.retry.ensures.sound
    (c.over.ensures.none c.in_default.is)
    (subst (λ w. MatchOption w (IsNoEndpointDue c.args.now times live calls)
    (IsEndpointItem c.args.now times live calls)) c.in_default-endpoint.is item)
    c.in_default-retry.ensures.found c.in_default-over.ensures.found c.if-next_turn-now.false
