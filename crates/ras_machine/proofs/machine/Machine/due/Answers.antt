use Rattle.std.proofs.Common.{◌∙◌, ℕ, ap, subst, sym}
use Rattle.std.specs.Prelude.{MatchOption}
use Rattle.admission.specs.Calls.{OpenCalls}
use Rattle.registrations.specs.declared.times.Times.{Times}
use Rattle.expiry.specs.Due.{IsDue, IsNothingDue}
use Rattle.zone_tables.specs.EndpointsDue.{IsEndpointItem, IsNoEndpointDue}
use Rattle.kept_replies.specs.Kept.{KeptReplies}
use Rattle.registrations.specs.Registry.{Live}
use Rattle.zone_tables.specs.Silence.{times_of}
use Rattle.ras_machine.specs.State.{State}
use Rattle.ras_machine.proofs.machine.Machine.due.Goals as goal

pub returns : goal.returns
returns c =
    let is = c.self.view_is in
    let z = c.self.inside.tables in
    let times = times_of z.config in
    let moment = c.milliseconds-moment.ensures.same in
    let live = c.registrations-registrations.ensures.live in
    let endpoint = subst (λ (q : ℕ × Live).
    MatchOption c.endpoint_due-endpoint.result (IsNoEndpointDue q.0 times q.1 z.calls)
    (IsEndpointItem q.0 times q.1 z.calls)) (λ j. (sym moment j, sym live j))
    c.endpoint_due-endpoint.ensures in
    subst (λ (q : ℕ × ℕ × Times × Live × OpenCalls × KeptReplies).
    MatchOption c.due_beside.result (IsNothingDue q.0 q.1 q.2 q.3 q.4 q.5)
    (IsDue q.0 q.1 q.2 q.3 q.4 q.5))
    (λ j. (
      moment j,
      (is j).next_pool_turn,
      times_of (is j).tables.config,
      (live ∙ ap (λ (m : State). m.tables.live) is) j,
      (is j).tables.calls,
      (is j).kept,
    )) (c.due_beside.ensures times z.calls endpoint)
