use Rattle.std.proofs.Common.{◌∙◌, ap, refl, subst, sym, arith}
use Rattle.std.specs.Prelude.{MatchOption}
use Rattle.std.specs.FinMap as fin
use Rattle.registrations.specs.Silence.{HasEnded}
use Rattle.zone_tables.specs.EndpointsDue.{IsEndpointItem, IsNoEndpointDue, item_in_call}
use Rattle.zone_tables.specs.Silence.{times_of}
use Rattle.zone_tables.specs.Tables.{Tables}
use Rattle.zone_tables.proofs.Ending.{ended_item, nothing_ended, some_asks}
use Rattle.zone_tables.proofs.tables.ZoneTables.endpoint_due.Goals as goal

pub returns-in_err-registration : goal.returns-in_err-registration
returns-in_err-registration c =
    let i = c.self.inside in
    let moment = c.milliseconds-moment.ensures in
    let table = c.table.ensures in
    let times = table.times ∙ c.self.invariant.times in
    subst (λ (m : Tables). MatchOption c.from_residual.result
    (IsNoEndpointDue c.args.now (times_of m.config) m.live m.calls)
    (IsEndpointItem c.args.now (times_of m.config) m.live m.calls)) c.self.view_is
    (subst (λ w. MatchOption w
    (IsNoEndpointDue c.args.now (times_of i.config) i.endpoints.roll.live i.bandwidth.usage.calls)
    (IsEndpointItem c.args.now (times_of i.config) i.endpoints.roll.live i.bandwidth.usage.calls))
    (sym c.from_residual.ensures)
    (nothing_ended (times_of i.config) (some_asks i.config c.self.invariant.settings.ranges)
    c.args.now (omega (arith, moment.same, moment.small)) i.endpoints.roll.live
    i.bandwidth.usage.calls i.endpoints.legs c.self.invariant.counted
    (λ id ended. c.in_err-registration.ensures.none refl id
    (subst (λ p. p) (λ j. HasEnded (sym moment.same j) (sym times j) (sym table.live j)
    (sym table.legs j) id) ended))))

pub returns : goal.returns
returns c =
    let i = c.self.inside in
    let moment = c.milliseconds-moment.ensures in
    let table = c.table.ensures in
    let times = table.times ∙ c.self.invariant.times in
    let same = c.times.ensures.same
    ∙ ap (λ (m : Tables). times_of m.config) (sym c.self.view_is) in
    let r = c.in_ok-registration.registration.now in
    subst (λ (m : Tables). MatchOption c.item_in_call.result
    (IsNoEndpointDue c.args.now (times_of m.config) m.live m.calls)
    (IsEndpointItem c.args.now (times_of m.config) m.live m.calls)) c.self.view_is
    (subst (λ w. MatchOption w
    (IsNoEndpointDue c.args.now (times_of i.config) i.endpoints.roll.live i.bandwidth.usage.calls)
    (IsEndpointItem c.args.now (times_of i.config) i.endpoints.roll.live i.bandwidth.usage.calls))
    (sym (c.item_in_call.ensures ∙ (λ j. item_in_call (moment.same j) (same j) r)))
    (ended_item (times_of i.config) (some_asks i.config c.self.invariant.settings.ranges)
    c.args.now (omega (arith, moment.same, moment.small)) i.endpoints.roll.live
    i.bandwidth.usage.calls i.endpoints.legs c.self.invariant.counted r
    (ap (λ live. fin.get live r.identifier) (sym table.live) ∙ c.in_ok-registration.ensures.live)
    (subst (λ p. p) (λ j. HasEnded (moment.same j) (times j) (table.live j) (table.legs j)
    r.identifier) c.in_ok-registration.ensures.ended)))
