use Rattle.std.proofs.Common.{◌∙◌, ap}
use Rattle.std.specs.Option.{unwrap_or}
use Rattle.std.specs.FinMap as fin
use Rattle.admission.specs.Calls.{legs_of}
use Rattle.registrations.specs.Registry.{LegCounts}
use Rattle.zone_tables.specs.Tables.{Tables}
use Rattle.zone_tables.proofs.Counting.{count_or_none}
use Rattle.zone_tables.proofs.tables.ZoneTables.legs_of.Goals as goal

pub returns : goal.returns
returns c =
    let i = c.self.inside in
    c.unwrap_or.ensures ∙ (ap (λ w. unwrap_or w 0) (c.legs.ensures.legs
    ∙ ap (λ (n : LegCounts). fin.get n c.args.endpoint.now) c.table.ensures.legs)
    ∙ (count_or_none i.endpoints.roll.live i.bandwidth.usage.calls i.endpoints.legs
    c.self.invariant.counted c.self.invariant.parts.legs c.args.endpoint.now
    ∙ ap (λ (m : Tables). legs_of m.calls c.args.endpoint.now) c.self.view_is))
