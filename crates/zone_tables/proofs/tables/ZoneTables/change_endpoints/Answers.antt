use Rattle.std.proofs.Common.{◌∙◌, refl, subst, sym}
use Rattle.std.specs.Option.{option_copied}
use Rattle.zone_tables.specs.Parts.{AreSoundParts, IsSoundRoll, Roll, Roster}
use Rattle.zone_tables.specs.Tables.{Tables}
use Rattle.zone_tables.specs.Changes.{IsEndpointChange, IsPossible}
use Rattle.zone_tables.specs.declared.change.Change.TheVariants.{Endpoint}
use Rattle.zone_tables.proofs.Counting.{counted_result}
use Rattle.zone_tables.proofs.Legs.{AreParts-live, legs-endpoint_result, roll_is}
use Rattle.zone_tables.proofs.SoundParts.{SoundTables-parts, either_way}
use Rattle.zone_tables.proofs.tables.ZoneTables.change_endpoints.Goals as goal

pub returns-in_err-apply-clause-sound : goal.returns-in_err-apply-clause-sound
returns-in_err-apply-clause-sound c =
    let i = c.self.inside in
    SoundTables-parts _ _ _
    (subst (λ (e : Roster). AreSoundParts i.config e i.bandwidth.usage)
    (sym c.in_err-apply.ensures.err) c.self.invariant)

pub invariant_of-self-2 : goal.invariant_of-self-2
invariant_of-self-2 c =
    let i = c.self.inside in
    let parts = c.self.invariant.parts in
    let u = i.bandwidth.usage in
    let change = c.args.change in
    let who = option_copied c.args.who in
    let here = subst (λ (m : Tables). IsPossible m who (Endpoint change)) (sym c.self.view_is)
    c.requires in
    let can = subst (λ (r : Roll). IsEndpointChange r who change)
    (roll_is i.config i.endpoints.roll u parts) here.0 in
    record {
      settings = c.self.invariant.settings;
      endpoints = either_way (λ (e : Roster). IsSoundRoll e.roll) c.apply.result i.endpoints
          c.apply.new.self c.apply.ensures.sound c.apply.ensures.err c.self.invariant.endpoints;
      calls = c.self.invariant.calls;
      parts = AreParts-live i.config i.endpoints.roll c.apply.new.self.roll u parts
          c.apply.ensures.most _ refl
          (legs-endpoint_result c.apply.result i.endpoints c.apply.new.self u.calls c.args.now
          who change parts.legs here.1 c.apply.ensures.live c.apply.ensures.err);
      counted = counted_result c.apply.result i.endpoints c.apply.new.self u.calls c.args.now
          who change c.self.invariant.counted parts.legs can c.apply.ensures.live
          c.apply.ensures.legs c.apply.ensures.err;
      times = c.apply.ensures.times ∙ c.self.invariant.times;
    }

pub returns-clause-sound : goal.returns-clause-sound
returns-clause-sound c = SoundTables-parts _ _ _ (invariant_of-self-2 c)
