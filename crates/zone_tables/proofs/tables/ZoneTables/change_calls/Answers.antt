use Rattle.std.proofs.Common.{ap, refl, subst, sym}
use Rattle.zone_tables.specs.Parts.{AreSoundParts, IsSoundUsage, Roster, Usage}
use Rattle.zone_tables.specs.Tables.{Tables}
use Rattle.zone_tables.specs.Changes.{IsCallChange, IsPossibleFor, calls_after}
use Rattle.zone_tables.specs.declared.change.Move.{Move}
use Rattle.zone_tables.specs.inside.Counted.{IsMove, legs_after_move}
use Rattle.zone_tables.proofs.Counting.{IsMove-change, counted_change, counted_so}
use Rattle.zone_tables.proofs.Legs.{AreParts-change, usage_is}
use Rattle.zone_tables.proofs.SoundParts.{SoundTables-parts, either_way}
use Rattle.zone_tables.proofs.tables.ZoneTables.change_calls.Goals as goal

pub returns-in_err-apply-clause-sound : goal.returns-in_err-apply-clause-sound
returns-in_err-apply-clause-sound c =
    let i = c.self.inside in
    SoundTables-parts _ _ _
    (subst (λ (u : Usage). AreSoundParts i.config i.endpoints u)
    (sym c.in_err-apply.ensures.err) c.self.invariant)

pub count-requires : goal.count-requires
count-requires c =
    let i = c.self.inside in
    let u = i.bandwidth.usage in
    let id = c.args.endpoint.now in
    let here = subst (λ (m : Tables). IsPossibleFor m id c.args.change) (sym c.self.view_is)
    c.requires in
    let can = subst (λ (u : Usage). IsCallChange u id c.args.change)
    (sym (usage_is i.config i.endpoints.roll u c.self.invariant.parts)) here.0 in
    subst (λ (m : Move). IsMove i.endpoints.roll.live i.endpoints.legs id m)
    (sym c.movement-movement.ensures)
    (IsMove-change i.endpoints.roll.live u i.endpoints.legs c.self.invariant.counted
    c.self.invariant.calls c.self.invariant.parts.legs id c.args.change can here.1)

pub invariant_of-self-2 : goal.invariant_of-self-2
invariant_of-self-2 c =
    let i = c.self.inside in
    let parts = c.self.invariant.parts in
    let u = i.bandwidth.usage in
    let id = c.args.endpoint.now in
    let here = subst (λ (m : Tables). IsPossibleFor m id c.args.change) (sym c.self.view_is)
    c.requires in
    let can = subst (λ (u : Usage). IsCallChange u id c.args.change)
    (sym (usage_is i.config i.endpoints.roll u parts)) here.0 in
    subst (λ (e : Roster). AreSoundParts i.config e c.apply.new.self.usage) (sym c.count.ensures)
    (record {
      settings = c.self.invariant.settings;
      endpoints = c.self.invariant.endpoints;
      calls = either_way IsSoundUsage c.apply.result u c.apply.new.self.usage c.apply.ensures.sound
          c.apply.ensures.err c.self.invariant.calls;
      parts = AreParts-change i.config i.endpoints.roll u parts c.apply.result
          c.apply.new.self.usage id c.args.change can here.1 c.apply.ensures.ok c.apply.ensures.err;
      counted = counted_so i.endpoints.roll.live i.endpoints.roll.live
          (calls_after id c.args.change u.calls) c.apply.new.self.usage.calls _ _
          (counted_change i.endpoints.roll.live u i.endpoints.legs c.self.invariant.counted
          id c.args.change can) refl (ap (λ (v : Usage). v.calls) c.in_ok-apply.ensures.ok)
          (ap (λ (m : Move). legs_after_move id m i.endpoints.legs) c.movement-movement.ensures);
      times = c.self.invariant.times;
    })

pub returns-clause-sound : goal.returns-clause-sound
returns-clause-sound c = SoundTables-parts _ _ _ (invariant_of-self-2 c)
