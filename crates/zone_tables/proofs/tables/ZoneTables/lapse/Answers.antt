use Rattle.std.proofs.Common.{◌∙◌, refl, subst, sym}
use Rattle.std.specs.FinMap as fin
use Rattle.admission.specs.Calls.{EachLeg}
use Rattle.zone_tables.specs.Leaving.{IsOther}
use Rattle.zone_tables.specs.Tables.{Tables}
use Rattle.zone_tables.proofs.Counting.{counted_remove, counted_so}
use Rattle.zone_tables.proofs.Departing.{left_then}
use Rattle.zone_tables.proofs.Legs.{AreParts-live, legs-remove}
use Rattle.zone_tables.proofs.SoundParts.{SoundTables-parts}
use Rattle.zone_tables.proofs.tables.ZoneTables.lapse.Goals as goal

pub invariant_of-self : goal.invariant_of-self
invariant_of-self c =
    let i = c.self.inside in
    let parts = c.self.invariant.parts in
    let u = i.bandwidth.usage in
    let id = c.args.id.now in
    record {
      settings = c.self.invariant.settings;
      endpoints = c.remove.ensures.sound;
      calls = c.self.invariant.calls;
      parts = AreParts-live i.config i.endpoints.roll c.remove.new.self.roll u parts
          c.remove.ensures.most _ c.remove.ensures.live
          (legs-remove i.endpoints.roll.live u.calls id parts.legs
          (subst (λ (m : Tables). EachLeg (IsOther id) m.calls) (sym c.self.view_is)
          c.leave_all.ensures.gone));
      counted = counted_so _ c.remove.new.self.roll.live u.calls u.calls _ c.remove.new.self.legs
          (counted_remove i.endpoints.roll.live u.calls i.endpoints.legs c.self.invariant.counted
          id) c.remove.ensures.live refl c.remove.ensures.legs;
      times = c.remove.ensures.times ∙ c.self.invariant.times;
    }

pub returns-clause-tables : goal.returns-clause-tables
returns-clause-tables c =
    let id = c.args.id.now in
    left_then (λ live. fin.remove live id) c.args.self.now _ id
    (c.self.view_is ∙ c.leave_all.ensures.tables)
    c.remove.new.self.roll.live c.remove.ensures.live

pub returns-clause-sound : goal.returns-clause-sound
returns-clause-sound c = SoundTables-parts _ _ _ (invariant_of-self c)
