use Rattle.std.proofs.Common.{◌∙◌, refl}
use Rattle.registrations.specs.Registry.{after_calm}
use Rattle.zone_tables.proofs.Counting.{counted_so, counted_update}
use Rattle.keyed.specs.Maps.{update}
use Rattle.zone_tables.proofs.Departing.{left_then}
use Rattle.zone_tables.proofs.Legs.{AreParts-live, legs-update}
use Rattle.zone_tables.proofs.SoundParts.{SoundTables-parts}
use Rattle.zone_tables.proofs.tables.ZoneTables.silence.Goals as goal

pub invariant_of-self : goal.invariant_of-self
invariant_of-self c =
    let i = c.self.inside in
    let parts = c.self.invariant.parts in
    let u = i.bandwidth.usage in
    record {
      settings = c.self.invariant.settings;
      endpoints = c.calm.ensures.sound;
      calls = c.self.invariant.calls;
      parts = AreParts-live i.config i.endpoints.roll c.calm.new.self.roll u parts
          c.calm.ensures.most _ c.calm.ensures.live
          (legs-update i.endpoints.roll.live u.calls c.args.id.now after_calm parts.legs);
      counted = counted_so _ c.calm.new.self.roll.live u.calls u.calls i.endpoints.legs
          c.calm.new.self.legs (counted_update i.endpoints.roll.live u.calls i.endpoints.legs
          c.self.invariant.counted c.args.id.now after_calm)
          c.calm.ensures.live refl c.calm.ensures.legs;
      times = c.calm.ensures.times ∙ c.self.invariant.times;
    }

pub returns-clause-tables : goal.returns-clause-tables
returns-clause-tables c =
    let id = c.args.id.now in
    left_then (λ live. update live id after_calm) c.args.self.now _ id
    (c.self.view_is ∙ c.leave_all.ensures.tables)
    c.calm.new.self.roll.live c.calm.ensures.live

pub returns-clause-sound : goal.returns-clause-sound
returns-clause-sound c = SoundTables-parts _ _ _ (invariant_of-self c)
