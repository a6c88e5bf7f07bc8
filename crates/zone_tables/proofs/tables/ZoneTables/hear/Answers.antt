use Rattle.std.proofs.Common.{◌∙◌, refl}
use Rattle.registrations.specs.Registry.{after_hear}
use Rattle.zone_tables.proofs.Counting.{counted_so, counted_update}
use Rattle.zone_tables.proofs.Legs.{AreParts-live, legs-heard}
use Rattle.zone_tables.proofs.SoundParts.{SoundTables-parts}
use Rattle.zone_tables.proofs.tables.ZoneTables.hear.Goals as goal

pub invariant_of-self : goal.invariant_of-self
invariant_of-self c =
    let i = c.self.inside in
    let parts = c.self.invariant.parts in
    let u = i.bandwidth.usage in
    record {
      settings = c.self.invariant.settings;
      endpoints = c.hear.ensures.sound;
      calls = c.self.invariant.calls;
      parts = AreParts-live i.config i.endpoints.roll c.hear.new.self.roll u parts
          c.hear.ensures.most _ c.hear.ensures.live
          (legs-heard i.endpoints.roll.live u.calls c.args.now c.args.id.now parts.legs);
      counted = counted_so _ c.hear.new.self.roll.live u.calls u.calls i.endpoints.legs
          c.hear.new.self.legs (counted_update i.endpoints.roll.live u.calls i.endpoints.legs
          c.self.invariant.counted c.args.id.now (after_hear c.args.now))
          c.hear.ensures.live refl c.hear.ensures.legs;
      times = c.hear.ensures.times ∙ c.self.invariant.times;
    }

pub returns-clause-sound : goal.returns-clause-sound
returns-clause-sound c = SoundTables-parts _ _ _ (invariant_of-self c)
