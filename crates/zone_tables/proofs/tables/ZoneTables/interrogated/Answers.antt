use Rattle.std.proofs.Common.{◌∙◌, refl}
use Rattle.registrations.specs.Registry.{after_ask}
use Rattle.zone_tables.proofs.Counting.{counted_so, counted_update}
use Rattle.zone_tables.proofs.Legs.{AreParts-live, legs-update}
use Rattle.zone_tables.proofs.SoundParts.{SoundTables-parts}
use Rattle.zone_tables.proofs.tables.ZoneTables.interrogated.Goals as goal

pub invariant_of-self : goal.invariant_of-self
invariant_of-self c =
    let i = c.self.inside in
    let parts = c.self.invariant.parts in
    let u = i.bandwidth.usage in
    record {
      settings = c.self.invariant.settings;
      endpoints = c.interrogated.ensures.sound;
      calls = c.self.invariant.calls;
      parts = AreParts-live i.config i.endpoints.roll c.interrogated.new.self.roll u parts
          c.interrogated.ensures.most _ c.interrogated.ensures.live
          (legs-update i.endpoints.roll.live u.calls c.args.id.now (after_ask c.args.now)
          parts.legs);
      counted = counted_so _ c.interrogated.new.self.roll.live u.calls u.calls i.endpoints.legs
          c.interrogated.new.self.legs (counted_update i.endpoints.roll.live u.calls
          i.endpoints.legs
          c.self.invariant.counted c.args.id.now (after_ask c.args.now))
          c.interrogated.ensures.live refl c.interrogated.ensures.legs;
      times = c.interrogated.ensures.times ∙ c.self.invariant.times;
    }

pub returns-clause-sound : goal.returns-clause-sound
returns-clause-sound c = SoundTables-parts _ _ _ (invariant_of-self c)
