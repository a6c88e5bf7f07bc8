use Rattle.std.proofs.Common.{◌∙◌, All, ap, refl, sym, subst}
use Rattle.std.specs.FinMap as fin
use Rattle.admission.proofs.Soundness.{EachCall-empty}
use Rattle.zone_tables.specs.Changes.{IsRegistered}
use Rattle.zone_tables.specs.Parts.{AreParts, Roster, Usage}
use Rattle.zone_tables.specs.inside.Counted.{AreCounted}
use Rattle.zone_tables.proofs.Counting.{counted_empty}
use Rattle.zone_tables.proofs.SoundParts.{SoundTables-parts}
use Rattle.zone_tables.proofs.tables.ZoneTables.new.Goals as goal

pub invariant_of-result : goal.invariant_of-result
invariant_of-result c =
    let u : Usage = record {
      calls = fin.empty;
      pools = c.args.pools;
      most = c.args.config.calls;
      limit = c.args.config.limit;
      call_limit = c.args.config.call_limit;
    } in
    record {
      settings = c.new-bandwidth.ensures.settings;
      endpoints = c.new-endpoints.ensures.sound;
      calls = c.new-bandwidth.ensures.sound;
      parts = subst (λ (u : Usage). AreParts c.args.config c.new-endpoints.result.roll u)
          (sym c.new-bandwidth.ensures.usage)
          (subst (λ (e : Roster). AreParts c.args.config e.roll u)
          (sym c.new-endpoints.ensures.empty) (record {
            endpoints = c.endpoints.ensures.same;
            calls = refl;
            limit = refl;
            call_limit = refl;
            pools = c.requires.each;
            legs = EachCall-empty (λ call. All (IsRegistered fin.empty) call.legs);
          }));
      counted = subst (λ (e : Roster). AreCounted e.roll.live c.new-bandwidth.result.usage.calls
          e.legs) (sym c.new-endpoints.ensures.empty)
          (counted_empty c.new-bandwidth.result.usage.calls);
      times = ap (λ (e : Roster). e.times) c.new-endpoints.ensures.empty
          ∙ c.times_of.ensures.same;
    }

pub returns-clause-sound : goal.returns-clause-sound
returns-clause-sound c = SoundTables-parts _ _ _ (invariant_of-result c)
