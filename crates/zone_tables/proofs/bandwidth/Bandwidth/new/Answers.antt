use Rattle.std.proofs.Common.{refl}
use Rattle.std.specs.FinMap as fin
use Rattle.zone_tables.specs.Parts.{Usage}
use Rattle.zone_tables.proofs.Backing.{IsBacked-is, IsBacked-start, IsSoundUsage-held, within_idle}
use Rattle.zone_tables.proofs.bandwidth.Bandwidth.new.Goals as goal

pub invariant_of-result : goal.invariant_of-result
invariant_of-result c =
    let u : Usage = record {
      calls = fin.empty;
      pools = c.args.pools;
      most = c.new.result.most;
      limit = c.parts.result.now.limit;
      call_limit = c.call_limit.result;
    } in
    IsSoundUsage-held c.new.result c.args.pools u.limit u.call_limit
    (IsBacked-is u c.new.result.calls u.pools u.most
    (IsBacked-start c.args.pools u.most u.limit u.call_limit c.requires c.call_limit.ensures.few)
    c.new.ensures.calls refl refl)
    c.new.ensures.sound (within_idle c.args.pools c.requires)

pub returns-clause-sound : goal.returns-clause-sound
returns-clause-sound c = invariant_of-result c
