use Rattle.std.proofs.Common.{All, subst, sym}
use Rattle.zone_tables.specs.Pools.{IsIdle}
use Rattle.ras_core.proofs.Members.{All-idle}
use Rattle.ras_core.proofs.zone.Zone.new.Goals as goal

pub new-machine-requires-clause-idle : goal.new-machine-requires-clause-idle
new-machine-requires-clause-idle g c =
    subst (All IsIdle) (sym c.of.ensures.same) (All-idle c.args.pools c.requires)
