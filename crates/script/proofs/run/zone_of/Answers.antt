use Rattle.std.proofs.Common.{map}
use Rattle.script.proofs.Starting.{start_is}
use Rattle.script.proofs.run.zone_of.Goals as goal

pub returns-in-Ok-new-clause-start : goal.returns-in-Ok-new-clause-start
returns-in-Ok-new-clause-start g c =
    start_is c.args.config (map g.P.Pool.account c.args.pools.items) _ _ c.in-Ok.ensures.members
    c.in-Ok-new.ensures.opening c.in-Ok-new.ensures.tallies
