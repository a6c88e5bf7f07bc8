use Rattle.std.proofs.Common.{◌≡◌, map, take}
use Rattle.pools.specs.Specs.{account_of}
use Rattle.commands.proofs.boxed_pools.are_new.Given as goal

abbrev pub invariant-loop-i : goal.invariant-loop-i
invariant-loop-i g l = map g.P.Pool.account (take l.i l.pools) ≡ map account_of (take l.i l.specs)
