use Rattle.std.proofs.Common.{◌≡◌, take, length}
use Rattle.std.specs.Prelude.{vec_capacity}
use Rattle.ras_module.proofs.alias_list.fitting.Given as goal

-- the aliases so far, in the memory that there is from the first
abbrev pub invariant-loop-alias : goal.invariant-loop-alias
invariant-loop-alias l = (l.copy.items ≡ take l.alias-index l.aliases)
    × (vec_capacity l.copy ≡ length l.aliases)
