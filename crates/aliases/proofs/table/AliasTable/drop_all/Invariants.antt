use Rattle.std.proofs.Common.{take}
use Rattle.aliases.specs.Held.{Becomes, without_aliases}
use Rattle.aliases.proofs.table.AliasTable.drop_all.Given as goal

abbrev pub invariant-loop-alias : goal.invariant-loop-alias
invariant-loop-alias l = Becomes l.fn.self l.self
    (without_aliases l.fn.self.held (take l.alias-index l.aliases) l.holder)
