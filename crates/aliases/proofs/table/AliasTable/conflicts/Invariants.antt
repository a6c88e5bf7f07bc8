use Rattle.std.proofs.Common.{◌≡◌, take}
use Rattle.aliases.specs.Held.{conflicts}
use Rattle.aliases.proofs.table.AliasTable.conflicts.Given as goal

abbrev pub invariant-loop-alias : goal.invariant-loop-alias
invariant-loop-alias l = l.list ≡ conflicts l.self.held l.address (take l.alias-index l.aliases)
