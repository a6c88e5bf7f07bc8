use Rattle.std.proofs.Common.{◌≡◌, ◌≤◌, ◌+◌, take}
use Rattle.aliases.specs.Held.{with_aliases}
use Rattle.aliases.proofs.table.AliasTable.set_all.Given as goal

abbrev pub invariant-loop-alias : goal.invariant-loop-alias
invariant-loop-alias l =
    (l.self.held ≡ with_aliases l.fn.self.held (take l.alias-index l.aliases) l.holder l.address)
    × (l.fn.self.room ≤ l.self.room + l.alias-index)
