use Rattle.std.proofs.Common.{◌≡◌, ◌≤◌, ◌+◌, ◌*◌, ◌^◌, take}
use Rattle.books.specs.Totals.{no_totals, totals_with}
use Rattle.books.proofs.totals.totals_of.Given as goal

abbrev pub invariant-loop-entry : goal.invariant-loop-entry
invariant-loop-entry l = (l.totals ≡ totals_with no_totals (take l.entry-index l.entries) 0)
    × (l.totals.datagrams + l.totals.turns + l.totals.changes ≡ l.entry-index)
    × (l.totals.lent ≤ 2 ^ 64 * l.entry-index)
