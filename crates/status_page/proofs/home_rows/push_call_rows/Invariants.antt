use Rattle.std.proofs.Common.{◌≡◌, ◌++◌, drop}
use Rattle.std.specs.String.{string_bytes}
use Rattle.status_page.specs.HomeRows.{call_rows}
use Rattle.status_page.proofs.home_rows.push_call_rows.Given as goal

-- what was written, with what is left to be written, is the whole text
abbrev pub invariant-loop-row : goal.invariant-loop-row
invariant-loop-row l = string_bytes l.out ++ call_rows (drop l.row-index l.rows)
    ≡ string_bytes l.initial.out ++ call_rows l.rows
