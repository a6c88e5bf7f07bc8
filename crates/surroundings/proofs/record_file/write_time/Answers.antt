use Rattle.std.proofs.Common.{Err, Ok, OnOk, Result, subst, sym}
use Rattle.surroundings.specs.Beginnings.{IsOneLine}
use Rattle.surroundings.proofs.record_file.write_time.Goals as goal

-- what follows from what holds if it went well
on_ok : {A E : Type 0} (result : Result A E) {P Q : Type 0} → (P → Q) → OnOk result P
    → OnOk result Q
on_ok (Ok value) then holds = then holds
on_ok (Err error) then holds = tt

pub returns : goal.returns
returns g c =
    let beginning = c.as_str-beginning.result.now in
    let one_line : IsOneLine beginning =
    subst IsOneLine (sym c.as_str-beginning.ensures.value) c.in_ok-beginning.ensures in
    on_ok c.writeln.result (λ written. (beginning, one_line, written)) c.writeln.ensures.bytes
