use Rattle.std.proofs.Common.{◌++◌, codes, subst, List, ℕ}
use Rattle.std.specs.Fmt.{decimal}
use Rattle.std.specs.Prelude.{OnOk}
use Rattle.std.specs.Io.KnownBytes.{Appends}
use Rattle.pools.specs.Replacing.{replace_fault_number}
use Rattle.script.proofs.Printing.{refusal_flat}
use Rattle.script.proofs.print.write_refusal.Goals as goal

pub returns : goal.returns
returns g c =
    let start = g.W.Write.contents c.args.out.now in
    let end = g.W.Write.contents c.writeln.new.self in
    let words : OnOk c.writeln.result (Appends start end (decimal c.args.number
    ++ (codes " not replaced " ++ (decimal (replace_fault_number c.args.fault) ++ codes "\n")))) =
    subst (λ (k : ℕ). OnOk c.writeln.result (Appends start end (decimal c.args.number
    ++ (codes " not replaced " ++ (decimal k ++ codes "\n"))))) c.number.ensures
    c.writeln.ensures.bytes in
    subst (λ (t : List ℕ). OnOk c.writeln.result (Appends start end t))
    (refusal_flat (decimal c.args.number) (codes " not replaced ")
    (decimal (replace_fault_number c.args.fault)) (codes "\n")) words
