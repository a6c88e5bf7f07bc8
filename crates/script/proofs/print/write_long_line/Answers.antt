use Rattle.std.proofs.Common.{◌++◌, codes}
use Rattle.std.specs.Fmt.{decimal}
use Rattle.std.proofs.KnownBytes.{Appends-trans}
use Rattle.script.specs.Prints.{note_text, answer_text, dropped_text, output_text}
use Rattle.script.proofs.KnownBytes.{appends_then_on_ok}
use Rattle.script.proofs.print.write_long_line.Goals as goal

pub returns : goal.returns
returns g c =
    let outcome = c.args.outcome.now in
    let start = g.W.Write.contents c.args.out.now in
    let one = g.W.Write.contents c.write_front.new.out in
    let two = g.W.Write.contents c.write_output.new.out in
    let end = g.W.Write.contents c.write_all.new.self in
    let front = decimal c.args.number ++ codes " " ++ note_text outcome.note
    ++ answer_text outcome.answer ++ dropped_text outcome.dropped in
    let output = output_text outcome.output in
    appends_then_on_ok c.write_all.result start two end (front ++ output) (codes "\n")
    (Appends-trans start one two front output c.in_ok-write_front.ensures
    c.in_ok-write_output.ensures)
    c.write_all.ensures.bytes
