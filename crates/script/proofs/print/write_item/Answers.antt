use Rattle.std.proofs.Common.{sym, subst, codes}
use Rattle.std.specs.Prelude.{OnOk}
use Rattle.std.specs.Io.KnownBytes.{Appends}
use Rattle.zone_events.specs.declared.due_item.DueItem.{DueItem}
use Rattle.script.specs.Prints.{identifier_text, item_text}
use Rattle.script.proofs.KnownBytes.{appends_then_on_ok}
use Rattle.script.proofs.print.write_item.Goals as goal

pub returns-in_ok-write_all-in-RegistrationOver : goal.returns-in_ok-write_all-in-RegistrationOver
returns-in_ok-write_all-in-RegistrationOver g c =
    let start = g.W.Write.contents c.args.out.now in
    let mid = g.W.Write.contents c.write_all.new.self in
    let end = g.W.Write.contents c.write_identifier.new.out in
    subst (λ (item : DueItem). OnOk c.write_identifier.result (Appends start end (item_text item)))
    (sym c.in-RegistrationOver.is)
    (appends_then_on_ok c.write_identifier.result start mid end (codes "registration-over ")
    (identifier_text c.in-RegistrationOver.id)
    c.in_ok-write_all-in-RegistrationOver.ensures.bytes c.write_identifier.ensures)

pub returns-in_ok-write_all-in-Interrogate : goal.returns-in_ok-write_all-in-Interrogate
returns-in_ok-write_all-in-Interrogate g c =
    let start = g.W.Write.contents c.args.out.now in
    let mid = g.W.Write.contents c.write_all-in-Interrogate.new.self in
    let end = g.W.Write.contents c.write_identifier-in-Interrogate.new.out in
    subst (λ (item : DueItem). OnOk c.write_identifier-in-Interrogate.result
    (Appends start end (item_text item))) (sym c.in-Interrogate.is)
    (appends_then_on_ok c.write_identifier-in-Interrogate.result start mid end
    (codes "interrogate ") (identifier_text c.in-Interrogate.id)
    c.in_ok-write_all-in-Interrogate.ensures.bytes c.write_identifier-in-Interrogate.ensures)
