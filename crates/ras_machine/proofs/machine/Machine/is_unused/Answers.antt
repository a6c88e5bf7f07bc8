use Rattle.std.proofs.Common.{◌∙◌, ap, refl, subst}
use Rattle.std.specs.Prelude.{IsTrue, not, ◌↔◌}
use Rattle.std.specs.Option.{option_copied}
use Rattle.std.specs.FinMap as fin
use Rattle.ras_machine.specs.State.{State}
use Rattle.ras_machine.specs.Steps.{IsUnusedIn}
use Rattle.ras_machine.proofs.Readying.{nobody_has, unused_by}
use Rattle.ras_machine.proofs.machine.Machine.is_unused.Goals as goal

pub returns-then-is_none : goal.returns-then-is_none
returns-then-is_none c =
    let i = c.self.inside in
    let id = c.args.id.now in
    subst (λ (m : State). IsTrue (not c.is_named.result) ↔ IsUnusedIn m id) c.self.view_is
    (unused_by i.tables.live i.kept.kept id
    (nobody_has option_copied c.get.result (fin.get i.tables.live id) refl
    (c.get.ensures.found ∙ ap (λ live. fin.get live id) c.registrations.ensures.live)
    c.is_none.result c.is_none.ensures
    c.if-is_none.true)
    c.as_slice.ensures.text c.is_named.result c.is_named.ensures)
