use Rattle.std.proofs.Common.{ℕ, subst, sym}
use Rattle.std.specs.Prelude.{IsTrue, ◌↔◌}
use Rattle.kept_replies.specs.Kept.{NonePasses, is_over}
use Rattle.ras_machine.specs.Machine.{Ignoring}
use Rattle.ras_machine.specs.State.{State}
use Rattle.ras_machine.specs.Courses.{IsReady}
use Rattle.ras_machine.proofs.Readying.{none_found}
use Rattle.ras_machine.proofs.machine.Machine.may_ignore.Goals as goal

pub returns-in-Busy : goal.returns-in-Busy
returns-in-Busy c =
    let s = c.args.self.now in
    let now = c.args.now in
    let none = c.is_none.result in
    subst (λ k. IsTrue none ↔ IsReady s now (Ignoring k)) (sym c.in-Busy.is)
    (subst (λ (m : State). IsTrue none ↔ NonePasses (is_over now) m.kept) c.self.view_is
    (subst (λ (n : ℕ). IsTrue none ↔ NonePasses (is_over n) c.self.inside.kept.kept)
    c.milliseconds.ensures.same
    (none_found c.self.inside.kept c.over.ensures.sound (is_over c.milliseconds.result)
    c.over.result c.over.ensures.found none c.is_none.ensures)))
