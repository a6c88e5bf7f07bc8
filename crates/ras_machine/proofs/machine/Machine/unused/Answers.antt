use Rattle.std.proofs.Common.{ℕ, List, subst}
use Rattle.registrations.specs.Registry.{IsUnused, Live}
use Rattle.ras_machine.specs.State.{State}
use Rattle.ras_machine.specs.Unused.{IsUnusedFor}
use Rattle.ras_machine.proofs.Readying.{unused_of_told}
use Rattle.ras_machine.proofs.machine.Machine.unused.Goals as goal

pub returns : goal.returns
returns c =
    let i = c.self.inside in
    let id = c.unused.result in
    subst (λ (m : State). IsUnusedFor m.tables.live m.kept id) c.self.view_is
    (unused_of_told i.tables.live i.kept.kept id c.in_ok-told.told.items
    (subst (λ (taken : List (List ℕ)). IsUnused i.tables.live taken id) c.deref.ensures.value
    (subst (λ (live : Live). IsUnused live c.deref.result.now id) c.registrations-2.ensures.live
    c.unused.ensures.unused)) c.in_ok-told.ensures)
