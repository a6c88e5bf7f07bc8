use Rattle.std.proofs.Common.{subst, sym}
use Rattle.zone_events.specs.declared.outcome.Outcome.{Outcome}
use Rattle.ras_machine.specs.inside.Parts.{state_of}
use Rattle.ras_machine.specs.State.{State}
use Rattle.ras_machine.specs.Machine.{Hearing}
use Rattle.ras_machine.specs.Courses.{Does}
use Rattle.ras_machine.proofs.Noting.{does_hear}
use Rattle.ras_machine.proofs.machine.Machine.hear_response.Goals as goal

pub returns : goal.returns
returns c =
    let i = c.self.inside in
    let old =
    state_of i.tables i.kept.kept i.clock i.interrogation_number i.next_pool_turn i.steps in
    let id = c.args.endpoint.now in
    let new : State = record old { tables = c.hear.new.self } in
    subst (λ (m : State). Does m c.args.now (Hearing id) c.be_noted.new.self new) c.self.view_is
    (subst (λ (o : Outcome). Does old c.args.now (Hearing id) o new) (sym c.be_noted.ensures)
    (does_hear old c.args.now id c.hear.new.self c.hear.ensures.heard))
