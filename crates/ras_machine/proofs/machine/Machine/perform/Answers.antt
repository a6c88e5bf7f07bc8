use Rattle.std.proofs.Common.{rules, ◌∙◌, ℕ, List, [], ap, refl, subst, sym}
use Rattle.std.specs.Prelude.{Option}
use Rattle.std.specs.Option.{option_copied}
use Rattle.zone_tables.proofs.Answered.{on_ok}
use Rattle.ras_requests.specs.Planned.{settlement_under}
use Rattle.ras_machine.specs.State.{State}
use Rattle.ras_machine.specs.Courses.{CarriesOut, Does, Performs, Stands, course_of}
use Rattle.ras_machine.specs.Steps.{IsAskedOnce, choices_of}
use Rattle.zone_tables.specs.Pools.{RequestedUnits}
use Rattle.ras_machine.specs.inside.Parts.{state_of}
use Rattle.ras_machine.proofs.Carrying.{asked_nothing}
use Rattle.ras_machine.proofs.Performing.{performed, stepped}
use Rattle.ras_machine.proofs.Tasks.{asked_asks, asked_does, asks_so, does_so, named_asks}
use Rattle.ras_machine.proofs.Tasks.{named_does, renewed_asks, renewed_does}
use Rattle.ras_machine.proofs.Tasks.{settled_asks, settled_does}
use Rattle.ras_machine.proofs.Waiting.{waiting_after}
use Rattle.ras_machine.proofs.machine.Machine.perform.Goals as goal
use Rattle.ras_machine.proofs.machine.Machine.perform.Goals.{in-Ignoring, in-Hearing, in-Repeating}
use Rattle.ras_machine.proofs.machine.Machine.perform.Goals.{in-Idle, in-Doing+in_ok-do_item-in-Doing}
use Rattle.ras_machine.proofs.machine.Machine.perform.Goals.{in-Serving+in-Settled+in_ok-carry_out-in-Settled}
use Rattle.ras_machine.proofs.machine.Machine.perform.Goals.{in-Serving+in-Renewing+in_ok-renew-in-Renewing}
use Rattle.ras_machine.proofs.machine.Machine.perform.Goals.{in-Serving+in-Naming+in_ok-settlement-in-Naming+in_ok-carry_out-in-Naming}
use Rattle.ras_machine.proofs.machine.Machine.perform.Goals.{in-Serving+in-Asking+in_ok-request_units-in-Asking}

pub returns-clause-performs : goal.returns-clause-performs
returns-clause-performs g c =
    let old = c.args.self.now in
    let now = c.args.now in
    let i = c.self-2.inside in
    let left =
    state_of i.tables i.kept.kept i.clock i.interrogation_number i.next_pool_turn i.steps in
    let called = c.args.course in
    let course = course_of old now called in
    let outcome = c.match-course.outcome in
    let after = c.match-course.self in
    let done : Does old now course outcome after = elim c.match-course.branch [
      | in-Ignoring w ↦ search rules
      | in-Hearing w ↦ search rules
      | in-Repeating w ↦ search rules
      | in-Serving+in-Settled+in_ok-carry_out-in-Settled w ↦
          (let task = w.in-Serving.task in
          let is = subst (Stands old now) w.in-Serving.is c.requires.stands in
          let new = w.carry_out.new in
          let carries = on_ok w.carry_out.result w.in_ok-carry_out-in-Settled.field-0
          w.in_ok-carry_out-in-Settled.was w.carry_out.ensures.does in
          does_so old now called _ w.in-Serving.is outcome new.outcome w.outcome-is after new.self
          w.self-is
          (settled_does old now task is w.in-Settled.settlement w.in-Settled.is new.outcome new.self
          carries))
      | in-Serving+in-Renewing+in_ok-renew-in-Renewing w ↦
          (let task = w.in-Serving.task in
          let is = subst (Stands old now) w.in-Serving.is c.requires.stands in
          let new = w.renew.new in
          let keeps = on_ok w.renew.result w.in_ok-renew-in-Renewing.field-0
          w.in_ok-renew-in-Renewing.was w.renew.ensures.does in
          does_so old now called _ w.in-Serving.is outcome new.outcome w.outcome-is after new.self
          w.self-is
          (renewed_does old now task is w.in-Renewing.time w.in-Renewing.is new.outcome new.self
          keeps))
      | in-Serving+in-Naming+in_ok-settlement-in-Naming+in_ok-carry_out-in-Naming w ↦
          (let task = w.in-Serving.task in
          let is = subst (Stands old now) w.in-Serving.is c.requires.stands in
          let new = w.carry_out-in-Naming.new in
          let id = w.unwrap-id.result.now in
          let d = w.in_ok-settlement-in-Naming.settlement in
          let d_is = w.in_ok-settlement-in-Naming.ensures
          ∙ ap (λ n. settlement_under n id) w.into_inner.ensures in
          let given = sym w.as_ref.ensures.value ∙ ap option_copied w.unwrap-id.ensures in
          let carries = subst (λ (w : Option (List ℕ)). CarriesOut old now task.job task.request d w
          new.outcome new.self) given
          (on_ok w.carry_out-in-Naming.result w.in_ok-carry_out-in-Naming.field-0
          w.in_ok-carry_out-in-Naming.was w.carry_out-in-Naming.ensures.does) in
          does_so old now called _ w.in-Serving.is outcome new.outcome w.outcome-is after new.self
          w.self-is
          (named_does old now task is w.in-Naming.newcomer w.in-Naming.is id d d_is new.outcome
          new.self carries))
      | in-Serving+in-Asking+in_ok-request_units-in-Asking w ↦
          (let task = w.in-Serving.task in
          let is = subst (Stands old now) w.in-Serving.is c.requires.stands in
          let new = w.request_units.new in
          let serves = on_ok w.request_units.result w.in_ok-request_units-in-Asking.field-0
          w.in_ok-request_units-in-Asking.was w.request_units.ensures.does in
          does_so old now called _ w.in-Serving.is outcome new.outcome w.outcome-is after new.self
          w.self-is
          (asked_does old now task is w.in-Asking.units w.in-Asking.is new.outcome new.self serves))
      | in-Doing+in_ok-do_item-in-Doing w ↦ search rules
      | in-Idle w ↦ search rules
    ] in
    let does = subst (λ (m : State). Does old now course outcome m) (sym c.self-2.view_is) done in
    let waiting = waiting_after old now c.requires.sound.waiting called (choices_of outcome) outcome
    left does.makes in
    subst (λ (m : State). Performs old now course outcome m)
    (ap (λ (m : State). stepped left now m.steps) (sym c.self.view_is))
    (performed old i.tables i.kept i.clock i.interrogation_number i.next_pool_turn i.steps now
    course outcome does waiting c.requires.sound c.self-2.invariant c.requires.moment
    c.requires.few)

pub returns-clause-asks : goal.returns-clause-asks
returns-clause-asks g c =
    let old = c.args.self.now in
    let now = c.args.now in
    let called = c.args.course in
    let outcome = c.match-course.outcome in
    let lends = g.L.Lender.lends in
    let was = c.args.lender.now in
    let left = c.match-course.lender in
    elim c.match-course.branch [
      | in-Ignoring w ↦ search rules
      | in-Hearing w ↦ search rules
      | in-Repeating w ↦ search rules
      | in-Serving+in-Settled+in_ok-carry_out-in-Settled w ↦
          (let is = subst (Stands old now) w.in-Serving.is c.requires.stands in
          let new = w.carry_out.new in
          asks_so old now called _ w.in-Serving.is outcome new.outcome w.outcome-is lends was left
          was w.lender-is
          (asked_nothing lends was old.tables.pools _ new.outcome.answer
          (settled_asks old now w.in-Serving.task is w.in-Settled.settlement w.in-Settled.is)))
      | in-Serving+in-Renewing+in_ok-renew-in-Renewing w ↦
          (let is = subst (Stands old now) w.in-Serving.is c.requires.stands in
          let new = w.renew.new in
          asks_so old now called _ w.in-Serving.is outcome new.outcome w.outcome-is lends was left
          was w.lender-is
          (asked_nothing lends was old.tables.pools _ new.outcome.answer
          (renewed_asks old now w.in-Serving.task is w.in-Renewing.time w.in-Renewing.is)))
      | in-Serving+in-Naming+in_ok-settlement-in-Naming+in_ok-carry_out-in-Naming w ↦
          (let is = subst (Stands old now) w.in-Serving.is c.requires.stands in
          let new = w.carry_out-in-Naming.new in
          let n = w.in-Naming.newcomer in
          asks_so old now called _ w.in-Serving.is outcome new.outcome w.outcome-is lends was left
          was w.lender-is
          (asked_nothing lends was old.tables.pools _ new.outcome.answer
          (named_asks old now w.in-Serving.task is n w.in-Naming.is [] (settlement_under n [])
          refl)))
      | in-Serving+in-Asking+in_ok-request_units-in-Asking w ↦
          (let is = subst (Stands old now) w.in-Serving.is c.requires.stands in
          let new = w.request_units.new in
          let asks = on_ok w.request_units.result w.in_ok-request_units-in-Asking.field-0
          w.in_ok-request_units-in-Asking.was w.request_units.ensures.asks in
          asks_so old now called _ w.in-Serving.is outcome new.outcome w.outcome-is lends was left
          new.lender w.lender-is
          (subst (λ (ask : Option RequestedUnits). IsAskedOnce lends was old.tables.pools ask
          new.outcome.answer new.lender)
          (sym (asked_asks old now w.in-Serving.task is w.in-Asking.units w.in-Asking.is)) asks))
      | in-Doing+in_ok-do_item-in-Doing w ↦ search rules
      | in-Idle w ↦ search rules
    ]
