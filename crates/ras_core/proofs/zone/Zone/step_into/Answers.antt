use Rattle.std.proofs.Common.{◌≡◌, ◌∙◌, ap, subst, sym}
use Rattle.std.specs.Prelude.{max}
use Rattle.zone_events.specs.Events.{moment_in}
use Rattle.ras_core.specs.Running.{Running}
use Rattle.ras_machine.specs.Machine.{course, course_at, moment_of, most_steps}
use Rattle.ras_machine.specs.Steps.{choices_of}
use Rattle.ras_machine.specs.Courses.{IsChosen, Performs, course_of}
use Rattle.ras_machine.proofs.Choosing.{ready_of, course_shown}
use Rattle.pools.specs.Members.{accounts_of}
use Rattle.zone_tables.specs.Leaving.{AreSameButLent}
use Rattle.zone_tables.specs.Pools.{figures_of}
use Rattle.zone_tables.proofs.Answered.{on_ok}
use Rattle.ras_core.specs.Runs.{RunningStep}
use Rattle.ras_core.specs.Tallies.{tallies_after, tallies_of}
use Rattle.ras_core.specs.inside.PoolTurns.{tallies_turned}
use Rattle.ras_core.proofs.Responding.{nothing_to_settle, open_below, running_step}
use Rattle.ras_core.proofs.Responding.{tallies_counted, to_be_settled}
use Rattle.ras_core.proofs.zone.Zone.step_into.Goals as goal

pub perform-requires-clause-ready : goal.perform-requires-clause-ready
perform-requires-clause-ready g c =
    let s = c.self.inside.machine in
    let now = c.later-now.result in
    ready_of s now c.args.prepared c.in_ok-course.course
    (subst (λ e. IsChosen s now e c.in_ok-course.course) c.into_arrival.ensures.event
    (c.in_ok-course.ensures (moment_in c.args.prepared)))

pub perform-requires-clause-stands : goal.perform-requires-clause-stands
perform-requires-clause-stands g c =
    (c.in_ok-course.ensures (moment_in c.args.prepared)).calls.stands

pub settle-requires-clause-none : goal.settle-requires-clause-none
settle-requires-clause-none g c =
    let i = c.self.inside in
    λ still. nothing_to_settle i.machine c.perform.new.self c.later-now.result
    c.in_ok-course.course c.perform.new.outcome i.pools c.perform.new.lender
    c.self.invariant.pools (c.in_ok-course.ensures (moment_in c.args.prepared)).calls.stands
    (sym c.may_return_units-returns.ensures ∙ still)
    (on_ok c.perform.result c.in_ok-perform.field-0 c.in_ok-perform.was c.perform.ensures.performs)
    (on_ok c.perform.result c.in_ok-perform.field-0 c.in_ok-perform.was c.perform.ensures.asks)
    ∙ sym c.pools.ensures

pub settle-requires-clause-same : goal.settle-requires-clause-same
settle-requires-clause-same g c =
    let i = c.self.inside in
    let now = c.later-now.result in
    let called = course_of i.machine now c.in_ok-course.course in
    subst (AreSameButLent (figures_of (accounts_of c.perform.new.lender))) (sym c.pools.ensures)
    (to_be_settled i.machine c.perform.new.self now called c.perform.new.outcome i.pools
    c.perform.new.lender c.self.invariant.pools (on_ok c.perform.result c.in_ok-perform.field-0
    c.in_ok-perform.was
    c.perform.ensures.performs)
    (on_ok c.perform.result c.in_ok-perform.field-0 c.in_ok-perform.was
    c.perform.ensures.asks))

pub returns-clause-step : goal.returns-clause-step
returns-clause-step g c =
    let i = c.self.inside in
    let s = i.machine in
    let now = c.later-now.result in
    let what = c.args.prepared in
    let new = c.perform.new.self in
    let outcome = c.perform.new.outcome in
    let performs = (on_ok c.perform.result c.in_ok-perform.field-0 c.in_ok-perform.was
    c.perform.ensures.performs) in
    let chosen = subst (λ e. IsChosen s now e c.in_ok-course.course)
    c.into_arrival.ensures.event (c.in_ok-course.ensures (moment_in what)) in
    let clock_is = c.clock.ensures ∙ sym (ap (λ (r : Running). r.state.clock) c.self.view_is) in
    let now_is : now ≡ moment_of s what =
    c.later-now.ensures.later ∙ (λ j. max (clock_is j) (c.moment.ensures j)) in
    let course_is : course_of s now c.in_ok-course.course ≡ course s what (choices_of outcome) =
    course_shown s now what c.in_ok-course.course chosen outcome new performs
    ∙ ap (λ n. course_at s n what (choices_of outcome)) now_is in
    let counted = tallies_counted i.pools c.perform.new.lender c.settle.new.pools s.tables.pools
    (course_of s now c.in_ok-course.course) outcome (on_ok c.perform.result c.in_ok-perform.field-0
    c.in_ok-perform.was
    c.perform.ensures.asks)
    (c.settle.ensures.tallies
    ∙ ap (tallies_turned (tallies_of c.perform.new.lender)) (c.is_pool_turn-turn.ensures s now)) in
    let few = open_below s.steps most_steps c.is_closed.result c.is_closed.ensures
    c.if-is_closed.false c.self.invariant.sound.steps in
    subst (λ (r : Running). RunningStep r what outcome
    (record { state = new; tallies = tallies_of c.settle.new.pools })) c.self.view_is
    (running_step (record { state = s; tallies = tallies_of i.pools }) what outcome new
    (tallies_of c.settle.new.pools) few
    (subst (λ n. Performs s n (course s what (choices_of outcome)) outcome new) now_is
    (subst (λ k. Performs s now k outcome new) course_is performs))
    (counted ∙ ap (λ k. tallies_after (tallies_of i.pools) k outcome.answer) course_is))
