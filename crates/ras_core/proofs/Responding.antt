-- A step of the machine, with the pools, is one of the gatekeeper as it runs.
use Rattle.std.proofs.Common.{◌≡◌, ◌<◌, ◌≤◌, ◌∙◌, ◌+◌, ℕ, Bool, true, false, List, ap, subst, sym}
use Rattle.std.proofs.Common.{None}
use Rattle.std.proofs.Common.{arith}
use Rattle.std.specs.Prelude.{IsTrue, nat_lt, ◌↔◌, if◌then◌else◌}
use Rattle.std.proofs.lemmas.Bool.Decides.{nat_tests}
use Rattle.keyed.proofs.Decide.{by_place}
use Rattle.pools.specs.declared.interface.Figures.{Figures}
use Rattle.pools.specs.Members.{Member, accounts_of}
use Rattle.zone_events.specs.declared.event.Event.{Event}
use Rattle.zone_events.specs.declared.outcome.Outcome.{Outcome}
use Rattle.zone_tables.specs.Leaving.{AreSameButLent}
use Rattle.zone_tables.specs.Pools.{figures_of}
use Rattle.ras_machine.specs.State.{State}
use Rattle.ras_machine.specs.Machine.{Course, at_moment, course}
use Rattle.ras_machine.specs.Machine.{course_ending, moment_of, most_steps}
use Rattle.ras_machine.specs.Steps.{IsAskedOnce, ask_in, choices_of, pools_after_ask}
use Rattle.ras_machine.specs.Courses.{Performs, Stands, course_of, may_return_units_in}
use Rattle.ras_machine.specs.declared.course.Course as code
use Rattle.ras_machine.proofs.Returning.{none_returned}
use Rattle.ras_core.specs.Running.{Running}
use Rattle.ras_core.specs.Runs.{RunningStep}
use Rattle.ras_core.specs.Tallies.{Tally, tallies_after, tallies_of}
use Rattle.ras_core.specs.inside.PoolTurns.{is_pool_turn, tallies_turned}
use Rattle.ras_core.proofs.Members.{answers_of, figures-asked, tallies-asked}
use Rattle.ras_core.proofs.PoolTurns.{turned}

-- what the pools have after they were asked is what the machine keeps, but for units that come back
pub to_be_settled : (old new : State) (now : ℕ) (c : Course) (outcome : Outcome)
    (before asked : List Member) → figures_of (accounts_of before) ≡ old.tables.pools
    → Performs old now c outcome new
    → IsAskedOnce answers_of before old.tables.pools (ask_in c) outcome.answer asked
    → AreSameButLent (figures_of (accounts_of asked)) new.tables.pools
to_be_settled old new now c outcome before asked same performs asks =
    subst (λ fs. AreSameButLent fs new.tables.pools)
    (sym (figures-asked before asked old.tables.pools (ask_in c) outcome.answer asks
    ∙ ap (λ fs. pools_after_ask fs (ask_in c) outcome.answer) same)) performs.pools

-- and it is just that, in a course in which none come back
pub nothing_to_settle : (s new : State) (now : ℕ) (c : code.Course) (outcome : Outcome)
    (before asked : List Member) → figures_of (accounts_of before) ≡ s.tables.pools
    → Stands s now c → may_return_units_in c ≡ false
    → Performs s now (course_of s now c) outcome new
    → IsAskedOnce answers_of before s.tables.pools (ask_in (course_of s now c)) outcome.answer asked
    → figures_of (accounts_of asked) ≡ new.tables.pools
nothing_to_settle s new now c outcome before asked same stands still performs asks =
    figures-asked before asked s.tables.pools (ask_in (course_of s now c)) outcome.answer asks
    ∙ ap (λ fs. pools_after_ask fs (ask_in (course_of s now c)) outcome.answer) same
    ∙ sym (none_returned s now outcome new c stands still performs)

-- a machine that isn't closed may make one step more
pub open_below : (steps most : ℕ) (closed : Bool) → (IsTrue closed ↔ (steps ≡ most))
    → closed ≡ false → steps ≤ most → steps < most
open_below steps most closed closes is_open least =
    by_place steps most (steps < most) (λ same. absurd (cc (sym (closes.1 same) ∙ is_open)))
    (λ differ. omega (arith, differ, least))

pub running_step : (old : Running) (what : Event) (outcome : Outcome) (new : State)
    (tallies : List Tally) → old.state.steps < most_steps
    → Performs old.state (moment_of old.state what) (course old.state what (choices_of outcome))
    outcome new
    → tallies ≡ tallies_after old.tallies (course old.state what (choices_of outcome))
    outcome.answer
    → RunningStep old what outcome (record { state = new; tallies = tallies })
running_step old what outcome new tallies few p counted =
    let s = old.state in
    let now = moment_of s what in
    let ending = course_ending s now (course s what (choices_of outcome)) (choices_of outcome) in
    let below : nat_lt s.steps most_steps ≡ true = grind (arith, nat_tests) in
    record {
      step = record {
        allowed = p.allowed;
        makes = ap (λ b. if b then at_moment now (s.steps + 1) ending else None) below ∙ p.makes;
      };
      tallies = counted;
      few = p.few;
      sound = p.sound;
    }

-- the tallies of the pools after they were asked and turned
pub tallies_counted : (before asked after : List Member) (pools : List Figures) (c : Course)
    (outcome : Outcome)
    → IsAskedOnce answers_of before pools (ask_in c) outcome.answer asked
    → tallies_of after ≡ tallies_turned (tallies_of asked) (is_pool_turn c)
    → tallies_of after ≡ tallies_after (tallies_of before) c outcome.answer
tallies_counted before asked after pools c outcome asks turns =
    turns ∙ (ap (λ ts. tallies_turned ts (is_pool_turn c))
    (tallies-asked before asked pools (ask_in c) outcome.answer asks)
    ∙ turned (tallies_of before) c outcome.answer)
