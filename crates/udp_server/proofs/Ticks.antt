-- Rounds of a tick, one after the other.
use Rattle.std.proofs.Common.{◌≡◌, ◌<◌, ◌+◌, ◌∷◌, [], List, ℕ, Bool, arith, false, length, refl}
use Rattle.std.proofs.Common.{◌∙◌, sym, true}
use Rattle.std.specs.List.{AllPass}
use Rattle.std.proofs.lemmas.List.Elements.{All-cons, All-head, All-tail}
use Rattle.ras_core.specs.declared.fault.StepFault.TheVariants as step_fault
use Rattle.zone_lock.specs.declared.turns.TurnsEnd.{TurnsEnd}
use Rattle.zone_lock.specs.declared.turns.TurnsEnd.TheVariants as turns_end
use Rattle.udp_server.specs.declared.worker.StepResult.{StepResult}
use Rattle.udp_server.specs.declared.worker.StepResult.TheVariants as result
use Rattle.udp_server.specs.Ticks.{AreRounds, IsTick, Round, goes_on_after_turns, is_more_due}
use Rattle.udp_server.specs.Ticks.{is_more_due_after}
use Rattle.udp_server.specs.Working.{goes_on_after}

-- This many rounds were made so far. More may have been due after each.
pub record AreBusy {Came At : Type 0} (round : Round Came At) (is_more : Came → Bool) (count : ℕ)
    (old new : At) : Type 0 where
  pub all : List Came
  pub rounds : AreRounds round all old new
  pub busy : AllPass is_more all
  pub number : length all ≡ count

pub none_yet : {Came At : Type 0} (round : Round Came At) (is_more : Came → Bool) (old : At)
    → AreBusy round is_more 0 old old
none_yet round is_more old = record {
  all = [];
  rounds = refl;
  busy = λ k d low. absurd (omega arith);
  number = refl;
}

pub one_more : {Came At : Type 0} (round : Round Came At) (is_more : Came → Bool) (count : ℕ)
    (old mid new : At) (came : Came) → AreBusy round is_more count old mid
    → is_more came ≡ true → round came mid new → AreBusy round is_more (count + 1) old new
one_more round is_more count old mid new came so_far more made = record {
  all = came ∷ so_far.all;
  rounds = (mid, so_far.rounds, made);
  busy = All-cons (λ it. is_more it ≡ true) came so_far.all more so_far.busy;
  number = omega (arith, so_far.number);
}

-- no more is due after the last round
pub until_none : {Came At : Type 0} (round : Round Came At) (most : ℕ)
    (is_more goes_on_after : Came → Bool) (goes_on : Bool) (count : ℕ) (old mid new : At) (last : Came)
    → AreBusy round is_more count old mid → count < most → is_more last ≡ false
    → round last mid new → goes_on ≡ goes_on_after last
    → IsTick round most is_more goes_on_after goes_on old new
until_none round most is_more goes_on_after goes_on count old mid new last so_far few none made is =
    record {
      last = last;
      before = so_far.all;
      rounds = (mid, so_far.rounds, made);
      busy = so_far.busy;
      few = omega (arith, so_far.number);
      until = λ more. absurd (cc (more, none));
      end = is;
    }

of_all : {Came At : Type 0} (round : Round Came At) (most : ℕ) (is_more goes_on_after : Came → Bool)
    (old new : At) (all : List Came)
    → ((came : Came) → is_more came ≡ true → goes_on_after came ≡ true)
    → AreRounds round all old new → AllPass is_more all → length all ≡ most → 0 < most
    → IsTick round most is_more goes_on_after true old new
of_all round most is_more goes_on_after old new [] stays rounds busy number some =
    absurd (omega (arith, number, some))
of_all round most is_more goes_on_after old new (last ∷ before) stays rounds busy number some =
    record {
      last = last;
      before = before;
      rounds = rounds;
      busy = All-tail (λ it. is_more it ≡ true) last before busy;
      few = omega (arith, number);
      until = λ more. omega (arith, number);
      end = sym (stays last (All-head (λ it. is_more it ≡ true) last before busy));
    }

-- as many rounds were made as may be, and a worker goes on after each in which more was due
pub as_many_as_may_be : {Came At : Type 0} (round : Round Came At) (most : ℕ)
    (is_more goes_on_after : Came → Bool) (count : ℕ) (old new : At)
    → ((came : Came) → is_more came ≡ true → goes_on_after came ≡ true)
    → AreBusy round is_more count old new → count ≡ most → 0 < most
    → IsTick round most is_more goes_on_after true old new
as_many_as_may_be round most is_more goes_on_after count old new stays so_far is some =
    of_all round most is_more goes_on_after old new so_far.all stays so_far.rounds so_far.busy
    (so_far.number ∙ is) some

-- a worker goes on after turns behind which more may be due
pub stays_after_turns : (why : TurnsEnd) → is_more_due why ≡ true
    → goes_on_after_turns why ≡ true
stays_after_turns turns_end.Idle more = refl
stays_after_turns turns_end.More more = refl
stays_after_turns (turns_end.Refused step_fault.Memory) more = refl
stays_after_turns (turns_end.Refused step_fault.Closed) more = absurd (cc more)

-- and after a turn in which something was due
pub stays_after : (came : StepResult) → is_more_due_after came ≡ true → goes_on_after came ≡ true
stays_after (result.Made place is_idle) more = refl
stays_after result.Refused more = refl
stays_after result.Closed more = absurd (cc more)

-- only turns that were refused because no step is made any more end a worker
pub closed_if_over : (why : TurnsEnd) → goes_on_after_turns why ≡ false
    → why ≡ turns_end.Refused step_fault.Closed
closed_if_over turns_end.Idle over = absurd (cc over)
closed_if_over turns_end.More over = absurd (cc over)
closed_if_over (turns_end.Refused step_fault.Memory) over = absurd (cc over)
closed_if_over (turns_end.Refused step_fault.Closed) over = refl
