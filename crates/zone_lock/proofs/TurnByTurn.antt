-- Turns, and one more.
use Rattle.std.proofs.Common.{◌≡◌, ℕ, List, [], ◌∷◌, ◌++◌, refl, sym, ◌∙◌, ap, subst}
use Rattle.std.specs.Prelude.{None, option_to_list}
use Rattle.std.proofs.lemmas.List.{append-nil, append_assoc}
use Rattle.zone_events.specs.declared.outcome.Outcome.{Outcome}
use Rattle.ras_machine.specs.State.{State}
use Rattle.ras_core.specs.Runs.{RunningChange}
use Rattle.ras_core.specs.declared.fault.StepFault.TheVariants as fault
use Rattle.zone_events.specs.declared.outcome.Datagram.{Datagram}
use Rattle.zone_lock.specs.Held.{Held, IsClosed, IsEntered, IsKept, entry_by}
use Rattle.zone_lock.specs.Seats.{Seated, seated_after}
use Rattle.zone_lock.specs.Turns.{AreTurns, AreTurnsMade, IsEndOf, counts_after}
use Rattle.zone_lock.specs.Turns.{seated_after_turns, sent_of, turn_at}
use Rattle.zone_view.specs.Counts.{with_step}
use Rattle.zone_view.specs.StepCounts.{counts_of}
use Rattle.zone_lock.specs.declared.turns.TurnsEnd.{TurnsEnd}
use Rattle.zone_lock.specs.declared.turns.TurnsEnd.TheVariants as end

pub seated_more : (seat : Seated) (moment : ℕ) (os : List Outcome) (o : Outcome)
    → seated_after_turns seat moment (os ++ o ∷ [])
    ≡ seated_after (seated_after_turns seat moment os) (turn_at moment) o
seated_more seat moment [] o = refl
seated_more seat moment (x ∷ os) o = seated_more (seated_after seat (turn_at moment) x) moment os o

pub sent_more : (os : List Outcome) (o : Outcome)
    → sent_of (os ++ o ∷ []) ≡ sent_of os ++ option_to_list o.output
sent_more [] o = append-nil (option_to_list o.output)
sent_more (x ∷ os) o = ap (λ ds. option_to_list x.output ++ ds) (sent_more os o)
    ∙ sym (append_assoc (option_to_list x.output) (sent_of os) (option_to_list o.output))

pub counts_more : (counts : List ℕ) (os : List Outcome) (o : Outcome)
    → counts_after counts (os ++ o ∷ []) ≡ with_step (counts_of None o) (counts_after counts os)
counts_more counts [] o = refl
counts_more counts (x ∷ os) o = counts_more (with_step (counts_of None x) counts) os o

pub turns_more : (opened : State) (seat : Seated) (moment : ℕ) (old mid new : Held)
    (os : List Outcome) (o : Outcome) → AreTurns opened seat moment old os mid
    → RunningChange mid.zone (turn_at moment) o new.zone
    → IsEntered opened mid (entry_by (seated_after_turns seat moment os).number
    (seated_after_turns seat moment os).calls (turn_at moment) o) new
    → AreTurns opened seat moment old (os ++ o ∷ []) new
turns_more opened seat moment old mid new [] o turns step entered = (
  new,
  subst (λ (h : Held). RunningChange h.zone (turn_at moment) o new.zone) turns step,
  subst (λ (h : Held). IsEntered opened h (entry_by seat.number seat.calls (turn_at moment) o) new)
      turns entered,
  refl,
)
turns_more opened seat moment old mid new (x ∷ os) o turns step entered = (
  turns.0,
  turns.1,
  turns.2,
  turns_more opened (seated_after seat (turn_at moment) x) moment turns.0 mid new os o turns.3 step
      entered,
)

-- One turn more, by the seat that made those before it.
module _ (opened : State) (seat : Seated) (moment : ℕ) (old mid new : Held) (os : List Outcome)
    (o : Outcome) (seat_mid seat_then : Seated)
    (same : seat_mid ≡ seated_after_turns seat moment os) where
  pub one_more : AreTurns opened seat moment old os mid
      → RunningChange mid.zone (turn_at moment) o new.zone
      → IsEntered opened mid (entry_by seat_mid.number seat_mid.calls (turn_at moment) o) new
      → AreTurns opened seat moment old (os ++ o ∷ []) new
  one_more turns step entered = turns_more opened seat moment old mid new os o turns step
      (subst (λ (s : Seated). IsEntered opened mid (entry_by s.number s.calls (turn_at moment) o)
      new) same entered)

  pub seat_one_more : seat_then ≡ seated_after seat_mid (turn_at moment) o
      → seat_then ≡ seated_after_turns seat moment (os ++ o ∷ [])
  seat_one_more is = is ∙ (ap (λ (s : Seated). seated_after s (turn_at moment) o) same
      ∙ sym (seated_more seat moment os o))

-- what it sends stands behind what they sent
pub sent_one_more : (before now : List Datagram) (os : List Outcome) (o : Outcome)
    → before ≡ sent_of os → now ≡ before ++ option_to_list o.output → now ≡ sent_of (os ++ o ∷ [])
sent_one_more before now os o sent is =
    is ∙ (ap (λ ds. ds ++ option_to_list o.output) sent ∙ sym (sent_more os o))

-- what is counted of it is added to what was counted of them
pub counts_one_more : (counts before now : List ℕ) (os : List Outcome) (o : Outcome)
    → before ≡ counts_after counts os → now ≡ with_step (counts_of None o) before
    → now ≡ counts_after counts (os ++ o ∷ [])
counts_one_more counts before now os o was is =
    is ∙ (ap (λ ns. with_step (counts_of None o) ns) was ∙ sym (counts_more counts os o))

-- a turn that was refused as closed saw that as many steps were made as there may be
pub closed_by_turns : (opened : State) (seat : Seated) (moment most : ℕ) (old : Held)
    (sent : List Datagram) (why : TurnsEnd) (new : Held) (seat_then : Seated)
    (counts counts_then : List ℕ)
    → AreTurnsMade opened seat moment most old sent why new seat_then counts counts_then → IsKept opened new
    → why ≡ end.Refused fault.Closed → IsClosed opened
closed_by_turns opened seat moment most old sent why new seat_then counts counts_then made kept is =
    let ended = subst (λ (w : TurnsEnd). IsEndOf w most made.outcomes new) is made.ended in
    record { held = new; kept = kept; steps = ended.1.0 refl }
