-- What is left of a book that is run again.
use Rattle.std.proofs.Common.{◌≡◌, ◌<◌, ◌≤◌, ◌+◌, ◌∙◌, ℕ, suc, Bool, true, false, List, ◌∷◌, length}
use Rattle.std.proofs.Common.{drop, get_or, sym, ap, subst, arith}
use Rattle.std.specs.Prelude.{IsTrue, ◌↔◌}
use Rattle.std.proofs.Math.ListN.{drop_of_length-le}
use Rattle.std.proofs.Math.Seq.{drop-cons}
use Rattle.keyed.proofs.Decide.{same_some}
use Rattle.zone_events.specs.declared.change.Change.{Change}
use Rattle.zone_events.specs.declared.change.Change.TheVariants as change
use Rattle.zone_events.specs.declared.event.Event.{Event}
use Rattle.zone_events.specs.declared.outcome.Outcome.{Outcome}
use Rattle.ras_machine.specs.State.{State}
use Rattle.ras_machine.specs.Soundness.{Sound}
use Rattle.ras_machine.specs.Steps.{Step}
use Rattle.ras_core.specs.Runs.{ChangeStep}
use Rattle.books.specs.declared.book.Entry.{Entry}
use Rattle.books.specs.Books.{BookRun}
use Rattle.step_check.specs.Redoing.{Redoes}

-- an event and an outcome leave one state
one_after_event : (s : State) (event : Event) (outcome : Outcome) (a b : State)
    → Step s event outcome a → Step s event outcome b → a ≡ b
one_after_event s event outcome a b first second =
    ap (λ (e : Outcome × State). e.1)
    (same_some (outcome, a) (outcome, b) (sym first.makes ∙ second.makes))

-- and so do a replacement and an outcome
one_after : (s : State) (what : Change) (outcome : Outcome) (a b : State)
    → ChangeStep s what outcome a → ChangeStep s what outcome b → a ≡ b
one_after s (change.Event event) outcome a b first second =
    one_after_event s event outcome a b first second
one_after s (change.PoolChange replacement) outcome a b first second =
    first.makes ∙ sym second.makes

-- From the state at which the machine stands, the rest of the entries leads to a state if and only
-- if all entries lead to that state from the base.
pub record IsLeft (base : State) (all : List Entry) (now : State) (rest : List Entry) : Type 0 where
  pub whole : (end : State) → BookRun now rest end → BookRun base all end
  pub part : (end : State) → BookRun base all end → BookRun now rest end
  pub sound : Sound now

pub at_first : (base now : State) (all : List Entry) → now ≡ base → Sound now
    → IsLeft base all now all
at_first base now all is sound = record {
  whole = λ end run. subst (λ (s : State). BookRun s all end) is run;
  part = λ end run. subst (λ (s : State). BookRun s all end) (sym is) run;
  sound = sound;
}

-- the first of what is left is done
one_less : (base now new : State) (all rest : List Entry) (e : Entry)
    → IsLeft base all now (e ∷ rest) → ChangeStep now e.event e.outcome new → Sound new
    → IsLeft base all new rest
one_less base now new all rest e left step sound = record {
  whole = λ end run. left.whole end (new, step, run);
  part = λ end run.
      (let more = left.part end run in
      subst (λ (s : State). BookRun s rest end)
      (one_after now e.event e.outcome more.0 new more.1 step) more.2);
  sound = sound;
}

cut_at : (all : List Entry) (i : ℕ) (e : Entry) → i < length all → e ≡ get_or all i e
    → drop i all ≡ e ∷ drop (i + 1) all
cut_at all i e below is =
    let next : suc i ≡ i + 1 = omega arith in
    drop-cons all i e below
    ∙ (ap (λ (k : ℕ). get_or all i e ∷ drop k all) next
    ∙ ap (λ (x : Entry). x ∷ drop (i + 1) all) (sym is))

-- all entries are done
pub at_end : (base now end : State) (all : List Entry) (i : ℕ) → length all ≤ i
    → IsLeft base all now (drop i all) → (b : Bool) → (IsTrue b ↔ (now ≡ end))
    → IsTrue b ↔ BookRun base all end
at_end base now end all i past left b same =
    let l = subst (IsLeft base all now) (drop_of_length-le all past) left in
    (λ h. l.whole end (sym (same.0 h)), λ run. same.1 (sym (l.part end run)))

module _ (base now new : State) (all : List Entry) (i : ℕ) (e : Entry)
    (below : i < length all) (is : e ≡ get_or all i e) (left : IsLeft base all now (drop i all))
  where
    first_left : IsLeft base all now (e ∷ drop (i + 1) all)
    first_left = subst (IsLeft base all now) (cut_at all i e below is) left

    -- an entry that is no step from here ends the replay
    pub stops : (b : Bool) → b ≡ false → Redoes now e.event e.outcome b new → (end : State)
        → BookRun base all end → ⊥
    stops true is_false redoes end run = absurd (cc is_false)
    stops false is_false none end run =
        let more = first_left.part end run in
        none more.0 more.1

    -- else it goes on from the state after it
    pub goes_on : (b : Bool) → b ≡ true → Redoes now e.event e.outcome b new → Sound new
        → IsLeft base all new (drop (i + 1) all)
    goes_on true is_true step sound =
        one_less base now new all (drop (i + 1) all) e first_left step sound
    goes_on false is_true none sound = absurd (cc is_true)
