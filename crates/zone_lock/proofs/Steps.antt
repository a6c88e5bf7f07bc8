-- A history that is one step longer, whose entry is kept or not.
use Rattle.std.proofs.Common.{◌≡◌, ◌≤◌, ◌<◌, ◌+◌, ◌-◌, ◌^◌, ℕ, List, [], ◌∷◌, ◌++◌}
use Rattle.std.proofs.Common.{length, length-append, refl, sym, ◌∙◌, ap, subst, arith}
use Rattle.std.specs.Prelude.{Option, None, Some, Result, Ok, Err, OnOk, is_some, Bool, false, true}
use Rattle.std.specs.Prelude.{◌&&◌, ◌||◌}
use Rattle.std.specs.Option.{ForSome}
use Rattle.std.proofs.lemmas.List.{append-nil, append_assoc}
use Rattle.admission.specs.Calls.{in_use}
use Rattle.zone_events.specs.declared.change.Change.{Change}
use Rattle.zone_events.specs.declared.outcome.Outcome.{Outcome}
use Rattle.ras_machine.specs.State.{State}
use Rattle.ras_core.specs.Running.{Running}
use Rattle.ras_core.specs.Runs.{RunningChange}
use Rattle.ras_core.proofs.Changing.{step_of}
use Rattle.books.proofs.Spending.{step_is_fair}
use Rattle.books.specs.declared.book.Entry.{Entry}
use Rattle.books.specs.declared.totals.Totals.{Totals}
use Rattle.books.specs.Totals.{changes_in, datagrams_in}
use Rattle.books.specs.Totals.{turns_in, units_lent}
use Rattle.zone_lock.specs.Held.{AreCarriedOn, Held, IsEntered, IsInside, IsKept, IsMadeUnderLock}
use Rattle.zone_lock.specs.Held.{entry_by, goes_on}
use Rattle.zone_lock.specs.Seats.{Seated}
use Rattle.zone_lock.proofs.Histories.{backed_all, cut_so, inside_cut, inside_more, kept_more}
use Rattle.zone_lock.proofs.Histories.{longer, past_cut, past_kept}

-- no copy of a state is kept if a step isn't recorded
pub none_if_off : (base : Option State) (is_recorded few : Bool)
    → ForSome base (λ _. is_recorded ≡ true)
    → (is_recorded && (is_some base || few)) ≡ false → base ≡ None
none_if_off None is_recorded few copied off = refl
none_if_off (Some state) is_recorded few copied off =
    let so : (true && (true || few)) ≡ false =
    subst (λ (b : Bool). (b && (true || few)) ≡ false) (copied state refl) off in
    absurd (cc so)

-- steps are recorded if one is
pub on_if : (is_recorded room : Bool) → (is_recorded && room) ≡ true → is_recorded ≡ true
on_if true room on = refl
on_if false room on = absurd (cc on)

-- what is held after one entry more, by its parts
pub longer_by : (old new : Held) (entry : Entry) → new.first ≡ old.first
    → new.carried ≡ old.carried → new.base ≡ old.base → new.is_recorded ≡ old.is_recorded
    → new.entries ≡ old.entries ++ entry ∷ [] → new ≡ longer old entry new.zone
longer_by old new entry first carried base recorded entries =
    λ i. cut_so (first i) (carried i) (base i) (recorded i) (entries i) new.zone

-- the entry stands behind the others, since steps are recorded
pub entered_recorded : (opened : State) (old : Held) (entry : Entry) (after : Running) (new : Held)
    → IsKept opened old → RunningChange old.zone entry.event entry.outcome after
    → goes_on old ≡ true → new ≡ longer old entry after → IsEntered opened old entry new
entered_recorded opened old entry after new kept step on is =
    let recorded : old.is_recorded ≡ true = on_if old.is_recorded _ on in
    subst (λ (x : Held). IsEntered opened old entry x) (sym is) (record {
      before = kept;
      after = kept_more opened old entry after kept step;
      history = ap (λ past. past ++ (old.entries ++ entry ∷ []))
          (past_kept opened old entry after kept step)
          ∙ sym (append_assoc kept.past old.entries (entry ∷ []));
      base = refl;
      recording = recorded ∙ sym on;
      recorded = λ _. record { entries = refl; first = refl; carried = refl };
      unrecorded = λ off. absurd (cc (recorded, off));
    })

-- The same of a call that made the step or failed, of the seat and the event that were handed in.
pub entered_if_made : {T E : Type 0} (opened : State) (r : Result T E) (old new : Held)
    (t s : Seated) (made event : Change) (outcome : Outcome) → t ≡ s → made ≡ event
    → IsKept opened old → goes_on old ≡ true
    → OnOk r (RunningChange old.zone made outcome new.zone)
    → OnOk r (new.entries ≡ old.entries ++ entry_by t.number t.calls made outcome ∷ [])
    → new.first ≡ old.first → new.carried ≡ old.carried → new.base ≡ old.base
    → new.is_recorded ≡ old.is_recorded
    → OnOk r (IsEntered opened old (entry_by s.number s.calls event outcome) new)
entered_if_made opened (Ok done) old new t s made event outcome same_seat same kept on step entries
    first carried base recorded =
    subst (λ (x : Seated). IsEntered opened old (entry_by x.number x.calls event outcome) new)
    same_seat
    (subst (λ (e : Change). IsEntered opened old (entry_by t.number t.calls e outcome) new) same
    (entered_recorded opened old (entry_by t.number t.calls made outcome) new.zone new kept step on
    (longer_by old new (entry_by t.number t.calls made outcome) first carried base recorded
    entries)))
entered_if_made opened (Err fault) old new t s made event outcome same_seat same kept on step
    entries first carried base recorded = tt

-- what is in use after a step, and what was lent up to it
pub backed_on : (opened : State) (h : Held) (sums next : Totals) (units d t u v : ℕ)
    (entry : Entry) (after : Running) → IsInside opened h sums units d t u v
    → RunningChange h.zone entry.event entry.outcome after
    → next.lent ≡ sums.lent + units_lent entry.outcome.answer
    → in_use after.state.tables.calls ≤ units + next.lent
backed_on opened h sums next units d t u v entry after is step us =
    let fair = step_is_fair h.zone.state entry.event entry.outcome after.state
    (step_of h.zone entry.event entry.outcome after step) in
    omega (arith, backed_all opened h sums units d t u v is, fair.units, us)

-- Nothing is kept of the entry but its totals.
module _ (opened : State) (h : Held) (sums next carried : Totals)
    (units d t u v d1 t1 u1 v1 : ℕ) (entry : Entry) (after : Running)
    (is : IsInside opened h sums units d t u v)
    (step : RunningChange h.zone entry.event entry.outcome after)
    (few : units_lent entry.outcome.answer < 2 ^ 64)
    (ds : next.datagrams ≡ sums.datagrams + datagrams_in entry.event)
    (ts : next.turns ≡ sums.turns + turns_in entry.event)
    (us : next.lent ≡ sums.lent + units_lent entry.outcome.answer)
    (rs : next.returned ≡ sums.returned)
    (cs : next.changes ≡ sums.changes + changes_in entry.event)
    (dt : d1 ≡ d + datagrams_in entry.event) (tt : t1 ≡ t + turns_in entry.event)
    (ut : u1 ≡ u + units_lent entry.outcome.answer) (vt : v1 ≡ v + changes_in entry.event)
    (cd : carried.datagrams ≡ next.datagrams) (ct : carried.turns ≡ next.turns)
    (cl : carried.lent ≡ next.lent)
    (cr : carried.returned ≡ units + next.lent - in_use after.state.tables.calls)
    (cn : carried.changes ≡ next.changes) where
  more : IsInside opened (longer h entry after) next units d1 t1 u1 v1
  more = inside_more opened h sums next units d t u v d1 t1 u1 v1 entry after is step few ds ts us
      rs cs dt tt ut vt

  abbrev longer_is : IsInside opened (longer h entry after) next units d1 t1 u1 v1
  longer_is = record {
    kept = kept_more opened h entry after is.kept step;
    opened_units = more.opened_units;
    so_far = more.so_far;
    datagrams = more.datagrams;
    turns = more.turns;
    lent = more.lent;
    changes = more.changes;
    few_lent = more.few_lent;
  }

  abbrev behind : Held
  behind = cut_so (h.first + length (h.entries ++ entry ∷ [])) carried None false [] after

  abbrev behind_is : IsInside opened behind carried units d1 t1 u1 v1
  behind_is = inside_cut opened (longer h entry after) next carried units d1 t1 u1 v1 longer_is cd
      ct cl cr cn

  -- what is held then, by its parts
  module _ (first : ℕ) (base : Option State) (es : List Entry)
      (first_is : first ≡ h.first + length h.entries + 1) (base_is : base ≡ None) (none : es ≡ [])
    where
      same : cut_so first carried base false es after ≡ behind
      same =
          let place : first ≡ h.first + length (h.entries ++ entry ∷ []) =
          omega (arith, first_is, length-append h.entries (entry ∷ [])) in
          λ i. cut_so (place i) carried (base_is i) false (none i) after

      pub inside_unrecorded : IsInside opened (cut_so first carried base false es after) carried
          units d1 t1 u1 v1
      inside_unrecorded =
          subst (λ (x : Held). IsInside opened x carried units d1 t1 u1 v1) (sym same) behind_is

      totals_on : AreCarriedOn h.carried (h.entries ++ entry ∷ []) carried
      totals_on = record {
        datagrams = cd ∙ ap (λ (x : Totals). x.datagrams) longer_is.so_far;
        turns = ct ∙ ap (λ (x : Totals). x.turns) longer_is.so_far;
        lent = cl ∙ ap (λ (x : Totals). x.lent) longer_is.so_far;
        changes = cn ∙ ap (λ (x : Totals). x.changes) longer_is.so_far;
      }

      entered_behind : goes_on h ≡ false → IsEntered opened h entry behind
      entered_behind off = record {
        before = is.kept;
        after = behind_is.kept;
        history = append-nil behind_is.kept.past
            ∙ (past_cut opened (longer h entry after) next carried units d1 t1 u1 v1 longer_is cd ct
            cl cr cn
            ∙ (ap (λ past. past ++ (h.entries ++ entry ∷ []))
            (past_kept opened h entry after is.kept step)
            ∙ sym (append_assoc is.kept.past h.entries (entry ∷ []))));
        base = sym (none_if_off h.base h.is_recorded _ is.kept.copied off);
        recording = sym off;
        recorded = λ on. absurd (cc on);
        unrecorded = λ _. record {
          entries = refl;
          first = omega (arith, length-append h.entries (entry ∷ []));
          carried = totals_on;
        };
      }

      pub entered_unrecorded : goes_on h ≡ false
          → IsEntered opened h entry (cut_so first carried base false es after)
      entered_unrecorded off =
          subst (λ (x : Held). IsEntered opened h entry x) (sym same) (entered_behind off)

-- a step of the zone that was locked is one of some sound zone
pub made_under_lock : (A E : Type 0) (opened : State) (r : Result A E) (old new : Held)
    (s : Seated) (event : Change) (outcome : Outcome)
    → OnOk r (RunningChange old.zone event outcome new.zone)
    → OnOk r (IsEntered opened old (entry_by s.number s.calls event outcome) new)
    → OnOk r (IsMadeUnderLock opened (entry_by s.number s.calls event outcome))
made_under_lock A E opened (Ok done) old new s event outcome step entered =
    record { old = old; new = new; step = step; entered = entered }
made_under_lock A E opened (Err fault) old new s event outcome step entered = tt
