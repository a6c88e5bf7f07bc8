-- A history that is one entry longer, or from which a chapter is cut.
use Rattle.std.proofs.Common.{◌≡◌, ◌≤◌, ◌<◌, ◌+◌, ◌-◌, ◌*◌, ◌^◌, ℕ, List, [], ◌∷◌, ◌++◌}
use Rattle.std.proofs.Common.{length, refl, sym, ◌∙◌, ap, subst, arith}
use Rattle.std.specs.Prelude.{Option, None, Some, Bool, true, false}
use Rattle.std.proofs.Common.{length-append}
use Rattle.std.proofs.lemmas.List.Sums.{sum_by-append}
use Rattle.admission.specs.Calls.{in_use}
use Rattle.ras_machine.specs.State.{State}
use Rattle.ras_core.specs.Running.{Running}
use Rattle.ras_core.proofs.Changing.{sound_after, step_of}
use Rattle.ras_core.specs.Runs.{RunningChange}
use Rattle.books.specs.declared.book.Entry.{Entry}
use Rattle.books.specs.declared.totals.Totals.{Totals}
use Rattle.books.specs.Books.{BookRun}
use Rattle.books.specs.Totals.{changes_in, changes_of, datagrams_in, datagrams_of, lent_of}
use Rattle.books.specs.Totals.{no_totals, returned_by}
use Rattle.books.specs.Totals.{totals_with, turns_in, turns_of, units_lent}
use Rattle.books.proofs.Entries.{run_more, run_on}
use Rattle.books.proofs.Spending.{book_is_fair, step_is_fair}
use Rattle.ras_machine.specs.Soundness.{Sound}
use Rattle.zone_lock.specs.Held.{AreCarriedOn, Held, IsInside, IsKept}
use Rattle.zone_lock.proofs.Counted.{all_counted, changes_more, datagrams_more, lent_more}
use Rattle.zone_lock.proofs.Counted.{same_totals, turns_more}

-- the totals so far have as many steps as there are entries
pub so_many : (opened : State) (h : Held) (sums : Totals) (units d t u v : ℕ)
    → IsInside opened h sums units d t u v
    → (sums.datagrams + sums.turns + sums.changes ≡ h.first + length h.entries)
    × (h.first + length h.entries ≤ 2 ^ 62) × (sums.lent ≤ 2 ^ 64 * 2 ^ 62)
so_many opened h sums units d t u v is =
    let ds = ap (λ (x : Totals). x.datagrams) is.so_far in
    let ts = ap (λ (x : Totals). x.turns) is.so_far in
    let cs = ap (λ (x : Totals). x.changes) is.so_far in (
      omega (arith, ds, ts, cs, all_counted h.entries, is.kept.first),
      omega (arith, is.kept.few, is.kept.sound.steps),
      omega (arith, is.kept.few, is.kept.sound.steps, is.few_lent),
    )

-- what is held after one entry more
abbrev pub longer : Held → Entry → Running → Held
longer h entry after = record {
  first = h.first;
  carried = h.carried;
  base = h.base;
  is_recorded = h.is_recorded;
  entries = h.entries ++ entry ∷ [];
  zone = after;
}

pub kept_more : (opened : State) (h : Held) (entry : Entry) (after : Running) → IsKept opened h
    → RunningChange h.zone entry.event entry.outcome after → IsKept opened (longer h entry after)
kept_more opened h entry after kept change =
    let step = step_of h.zone entry.event entry.outcome after change in
    let fair = step_is_fair h.zone.state entry.event entry.outcome after.state step in record {
      past = kept.past;
      began = kept.began;
      before = kept.before;
      places = kept.places;
      totals = kept.totals;
      base = kept.base;
      copied = kept.copied;
      run = run_more kept.began h.zone.state after.state h.entries entry kept.run step;
      first = kept.first;
      opened_before = kept.opened_before;
      opened_at = kept.opened_at;
      settings = kept.settings;
      carried = kept.carried;
      backed = omega (arith, kept.backed, fair.units, lent_more h.entries entry);
      sound = sound_after h.zone entry.event entry.outcome after change;
      few = omega (arith, kept.few, fair.steps, length-append h.entries (entry ∷ []));
    }

pub past_kept : (opened : State) (h : Held) (entry : Entry) (after : Running)
    (kept : IsKept opened h) (step : RunningChange h.zone entry.event entry.outcome after)
    → (kept_more opened h entry after kept step).past ≡ kept.past
unfolding kept_more
past_kept opened h entry after kept step = refl

-- what is held, by its parts
abbrev pub cut_so : ℕ → Totals → Option State → Bool → List Entry → Running → Held
cut_so first carried base is_recorded entries zone = record {
  first = first;
  carried = carried;
  base = base;
  is_recorded = is_recorded;
  entries = entries;
  zone = zone;
}

pub inside_more : (opened : State) (h : Held) (sums next : Totals) (units d t u v d1 t1 u1 v1 : ℕ)
    (entry : Entry) (after : Running) → IsInside opened h sums units d t u v
    → RunningChange h.zone entry.event entry.outcome after
    → units_lent entry.outcome.answer < 2 ^ 64
    → next.datagrams ≡ sums.datagrams + datagrams_in entry.event
    → next.turns ≡ sums.turns + turns_in entry.event
    → next.lent ≡ sums.lent + units_lent entry.outcome.answer → next.returned ≡ sums.returned
    → next.changes ≡ sums.changes + changes_in entry.event
    → d1 ≡ d + datagrams_in entry.event → t1 ≡ t + turns_in entry.event
    → u1 ≡ u + units_lent entry.outcome.answer → v1 ≡ v + changes_in entry.event
    → IsInside opened (longer h entry after) next units d1 t1 u1 v1
inside_more opened h sums next units d t u v d1 t1 u1 v1 entry after is step few ds ts us rs cs dt
    tt ut vt = record {
      kept = kept_more opened h entry after is.kept step;
      opened_units = is.opened_units;
      so_far = same_totals next (totals_with h.carried (h.entries ++ entry ∷ []) 0)
          (omega (
            arith,
            ds,
            datagrams_more h.entries entry,
            ap (λ (x : Totals). x.datagrams)
                is.so_far,
          ))
          (omega (arith, ts, turns_more h.entries entry, ap (λ (x : Totals). x.turns) is.so_far))
          (omega (arith, us, lent_more h.entries entry, ap (λ (x : Totals). x.lent) is.so_far))
          (rs ∙ ap (λ (x : Totals). x.returned) is.so_far)
          (omega (
            arith,
            cs,
            changes_more h.entries entry,
            ap (λ (x : Totals). x.changes) is.so_far,
          ));
      datagrams = omega (arith, dt, ds, is.datagrams);
      turns = omega (arith, tt, ts, is.turns);
      lent = omega (arith, ut, us, is.lent);
      changes = omega (arith, vt, cs, is.changes);
      few_lent = omega (arith, us, is.few_lent, few, length-append h.entries (entry ∷ []));
    }

-- the same, with the list in which the entry stands behind the others
pub inside_entered : (opened : State) (h : Held) (sums next : Totals)
    (units d t u v d1 t1 u1 v1 : ℕ) (entry : Entry) (after : Running) (es : List Entry)
    → es ≡ h.entries ++ entry ∷ [] → IsInside opened h sums units d t u v
    → RunningChange h.zone entry.event entry.outcome after
    → units_lent entry.outcome.answer < 2 ^ 64
    → next.datagrams ≡ sums.datagrams + datagrams_in entry.event
    → next.turns ≡ sums.turns + turns_in entry.event
    → next.lent ≡ sums.lent + units_lent entry.outcome.answer → next.returned ≡ sums.returned
    → next.changes ≡ sums.changes + changes_in entry.event
    → d1 ≡ d + datagrams_in entry.event → t1 ≡ t + turns_in entry.event
    → u1 ≡ u + units_lent entry.outcome.answer → v1 ≡ v + changes_in entry.event
    → IsInside opened (cut_so h.first h.carried h.base h.is_recorded es after) next units d1 t1 u1 v1
inside_entered opened h sums next units d t u v d1 t1 u1 v1 entry after es items is step few ds ts
    us rs cs dt tt ut vt =
    subst (λ (x : List Entry). IsInside opened
    (cut_so h.first h.carried h.base h.is_recorded x after) next units d1 t1 u1 v1) (sym items)
    (inside_more opened h sums next units d t u v d1 t1 u1 v1 entry after is step few ds ts us rs
    cs dt tt ut vt)

-- there is room for one step more in the totals so far, and in those of the ledgers
pub room_for_more : (opened : State) (h : Held) (sums : Totals) (units d t u v : ℕ)
    → IsInside opened h sums units d t u v
    → (sums.datagrams + sums.turns + sums.changes + 1 < 2 ^ 64) × (d + t + v + 1 < 2 ^ 64)
room_for_more opened h sums units d t u v is =
    let many = so_many opened h sums units d t u v is in (
      omega (arith, many.0, many.1),
      omega (arith, is.datagrams, is.turns, is.changes, many.0, many.1),
    )

no_entries : (es : List Entry) → length es ≡ 0 → es ≡ []
no_entries [] is = refl
no_entries (e ∷ es) is = absurd (cc is)

-- no more is in use than was lent since the zone was locked, beside what was in use then
pub backed_all : (opened : State) (h : Held) (sums : Totals) (units d t u v : ℕ)
    → IsInside opened h sums units d t u v → in_use h.zone.state.tables.calls ≤ units + sums.lent
backed_all opened h sums units d t u v is =
    omega (
      arith,
      is.kept.backed,
      is.kept.carried,
      is.opened_units,
      ap (λ (x : Totals). x.lent) is.so_far,
    )

module _ (opened : State) (h : Held) (sums carried : Totals) (units d t u v : ℕ)
    (is : IsInside opened h sums units d t u v) (ds : carried.datagrams ≡ sums.datagrams)
    (ts : carried.turns ≡ sums.turns) (us : carried.lent ≡ sums.lent)
    (rs : carried.returned ≡ units + sums.lent - in_use h.zone.state.tables.calls)
    (cs : carried.changes ≡ sums.changes) where
  pub carried_is : carried
      ≡ totals_with h.carried h.entries (returned_by is.kept.began h.entries h.zone.state)
  carried_is =
      same_totals carried
      (totals_with h.carried h.entries (returned_by is.kept.began h.entries h.zone.state))
      (ds ∙ ap (λ (x : Totals). x.datagrams) is.so_far)
      (ts ∙ ap (λ (x : Totals). x.turns) is.so_far)
      (us ∙ ap (λ (x : Totals). x.lent) is.so_far)
      (omega (
        arith,
        rs,
        is.opened_units,
        is.kept.carried,
        is.kept.backed,
        ap (λ (x : Totals). x.lent) is.so_far,
      ))
      (cs ∙ ap (λ (x : Totals). x.changes) is.so_far)

  at_opening : h.first + length h.entries ≡ 0 → (h.zone.state ≡ opened) × (carried ≡ no_totals)
  at_opening none =
      let begun : h.first ≡ 0 = omega (arith, none) in
      let empty = no_entries h.entries (omega (arith, none)) in
      let now : h.zone.state ≡ is.kept.began =
      subst (λ (es : List Entry). BookRun is.kept.began es h.zone.state) empty is.kept.run in
      let same : h.zone.state ≡ opened = now ∙ (is.kept.opened_at begun).0 in
      let many = so_many opened h sums units d t u v is in (
        same,
        same_totals carried no_totals
            (omega (arith, ds, many.0, none))
            (omega (arith, ts, many.0, none))
            (omega (arith, us, is.few_lent, none))
            (omega (
              arith,
              rs,
              is.few_lent,
              none,
              is.opened_units,
              ap (λ (s : State). in_use s.tables.calls) same,
            ))
            (omega (arith, cs, many.0, none)),
      )

  totals_joined : AreCarriedOn no_totals (is.kept.past ++ h.entries) carried
  totals_joined =
      let past = is.kept.past in record {
        datagrams = omega (
          arith,
          ds,
          ap (λ (x : Totals). x.datagrams) is.so_far,
          is.kept.totals.datagrams,
          sum_by-append (λ (x : Entry). datagrams_in x.event) past h.entries,
        );
        turns = omega (
          arith,
          ts,
          ap (λ (x : Totals). x.turns) is.so_far,
          is.kept.totals.turns,
          sum_by-append (λ (x : Entry). turns_in x.event) past h.entries,
        );
        lent = omega (
          arith,
          us,
          ap (λ (x : Totals). x.lent) is.so_far,
          is.kept.totals.lent,
          sum_by-append (λ (x : Entry). units_lent x.outcome.answer) past h.entries,
        );
        changes = omega (
          arith,
          cs,
          ap (λ (x : Totals). x.changes) is.so_far,
          is.kept.totals.changes,
          sum_by-append (λ (x : Entry). changes_in x.event) past h.entries,
        );
      }

  kept_cut : IsKept opened (cut_so (h.first + length h.entries) carried None false [] h.zone)
  kept_cut =
      let fair = book_is_fair is.kept.began h.zone.state h.entries is.kept.run in
      let none : lent_of [] ≡ 0 = refl in record {
        past = is.kept.past ++ h.entries;
        began = h.zone.state;
        before = run_on opened is.kept.began h.zone.state is.kept.past h.entries is.kept.before
            is.kept.run;
        places = omega (arith, is.kept.places, length-append is.kept.past h.entries);
        totals = totals_joined;
        base = λ s is_base. absurd (cc is_base);
        copied = λ s is_base. absurd (cc is_base);
        run = refl;
        first = omega (arith, ds, ts, cs, (so_many opened h sums units d t u v is).0);
        opened_before = is.kept.opened_before;
        opened_at = at_opening;
        settings = fair.settings ∙ is.kept.settings;
        carried = omega (arith, rs, us, is.opened_units, backed_all opened h sums units d t u v is);
        backed = omega (arith, none);
        sound = is.kept.sound;
        few = omega (arith, is.kept.few);
      }

  pub inside_cut : IsInside opened (cut_so (h.first + length h.entries) carried None false [] h.zone)
      carried units d t u v
  inside_cut = record {
    kept = kept_cut;
    opened_units = is.opened_units;
    so_far = same_totals carried (totals_with carried [] 0)
        (let none : datagrams_of [] ≡ 0 = refl in omega (arith, none))
        (let none : turns_of [] ≡ 0 = refl in omega (arith, none))
        (let none : lent_of [] ≡ 0 = refl in omega (arith, none))
        (omega arith)
        (let none : changes_of [] ≡ 0 = refl in omega (arith, none));
    datagrams = is.datagrams ∙ sym ds;
    turns = is.turns ∙ sym ts;
    lent = is.lent ∙ sym us;
    changes = is.changes ∙ sym cs;
    few_lent = omega (arith, us, is.few_lent);
  }

  pub past_cut : inside_cut.kept.past ≡ is.kept.past ++ h.entries
  unfolding inside_cut kept_cut
  past_cut = refl

-- A zone that is locked, before its first step.
pub inside_opened : (opened : State) (zone : Running) (base : State) (es : List Entry)
    (carried sums : Totals) (units d t u v : ℕ) → opened ≡ zone.state → Sound zone.state
    → base ≡ zone.state → es ≡ [] → carried ≡ no_totals → sums ≡ no_totals
    → units ≡ in_use zone.state.tables.calls → d ≡ 0 → t ≡ 0 → u ≡ 0 → v ≡ 0
    → IsInside opened (cut_so 0 carried (Some base) true es zone) sums units d t u v
inside_opened opened zone base es carried sums units d t u v at sound based none nothing sum used
    ds ts us vs =
    let same : zone.state ≡ opened = sym at in
    let backs : in_use zone.state.tables.calls ≡ in_use opened.tables.calls =
    ap (λ (s : State). in_use s.tables.calls) same in
    let d0 = ap (λ (x : Totals). x.datagrams) nothing in
    let t0 = ap (λ (x : Totals). x.turns) nothing in
    let l0 = ap (λ (x : Totals). x.lent) nothing in
    let c0 = ap (λ (x : Totals). x.changes) nothing in
    let r0 = ap (λ (x : Totals). x.returned) nothing in
    let n0 : length es ≡ 0 = ap length none in
    let e0 : lent_of es ≡ 0 = ap lent_of none in record {
      kept = record {
        past = [];
        began = zone.state;
        before = same;
        places = refl;
        totals = record {
          datagrams = omega (arith, d0);
          turns = omega (arith, t0);
          lent = omega (arith, l0);
          changes = omega (arith, c0);
        };
        base = λ s is_base. (let it : base ≡ s = cc is_base in sym it ∙ based);
        copied = λ _ _. refl;
        run = subst (λ (xs : List Entry). BookRun zone.state xs zone.state) (sym none) refl;
        first = omega (arith, d0, t0, c0);
        opened_before = subst Sound same sound;
        opened_at = λ _. (same, nothing);
        settings = ap (λ (s : State). s.tables.config) same;
        carried = omega (arith, backs, l0, r0);
        backed = omega (arith, e0);
        sound = sound;
        few = omega (arith, n0);
      };
      opened_units = used ∙ backs;
      so_far = sum ∙ (sym (ap (λ (xs : List Entry). totals_with no_totals xs 0) none)
          ∙ ap (λ (x : Totals). totals_with x es 0) (sym nothing));
      datagrams = omega (arith, ds, ap (λ (x : Totals). x.datagrams) sum);
      turns = omega (arith, ts, ap (λ (x : Totals). x.turns) sum);
      lent = omega (arith, us, ap (λ (x : Totals). x.lent) sum);
      changes = omega (arith, vs, ap (λ (x : Totals). x.changes) sum);
      few_lent = omega (arith, ap (λ (x : Totals). x.lent) sum);
    }

-- Without entries, the book begins in the state of the zone, and a copy of it may be kept.
pub inside_based : (opened : State) (h : Held) (sums : Totals) (units d t u v : ℕ)
    (next : Option State)
    → IsInside opened h sums units d t u v → h.entries ≡ [] → next ≡ Some h.zone.state
    → IsInside opened (cut_so h.first h.carried next true h.entries h.zone) sums units d t u v
inside_based opened h sums units d t u v next is none same =
    let now : h.zone.state ≡ is.kept.began =
    subst (λ (es : List Entry). BookRun is.kept.began es h.zone.state) none is.kept.run in record {
      kept = record {
        past = is.kept.past;
        began = is.kept.began;
        before = is.kept.before;
        places = is.kept.places;
        totals = is.kept.totals;
        base = λ s is_base.
            (let both : Some s ≡ Some h.zone.state = sym is_base ∙ same in
            let it : s ≡ h.zone.state = cc both in it ∙ now);
        copied = λ _ _. refl;
        run = is.kept.run;
        first = is.kept.first;
        opened_before = is.kept.opened_before;
        opened_at = is.kept.opened_at;
        settings = is.kept.settings;
        carried = is.kept.carried;
        backed = is.kept.backed;
        sound = is.kept.sound;
        few = is.kept.few;
      };
      opened_units = is.opened_units;
      so_far = is.so_far;
      datagrams = is.datagrams;
      turns = is.turns;
      lent = is.lent;
      changes = is.changes;
      few_lent = is.few_lent;
    }

-- Where no copy of a state is kept, steps may be recorded or not.
pub inside_flagged : (opened : State) (h : Held) (sums : Totals) (units d t u v : ℕ)
    (is_recorded : Bool) → IsInside opened h sums units d t u v → h.base ≡ None
    → IsInside opened (cut_so h.first h.carried h.base is_recorded h.entries h.zone) sums units d
    t u v
inside_flagged opened h sums units d t u v is_recorded is none = record {
  kept = record {
    past = is.kept.past;
    began = is.kept.began;
    before = is.kept.before;
    places = is.kept.places;
    totals = is.kept.totals;
    base = is.kept.base;
    copied = λ s is_base. absurd (cc (none, is_base));
    run = is.kept.run;
    first = is.kept.first;
    opened_before = is.kept.opened_before;
    opened_at = is.kept.opened_at;
    settings = is.kept.settings;
    carried = is.kept.carried;
    backed = is.kept.backed;
    sound = is.kept.sound;
    few = is.kept.few;
  };
  opened_units = is.opened_units;
  so_far = is.so_far;
  datagrams = is.datagrams;
  turns = is.turns;
  lent = is.lent;
  changes = is.changes;
  few_lent = is.few_lent;
}
