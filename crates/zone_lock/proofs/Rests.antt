-- What is left of a history at its end.
use Rattle.std.proofs.Common.{◌≡◌, ◌+◌, ℕ, List, [], ◌++◌}
use Rattle.std.proofs.Common.{refl, sym, ◌∙◌, ap, subst, arith}
use Rattle.std.specs.Prelude.{Option, None, Some, OnSome, length}
use Rattle.ras_machine.specs.State.{State}
use Rattle.ras_core.specs.Running.{Running}
use Rattle.books.specs.declared.book.Entry.{Entry}
use Rattle.books.specs.declared.totals.Totals.{Totals}
use Rattle.books.specs.Books.{BookRun}
use Rattle.books.specs.Chapters.{FinishedValue, base_or}
use Rattle.books.specs.Totals.{lent_of, no_totals, returned_by}
use Rattle.books.proofs.Entries.{run_on}
use Rattle.zone_lock.specs.Held.{AreCarriedOn, Held, IsKept, IsLedInUse}
use Rattle.zone_lock.specs.Held.{IsLeftFrom, IsWholeHistory}

-- What is left of a history at its end.
pub record IsRest (opened : State) (f : FinishedValue) : Type 0 where
  pub run : BookRun f.base f.entries f.zone.state
  pub opened_at : f.first ≡ 0 → f.base ≡ opened
  pub settings : f.base.tables.config ≡ opened.tables.config
  pub in_use : IsLedInUse opened f.zone.state (f.carried.lent + lent_of f.entries)
      (f.carried.returned + returned_by f.base f.entries f.zone.state)

-- what is left of what is held, if it goes on from this state
abbrev pub left_of : Held → State → FinishedValue
left_of h base = record {
  zone = h.zone;
  base = base;
  entries = h.entries;
  first = h.first;
  carried = h.carried;
}

rest_at : (opened : State) (h : Held) (kept : IsKept opened h) → IsRest opened
    (left_of h kept.began)
rest_at opened h kept = record {
  run = kept.run;
  opened_at = λ none. (kept.opened_at none).0;
  settings = kept.settings;
  in_use = omega (arith, kept.carried, kept.backed);
}

-- It goes on from the state of which a copy is kept, or, if there is none and so no entry, from
-- that of the zone.
rest_from : (opened : State) (h : Held) (base : Option State) → IsKept opened h → h.base ≡ base
    → (h.base ≡ None → h.entries ≡ []) → IsRest opened (left_of h (base_or base h.zone.state))
rest_from opened h (Some base) kept is none =
    subst (λ (b : State). IsRest opened (left_of h b)) (sym (kept.base base is))
    (rest_at opened h kept)
rest_from opened h None kept is none =
    let now : h.zone.state ≡ kept.began =
    subst (λ (es : List Entry). BookRun kept.began es h.zone.state) (none is) kept.run in
    subst (λ (b : State). IsRest opened (left_of h b)) (sym now) (rest_at opened h kept)

pub same_left : (f : FinishedValue) (h : Held) (base : State) → f.zone ≡ h.zone → f.base ≡ base
    → f.entries ≡ h.entries → f.first ≡ h.first → f.carried ≡ h.carried → f ≡ left_of h base
same_left f h base z b e n t =
    ap (λ (x : Running). let l : FinishedValue = record {
      zone = x;
      base = f.base;
      entries = f.entries;
      first = f.first;
      carried = f.carried;
    } in l) z
    ∙ (ap (λ (x : State). let l : FinishedValue = record {
      zone = h.zone;
      base = x;
      entries = f.entries;
      first = f.first;
      carried = f.carried;
    } in l) b
    ∙ (ap (λ (x : List Entry). let l : FinishedValue = record {
      zone = h.zone;
      base = base;
      entries = x;
      first = f.first;
      carried = f.carried;
    } in l) e
    ∙ (ap (λ (x : ℕ). let l : FinishedValue = record {
      zone = h.zone;
      base = base;
      entries = h.entries;
      first = x;
      carried = f.carried;
    } in l) n
    ∙ ap (λ (x : Totals). let l : FinishedValue = record {
      zone = h.zone;
      base = base;
      entries = h.entries;
      first = h.first;
      carried = x;
    } in l) t)))

pub rest_of : (opened : State) (h : Held) (f : FinishedValue) → IsKept opened h
    → (h.base ≡ None → h.entries ≡ []) → f.zone ≡ h.zone
    → f.base ≡ base_or h.base h.zone.state → f.entries ≡ h.entries → f.first ≡ h.first
    → f.carried ≡ h.carried → IsRest opened f
rest_of opened h f kept none z b e n t =
    subst (λ (x : FinishedValue). IsRest opened x) (sym (same_left f h _ z b e n t))
    (rest_from opened h h.base kept refl none)

-- What is left of what stood behind a lock, once its entries were let go if no copy of the state in
-- which they begin was kept.
module _ (h s : Held) (f : FinishedValue) (f_is : f ≡ left_of s (base_or s.base s.zone.state))
  where
    all_left : (base : State) → h.base ≡ Some base → s ≡ h → IsLeftFrom h (Some base) f
    all_left base is same =
        f_is ∙ (ap (λ (x : Held). left_of x (base_or x.base x.zone.state)) same
        ∙ ap (λ (b : Option State). left_of h (base_or b h.zone.state)) is)

    let_go : s.base ≡ None → s.first ≡ h.first + length h.entries → s.entries ≡ []
        → s.zone ≡ h.zone → IsLeftFrom h None f
    let_go none first entries zone =
        let state = ap (λ (b : Option State). base_or b s.zone.state) none
        ∙ ap (λ (z : Running). z.state) zone in
        let carried : s.carried ≡ f.carried = sym (ap (λ (x : FinishedValue). x.carried) f_is) in
        f_is ∙ (λ i. record {
          zone = zone i;
          base = state i;
          entries = entries i;
          first = first i;
          carried = carried i;
        })

    pub is_left : (base : Option State) → h.base ≡ base → OnSome h.base (s ≡ h)
        → (h.base ≡ None → (s.base ≡ None) × (s.first ≡ h.first + length h.entries))
        → (s.base ≡ None → s.entries ≡ []) → s.zone ≡ h.zone → IsLeftFrom h base f
    is_left (Some base) is kept gone empty zone =
        all_left base is (subst (λ (b : Option State). OnSome b (s ≡ h)) is kept)
    is_left None is kept gone empty zone =
        let_go (gone is).0 (gone is).1 (empty (gone is).0) zone

-- the whole history, with what is left of it
pub whole_of : (opened : State) (h : Held) (f : FinishedValue) → IsKept opened h
    → f.entries ≡ h.entries → f.zone ≡ h.zone → f.first ≡ h.first → f.carried ≡ h.carried
    → IsWholeHistory opened f
whole_of opened h f kept entries zone first carried = record {
  past = kept.past;
  run = subst (λ (es : List Entry). BookRun opened (kept.past ++ es) f.zone.state) (sym entries)
      (subst (λ (z : Running). BookRun opened (kept.past ++ h.entries) z.state) (sym zone)
      (run_on opened kept.began h.zone.state kept.past h.entries kept.before kept.run));
  places = kept.places ∙ sym first;
  totals = subst (λ (t : Totals). AreCarriedOn no_totals kept.past t) (sym carried) kept.totals;
}
