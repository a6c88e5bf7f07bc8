-- Chapters that lead from one place and state to another.
use Rattle.std.proofs.Common.{◌≡◌, ◌<◌, ◌≤◌, ◌+◌, ◌^◌, ◌∙◌, ℕ, Bool, true, false, List}
use Rattle.std.proofs.Common.{[], ◌∷◌}
use Rattle.std.proofs.Common.{length, drop, get_or, refl, sym, ap, subst, arith, None, Some}
use Rattle.std.specs.Prelude.{nat_lt, if◌then◌else◌}
use Rattle.std.proofs.Math.ListN.{drop_of_length-le}
use Rattle.std.proofs.lemmas.Bool.Decides.{nat_tests}
use Rattle.admission.specs.Calls.{in_use}
use Rattle.zone_events.specs.declared.change.Change.{Change}
use Rattle.zone_events.specs.declared.change.Change.TheVariants.{Event, PoolChange}
use Rattle.zone_events.specs.declared.outcome.Outcome.{Outcome}
use Rattle.ras_machine.specs.State.{State}
use Rattle.ras_machine.specs.Machine.{Ending, most_steps}
use Rattle.ras_core.specs.Runs.{ChangeStep}
use Rattle.books.specs.declared.book.Entry.{Entry}
use Rattle.books.specs.declared.totals.Totals.{Totals}
use Rattle.books.specs.Books.{BookRun}
use Rattle.books.specs.Chapters.{ChapterValue}
use Rattle.books.proofs.Entries.{run_on}
use Rattle.books.proofs.Spending.{book_is_fair, step_is_fair}
use Rattle.book_audit.specs.Joined.{AreTotals, ChaptersLead, chapters_totals}
use Rattle.book_audit.specs.Joined.{entries_of}
use Rattle.book_audit.specs.inside.Runs.{AreRuns}
use Rattle.book_audit.proofs.EntrySums.{changes_of-append, cut_at, datagrams_of-append}
use Rattle.book_audit.proofs.EntrySums.{lent_of-append}
use Rattle.book_audit.proofs.EntrySums.{turns_of-append}

-- The chapters so far lead to this place and this state. From there the rest leads to a place and a
-- state if and only if all chapters lead to these.
pub record IsLeft (start : State) (all : List ChapterValue) (place : ℕ) (state : State)
    (rest : List ChapterValue) : Type 0 where
  pub whole : (p : ℕ) (s : State) → ChaptersLead place state rest p s
      → ChaptersLead 0 start all p s
  pub part : (p : ℕ) (s : State) → ChaptersLead 0 start all p s
      → ChaptersLead place state rest p s
  pub runs : AreRuns rest → AreRuns all
  pub steps : start.steps + place ≡ state.steps

pub all_left : (start : State) (all : List ChapterValue) → IsLeft start all 0 start all
all_left start all = record {
  whole = λ p s lead. lead;
  part = λ p s lead. lead;
  runs = λ runs. runs;
  steps = omega arith;
}

one_less : (start state : State) (all rest : List ChapterValue) (place : ℕ) (c : ChapterValue)
    → IsLeft start all place state (c ∷ rest) → c.first ≡ place → c.base ≡ state
    → BookRun c.base c.entries c.end
    → IsLeft start all (place + length c.entries) c.end rest
one_less start state all rest place c left first base run = record {
  whole = λ p s lead. left.whole p s (first, base, lead);
  part = λ p s lead. (left.part p s lead).2;
  runs = λ runs. left.runs (run, runs);
  steps = omega (
    arith,
    left.steps,
    ap (λ (t : State). t.steps) base,
    (book_is_fair c.base c.end c.entries run).steps,
  );
}

module _ (start state : State) (all : List ChapterValue) (place i : ℕ) where
  module _ (c : ChapterValue) (below : i < length all) (is : c ≡ get_or all i c)
      (left : IsLeft start all place state (drop i all)) where
    first_left : IsLeft start all place state (c ∷ drop (i + 1) all)
    first_left = subst (IsLeft start all place state) (cut_at all i c below is) left

    pub goes_on : c.first ≡ place → c.base ≡ state → BookRun c.base c.entries c.end
        → IsLeft start all (place + length c.entries) c.end (drop (i + 1) all)
    goes_on first base run =
        one_less start state all (drop (i + 1) all) place c first_left first base run

    pub leads_from : (p : ℕ) (s : State) → ChaptersLead 0 start all p s
        → (c.first ≡ place) × (c.base ≡ state)
    leads_from p s lead = (let next = first_left.part p s lead in (next.0, next.1))

  pub all_passed : length all ≤ i → IsLeft start all place state (drop i all)
      → IsLeft start all place state []
  all_passed past left =
      subst (IsLeft start all place state) (drop_of_length-le all past) left

-- the entries of chapters that lead from one state to another are a run
pub run_of : (chapters : List ChapterValue) (p q : ℕ) (s t : State) → AreRuns chapters
    → ChaptersLead p s chapters q t → BookRun s (entries_of chapters) t
run_of [] p q s t runs lead = lead.1
run_of (c ∷ chapters) p q s t runs lead =
    run_on s c.end t c.entries (entries_of chapters)
    (subst (λ (x : State). BookRun x c.entries c.end) lead.1 runs.0)
    (run_of chapters (p + length c.entries) q c.end t runs.1 lead.2)

-- a machine that made 2^62 steps makes no more
open_before : (b : Bool) (e : Ending) (outcome : Outcome) (after : State)
    → (if b then e else None) ≡ Some (outcome, after) → b ≡ true
open_before true e outcome after is = refl
open_before false e outcome after is = absurd (cc is)

before_step : (s : State) (event : Change) (outcome : Outcome) (after : State)
    → ChangeStep s event outcome after → s.steps < 2 ^ 62
before_step s (PoolChange replacement) outcome after step = step.few
before_step s (Event event) outcome after step =
    let is = open_before (nat_lt s.steps most_steps) _ outcome after step.makes in
    grind (arith, nat_tests)

run_is_short : (s t : State) (e : Entry) (entries : List Entry) → BookRun s (e ∷ entries) t
    → s.steps + length (e ∷ entries) ≤ 2 ^ 62
run_is_short s t e [] run =
    omega (arith, before_step s e.event e.outcome run.0 run.1)
run_is_short s t e (x ∷ entries) run =
    omega (
      arith,
      (step_is_fair s e.event e.outcome run.0 run.1).steps,
      run_is_short run.0 t x entries run.2,
    )

pub is_short : (s t : State) (entries : List Entry) → BookRun s entries t
    → length entries ≤ 2 ^ 62
is_short s t [] run = omega arith
is_short s t (e ∷ entries) run = omega (arith, run_is_short s t e entries run)

-- the totals of chapters that lead from one state to another, together, are those of their entries
pub totals_are : (chapters : List ChapterValue) (p q : ℕ) (s t : State) → AreRuns chapters
    → ChaptersLead p s chapters q t
    → AreTotals s (entries_of chapters) t (chapters_totals chapters)
totals_are [] p q s t runs lead = record {
  datagrams = refl;
  turns = refl;
  lent = refl;
  returned = omega (arith, ap (λ (x : State). in_use x.tables.calls) lead.1);
  changes = refl;
}
totals_are (c ∷ chapters) p q s t runs lead =
    let rest = totals_are chapters (p + length c.entries) q c.end t runs.1 lead.2 in
    let fair = book_is_fair c.base c.end c.entries runs.0 in
    let base = ap (λ (x : State). in_use x.tables.calls) lead.1 in
    let lent = lent_of-append c.entries (entries_of chapters) in record {
      datagrams =
          omega (arith, rest.datagrams, datagrams_of-append c.entries (entries_of chapters));
      turns = omega (arith, rest.turns, turns_of-append c.entries (entries_of chapters));
      lent = omega (arith, rest.lent, lent);
      returned = omega (arith, rest.returned, rest.lent, lent, fair.units, base);
      changes = omega (arith, rest.changes, changes_of-append c.entries (entries_of chapters));
    }

-- entries between two states have one totals
pub one_totals : (s t : State) (entries : List Entry) (a b : Totals) → AreTotals s entries t a
    → AreTotals s entries t b → a ≡ b
one_totals s t entries a b first second =
    let datagrams : a.datagrams ≡ b.datagrams = first.datagrams ∙ sym second.datagrams in
    let turns : a.turns ≡ b.turns = first.turns ∙ sym second.turns in
    let lent : a.lent ≡ b.lent = first.lent ∙ sym second.lent in
    let back : a.returned ≡ b.returned = omega (arith, lent, first.returned, second.returned) in
    let changes : a.changes ≡ b.changes = first.changes ∙ sym second.changes in
    λ i. record {
      datagrams = datagrams i;
      turns = turns i;
      lent = lent i;
      returned = back i;
      changes = changes i;
    }
