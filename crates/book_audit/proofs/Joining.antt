-- The totals of a history whose chapters lead to what is left of it.
use Rattle.std.proofs.Common.{◌≡◌, ◌≤◌, ◌+◌, ◌-◌, ◌^◌, ◌∙◌, ℕ, Bool, true, false, List, length}
use Rattle.std.proofs.Common.{sym, ap, subst, arith}
use Rattle.std.specs.Prelude.{◌↔◌, IsTrue}
use Rattle.std.specs.Bool.{OnTrue}
use Rattle.admission.specs.Calls.{in_use}
use Rattle.ras_machine.specs.State.{State}
use Rattle.books.specs.declared.totals.Totals.{Totals}
use Rattle.books.specs.Books.{BookRun}
use Rattle.books.specs.Chapters.{ChapterValue, FinishedValue}
use Rattle.books.specs.Totals.{lent_of, no_totals, totals_with}
use Rattle.books.proofs.Spending.{book_is_fair}
use Rattle.book_audit.specs.Joined.{AreTotals, ChaptersLead, IsJoined, beginning, chapters_totals}
use Rattle.book_audit.specs.Joined.{entries_of, history_entries}
use Rattle.book_audit.specs.inside.Runs.{AreRuns}
use Rattle.book_audit.proofs.EntrySums.{changes_of-append, datagrams_of-append, lent_of-append}
use Rattle.book_audit.proofs.EntrySums.{turns_of-append}
use Rattle.books.proofs.Entries.{run_on}
use Rattle.book_audit.proofs.Leading.{is_short, one_totals, run_of, totals_are}

-- the chapters lead from the state with which the history began to that with which the rest begins
pub record LeadOn (chapters : List ChapterValue) (finished : FinishedValue) (start base : State)
    : Type 0 where
  pub is_start : start ≡ beginning chapters finished
  pub is_base : base ≡ finished.base
  pub runs : AreRuns chapters
  pub leads : ChaptersLead 0 start chapters finished.first base

pub lead_on : (chapters : List ChapterValue) (finished : FinishedValue) (start base : State)
    (first : ℕ) (b : Bool) → start ≡ beginning chapters finished → base ≡ finished.base
    → first ≡ finished.first → OnTrue b (AreRuns chapters)
    → (IsTrue b ↔ ChaptersLead 0 start chapters first base) → b ≡ true
    → LeadOn chapters finished start base
lead_on chapters finished start base first true is_start is_base is_first runs leads is = record {
  is_start = is_start;
  is_base = is_base;
  runs = runs;
  leads = subst (λ (n : ℕ). ChaptersLead 0 start chapters n base) is_first (leads.0 is);
}
lead_on chapters finished start base first false is_start is_base is_first runs leads is =
    absurd (cc is)

module _ {chapters : List ChapterValue} {finished : FinishedValue} {start base : State}
    (l : LeadOn chapters finished start base) where
  lead : ChaptersLead 0 (beginning chapters finished) chapters finished.first finished.base
  lead =
      subst (λ (s : State). ChaptersLead 0 s chapters finished.first finished.base) l.is_start
      (subst (λ (s : State). ChaptersLead 0 start chapters finished.first s) l.is_base l.leads)

  front : BookRun start (entries_of chapters) base
  front = run_of chapters 0 finished.first start base l.runs l.leads

  pub few_entries : length (entries_of chapters) ≤ 2 ^ 62
  few_entries = is_short start base (entries_of chapters) front

  module _ (run : BookRun finished.base finished.entries finished.zone.state) where
    pub whole_run : BookRun (beginning chapters finished) (history_entries chapters finished)
        finished.zone.state
    whole_run =
        run_on (beginning chapters finished) finished.base finished.zone.state (entries_of chapters)
        finished.entries
        (subst (λ (s : State). BookRun s (entries_of chapters) finished.base) l.is_start
        (subst (λ (s : State). BookRun start (entries_of chapters) s) l.is_base front)) run

    pub few_in_all : length (history_entries chapters finished) ≤ 2 ^ 62
    few_in_all =
        is_short (beginning chapters finished) finished.zone.state
        (history_entries chapters finished) whole_run

  module _ (t : Totals) (sums : t ≡ totals_with no_totals (entries_of chapters) 0) where
    pub fair_chapters : in_use base.tables.calls ≤ in_use start.tables.calls + t.lent
    fair_chapters =
        omega (
          arith,
          (book_is_fair start base (entries_of chapters) front).units,
          ap (λ (x : Totals). x.lent) sums,
        )

    module _ (back : ℕ)
        (came : back ≡ in_use start.tables.calls + t.lent - in_use base.tables.calls) where
      so_far : AreTotals start (entries_of chapters) base (record t { returned = back })
      so_far = record {
        datagrams = ap (λ (x : Totals). x.datagrams) sums ∙ omega arith;
        turns = ap (λ (x : Totals). x.turns) sums ∙ omega arith;
        lent = ap (λ (x : Totals). x.lent) sums ∙ omega arith;
        returned = omega (arith, fair_chapters, came);
        changes = ap (λ (x : Totals). x.changes) sums ∙ omega arith;
      }

      carries : record t { returned = back } ≡ chapters_totals chapters
      carries =
          one_totals start base (entries_of chapters) (record t { returned = back })
          (chapters_totals chapters) so_far
          (totals_are chapters 0 finished.first start base l.runs l.leads)

      pub other_totals : (carried : Totals) (b : Bool) → carried ≡ finished.carried
          → (IsTrue b ↔ (record t { returned = back } ≡ carried)) → b ≡ false
          → IsJoined chapters finished → ⊥
      other_totals carried b is_carried test differ joined =
          cc (sym (test.1 (carries ∙ (sym joined.carried ∙ sym is_carried))) ∙ differ)

      pub is_joined : (carried : Totals) (b : Bool) → carried ≡ finished.carried
          → (IsTrue b ↔ (record t { returned = back } ≡ carried)) → b ≡ true
          → IsJoined chapters finished
      is_joined carried b is_carried test same = record {
        lead = lead;
        carried = sym is_carried ∙ (sym (test.0 same) ∙ carries);
      }

      -- the entries behind the chapters
      module _ (run : BookRun finished.base finished.entries finished.zone.state) (u : Totals)
          (more : u ≡ totals_with (record t { returned = back }) finished.entries 0)
          (end : State) (is_end : end ≡ finished.zone.state) where
        all_lent : u.lent ≡ lent_of (history_entries chapters finished)
        all_lent =
            omega (
              arith,
              so_far.lent,
              ap (λ (x : Totals). x.lent) more,
              lent_of-append (entries_of chapters) finished.entries,
            )

        pub fair_history : in_use end.tables.calls ≤ in_use start.tables.calls + u.lent
        fair_history =
            omega (
              arith,
              (book_is_fair (beginning chapters finished) finished.zone.state
                  (history_entries chapters finished) (whole_run run)).units,
              all_lent,
              ap (λ (s : State). in_use s.tables.calls) l.is_start,
              ap (λ (s : State). in_use s.tables.calls) is_end,
            )

        pub whole_totals : (last : ℕ)
            → last ≡ in_use start.tables.calls + u.lent - in_use end.tables.calls
            → AreTotals (beginning chapters finished) (history_entries chapters finished)
            finished.zone.state (record u { returned = last })
        whole_totals last came_last = record {
          datagrams = omega (
            arith,
            so_far.datagrams,
            ap (λ (x : Totals). x.datagrams) more,
            datagrams_of-append (entries_of chapters) finished.entries,
          );
          turns = omega (
            arith,
            so_far.turns,
            ap (λ (x : Totals). x.turns) more,
            turns_of-append (entries_of chapters) finished.entries,
          );
          lent = all_lent;
          returned = omega (
            arith,
            fair_history,
            came_last,
            ap (λ (s : State). in_use s.tables.calls) l.is_start,
            ap (λ (s : State). in_use s.tables.calls) is_end,
          );
          changes = omega (
            arith,
            so_far.changes,
            ap (λ (x : Totals). x.changes) more,
            changes_of-append (entries_of chapters) finished.entries,
          );
        }
