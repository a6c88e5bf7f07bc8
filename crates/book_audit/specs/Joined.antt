-- Chapters of a history that belong together, with what is left of it.
use Rattle.std.specs.Prelude.{ℕ, ◌≡◌, ◌+◌, ◌++◌, List, [], ◌∷◌, length}
use Rattle.admission.specs.Calls.{in_use}
use Rattle.ras_machine.specs.State.{State}
use Rattle.books.specs.declared.book.Entry.{Entry}
use Rattle.books.specs.declared.totals.Totals.{Totals}
use Rattle.books.specs.Chapters.{ChapterValue, FinishedValue}
use Rattle.books.specs.Totals.{changes_of, datagrams_of, lent_of, no_totals, returned_by}
use Rattle.books.specs.Totals.{totals_with, turns_of}

-- the entries of the chapters, one chapter after the other
abbrev pub entries_of : List ChapterValue → List Entry
entries_of [] = []
entries_of (chapter ∷ chapters) = chapter.entries ++ entries_of chapters

-- all entries of a history: those of its chapters, and those since the last of them
abbrev pub history_entries : List ChapterValue → FinishedValue → List Entry
history_entries chapters finished = entries_of chapters ++ finished.entries

-- the state with which a history began
abbrev pub beginning : List ChapterValue → FinishedValue → State
beginning [] finished = finished.base
beginning (chapter ∷ chapters) finished = chapter.base

-- From one place and state the chapters lead to another: each begins where the one before it ended,
-- and its first entry stands behind the last entry of the one before it.
abbrev pub ChaptersLead : ℕ → State → List ChapterValue → ℕ → State → Type 0
ChaptersLead place state [] last_place last = (last_place ≡ place) × (last ≡ state)
ChaptersLead place state (chapter ∷ chapters) last_place last =
    (chapter.first ≡ place) × (chapter.base ≡ state)
    × ChaptersLead (place + length chapter.entries) chapter.end chapters last_place last

-- the totals of two parts of a history together
abbrev pub totals_together : Totals → Totals → Totals
totals_together a b = record {
  datagrams = a.datagrams + b.datagrams;
  turns = a.turns + b.turns;
  lent = a.lent + b.lent;
  returned = a.returned + b.returned;
  changes = a.changes + b.changes;
}

-- the totals of a chapter
abbrev pub chapter_totals : ChapterValue → Totals
chapter_totals chapter = totals_with no_totals chapter.entries
    (returned_by chapter.base chapter.entries chapter.end)

-- the totals of all these chapters together
abbrev pub chapters_totals : List ChapterValue → Totals
chapters_totals [] = no_totals
chapters_totals (chapter ∷ chapters) =
    totals_together (chapter_totals chapter) (chapters_totals chapters)

-- The chapters lead from place 0 to where the rest begins, and its carried totals are theirs.
pub record IsJoined (chapters : List ChapterValue) (finished : FinishedValue) : Type 0 where
  pub lead : ChaptersLead 0 (beginning chapters finished) chapters finished.first finished.base
  pub carried : finished.carried ≡ chapters_totals chapters

-- The totals of entries that lead from one state to another: how many are of datagrams, of turns
-- and of pools that took the place of others, and what was lent in them. What was in use before,
-- plus what was lent, is what is in use after, plus what came back.
pub record AreTotals (base : State) (entries : List Entry) (now : State) (totals : Totals)
    : Type 0 where
  pub datagrams : totals.datagrams ≡ datagrams_of entries
  pub turns : totals.turns ≡ turns_of entries
  pub lent : totals.lent ≡ lent_of entries
  pub returned : in_use base.tables.calls + totals.lent
      ≡ in_use now.tables.calls + totals.returned
  pub changes : totals.changes ≡ changes_of entries
