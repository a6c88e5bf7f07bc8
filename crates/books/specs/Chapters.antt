-- Chapters of a history, and its end.
use Rattle.std.specs.Prelude.{ℕ, List, Option, None, Some}
use Rattle.ras_machine.specs.State.{State}
use Rattle.ras_core.specs.Running.{Running}
use Rattle.books.specs.declared.book.Entry.{Entry}
use Rattle.books.specs.declared.totals.Totals.{Totals}

-- A chapter: the place of its first entry in the whole history, the state in which it begins, its
-- entries, and the state in which it ends.
pub record ChapterValue : Type 0 where
  pub first : ℕ
  pub base : State
  pub entries : List Entry
  pub end : State

-- What is left of a history when its zone is taken out: the zone, the state from which the last
-- entries lead to it, these entries, the place of the first of them in the whole history, and the
-- totals of the entries before it, which were cut off as chapters or let go.
pub record FinishedValue : Type 0 where
  pub zone : Running
  pub base : State
  pub entries : List Entry
  pub first : ℕ
  pub carried : Totals

-- the state from which the last entries lead: the one that was kept, or, if none was, that of the
-- zone
abbrev pub base_or : Option State → State → State
base_or (Some base) now = base
base_or None now = now
