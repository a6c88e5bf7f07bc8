-- When a chapter ends while a server runs, and which chapters it keeps.
use Rattle.std.specs.Prelude.{◌≡◌, ◌≤◌, ◌<◌, ◌+◌, ◌-◌, ◌++◌, ◌∷◌, ◌⊎◌, ℕ, List, [], drop, length}
use Rattle.std.specs.Prelude.{Option, min}
use Rattle.ras_machine.specs.State.{State}
use Rattle.books.specs.declared.book.Entry.{Entry}
use Rattle.books.specs.Chapters.{ChapterValue}
use Rattle.zone_lock.specs.Held.{IsBookUnderLock, IsChapterUnderLock}
use Rattle.udp_server.specs.declared.plan.Plan.{Plan}
use Rattle.udp_server.specs.Ends.{most_count}

-- A chapter is due behind a step whose entry is at this place, if the first entry behind the last
-- chapter is at that one: there are as many entries as the plan says for a chapter, which isn't 0.
abbrev pub IsChapterDue : ℕ → ℕ → ℕ → Type 0
IsChapterDue chapter first place = (0 < chapter) × (chapter ≤ place - first + 1)

-- no chapter is due: there are fewer entries than that, or no chapter ever ends
abbrev pub IsNoChapterDue : ℕ → ℕ → ℕ → Type 0
IsNoChapterDue chapter first place = (chapter ≡ 0) ⊎ (place - first + 1 < chapter)

-- A chapter was put behind those that are kept. If there were as many as are kept at most, the
-- oldest one has gone.
pub record IsKeptBehind {A : Type 0} (most : ℕ) (chapter : A) (old new : List A) : Type 0 where
  pub beside : length old < most → new ≡ old ++ chapter ∷ []
  pub in_place : most ≤ length old → new ≡ drop 1 old ++ chapter ∷ []

-- The chapters that are kept are as before; or one more ended, which has what stood behind the
-- lock, and was put behind them.
abbrev pub AreLatest : State → ℕ → List ChapterValue → List ChapterValue → Type 0
AreLatest opened most old new =
    (new ≡ old)
    ⊎ ((chapter : ChapterValue) × IsChapterUnderLock opened chapter
    × IsKeptBehind most chapter old new)

-- the chapters that are kept, and the place of the first entry behind the last chapter
pub record Kept : Type 0 where
  pub latest : List ChapterValue
  pub first : ℕ

abbrev pub kept : List ChapterValue → ℕ → Kept
kept latest first = record { latest = latest; first = first }

-- the place behind as many entries, the first of which stands at this one
abbrev pub place_behind : ℕ → List Entry → ℕ
place_behind first entries = min (first + length entries) most_count

-- A chapter ended. It has what stood behind the lock, and was put behind those that are kept; the
-- first entry behind it is the next one.
pub record IsChapterCut (opened : State) (most : ℕ) (old new : Kept) : Type 0 where
  pub chapter : ChapterValue
  pub cut : IsChapterUnderLock opened chapter
  pub kept : IsKeptBehind most chapter old.latest new.latest
  pub first : new.first ≡ place_behind chapter.first chapter.entries

-- Entries that stood behind the lock were let go, and the first one behind them is the next one.
pub record AreLetGo (opened : State) (old new : Kept) : Type 0 where
  pub base : Option State
  pub entries : List Entry
  pub book : IsBookUnderLock opened base entries
  pub same : new.latest ≡ old.latest
  pub first : new.first ≡ place_behind old.first entries

-- A chapter ended, if this many are kept: it was cut, or its entries were let go if none is kept.
abbrev pub IsChapterEnded : State → ℕ → Kept → Kept → Type 0
IsChapterEnded opened most old new =
    ((0 < most) × IsChapterCut opened most old new) ⊎ ((most ≡ 0) × AreLetGo opened old new)

-- A chapter ended behind a step at this place, if one was due by the plan. If none was, all is as
-- before.
abbrev pub IsEndedIfDue : State → Plan → ℕ → Kept → Kept → Type 0
IsEndedIfDue opened plan place old new =
    (IsNoChapterDue plan.chapter old.first place × (new ≡ old))
    ⊎ (IsChapterDue plan.chapter old.first place × IsChapterEnded opened plan.latest old new)
