-- What a server leaves.
use Rattle.std.specs.Prelude.{◌≡◌, ◌+◌, ℕ}
use Rattle.ras_machine.specs.State.{State}
use Rattle.ras_machine.specs.Soundness.{Sound}
use Rattle.books.specs.Books.{BookRun}
use Rattle.books.specs.Chapters.{FinishedValue}
use Rattle.books.specs.Totals.{changes_of, datagrams_of, lent_of, returned_by, turns_of}
use Rattle.zone_lock.specs.Held.{IsLedInUse, IsWholeHistory}

-- The history that a server leaves of a zone that was locked in this state. All steps that were
-- made, those that were let go too, lead from that state to the state of the zone, which is sound.
-- The entries since the last chapter lead there from the state after it; if no step stands before
-- them, they lead there from the state in which the zone was locked. The settings are the same. The
-- bandwidth in use is what was in use then, with what was lent in the whole history, but without
-- what came back in it. The whole history has `datagrams` datagrams and `turns` turns, and in
-- `changes` of its steps a fresh pool took the place of another one.
pub record IsServed (opened : State) (f : FinishedValue) (datagrams turns changes : ℕ)
    : Type 0 where
  pub history : IsWholeHistory opened f
  pub run : BookRun f.base f.entries f.zone.state
  pub sound : Sound f.zone.state
  pub opened_at : f.first ≡ 0 → f.base ≡ opened
  pub settings : f.base.tables.config ≡ opened.tables.config
  pub in_use : IsLedInUse opened f.zone.state
      (f.carried.lent + lent_of f.entries)
      (f.carried.returned + returned_by f.base f.entries f.zone.state)
  pub all_datagrams : datagrams ≡ f.carried.datagrams + datagrams_of f.entries
  pub all_turns : turns ≡ f.carried.turns + turns_of f.entries
  pub all_changes : changes ≡ f.carried.changes + changes_of f.entries
