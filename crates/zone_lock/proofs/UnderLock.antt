-- What is told of the zone that was locked.
use Rattle.std.proofs.Common.{◌≡◌, ◌+◌, ℕ, [], ◌∷◌, ◌++◌}
use Rattle.std.proofs.Common.{length, ap, subst, Ok, Err, IfOk}
use Rattle.std.specs.Prelude.{All, List, Result, None, Some, IfErr, MatchResult, ◌↔◌}
use Rattle.pools.specs.Account.{Account}
use Rattle.pools.specs.declared.fault.ReplaceFault.{ReplaceFault}
use Rattle.zone_events.specs.declared.change.Change.{Change}
use Rattle.zone_events.specs.declared.change.Change.TheVariants as change
use Rattle.ras_machine.specs.State.{State}
use Rattle.ras_core.specs.Replacing.{IsOldPool, IsRefusalOrMemory, change_by, fault_unasked}
use Rattle.ras_core.specs.Runs.{RunningChange, RunningReplacement}
use Rattle.books.specs.declared.book.Receipt.{Receipt}
use Rattle.books.specs.Chapters.{ChapterValue}
use Rattle.ras_machine.specs.Machine.{most_steps}
use Rattle.ras_core.specs.declared.fault.StepFault.{StepFault}
use Rattle.zone_lock.specs.declared.listing.Listing.{Listing}
use Rattle.zone_lock.specs.Held.{Held, IsKept}
use Rattle.zone_lock.specs.Held.{IsChapterUnderLock, IsClosed, IsOpen}
use Rattle.zone_lock.specs.Held.{IsRefusedUnderLock, IsReplacedUnderLock, IsStepUnderLock}
use Rattle.zone_lock.specs.Held.{IsWithoutBase, entry_by, receipt_at}
use Rattle.zone_lock.specs.Listings.{IsListing, IsListingUnderLock}
use Rattle.zone_lock.specs.Seats.{Seated}
use Rattle.zone_lock.specs.Views.{IsCallRow, IsCallUnderLock, IsEndpointRow}
use Rattle.zone_lock.specs.Views.{IsEndpointUnderLock}
use Rattle.zone_view.specs.declared.rows.CallRow.{CallRow}
use Rattle.zone_view.specs.declared.rows.EndpointRow.{EndpointRow}

-- a step of the zone that was locked is one of some sound zone
pub step_under_lock : (opened : State) (r : Result Receipt StepFault) (old new : Held) (s : Seated)
    (event : Change) → IsKept opened old → IsKept opened new
    → IfOk r (λ receipt. RunningChange old.zone event receipt.outcome new.zone)
    → IfOk r (λ receipt. new.entries
    ≡ old.entries ++ entry_by s.number s.calls event receipt.outcome ∷ [])
    → IfOk r (λ receipt. receipt ≡ receipt_at (old.first + length old.entries)
    (entry_by s.number s.calls event receipt.outcome)) → new.first ≡ old.first
    → IfOk r (λ receipt. IsStepUnderLock opened receipt.place
    (entry_by s.number s.calls event receipt.outcome))
step_under_lock opened (Ok receipt) old new s event before after step entries told first = record {
  old = old;
  new = new;
  before = before;
  after = after;
  step = step;
  entries = entries;
  first = first;
  is_at = ap (λ (x : Receipt). x.place) told;
}
step_under_lock opened (Err fault) old new s event before after step entries told first = tt

-- the same, of the seat and the event that were handed in
pub step_told : (opened : State) (r : Result Receipt StepFault) (old new : Held) (t s : Seated)
    (made event : Change) → t ≡ s → made ≡ event → IsKept opened old → IsKept opened new
    → IfOk r (λ receipt. RunningChange old.zone made receipt.outcome new.zone)
    → IfOk r (λ receipt. new.entries
    ≡ old.entries ++ entry_by t.number t.calls made receipt.outcome ∷ [])
    → IfOk r (λ receipt. receipt ≡ receipt_at (old.first + length old.entries)
    (entry_by t.number t.calls made receipt.outcome)) → new.first ≡ old.first
    → IfOk r (λ receipt. IsStepUnderLock opened receipt.place
    (entry_by s.number s.calls event receipt.outcome))
step_told opened r old new t s made event same_seat same before after step entries told first =
    subst (λ (x : Seated). IfOk r (λ receipt. IsStepUnderLock opened receipt.place
    (entry_by x.number x.calls event receipt.outcome))) same_seat
    (subst (λ (e : Change). IfOk r (λ receipt. IsStepUnderLock opened receipt.place
    (entry_by t.number t.calls e receipt.outcome))) same
    (step_under_lock opened r old new t made before after step entries told first))

-- Whoever held the lock and found it closed saw that as many steps were made as there may be.
pub closed_under_lock : (opened : State) (P : Type 0) (h : Held) → IsKept opened h
    → (P ↔ (h.zone.state.steps ≡ most_steps)) → P → IsClosed opened
closed_under_lock opened P h kept closed is = record {
  held = h;
  kept = kept;
  steps = closed.0 is;
}

-- Whoever held the lock and found it open saw that fewer were.
pub open_under_lock : (opened : State) (P : Type 0) (h : Held) → IsKept opened h
    → (P ↔ (h.zone.state.steps ≡ most_steps)) → (P → ⊥) → IsOpen opened
open_under_lock opened P h kept closed is_not = record {
  held = h;
  kept = kept;
  steps = λ most. is_not (closed.1 most);
}

pub without_base : (opened : State) (P : Type 0) (h : Held) → IsKept opened h
    → (P ↔ (h.base ≡ None)) → P → IsWithoutBase opened
without_base opened P h kept none is = record { held = h; kept = kept; none = none.0 is }

pub listing_under_lock : (opened : State) (E : Type 0) (r : Result Listing E) (h : Held)
    → IsKept opened h → IfOk r (IsListing h.zone.state) → IfOk r (IsListingUnderLock opened)
listing_under_lock opened E (Ok listing) h kept is = record { held = h; kept = kept; listing = is }
listing_under_lock opened E (Err fault) h kept is = tt

pub chapter_under_lock : (opened : State) (E : Type 0) (r : Result ChapterValue E) (h : Held)
    → IsKept opened h → IfOk r (λ chapter. chapter ≡ record {
      first = h.first;
      base = chapter.base;
      entries = h.entries;
      end = h.zone.state;
    }) → IfOk r (λ chapter. h.base ≡ Some chapter.base) → IfOk r (IsChapterUnderLock opened)
chapter_under_lock opened E (Ok chapter) h kept is begun = record {
  held = h;
  kept = kept;
  first = ap (λ (x : ChapterValue). x.first) is;
  base = begun;
  entries = ap (λ (x : ChapterValue). x.entries) is;
  end = ap (λ (x : ChapterValue). x.end) is;
}
chapter_under_lock opened E (Err fault) h kept is begun = tt

-- A pool of the zone that was locked was replaced: that is a step of some sound zone, and its old
-- pool comes back.
module _ {P : Type 0} (account : P → Account) (opened : State) where
  pub replaced_under_lock : (r : Result (Receipt × P) (P × ReplaceFault)) (old new : Held)
      (s : Seated) (pool : ℕ) (fresh : Account) (moment : ℕ) → IsKept opened old → IsKept opened new
      → IfOk r (λ done. RunningReplacement old.zone (change_by pool fresh moment) done.0.outcome
      new.zone)
      → IfOk r (λ done. IsOldPool old.zone pool (account done.1))
      → IfOk r (λ done. new.entries ≡ old.entries ++ entry_by s.number s.calls
      (change.PoolChange (change_by pool fresh moment)) done.0.outcome ∷ [])
      → IfOk r (λ done. done.0 ≡ receipt_at (old.first + length old.entries)
      (entry_by s.number s.calls (change.PoolChange (change_by pool fresh moment)) done.0.outcome))
      → new.first ≡ old.first
      → IfOk r (λ done. IsReplacedUnderLock opened done.0.place
      (entry_by s.number s.calls (change.PoolChange (change_by pool fresh moment)) done.0.outcome)
      pool (account done.1))
  replaced_under_lock (Ok done) old new s pool fresh moment before after step back entries told
      first = record {
        made = record {
          old = old;
          new = new;
          before = before;
          after = after;
          step = step;
          entries = entries;
          first = first;
          is_at = ap (λ (x : Receipt). x.place) told;
        };
        old_pool = back;
      }
  replaced_under_lock (Err refused) old new s pool fresh moment before after step back entries told
      first = tt

  pub refused_under_lock : (r : Result (Receipt × P) (P × ReplaceFault)) (h : Held) (pool : ℕ)
      (fresh : Account) → IsKept opened h
      → MatchResult r (λ _. fault_unasked h.zone.state pool fresh ≡ None)
      (λ refused. IsRefusalOrMemory h.zone.state pool fresh (account refused.0) refused.1)
      → IfErr r (λ refused. IsRefusedUnderLock opened pool fresh (account refused.0) refused.1)
  refused_under_lock (Ok done) h pool fresh kept refusal = tt
  refused_under_lock (Err refused) h pool fresh kept refusal =
      record { held = h; kept = kept; refusal = refusal }

-- what holds of each holds of it in other words
pub each_in_other_words : {T : Type 0} (P Q : T → Type 0) → ((x : T) → P x → Q x) → (xs : List T)
    → All P xs → All Q xs
each_in_other_words P Q words xs each = λ k d there. words _ (each k d there)

-- rows of what stood behind the lock are rows of some of it
pub endpoints_under_lock : (opened : State) (held : Held) (rows : List EndpointRow)
    → IsKept opened held → All (IsEndpointRow held.zone.state.tables) rows
    → All (IsEndpointUnderLock opened) rows
endpoints_under_lock opened held rows kept each =
    each_in_other_words (IsEndpointRow held.zone.state.tables) (IsEndpointUnderLock opened)
    (λ row is. record { held = held; kept = kept; row_is = is }) rows each

pub calls_under_lock : (opened : State) (held : Held) (rows : List CallRow) → IsKept opened held
    → All (IsCallRow held.zone.state.tables) rows → All (IsCallUnderLock opened) rows
calls_under_lock opened held rows kept each =
    each_in_other_words (IsCallRow held.zone.state.tables) (IsCallUnderLock opened)
    (λ row is. record { held = held; kept = kept; row_is = is }) rows each
