-- When kept entries are over, and when requests are served again, by the places of their rows.
use Rattle.std.specs.Prelude.{◌≡◌, ◌≤◌, ◌<◌, ℕ, List, Option, Some, None, slice_get}
use Rattle.std.specs.Option.{option_and_then, IsSomeAnd}
use Rattle.std.specs.FinMap.{get, remove}
use Rattle.keyed.specs.Maps.{Changed}
use Rattle.deadlines.specs.Deadlines.{Moments, renamed}
use Rattle.kept_replies.specs.declared.key.KeptKey.{KeptKey}
use Rattle.kept_replies.specs.declared.entry.KeptEntry.{KeptEntry}
use Rattle.kept_replies.specs.declared.entry.KeptState.{KeptState}
use Rattle.kept_replies.specs.declared.entry.KeptState.TheVariants.{Done, Pending}

-- the moment at which a reply is over
abbrev pub end_in : KeptState → Option ℕ
end_in (Done reply until) = Some until
end_in (Pending request reply retry left) = None

-- the moment at which a request is served again
abbrev pub retry_in : KeptState → Option ℕ
retry_in (Done reply until) = None
retry_in (Pending request reply retry left) = Some retry

abbrev pub end_of : KeptKey × KeptEntry → Option ℕ
end_of row = end_in row.1.state

abbrev pub retry_of : KeptKey × KeptEntry → Option ℕ
retry_of row = retry_in row.1.state

-- the moments of the rows at places, and the number below which places can have moments with no
-- further memory
pub record DueTable : Type 0 where
  pub ends : Moments
  pub retries : Moments
  pub room : ℕ

-- no moment has come
abbrev pub NoneCame : ℕ → Moments → Type 0
NoneCame now moments = (place moment : ℕ) → get moments place ≡ Some moment → now < moment

-- the moment at this place has come
abbrev pub Came : ℕ → Moments → ℕ → Type 0
Came now moments place = IsSomeAnd (get moments place) (λ moment. moment ≤ now)

-- what stands last takes this place
abbrev pub moved : Moments → ℕ → ℕ → Moments
moved moments place last = renamed (remove moments place) last place

-- these are the moments at this place, and those at other places are as before
pub record Writes (old new : DueTable) (place : ℕ) (end retry : Option ℕ) : Type 0 where
  pub ends : Changed (get old.ends) (get new.ends) place end
  pub retries : Changed (get old.retries) (get new.retries) place retry
  pub room : new.room ≡ old.room

-- what stands last takes this place
pub record TakesOut (old new : DueTable) (place last : ℕ) : Type 0 where
  pub ends : new.ends ≡ moved old.ends place last
  pub retries : new.retries ≡ moved old.retries place last
  pub room : new.room ≡ old.room

-- each place has the moment that its row has
pub record AreDueAt {X : Type 0} (moment : X → Option ℕ) (rows : List X) (moments : Moments)
    : Type 0 where
  pub due : (i : ℕ) → get moments i ≡ option_and_then moment (slice_get rows i)

-- each place has the moments of its row
pub record AreTimed (rows : List (KeptKey × KeptEntry)) (due : DueTable) : Type 0 where
  pub ends : AreDueAt end_of rows due.ends
  pub retries : AreDueAt retry_of rows due.retries
