-- Moments by which things are due: at most one for each place.
use Rattle.std.specs.Prelude.{◌≡◌, ◌≤◌, ℕ, Some}
use Rattle.std.specs.Ordering.{nat_cmp}
use Rattle.std.specs.FinMap.{FinMap, get, remove}
use Rattle.keyed.specs.Maps.{put_if}

-- the moment of each place that has one
abbrev pub Moments : Type 0
Moments = FinMap nat_cmp ℕ

-- the moments, the number below which a place can have one with no further memory, and for how many
-- moments and for how many places memory is held
pub record DeadlineTable : Type 0 where
  pub moments : Moments
  pub room : ℕ
  pub held : ℕ × ℕ

-- the moment of `from`, if it has one, is given to `to`, which has no other
abbrev pub renamed : Moments → ℕ → ℕ → Moments
renamed moments from to = put_if (remove (remove moments from) to) to (get moments from)

-- no moment is before this one
abbrev pub IsLeast : Moments → ℕ → Type 0
IsLeast moments least = (place moment : ℕ) → get moments place ≡ Some moment → least ≤ moment
