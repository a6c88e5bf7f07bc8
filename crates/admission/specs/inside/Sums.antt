-- The sums that are kept beside the calls.
use Rattle.std.specs.Prelude.{◌≡◌, ◌<◌, ◌+◌, ℕ, length, nat_eq, get_or, if◌then◌else◌}
use Rattle.admission.specs.declared.in_use.InUse.{InUse}
use Rattle.admission.specs.Calls.{OpenCalls, in_use, in_use_of}

-- the sum that is kept of a pool
abbrev pub sum_of : InUse → ℕ → ℕ
sum_of sums pool = get_or sums.by_pool pool 0

-- the sums of no calls
pub record AreZero (sums : InUse) : Type 0 where
  pub total : sums.total ≡ 0
  pub pools : (pool : ℕ) → sum_of sums pool ≡ 0

-- the calls of this pool use this many units more
pub record Grows (old new : InUse) (pool units : ℕ) : Type 0 where
  pub total : new.total ≡ old.total + units
  pub pools : (p : ℕ) → p < length old.by_pool
      → sum_of new p ≡ sum_of old p + (if nat_eq pool p then units else 0)
  pub same_length : length new.by_pool ≡ length old.by_pool

-- these are the sums over the calls
pub record AreSums (sums : InUse) (calls : OpenCalls) : Type 0 where
  pub total : sums.total ≡ in_use calls
  pub pools : (pool : ℕ) → pool < length sums.by_pool → sum_of sums pool ≡ in_use_of calls pool
