-- The figures of a zone's pools.
use Rattle.std.specs.Prelude.{ℕ, ◌≡◌, ◌≤◌, ◌<◌, ◌-◌, ◌^◌, List, All, length, map}
use Rattle.std.specs.Prelude.{slice_index_or, slice_set, Option, None, Some, nat_lt}
use Rattle.std.specs.Prelude.{if◌then◌else◌}
use Rattle.pools.specs.declared.interface.Figures.{Figures}
use Rattle.pools.specs.declared.interface.Lend.{Lend}
use Rattle.pools.specs.declared.interface.Lend.TheVariants.{Lent, Refused, Wait}
use Rattle.pools.specs.Account.{Account, opening_account, figures_after_least}

-- the figures of each account
abbrev pub figures_of : List Account → List Figures
figures_of accounts = map (λ a. a.figures) accounts

-- no pool has lent more than its limit
abbrev pub AreWithinLimits : List Figures → Type 0
AreWithinLimits pools = All (λ f. f.lent ≤ f.limit) pools

-- nothing is lent, and the counts leave room for 2^62 more requests
pub record IsIdle (f : Figures) : Type 0 where
  pub lent : f.lent ≡ 0
  pub refusals : f.refusals < 2 ^ 62
  pub waits : f.waits < 2 ^ 62

-- the figures at a place; past the end, those of a pool of no units
abbrev pub figures_at : List Figures → ℕ → Figures
figures_at pools pool = slice_index_or pools pool (opening_account 0).figures

-- the units that are requested of a pool, and the least that are of use
pub record RequestedUnits : Type 0 where
  pub pool : ℕ
  pub units : ℕ
  pub least : ℕ

-- A pool gave this answer to a request: no other pool changes. A loan of fewer units than the least
-- goes back in the same step.
abbrev pub pools_after_answer : List Figures → RequestedUnits → Lend → List Figures
pools_after_answer pools ask answer =
    slice_set pools ask.pool (figures_after_least (figures_at pools ask.pool) ask.least answer)

-- the units that a request gets by an answer: those of a loan, unless they are fewer than the least
abbrev pub grant_of : ℕ → Lend → Option ℕ
grant_of least (Lent units) = if nat_lt units least then None else Some units
grant_of least Refused = None
grant_of least Wait = None

abbrev pub figures_after_return : Figures → ℕ → Figures
figures_after_return f n = record f { lent = f.lent - n }

-- these units came back to a pool: no other pool changes
abbrev pub pools_after_return : List Figures → ℕ → ℕ → List Figures
pools_after_return pools pool n =
    slice_set pools pool (figures_after_return (figures_at pools pool) n)

-- the units that an ended call had from its pool came back
abbrev pub pools_after_end : List Figures → Option (ℕ × ℕ) → List Figures
pools_after_end pools None = pools
pools_after_end pools (Some freed) = pools_after_return pools freed.0 freed.1

-- A fresh pool that is offered with these figures may take the place of a pool: there is one, the
-- fresh one is idle, and its limit is at least what that one has lent.
pub record MayReplace (pools : List Figures) (pool : ℕ) (offered : Figures) : Type 0 where
  pub there : pool < length pools
  pub idle : IsIdle offered
  pub enough : (figures_at pools pool).lent ≤ offered.limit

-- it took that place, and took over what had been lent: no other pool changes
abbrev pub pools_after_replacing : List Figures → ℕ → Figures → List Figures
pools_after_replacing pools pool offered =
    slice_set pools pool (record offered { lent = (figures_at pools pool).lent })

-- Units may be requested of a pool: from one to the most that a BandWidth of H.225.0 names, while
-- there is room to count one more refusal and one more wait.
pub record MayBeAsked (pools : List Figures) (pool units : ℕ) : Type 0 where
  pub exists : pool < length pools
  pub at_least_one : 1 ≤ units
  pub at_most_bandwidth : units < 2 ^ 32
  pub refusals_below : (figures_at pools pool).refusals < 2 ^ 63
  pub waits_below : (figures_at pools pool).waits < 2 ^ 63
