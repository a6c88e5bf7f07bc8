-- The figures of pools, as one of them changes.
use Rattle.std.proofs.Common.{◌≡◌, ◌≢◌, ◌<◌, ◌≤◌, ◌+◌, ℕ, Bool, true, false, List, length}
use Rattle.std.proofs.Common.{get_or, set, All, arith}
use Rattle.std.specs.Prelude.{if◌then◌else◌}
use Rattle.std.proofs.lemmas.List.{get_or-set_other}
use Rattle.std.proofs.lemmas.List.Elements.{All-set}
use Rattle.std.proofs.lemmas.Grind.{get_or-set_at}
use Rattle.pools.specs.declared.interface.Figures.{Figures}
use Rattle.pools.specs.declared.interface.Lend.{Lend}
use Rattle.pools.specs.declared.interface.Lend.TheVariants.{Lent, Refused, Wait}
use Rattle.pools.specs.Account.{IsAnswer, figures_after_answer, figures_after_least}
use Rattle.pools.specs.Account.{is_too_small, opening_account}
use Rattle.zone_tables.specs.Pools.{AreWithinLimits, RequestedUnits, figures_at}
use Rattle.zone_tables.specs.Pools.{pools_after_answer}
use Rattle.zone_tables.specs.Pools.{figures_after_return, pools_after_return}
use Rattle.zone_tables.specs.Soundness.{HasCounts}

-- one pool changes
module _ (pools : List Figures) (i : ℕ) (f : Figures) where
  pub figures_here : (p : ℕ) → p ≡ i → i < length pools → figures_at (set pools i f) p ≡ f
  figures_here p same below = get_or-set_at pools i p f (opening_account 0).figures same below

  pub figures_elsewhere : (p : ℕ) → p ≢ i → figures_at (set pools i f) p ≡ figures_at pools p
  figures_elsewhere p differ = get_or-set_other pools i p f (opening_account 0).figures differ

HasCounts-more : (most : ℕ) (f : Figures) → HasCounts most f → HasCounts (most + 1) f
HasCounts-more most f h = record {
  refusals = omega (arith, h.refusals);
  waits = omega (arith, h.waits);
}

All-more : (most : ℕ) (pools : List Figures) → All (HasCounts most) pools
    → All (HasCounts (most + 1)) pools
All-more most pools h k d below = HasCounts-more most (get_or pools k d) (h k d below)

counts-answer : (most : ℕ) (f : Figures) (answer : Lend) → HasCounts most f
    → HasCounts (most + 1) (figures_after_answer f answer)
counts-answer most f (Lent n) h = record {
  refusals = omega (arith, h.refusals);
  waits = omega (arith, h.waits);
}
counts-answer most f Refused h = record {
  refusals = omega (arith, h.refusals);
  waits = omega (arith, h.waits);
}
counts-answer most f Wait h = record {
  refusals = omega (arith, h.refusals);
  waits = omega (arith, h.waits);
}

-- a loan that is too small goes back
either : (P : Figures → Type 0) (f g : Figures) (b : Bool) → P f → P g → P (if b then f else g)
either P f g true hf hg = hf
either P f g false hf hg = hg

pub after_least : (P : Figures → Type 0) (f : Figures) (least : ℕ) (answer : Lend) → P f
    → P (figures_after_answer f answer) → P (figures_after_least f least answer)
after_least P f least answer = either P f (figures_after_answer f answer) (is_too_small least answer)

-- an answer counts at most one refusal and one wait
pub All-answer : (most : ℕ) (pools : List Figures) (ask : RequestedUnits) (answer : Lend)
    → All (HasCounts most) pools → ask.pool < length pools
    → All (HasCounts (most + 1)) (pools_after_answer pools ask answer)
All-answer most pools ask answer h below =
    let f = figures_at pools ask.pool in
    let here : HasCounts most f = h ask.pool (opening_account 0).figures below in
    All-set (HasCounts (most + 1)) pools ask.pool (figures_after_least f ask.least answer)
    (after_least (HasCounts (most + 1)) f ask.least answer (HasCounts-more most f here)
    (counts-answer most f answer here))
    (All-more most pools h)

-- no limit is passed by an answer that may be given, nor by units that come back
answer_within : (f : Figures) (units : ℕ) (answer : Lend) → IsAnswer f units answer
    → f.lent ≤ f.limit → (figures_after_answer f answer).lent
    ≤ (figures_after_answer f answer).limit
answer_within f units (Lent n) fits within = fits.2
answer_within f units Refused fits within = within
answer_within f units Wait fits within = within

pub AreWithinLimits-answer : (pools : List Figures) (ask : RequestedUnits) (answer : Lend)
    → AreWithinLimits pools → ask.pool < length pools
    → IsAnswer (figures_at pools ask.pool) ask.units answer
    → AreWithinLimits (pools_after_answer pools ask answer)
AreWithinLimits-answer pools ask answer h below fits =
    let f = figures_at pools ask.pool in
    let here : f.lent ≤ f.limit = h ask.pool (opening_account 0).figures below in
    All-set (λ (f : Figures). f.lent ≤ f.limit) pools ask.pool
    (figures_after_least f ask.least answer)
    (after_least (λ (f : Figures). f.lent ≤ f.limit) f ask.least answer here
    (answer_within f ask.units answer fits here)) h

pub AreWithinLimits-return : (pools : List Figures) (i n : ℕ) → AreWithinLimits pools
    → i < length pools → AreWithinLimits (pools_after_return pools i n)
AreWithinLimits-return pools i n h below =
    All-set (λ (f : Figures). f.lent ≤ f.limit) pools i
    (figures_after_return (figures_at pools i) n)
    (omega (arith, h i (opening_account 0).figures below)) h
