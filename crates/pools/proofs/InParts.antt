-- A pool that lends in parts.
use Rattle.std.proofs.Common.{◌≡◌, ℕ, ◌-◌, ◌%◌, ◌<◌, ◌≤◌}
use Rattle.pools.specs.Account.{Account}
use Rattle.pools.specs.Replacing.{account_with_loans, loans_for, most_asked}

-- a pool was asked for a part of these units, and `left` of them are still to be lent
pub record LentBefore (fresh now : Account) (units left loans : ℕ) : Type 0 where
  pub at_most : left ≤ units
  pub account : now ≡ account_with_loans fresh (units - left)
  pub count : loans ≡ loans_for (units - left)
  pub whole : 0 < left → (units - left) % most_asked ≡ 0
  pub within : units - left ≤ fresh.figures.limit
