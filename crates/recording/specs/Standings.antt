-- How far a record was written.
use Rattle.std.specs.Prelude.{ℕ, ◌*◌, ◌≤◌, Bool}
use Rattle.script.specs.Streams.{OutputState}

-- the output, how many steps and octets were written, how many octets may be, and whether a further
-- step may be
pub record Standing : Type 0 where
  pub output : OutputState
  pub steps : ℕ
  pub octets : ℕ
  pub most : ℕ
  pub is_open : Bool

-- a step has two lines, of one octet or more; the bound isn't passed
pub record IsCounted (steps octets most : ℕ) : Type 0 where
  pub lines : 2 * steps ≤ octets
  pub bound : octets ≤ most
