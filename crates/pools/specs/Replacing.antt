-- A fresh pool takes the place of a pool of a set, whose loans it takes over.
use Rattle.std.specs.Prelude.{◌≡◌, ◌≢◌, ℕ, ◌+◌, ◌-◌, ◌*◌, ◌/◌, ◌%◌, ◌^◌, ◌<◌, ◌≤◌, min}
use Rattle.std.specs.Prelude.{List, length, slice_set, Option, Some, None}
use Rattle.std.specs.Prelude.{◌==◌, nat_lt, if◌then◌else◌}
use Rattle.pools.specs.declared.interface.Lend.{Lend}
use Rattle.pools.specs.declared.interface.Lend.TheVariants.{Lent}
use Rattle.pools.specs.declared.fault.ReplaceFault.{ReplaceFault}
use Rattle.pools.specs.declared.fault.ReplaceFault.TheVariants.{Closed, NoPool, NotIdle}
use Rattle.pools.specs.declared.fault.ReplaceFault.TheVariants.{NotLent, Memory}
use Rattle.pools.specs.Account.{Account, IsAnswer, is_idle}
use Rattle.pools.specs.Account.{account_after_answer, account_without_loans}
use Rattle.pools.specs.Members.{Member, member_at}

-- the most units that one request asks for: the most that a BandWidth of H.225.0 names
abbrev pub most_asked : ℕ
most_asked = 2 ^ 32 - 1

-- The units that are asked for next, if these are still to be lent. So every loan but the last is
-- of the most units that one request asks for.
abbrev pub next_loan : ℕ → ℕ
next_loan left = min left most_asked

-- how many loans these units take
abbrev pub loans_for : ℕ → ℕ
loans_for units = (units + (most_asked - 1)) / most_asked

-- the units of the last loan: what the others leave
abbrev pub last_loan : ℕ → ℕ
last_loan units = units - (loans_for units - 1) * most_asked

-- the account of an idle pool that was asked for these units, and lent them all
abbrev pub account_with_loans : Account → ℕ → Account
account_with_loans a units = record {
  figures = record a.figures { lent = units };
  last = if units == 0 then a.last else Some (last_loan units, Lent (last_loan units));
}

-- A fresh pool in a set, which was asked for these units, and lent them all. Each loan is one
-- request. It was told of no time.
abbrev pub member_with_loans : Account → ℕ → Member
member_with_loans fresh units = record {
  account = account_with_loans fresh units;
  requests = loans_for units;
  turns = 0;
}

-- the units that pool i has lent
abbrev pub lent_by : List Member → ℕ → ℕ
lent_by members i = (member_at members i).account.figures.lent

-- a fresh pool stands in the place of pool i, and has lent what that one had: no other pool changes
abbrev pub members_after_replacing : List Member → ℕ → Account → List Member
members_after_replacing members i fresh =
    slice_set members i (member_with_loans fresh (lent_by members i))

-- why a fresh pool isn't even asked
abbrev pub fault_unasked : List Member → ℕ → Account → Option ReplaceFault
fault_unasked members i fresh =
    if nat_lt i (length members) then
    if is_idle fresh then None else Some NotIdle
    else Some NoPool

-- A pool that was asked for these units fell short: it had lent `before` of them, in loans of the
-- most that one request asks for, and gave to the next request another answer than a loan of all
-- that was asked. Then all came back, and this is its account.
pub record FellShort (fresh : Account) (units : ℕ) (back : Account) : Type 0 where
  pub before : ℕ
  pub answer : Lend
  pub some_left : before < units
  pub whole : before % most_asked ≡ 0
  pub fits : IsAnswer (account_with_loans fresh before).figures (next_loan (units - before)) answer
  pub short : answer ≢ Lent (next_loan (units - before))
  pub account : back
      ≡ account_without_loans (account_after_answer (account_with_loans fresh before)
      (next_loan (units - before)) answer)

-- why a fresh pool doesn't take the place of pool i; `back` is its account as it comes back
abbrev pub IsReplaceFault : List Member → ℕ → Account → Account → ReplaceFault → Type 0
IsReplaceFault members i fresh back NotLent =
    (fault_unasked members i fresh ≡ None) × FellShort fresh (lent_by members i) back
IsReplaceFault members i fresh back NoPool = fault_unasked members i fresh ≡ Some NoPool
IsReplaceFault members i fresh back NotIdle = fault_unasked members i fresh ≡ Some NotIdle
IsReplaceFault members i fresh back Closed = ⊥
IsReplaceFault members i fresh back Memory = ⊥

-- the last answer of a pool: another one than a loan of all that was asked
abbrev pub IsShort : Option (ℕ × Lend) → Type 0
IsShort None = ⊥
IsShort (Some request) = request.1 ≢ Lent request.0

-- A fresh pool as it comes back after it fell short: with nothing lent, the same limit, and at most
-- one refusal or wait more.
pub record IsHandedBack (fresh back : Account) : Type 0 where
  pub repaid : back.figures.lent ≡ 0
  pub limit : back.figures.limit ≡ fresh.figures.limit
  pub refusals : fresh.figures.refusals ≤ back.figures.refusals
  pub waits : fresh.figures.waits ≤ back.figures.waits
  pub one_more : back.figures.refusals + back.figures.waits
      ≤ fresh.figures.refusals + fresh.figures.waits + 1
  pub short : IsShort back.last

-- the numbers of the faults
abbrev pub replace_fault_number : ReplaceFault → ℕ
replace_fault_number Closed = 1
replace_fault_number NoPool = 2
replace_fault_number NotIdle = 3
replace_fault_number NotLent = 4
replace_fault_number Memory = 5
