-- What a set keeps of each of its pools.
use Rattle.std.specs.Prelude.{ℕ, ◌≤◌, ◌+◌, ◌-◌, ◌^◌, List, length}
use Rattle.std.specs.Prelude.{map, min, slice_index_or, slice_set}
use Rattle.std.specs.List.{All, sum_by}
use Rattle.pools.specs.declared.interface.Lend.{Lend}
use Rattle.pools.specs.Account.{Account, IsWithinLimit, opening_account}
use Rattle.pools.specs.Account.{account_after_answer, account_after_least, account_after_return}
use Rattle.pools.specs.Account.{account_without_loans}

-- a pool of a set: its account; how often the set asked it for units; and how often the set told it
-- that time went on
pub record Member : Type 0 where
  pub account : Account
  pub requests : ℕ
  pub turns : ℕ

-- a pool that the set asked nothing yet, and told of no time
abbrev pub new_member : Account → Member
new_member account = record { account = account; requests = 0; turns = 0 }

-- the accounts of the pools
abbrev pub accounts_of : List Member → List Account
accounts_of members = map (λ m. m.account) members

-- the member at a place; past the end, a new one of no units
abbrev pub member_at : List Member → ℕ → Member
member_at members i = slice_index_or members i (new_member (opening_account 0))

-- One more. A count stays at 2^64 - 1 once it is there. (A zone makes at most 2^62 steps. In each
-- it asks a pool at most once, and makes at most one turn. So its counts are exact.)
abbrev pub one_more : ℕ → ℕ
one_more n = min (n + 1) (2 ^ 64 - 1)

-- a pool was asked once, and gave this answer
abbrev pub member_after_answer : Member → ℕ → Lend → Member
member_after_answer m asked answer = record m {
  account = account_after_answer m.account asked answer;
  requests = one_more m.requests;
}

-- a pool was asked once, and gave this answer; a loan of fewer units than the least went back
abbrev pub member_after_least : Member → ℕ → ℕ → Lend → Member
member_after_least m asked least answer = record m {
  account = account_after_least m.account asked least answer;
  requests = one_more m.requests;
}

-- n units came back to a pool
abbrev pub member_after_return : Member → ℕ → Member
member_after_return m n = record m { account = account_after_return m.account n }

-- all units came back to a pool
abbrev pub member_without_loans : Member → Member
member_without_loans m = record m { account = account_without_loans m.account }

-- a pool was told once that time went on
abbrev pub member_after_turn : Member → Member
member_after_turn m = record m { turns = one_more m.turns }

-- pool i was asked once, and gave this answer: no other pool changes
abbrev pub members_after_answer : List Member → ℕ → ℕ → Lend → List Member
members_after_answer members i asked answer =
    slice_set members i (member_after_answer (member_at members i) asked answer)

-- pool i was asked once, and gave this answer; a loan of fewer units than the least went back: no
-- other pool changes
abbrev pub members_after_least : List Member → ℕ → ℕ → ℕ → Lend → List Member
members_after_least members i asked least answer =
    slice_set members i (member_after_least (member_at members i) asked least answer)

-- n units came back to pool i: no other pool changes
abbrev pub members_after_return : List Member → ℕ → ℕ → List Member
members_after_return members i n =
    slice_set members i (member_after_return (member_at members i) n)

-- each pool was told once that time went on
abbrev pub members_after_turn : List Member → List Member
members_after_turn members = map member_after_turn members

-- the units that all pools have lent
abbrev pub total_loans : List Member → ℕ
total_loans members = sum_by (λ m. m.account.figures.lent) members

-- what each set is: one to sixteen pools, none of which lends more than its limit
pub record IsPoolSet (members : List Member) : Type 0 where
  pub at_least_one : 1 ≤ length members
  pub at_most_sixteen : length members ≤ 16
  pub within_limits : All (λ m. IsWithinLimit m.account) members
