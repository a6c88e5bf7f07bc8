-- The pools of a set beside their counts.
use Rattle.std.specs.Prelude.{◌≡◌, ◌≤◌, List, [], ◌∷◌, length, map}
use Rattle.pools.specs.declared.pool_set.Counts.{Counts}
use Rattle.pools.specs.Account.{Account}
use Rattle.pools.specs.Members.{IsPoolSet, Member}

-- an account with its counts
abbrev pub counted : Account → Counts → Member
counted account counts = record {
  account = account;
  requests = counts.requests;
  turns = counts.turns;
}

-- each account with its counts
abbrev pub members_of : List Account → List Counts → List Member
members_of [] counts = []
members_of (account ∷ accounts) [] = []
members_of (account ∷ accounts) (c ∷ counts) = counted account c ∷ members_of accounts counts

-- there are counts for each pool
pub record AreCounted {P : Type 0} (pools : List P) (counts : List Counts) : Type 0 where
  pub few : length pools ≤ 16
  pub each : length counts ≡ 16

-- these pools with these counts make a set
pub record MakeASet {P : Type 0} (account : P → Account) (pools : List P) (counts : List Counts)
    : Type 0 where
  pub counted : AreCounted pools counts
  pub sound : IsPoolSet (members_of (map account pools) counts)
