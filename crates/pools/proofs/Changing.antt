-- The members of a set, if one of them changes, or all do.
use Rattle.std.proofs.Common.{◌≡◌, ℕ, ◌<◌, ◌≤◌, List, [], ◌∷◌, length}
use Rattle.std.proofs.Common.{map, get_or, set, All, replicate}
use Rattle.std.proofs.Common.{IsTrue, refl, sym, subst, ap, ◌∙◌, arith, zero, suc}
use Rattle.std.proofs.lemmas.List.{map-set, get_or-map, set-get_or, length-map, length-set}
use Rattle.std.proofs.lemmas.List.Elements.{All-map, All-set}
use Rattle.pools.specs.declared.interface.Lend.{Lend}
use Rattle.pools.specs.declared.interface.Lend.TheVariants.{Lent, Refused, Wait}
use Rattle.pools.specs.declared.pool_set.Counts.{Counts}
use Rattle.pools.specs.Account.{Account, IsWithinLimit, IsAnswer, is_idle, opening_account}
use Rattle.pools.specs.Account.{account_after_answer, account_without_loans}
use Rattle.pools.specs.Members.{Member, IsPoolSet, accounts_of, member_after_turn, member_at}
use Rattle.pools.specs.Members.{members_after_answer, members_after_return, members_after_turn}
use Rattle.pools.specs.Members.{member_without_loans, new_member}
use Rattle.pools.specs.inside.Counted.{AreCounted, MakeASet, counted, members_of}

abbrev pub no_counts : Counts
no_counts = record { requests = 0; turns = 0 }

-- there is one member for each pool, if there are counts for each
pub length-members_of :
    (accounts : List Account) (counts : List Counts) → length accounts ≤ length counts →
    length (members_of accounts counts) ≡ length accounts
length-members_of [] counts few = refl
length-members_of (a ∷ accounts) [] few = absurd (omega (arith, few))
length-members_of (a ∷ accounts) (c ∷ counts) few =
    ap (λ n. suc n) (length-members_of accounts counts (omega (arith, few)))

-- the accounts of the members are those of the pools
pub accounts_of-members_of :
    (accounts : List Account) (counts : List Counts) → length accounts ≤ length counts →
    accounts ≡ accounts_of (members_of accounts counts)
accounts_of-members_of [] counts few = refl
accounts_of-members_of (a ∷ accounts) [] few = absurd (omega (arith, few))
accounts_of-members_of (a ∷ accounts) (c ∷ counts) few =
    ap (λ bs. a ∷ bs) (accounts_of-members_of accounts counts (omega (arith, few)))

-- the member at a place is the account there with its counts
pub member_here :
    (accounts : List Account) (counts : List Counts) (i : ℕ) (d : Member) (a : Account) (c : Counts)
    → i < length accounts → i < length counts →
    get_or (members_of accounts counts) i d ≡ counted (get_or accounts i a) (get_or counts i c)
member_here [] counts i d a c h k = absurd (omega (arith, h))
member_here (b ∷ accounts) [] i d a c h k = absurd (omega (arith, k))
member_here (b ∷ accounts) (e ∷ counts) zero d a c h k = refl
member_here (b ∷ accounts) (e ∷ counts) (suc i) d a c h k =
    member_here accounts counts i d a c (omega (arith, h)) (omega (arith, k))

-- an account and its counts are written
members_of-set :
    (accounts : List Account) (counts : List Counts) (i : ℕ) (a : Account) (c : Counts) →
    length accounts ≤ length counts →
    members_of (set accounts i a) (set counts i c)
    ≡ set (members_of accounts counts) i (counted a c)
members_of-set [] counts i a c few = refl
members_of-set (b ∷ accounts) [] i a c few = absurd (omega (arith, few))
members_of-set (b ∷ accounts) (e ∷ counts) zero a c few = refl
members_of-set (b ∷ accounts) (e ∷ counts) (suc i) a c few =
    ap (λ ms. counted b e ∷ ms) (members_of-set accounts counts i a c (omega (arith, few)))

-- members that were asked and told nothing yet
pub members_of-new :
    (accounts : List Account) (n : ℕ) → length accounts ≤ n →
    members_of accounts (replicate n no_counts) ≡ map new_member accounts
members_of-new [] n few = refl
members_of-new (a ∷ accounts) zero few = absurd (omega (arith, few))
members_of-new (a ∷ accounts) (suc n) few =
    ap (λ ms. new_member a ∷ ms) (members_of-new accounts n (omega (arith, few)))

-- the accounts of new members are those that they were made of
pub accounts_of-new : (accounts : List Account) → accounts_of (map new_member accounts) ≡ accounts
accounts_of-new [] = refl
accounts_of-new (a ∷ accounts) = ap (λ bs. a ∷ bs) (accounts_of-new accounts)

-- The pools xs with their counts. Callers see of a pool what f sees.
module _ {X : Type 0} (f : X → Account) (xs : List X) (cs : List Counts) where
  few_accounts : AreCounted xs cs → length (map f xs) ≤ length cs
  few_accounts are = omega (arith, are.few, are.each, length-map xs f)

  module _ (members : List Member) (is : members_of (map f xs) cs ≡ members)
      (are : AreCounted xs cs) where
    pub as_many : length members ≡ length xs
    as_many = ap length (sym is)
        ∙ (length-members_of (map f xs) cs (few_accounts are) ∙ length-map xs f)

    -- pool i
    module _ (i : ℕ) (below : i < length members) where
      pub below_pools : i < length xs
      below_pools = omega (arith, below, as_many)

      pub below_sixteen : i < 16
      below_sixteen = omega (arith, below_pools, are.few)

      pub counts_here : counted (get_or (map f xs) i (opening_account 0)) (get_or cs i no_counts)
          ≡ member_at members i
      counts_here =
          sym (member_here (map f xs) cs i (new_member (opening_account 0)) (opening_account 0)
          no_counts
          (omega (arith, below_pools, length-map xs f))
          (omega (arith, below_pools, are.few, are.each)))
          ∙ ap (λ (ms : List Member). member_at ms i) is

      pub account_here : (x : X) → x ≡ get_or xs i x → f x ≡ (member_at members i).account
      account_here x read =
          ap f read ∙ sym (get_or-map f xs i x (opening_account 0) below_pools)
          ∙ ap (λ (m : Member). m.account) counts_here

      -- a pool and its counts are written
      pub written : (y : X) (c : Counts) (m : Member) → counted (f y) c ≡ m
          → members_of (map f (set xs i y)) (set cs i c) ≡ set members i m
      written y c m is_m =
          ap (λ (bs : List Account). members_of bs (set cs i c)) (map-set f xs i y)
          ∙ (members_of-set (map f xs) cs i (f y) c (few_accounts are)
          ∙ (λ j. set (is j) i (is_m j)))

      -- the pool alone
      pub pool_written : (y : X) (m : Member)
          → counted (f y) (get_or cs i no_counts) ≡ m
          → members_of (map f (set xs i y)) cs ≡ set members i m
      pool_written y m is_m =
          ap (λ ds. members_of (map f (set xs i y)) ds) (sym (set-get_or cs i no_counts))
          ∙ written y (get_or cs i no_counts) m is_m

-- an answer keeps a pool within its limit
pub within_limit_after_answer :
    (a : Account) (asked : ℕ) (answer : Lend) →
    IsWithinLimit a → IsAnswer a.figures asked answer
    → IsWithinLimit (account_after_answer a asked answer)
within_limit_after_answer a asked (Lent n) w answer = answer.2
within_limit_after_answer a asked Refused w answer = w
within_limit_after_answer a asked Wait w answer = w

-- a pool that has lent nothing is within its limit
idle_within : (a : Account) → IsTrue (is_idle a) → IsWithinLimit a
idle_within a idle = grind (arith, idle)

-- a set of pools stays one if one pool changes and stays within its limit
pool_set_after :
    (members : List Member) (i : ℕ) (m : Member) → IsPoolSet members → IsWithinLimit m.account →
    IsPoolSet (set members i m)
pool_set_after members i m s within = record {
  at_least_one = rw length-set s.at_least_one;
  at_most_sixteen = rw length-set s.at_most_sixteen;
  within_limits =
      All-set (λ (m : Member). IsWithinLimit m.account) members i m within s.within_limits;
}

-- a member of a set is within its limit
pub within_limit_at :
    (members : List Member) (i : ℕ) → IsPoolSet members → i < length members →
    IsWithinLimit (member_at members i).account
within_limit_at members i s below = s.within_limits i (new_member (opening_account 0)) below

-- new members of idle pools make a set
pub pool_set-new :
    (accounts : List Account) → 1 ≤ length accounts → length accounts ≤ 16 →
    All (λ (a : Account). IsTrue (is_idle a)) accounts → IsPoolSet (map new_member accounts)
pool_set-new accounts some few idle = record {
  at_least_one = rw length-map some;
  at_most_sixteen = rw length-map few;
  within_limits = All-map (λ (m : Member). IsWithinLimit m.account) new_member accounts
      (λ k d below. idle_within (get_or accounts k d) (idle k d below));
}

-- a pool of a set is written with its counts, and stays within its limit: the pools make a set
module _ {X : Type 0} (f : X → Account) (xs : List X) (cs : List Counts) (members : List Member)
    (is : members_of (map f xs) cs ≡ members) (are : MakeASet f xs cs) (i : ℕ)
    (below : i < length members) (y : X) (m : Member) (within : IsWithinLimit m.account) where
  sound_after : IsPoolSet (set members i m)
  sound_after = pool_set_after members i m (subst IsPoolSet is are.sound) within

  pub set-written : (c : Counts) → counted (f y) c ≡ m → MakeASet f (set xs i y) (set cs i c)
  set-written c is_m = record {
    counted = record {
      few = rw length-set are.counted.few;
      each = rw length-set are.counted.each;
    };
    sound = subst IsPoolSet
        (sym (written f xs cs members is are.counted i below y c m is_m)) sound_after;
  }

pub pool_set-return :
    (members : List Member) (i n : ℕ) → IsPoolSet members → i < length members →
    IsPoolSet (members_after_return members i n)
pool_set-return members i n s below =
    pool_set_after members i _ s (omega (arith, within_limit_at members i s below))

pub pool_set-turn : (members : List Member) → IsPoolSet members
    → IsPoolSet (members_after_turn members)
pool_set-turn members s = record {
  at_least_one = rw length-map s.at_least_one;
  at_most_sixteen = rw length-map s.at_most_sixteen;
  within_limits = All-map (λ (m : Member). IsWithinLimit m.account) member_after_turn members
      s.within_limits;
}

-- nothing changes if a member that has nothing lent gives all back
pub nothing_to_return :
    (members : List Member) (i : ℕ) → (member_at members i).account.figures.lent ≡ 0 →
    members ≡ set members i (member_without_loans (member_at members i))
nothing_to_return members i none =
    let same : member_without_loans (member_at members i) ≡ member_at members i =
    ap (λ (n : ℕ). record (member_at members i) {
      account = record (member_at members i).account {
        figures = record (member_at members i).account.figures { lent = n };
      };
    }) (sym none) in
    sym (ap (λ (m : Member). set members i m) same
    ∙ set-get_or members i (new_member (opening_account 0)))

-- members that gave all back have nothing lent
pub all_repaid :
    (members : List Member) →
    All (λ (m : Member). m.account.figures.lent ≡ 0) (map member_without_loans members)
all_repaid members =
    All-map (λ (m : Member). m.account.figures.lent ≡ 0) member_without_loans members
    (λ k d h. refl)

-- and their accounts are those of before without loans
pub accounts_of-without_loans :
    (members : List Member) →
    accounts_of (map member_without_loans members) ≡ map account_without_loans (accounts_of members)
accounts_of-without_loans [] = refl
accounts_of-without_loans (m ∷ members) =
    ap (λ accounts. account_without_loans m.account ∷ accounts) (accounts_of-without_loans members)
