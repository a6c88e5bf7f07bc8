use Rattle.std.specs.Prelude.{ℕ, ◌≡◌}
use Rattle.pools.specs.declared.interface.Lend.{Lend}
use Rattle.pools.specs.declared.pool_spec.PoolSpec.{PoolSpec}
use Rattle.pools.specs.declared.pool_spec.PoolSpec.TheVariants.{Fixed, Step, Paced}
use Rattle.pools.specs.declared.standard.StandardPool.{StandardPool}
use Rattle.pools.specs.declared.standard.StandardPool.TheVariants as pool
use Rattle.pools.specs.Account.{Account, opening_account}
use Rattle.pools.specs.Account.{account_after_answer, account_after_return}
use Rattle.pools.specs.Kinds.{fixed_answer, IsStepAnswer, paced_answer, paced_after_answer}

-- the account of a pool that was made by this description, and was asked nothing yet
abbrev pub account_of : PoolSpec → Account
account_of (Fixed limit) = opening_account limit
account_of (Step limit step) = opening_account limit
account_of (Paced limit burst) = opening_account limit

-- the pool that was made by this description, of its kind and with its step or burst, and was asked
-- nothing yet
abbrev pub pool_of : PoolSpec → StandardPool
pool_of (Fixed limit) = pool.Fixed (opening_account limit)
pool_of (Step limit step) =
    pool.Step (record { account = opening_account limit; step = step })
pool_of (Paced limit burst) =
    pool.Paced (record { account = opening_account limit; burst = burst; lent_since_turn = 0 })

-- what callers see of a pool of any kind
abbrev pub account_in : StandardPool → Account
account_in (pool.Fixed account) = account
account_in (pool.Step p) = p.account
account_in (pool.Paced p) = p.account

-- what a pool answers, by the rule of its kind
abbrev pub AnswersByKind : StandardPool → ℕ → Lend → Type 0
AnswersByKind (pool.Fixed account) asked answer = answer ≡ fixed_answer account.figures asked
AnswersByKind (pool.Step p) asked answer = IsStepAnswer p asked answer
AnswersByKind (pool.Paced p) asked answer = answer ≡ paced_answer p asked

-- the pool after an answer: of the same kind, with the same step or burst
abbrev pub pool_after_answer : StandardPool → ℕ → Lend → StandardPool
pool_after_answer (pool.Fixed account) asked answer =
    pool.Fixed (account_after_answer account asked answer)
pool_after_answer (pool.Step p) asked answer =
    pool.Step (record p { account = account_after_answer p.account asked answer })
pool_after_answer (pool.Paced p) asked answer = pool.Paced (paced_after_answer p asked answer)

-- the pool after n units came back: a burst isn't restored
abbrev pub pool_after_return : StandardPool → ℕ → StandardPool
pool_after_return (pool.Fixed account) n = pool.Fixed (account_after_return account n)
pool_after_return (pool.Step p) n =
    pool.Step (record p { account = account_after_return p.account n })
pool_after_return (pool.Paced p) n =
    pool.Paced (record p { account = account_after_return p.account n })

-- the pool after a turn: a whole burst may be lent again
abbrev pub pool_after_turn : StandardPool → StandardPool
pool_after_turn (pool.Fixed account) = pool.Fixed account
pool_after_turn (pool.Step p) = pool.Step p
pool_after_turn (pool.Paced p) = pool.Paced (record p { lent_since_turn = 0 })
