use Rattle.std.proofs.Common.{◌≡◌, ◌∙◌, List, ap, subst, sym, All}
use Rattle.pools.specs.Members.{Member, accounts_of}
use Rattle.pools.proofs.Changing.{accounts_of-without_loans, all_repaid}
use Rattle.pools.proofs.Lists.{accounts_without_loans}
use Rattle.pools.proofs.pool_set.PoolSet.close.Goals as goal

pub into_pools-requires : goal.into_pools-requires
into_pools-requires g c =
    subst (λ (ms : List Member). All (λ (m : Member). m.account.figures.lent ≡ 0) ms)
    (sym c.return_all_loans.ensures) (all_repaid _)

pub returns-clause-accounts : goal.returns-clause-accounts
returns-clause-accounts g c =
    c.into_pools.ensures ∙ ap accounts_of c.return_all_loans.ensures
    ∙ accounts_of-without_loans _

pub returns-clause-repaid : goal.returns-clause-repaid
returns-clause-repaid g c = accounts_without_loans _ _ (returns-clause-accounts g c)
