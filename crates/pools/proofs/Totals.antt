use Rattle.std.proofs.Common.{◌≡◌, ◌≤◌, List, get_or, arith, IsTrue, All}
use Rattle.std.proofs.lemmas.List.Sums.{sum_by-le}
use Rattle.pools.specs.Account.{Account, is_idle}
use Rattle.pools.specs.Members.{Member, total_loans}

-- an idle pool has lent nothing
idle_lent : (a : Account) → IsTrue (is_idle a) → a.figures.lent ≡ 0
idle_lent a idle = grind (arith, idle)

-- idle pools have lent nothing at all
pub total_loans-idle :
    (members : List Member) → All (λ (m : Member). IsTrue (is_idle m.account)) members →
    total_loans members ≡ 0
total_loans-idle members idle =
    let none : All (λ (m : Member). m.account.figures.lent ≤ 0) members =
    λ k d l. omega (arith, idle_lent (get_or members k d).account (idle k d l)) in
    omega (arith, sum_by-le (λ (m : Member). m.account.figures.lent) 0 members none)
