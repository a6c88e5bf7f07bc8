use Rattle.std.proofs.Common.{◌≡◌, ◌≤◌, All, IsTrue, arith, map, refl, sym, subst, length, true}
use Rattle.std.proofs.lemmas.Bool.Decides.{nat_tests}
use Rattle.std.proofs.lemmas.List.{length-map}
use Rattle.std.proofs.lemmas.List.Elements.{All-map}
use Rattle.std.proofs.lemmas.List.Sums.{AllPass-from_list_all}
use Rattle.std.specs.List.{list_all}
use Rattle.pools.specs.Account.{Account, is_idle}
use Rattle.pools.specs.Members.{IsPoolSet, Member, new_member}
use Rattle.pools.proofs.Changing.{members_of-new, pool_set-new}
use Rattle.pools.proofs.pool_set.PoolSet.new.Goals as goal

pub returns-clause-members : goal.returns-clause-members
returns-clause-members g c =
    members_of-new _ 16 (omega (arith, length-map c.args.pools.items g.P.Pool.account))

pub returns-clause-idle : goal.returns-clause-idle
returns-clause-idle g c =
    let f = g.P.Pool.account in
    let pools = c.args.pools.items in
    let all : list_all is_idle (map f pools) ≡ true = grind (arith) in
    let idle : All (λ (a : Account). IsTrue (is_idle a)) (map f pools) =
    AllPass-from_list_all is_idle (map f pools) all in
    subst (λ ms. All (λ (m : Member). IsTrue (is_idle m.account)) ms)
    (sym (returns-clause-members g c))
    (All-map (λ (m : Member). IsTrue (is_idle m.account)) new_member (map f pools) idle)

pub returns-clause-sound : goal.returns-clause-sound
returns-clause-sound g c =
    let f = g.P.Pool.account in
    let pools = c.args.pools.items in
    let all : list_all is_idle (map f pools) ≡ true = grind (arith) in
    let idle : All (λ (a : Account). IsTrue (is_idle a)) (map f pools) =
    AllPass-from_list_all is_idle (map f pools) all in
    let some : 1 ≤ length pools = grind (arith, nat_tests) in
    subst IsPoolSet (sym (returns-clause-members g c))
    (pool_set-new (map f pools) (omega (arith, some, length-map pools f))
    (omega (arith, length-map pools f)) idle)

pub invariant_of-result : goal.invariant_of-result
invariant_of-result g c = record {
  counted = record { few = omega arith; each = refl };
  sound = returns-clause-sound g c;
}
