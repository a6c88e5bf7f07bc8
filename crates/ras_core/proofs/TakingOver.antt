-- A fresh pool takes over the loans of another one: what the pools' set says of it, in the words of
-- the zone.
use Rattle.std.proofs.Common.{◌≡◌, ◌≤◌, ◌<◌, ◌==◌, ℕ, Bool, true, false, List, length}
use Rattle.std.proofs.Common.{refl, sym, ◌∙◌, ap, subst, set, arith, Some, None}
use Rattle.std.specs.Prelude.{◌↔◌, IsTrue, nat_lt, if◌then◌else◌}
use Rattle.std.proofs.lemmas.Bool.Decides.{Decides-eqb, nat_tests}
use Rattle.std.proofs.lemmas.List.{length-map, map-set}
use Rattle.pools.specs.declared.fault.ReplaceFault.{ReplaceFault}
use Rattle.pools.specs.declared.fault.ReplaceFault.TheVariants.{Closed, NoPool, NotIdle, NotLent}
use Rattle.pools.specs.declared.fault.ReplaceFault.TheVariants.{Memory}
use Rattle.pools.specs.declared.interface.Figures.{Figures}
use Rattle.pools.specs.Account.{Account, account_without_loans, is_idle}
use Rattle.pools.specs.Members.{Member, accounts_of, member_at}
use Rattle.pools.specs.Replacing as by_set
use Rattle.pools.specs.Replacing.{FellShort, IsReplaceFault, lent_by, member_with_loans}
use Rattle.pools.specs.Replacing.{members_after_replacing}
use Rattle.zone_tables.specs.Pools.{IsIdle, MayReplace, figures_at, figures_of}
use Rattle.zone_tables.specs.Pools.{pools_after_replacing}
use Rattle.zone_tables.proofs.Members.{figures_there}
use Rattle.ras_machine.specs.Machine.{most_steps}
use Rattle.ras_machine.specs.State.{State}
use Rattle.ras_core.specs.Replacing.{IsOldPool, IsRefusal, fault_unasked}
use Rattle.ras_core.specs.Tallies.{tallies_after_replacing, tallies_of, tally_of}
use Rattle.ras_core.specs.Tallies.{without_loans}
use Rattle.ras_core.proofs.Members.{figures-set, idle_figures, tally_there}

-- a test that found it open
pub found_open : (n m : ℕ) (closed : Bool) → (IsTrue closed ↔ (n ≡ m)) → closed ≡ false
    → (n == m) ≡ false
found_open n m closed test is = by_test (n == m) refl where
  by_test : (b : Bool) → (n == m) ≡ b → b ≡ false
  by_test true same = absurd (cc (sym (test.1 ((Decides-eqb n m).0 same)) ∙ is))
  by_test false differ = refl

-- what no fault of a set says of a place and of a fresh pool
idle_there : (b c : Bool) → (if b then (if c then None else Some NotIdle) else Some NoPool) ≡ None
    → (b ≡ true) × (c ≡ true)
idle_there true true is = (refl, refl)
idle_there true false is = absurd (cc is)
idle_there false c is = absurd (cc is)

module _ (members : List Member) (s : State) (i : ℕ) (fresh : Account)
    (pools : figures_of (accounts_of members) ≡ s.tables.pools) where
  as_many : length members ≡ length s.tables.pools
  as_many =
      sym (length-map (accounts_of members) (λ a. a.figures)
      ∙ length-map members (λ m. m.account)) ∙ ap length pools

  pub figures_here : figures_at s.tables.pools i ≡ (member_at members i).account.figures
  figures_here = ap (λ fs. figures_at fs i) (sym pools) ∙ figures_there members i

  pub lent_here : (figures_at s.tables.pools i).lent ≡ lent_by members i
  lent_here = ap (λ (f : Figures). f.lent) figures_here

  pub may_replace : (offered : Figures) → offered ≡ fresh.figures
      → by_set.fault_unasked members i fresh ≡ None → lent_by members i ≤ fresh.figures.limit
      → MayReplace s.tables.pools i offered
  may_replace offered is unasked within =
      let both = idle_there (nat_lt i (length members)) (is_idle fresh) unasked in record {
        there = subst (λ n. i < n) as_many (let below = both.0 in grind (arith, nat_tests));
        idle = subst (λ f. IsIdle f) (sym is) (idle_figures fresh both.1);
        enough = omega (arith, lent_here, within, ap (λ (f : Figures). f.limit) is);
      }

  pub figures_replaced : (offered : Figures) → offered ≡ fresh.figures
      → figures_of (accounts_of (members_after_replacing members i fresh))
      ≡ pools_after_replacing s.tables.pools i offered
  figures_replaced offered is =
      figures-set members i (member_with_loans fresh (lent_by members i))
      ∙ (λ j. set (pools j) i (record (sym is j) { lent = sym lent_here j }))

  pub tallies_replaced : tallies_of (members_after_replacing members i fresh)
      ≡ tallies_after_replacing (tallies_of members) i fresh (figures_at s.tables.pools i).lent
  tallies_replaced =
      map-set tally_of members i (member_with_loans fresh (lent_by members i))
      ∙ ap (λ n. tallies_after_replacing (tallies_of members) i fresh n) (sym lent_here)

  pub old_pool : (back : Account) → back ≡ account_without_loans (member_at members i).account
      → IsOldPool (record { state = s; tallies = tallies_of members }) i back
  old_pool back is = record {
    figures = ap (λ (a : Account). a.figures) is ∙ ap without_loans (sym figures_here);
    last = ap (λ (a : Account). a.last) is ∙ ap (λ t. t.last) (sym (tally_there members i));
  }

  module _ (unclosed : (s.steps == most_steps) ≡ false) where
    pub same_fault : fault_unasked s i fresh ≡ by_set.fault_unasked members i fresh
    same_fault =
        ap (λ b. if b then Some Closed else (if nat_lt i (length s.tables.pools) then
        (if is_idle fresh then None else Some NotIdle) else Some NoPool)) unclosed
        ∙ ap (λ n. if nat_lt i n then (if is_idle fresh then None else Some NotIdle)
        else Some NoPool) (sym as_many)

    pub refusal : (back : Account) (fault : ReplaceFault)
        → IsReplaceFault members i fresh back fault → IsRefusal s i fresh back fault
    refusal back NotLent is = (
      same_fault ∙ is.0,
      subst (λ n. FellShort fresh n back) (sym lent_here) is.1,
    )
    refusal back NoPool is = same_fault ∙ is
    refusal back NotIdle is = same_fault ∙ is
    refusal back Closed is = absurd is
    refusal back Memory is = absurd is
