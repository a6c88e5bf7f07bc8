-- A loan that is too small goes back at once.
use Rattle.std.proofs.Common.{◌≡◌, ℕ, ◌<◌, ◌+◌, ◌-◌, List, length, true, sym, ap, ◌∙◌, arith}
use Rattle.std.specs.Prelude.{Bool, nat_lt, slice_set, if◌then◌else◌}
use Rattle.std.proofs.lemmas.Bool.Decides.{nat_tests}
use Rattle.std.proofs.lemmas.List.{set-set, get_or-set_same}
use Rattle.pools.specs.declared.interface.Lend.TheVariants.{Lent}
use Rattle.pools.specs.declared.interface.Figures.{Figures}
use Rattle.pools.specs.Account.{figures_after_answer, opening_account}
use Rattle.pools.specs.Members.{Member, member_after_answer, member_after_return, member_at}
use Rattle.pools.specs.Members.{members_after_answer, members_after_least, members_after_return}
use Rattle.pools.specs.Members.{new_member, one_more}

-- the units that were lent came back
figures_again : (f : Figures) (n least : ℕ) → nat_lt n least ≡ true
    → record f { lent = f.lent + n - n }
    ≡ (if nat_lt n least then f else figures_after_answer f (Lent n))
figures_again f n least small =
    let back : f.lent + n - n ≡ f.lent = omega arith in
    ap (λ (l : ℕ). record f { lent = l }) back
    ∙ sym (ap (λ (b : Bool). if b then f else figures_after_answer f (Lent n)) small)

pub too_small_goes_back : (members : List Member) (i asked least n : ℕ) → i < length members
    → n < least
    → members_after_return (members_after_answer members i asked (Lent n)) i n
    ≡ members_after_least members i asked least (Lent n)
too_small_goes_back members i asked least n below few =
    let small : nat_lt n least ≡ true = grind (arith, nat_tests) in
    let m : Member = member_at members i in
    let lent : Member = member_after_answer m asked (Lent n) in
    set-set members i lent _
    ∙ ap (λ (one : Member). slice_set members i (member_after_return one n))
    (get_or-set_same members i lent (new_member (opening_account 0)) below)
    ∙ ap (λ (f : Figures). slice_set members i (record m {
      account = record lent.account { figures = f };
      requests = one_more m.requests;
    })) (figures_again m.account.figures n least small)
