-- A pool of a set is asked once.
use Rattle.std.proofs.Common.{◌≡◌, ℕ, ◌<◌, List, length, map, get_or, set, sym, subst, ap, ◌∙◌}
use Rattle.std.specs.Prelude.{Bool, false, slice_set, if◌then◌else◌, Some}
use Rattle.std.proofs.lemmas.List.{get_or-set_same, length-set}
use Rattle.pools.specs.declared.interface.Lend.{Lend}
use Rattle.pools.specs.declared.pool_set.Counts.{Counts}
use Rattle.pools.specs.Account.{Account, IsAnswer, account_after_answer, figures_after_answer}
use Rattle.pools.specs.Account.{is_too_small, opening_account}
use Rattle.pools.specs.Members.{IsPoolSet, Member, member_after_answer, member_at}
use Rattle.pools.specs.Members.{members_after_answer, members_after_least, new_member}
use Rattle.pools.specs.Members.{one_more}
use Rattle.pools.specs.inside.Counted.{MakeASet, counted, members_of}
use Rattle.pools.proofs.Changing.{account_here, counts_here, no_counts, set-written}
use Rattle.pools.proofs.Changing.{within_limit_after_answer, within_limit_at, written}

-- The pools xs with their counts cs make a set. The pool x at i was asked once, and is y now.
module _ {X : Type 0} (f : X → Account) (xs : List X) (cs : List Counts) (members : List Member)
    (is : members_of (map f xs) cs ≡ members) (are : MakeASet f xs cs) (i : ℕ)
    (below : i < length members) (x y : X) (read : x ≡ get_or xs i x) (asked n : ℕ) (answer : Lend)
    (fits : IsAnswer (f x).figures asked answer)
    (after : f y ≡ account_after_answer (f x) asked answer)
    (count : n ≡ one_more (get_or cs i no_counts).requests) where
  here : f x ≡ (member_at members i).account
  here = account_here f xs cs members is are.counted i below x read

  abbrev pub now : Counts
  now = record { requests = n; turns = (get_or cs i no_counts).turns }

  is_after : counted (f y) now ≡ member_after_answer (member_at members i) asked answer
  is_after j =
      let counts = counts_here f xs cs members is are.counted i below in
      record {
        account = (after ∙ ap (λ (a : Account). account_after_answer a asked answer) here) j;
        requests = (count ∙ ap (λ (m : Member). one_more m.requests) counts) j;
        turns = (counts j).turns;
      }

  pub asked-fits : IsAnswer (member_at members i).account.figures asked answer
  asked-fits = subst (λ (a : Account). IsAnswer a.figures asked answer) here fits

  pub asked-after : members_of (map f (set xs i y)) (set cs i now)
      ≡ members_after_answer members i asked answer
  asked-after = written f xs cs members is are.counted i below y now _ is_after

  pub asked-below : i < length (members_of (map f (set xs i y)) (set cs i now))
  asked-below =
      subst (λ (ms : List Member). i < length ms) (sym asked-after) (rw length-set below)

  pub asked-member : member_at (members_of (map f (set xs i y)) (set cs i now)) i
      ≡ member_after_answer (member_at members i) asked answer
  asked-member = ap (λ (ms : List Member). member_at ms i) asked-after
      ∙ get_or-set_same members i _ (new_member (opening_account 0)) below

  pub asked-set : MakeASet f (set xs i y) (set cs i now)
  asked-set =
      let sound : IsPoolSet members = subst IsPoolSet is are.sound in
      set-written f xs cs members is are i below y _
      (within_limit_after_answer (member_at members i).account asked answer
      (within_limit_at members i sound below) asked-fits)
      now is_after

-- an answer that is no loan below the least is entered as it is
pub large_enough : (members : List Member) (i asked least : ℕ) (answer : Lend)
    → is_too_small least answer ≡ false
    → members_after_answer members i asked answer
    ≡ members_after_least members i asked least answer
large_enough members i asked least answer large =
    ap (λ (b : Bool). slice_set members i (record (member_at members i) {
      account = record {
        figures = if b then (member_at members i).account.figures
            else figures_after_answer (member_at members i).account.figures answer;
        last = Some (asked, answer);
      };
      requests = one_more (member_at members i).requests;
    })) (sym large)
