-- The figures and the tallies of pools, as the members of their set change.
use Rattle.std.proofs.Common.{◌≡◌, ◌≤◌, ◌-◌, IsTrue, ℕ, List, [], ◌∷◌, map}
use Rattle.std.proofs.Common.{get_or, set, All, refl, sym, ◌∙◌, ap, subst, arith, Some, None}
use Rattle.std.specs.Prelude.{Option}
use Rattle.std.proofs.lemmas.List.{map-set, set-get_or}
use Rattle.std.proofs.lemmas.List.Elements.{All-map}
use Rattle.std.proofs.Math.ListN as seq
use Rattle.std.proofs.Math.Seq.{map-set_same}
use Rattle.pools.specs.declared.interface.Figures.{Figures}
use Rattle.pools.specs.declared.interface.Lend.{Lend}
use Rattle.pools.specs.Account.{Account, account_without_loans, figures_after_least, is_idle}
use Rattle.pools.specs.Account.{opening_account}
use Rattle.pools.specs.Members.{Member, accounts_of, member_after_least, member_after_return}
use Rattle.pools.specs.Members.{member_at, members_after_least, members_after_return}
use Rattle.pools.specs.Members.{members_after_turn, new_member}
use Rattle.zone_tables.specs.Pools.{IsIdle, RequestedUnits, figures_after_return, figures_of}
use Rattle.zone_tables.specs.Pools.{pools_after_answer, pools_after_return}
use Rattle.zone_tables.specs.Leaving.{IsSameButLent}
use Rattle.zone_tables.proofs.Members.{figures_there}
use Rattle.ras_machine.specs.Steps.{IsAskedOnce, pools_after_ask}
use Rattle.ras_core.specs.Tallies.{figures_without_loans, lasts_of, tallies_after_answer}
use Rattle.ras_core.specs.Tallies.{tallies_after_ask, tallies_after_turn, tallies_of}
use Rattle.ras_core.specs.Tallies.{tally_after_answer, tally_after_turn, tally_at, tally_of}
use Rattle.ras_core.specs.Tallies.{without_loans}

abbrev figures : Account → Figures
figures a = a.figures

abbrev account : Member → Account
account m = m.account

-- the member past the end
abbrev nobody : Member
nobody = new_member (opening_account 0)

pub tally_there : (members : List Member) (i : ℕ)
    → tally_at (tallies_of members) i ≡ tally_of (member_at members i)
tally_there members i = seq.get_or-map tally_of members i nobody

-- one member is written
pub figures-set : (members : List Member) (i : ℕ) (m : Member)
    → figures_of (accounts_of (set members i m))
    ≡ set (figures_of (accounts_of members)) i m.account.figures
figures-set members i m =
    ap figures_of (map-set account members i m) ∙ map-set figures (accounts_of members) i m.account

abbrev after_ask : List Member → RequestedUnits → Lend → List Member
after_ask members ask answer = members_after_least members ask.pool ask.units ask.least answer

figures-answer : (members : List Member) (ask : RequestedUnits) (answer : Lend)
    → figures_of (accounts_of (after_ask members ask answer))
    ≡ pools_after_answer (figures_of (accounts_of members)) ask answer
figures-answer members ask answer =
    let i = ask.pool in
    figures-set members i (member_after_least (member_at members i) ask.units ask.least answer)
    ∙ ap (λ f. set (figures_of (accounts_of members)) i (figures_after_least f ask.least answer))
    (sym (figures_there members i))

tallies-answer : (members : List Member) (ask : RequestedUnits) (answer : Lend)
    → tallies_of (after_ask members ask answer)
    ≡ tallies_after_answer (tallies_of members) ask answer
tallies-answer members ask answer =
    let i = ask.pool in
    map-set tally_of members i
    (member_after_least (member_at members i) ask.units ask.least answer)
    ∙ ap (λ t. set (tallies_of members) i (tally_after_answer t ask.units answer))
    (sym (tally_there members i))

-- a set of pools that was asked once, or not at all
abbrev pub answers_of : List Member → List Figures → RequestedUnits → Lend → List Member → Type 0
answers_of old pools requested answer new =
    new ≡ members_after_least old requested.pool requested.units requested.least answer

pub figures-asked : (old new : List Member) (pools : List Figures) (ask : Option RequestedUnits)
    (answer : Option Lend) → IsAskedOnce answers_of old pools ask answer new
    → figures_of (accounts_of new) ≡ pools_after_ask (figures_of (accounts_of old)) ask answer
figures-asked old new pools (Some ask) (Some answer) asked =
    ap (λ ms. figures_of (accounts_of ms)) asked ∙ figures-answer old ask answer
figures-asked old new pools (Some ask) None asked = absurd asked
figures-asked old new pools None answer asked = ap (λ ms. figures_of (accounts_of ms)) asked

pub tallies-asked : (old new : List Member) (pools : List Figures) (ask : Option RequestedUnits)
    (answer : Option Lend) → IsAskedOnce answers_of old pools ask answer new
    → tallies_of new ≡ tallies_after_ask (tallies_of old) ask answer
tallies-asked old new pools (Some ask) (Some answer) asked =
    ap tallies_of asked ∙ tallies-answer old ask answer
tallies-asked old new pools (Some ask) None asked = absurd asked
tallies-asked old new pools None answer asked = ap tallies_of asked

-- units come back to one pool
pub figures-return : (members : List Member) (i n : ℕ)
    → figures_of (accounts_of (members_after_return members i n))
    ≡ pools_after_return (figures_of (accounts_of members)) i n
figures-return members i n =
    figures-set members i (member_after_return (member_at members i) n)
    ∙ ap (λ f. set (figures_of (accounts_of members)) i (figures_after_return f n))
    (sym (figures_there members i))

pub tallies-return : (members : List Member) (i n : ℕ)
    → tallies_of (members_after_return members i n) ≡ tallies_of members
tallies-return members i n =
    map-set_same tally_of members i (member_after_return (member_at members i) n) nobody refl

-- what a pool has lent more than these figures say comes back
after_return : (had f : Figures) → IsSameButLent had f
    → figures_after_return had (had.lent - f.lent) ≡ f
after_return had f same =
    let lent : had.lent - (had.lent - f.lent) ≡ f.lent = omega (arith, same.lent) in
    λ j. record {
      limit = sym same.limit j;
      lent = lent j;
      refusals = sym same.refusals j;
      waits = sym same.waits j;
    }

pub returned : (members : List Member) (i : ℕ) (had f : Figures)
    → had ≡ (member_at members i).account.figures
    → IsSameButLent (member_at members i).account.figures f
    → pools_after_return (figures_of (accounts_of members)) i (had.lent - f.lent)
    ≡ set (figures_of (accounts_of members)) i f
returned members i had f is same =
    let fs = figures_of (accounts_of members) in
    ap (λ x. set fs i (figures_after_return x (had.lent - f.lent)))
    (figures_there members i ∙ sym is)
    ∙ ap (set fs i) (after_return had f (subst (λ x. IsSameButLent x f) (sym is) same))

-- nothing does, if it has lent no more
pub figures-kept : (members : List Member) (i : ℕ) (had f : Figures)
    → had ≡ (member_at members i).account.figures
    → IsSameButLent (member_at members i).account.figures f
    → had.lent - f.lent ≤ 0
    → figures_of (accounts_of members) ≡ set (figures_of (accounts_of members)) i f
figures-kept members i had f is same none =
    let fs = figures_of (accounts_of members) in
    let s = subst (λ x. IsSameButLent x f) (sym is) same in
    let lent : f.lent ≡ had.lent = omega (arith, none, s.lent) in
    let f_is : f ≡ had = λ j. record {
      limit = s.limit j;
      lent = lent j;
      refusals = s.refusals j;
      waits = s.waits j;
    } in
    sym (ap (set fs i) (f_is ∙ (is ∙ sym (figures_there members i)))
    ∙ set-get_or fs i (opening_account 0).figures)

-- each pool makes a turn
pub figures-turn : (members : List Member)
    → figures_of (accounts_of (members_after_turn members)) ≡ figures_of (accounts_of members)
figures-turn [] = refl
figures-turn (m ∷ members) = ap (λ fs. m.account.figures ∷ fs) (figures-turn members)

pub tallies-turn : (members : List Member)
    → tallies_of (members_after_turn members) ≡ tallies_after_turn (tallies_of members)
tallies-turn [] = refl
tallies-turn (m ∷ members) =
    ap (λ ts. tally_after_turn (tally_of m) ∷ ts) (tallies-turn members)

-- pools that are closed have nothing lent, and keep all else
pub figures-close : (accounts : List Account)
    → figures_of (map account_without_loans accounts) ≡ figures_without_loans (figures_of accounts)
figures-close [] = refl
figures-close (a ∷ accounts) = ap (λ fs. without_loans a.figures ∷ fs) (figures-close accounts)

pub lasts-close : (members : List Member)
    → lasts_of (map account_without_loans (accounts_of members))
    ≡ map (λ t. t.last) (tallies_of members)
lasts-close [] = refl
lasts-close (m ∷ members) = ap (λ ls. m.account.last ∷ ls) (lasts-close members)

-- pools that are idle have figures that are
pub idle_figures : (a : Account) → IsTrue (is_idle a) → IsIdle a.figures
idle_figures a idle = record {
  lent = grind (arith, idle);
  refusals = grind (arith, idle);
  waits = grind (arith, idle);
}

pub All-idle : (members : List Member) → All (λ m. IsTrue (is_idle m.account)) members
    → All IsIdle (figures_of (accounts_of members))
All-idle members idle =
    All-map IsIdle figures (accounts_of members)
    (All-map (λ a. IsIdle a.figures) account members
    (λ k d below. idle_figures (get_or members k d).account (idle k d below)))
