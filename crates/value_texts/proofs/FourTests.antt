-- Words that are understood where four tests pass.
use Rattle.std.proofs.Common.{◌≡◌, ℕ, ◌<◌, Bool, true, false, cond, ◌&&◌, Option, Some, None, List}
use Rattle.std.proofs.Common.{length, get_or, refl, sym, ap}
use Rattle.std.proofs.lemmas.List.Sums.{AllPass-from_list_all}
use Rattle.std.specs.List.{list_all}

abbrev pub if_all : {X : Type 0} → Bool → Bool → Bool → Bool → X → Option X
if_all a b c d value = cond (a && b && c && d) (Some value) None

pub none_at_first : {X : Type 0} (a b c d : Bool) (value : X) → a ≡ false
    → None ≡ if_all a b c d value
none_at_first a b c d value e = ap (λ a. if_all a b c d value) (sym e)

pub none_at_second : {X : Type 0} (a b c d : Bool) (value : X) → b ≡ false
    → None ≡ if_all a b c d value
none_at_second true b c d value e = ap (λ b. if_all true b c d value) (sym e)
none_at_second false b c d value e = refl

pub none_at_third : {X : Type 0} (a b c d : Bool) (value : X) → c ≡ false
    → None ≡ if_all a b c d value
none_at_third true true c d value e = ap (λ c. if_all true true c d value) (sym e)
none_at_third true false c d value e = refl
none_at_third false b c d value e = refl

pub none_at_last : {X : Type 0} (a b c d : Bool) (value : X) → d ≡ false
    → None ≡ if_all a b c d value
none_at_last true true true d value e = ap (λ d. if_all true true true d value) (sym e)
none_at_last true true false d value e = refl
none_at_last true false c d value e = refl
none_at_last false b c d value e = refl

pub some_at_all : {X : Type 0} (a b c d : Bool) (value : X) → a ≡ true → b ≡ true → c ≡ true
    → d ≡ true
    → Some value ≡ if_all a b c d value
some_at_all a b c d value e f g h = rw (e, f, g, h) refl

-- one element fails
pub not_all : (p : ℕ → Bool) (xs : List ℕ) (i : ℕ) → i < length xs → p (get_or xs i 0) ≡ false
    → list_all p xs ≡ false
not_all p xs i below fails =
    let from : (b : Bool) → list_all p xs ≡ b → list_all p xs ≡ false =
    λ b e. elim b as (λ b. list_all p xs ≡ b → list_all p xs ≡ false) [
      | true ↦ λ e. let passes = AllPass-from_list_all p xs e i 0 below in
          absurd (cc (passes, fails))
      | false ↦ λ e. e
    ] e in from (list_all p xs) refl
