-- Characters that may be dialled.
use Rattle.std.proofs.Common.{ℕ, ◌+◌, ◌<◌, List, [], ◌∷◌, ◌++◌, Bool, true, false, length, take}
use Rattle.std.proofs.Common.{set, refl, sym, subst}
use Rattle.std.specs.Prelude.{IsTrue, ◌&&◌}
use Rattle.std.proofs.lemmas.List.{take_more_set}
use Rattle.ras_module.specs.DialledDigits.{AreDialled, is_dialled}

pub both_true : (a b : Bool) → IsTrue (a && b) → IsTrue a × IsTrue b
both_true true b h = (refl, h)
both_true false b h = absurd cc

true_both : (a b : Bool) → IsTrue a → IsTrue b → IsTrue (a && b)
true_both true b h k = k
true_both false b h k = absurd cc

AreDialled-push : (xs : List ℕ) (x : ℕ) → AreDialled xs → IsTrue (is_dialled x) → AreDialled
    (xs ++ x ∷ [])
AreDialled-push [] x h k = true_both (is_dialled x) true k refl
AreDialled-push (y ∷ ys) x h k = let p = both_true (is_dialled y) _ h in true_both
    (is_dialled y) _ p.0 (AreDialled-push ys x p.1 k)

pub AreDialled-more : (array : List ℕ) (i x : ℕ) → i < length array → AreDialled (take i array)
    → IsTrue (is_dialled x) → AreDialled (take (i + 1) (set array i x))
AreDialled-more array i x lt h k = subst (λ (t : List ℕ). AreDialled t) (sym
    (take_more_set array i x lt)) (AreDialled-push (take i array) x h k)
