-- For how many more rows there is room, by the room in each part of the table.
use Rattle.std.proofs.Common.{◌≡◌, ◌≤◌, ◌+◌, ℕ, arith}
use Rattle.std.specs.Prelude.{Err, Ok, OnErr, OnOk, Result, max, min}

-- the least of what is left in the parts
abbrev pub least : ℕ → ℕ → ℕ → ℕ → ℕ → ℕ → ℕ
least r d n p l e = min (min r d) (min (min n p) (min l e))

pub at_least : (k r d n p l e : ℕ) → k ≤ r → k ≤ d → k ≤ n → k ≤ p → k ≤ l → k ≤ e
    → k ≤ least r d n p l e
at_least k r d n p l e a b c f g h = omega (arith, a, b, c, f, g, h)

module _ (r d n p l e : ℕ) where
  at_most : (least r d n p l e ≤ r) × (least r d n p l e ≤ d) × (least r d n p l e ≤ n)
      × (least r d n p l e ≤ p) × (least r d n p l e ≤ l) × (least r d n p l e ≤ e)
  at_most = (omega arith, omega arith, omega arith, omega arith, omega arith, omega arith)

  module _ (R D N P L E : ℕ) where
    pub no_less : r ≤ R → d ≤ D → n ≤ N → p ≤ P → l ≤ L → e ≤ E
        → least r d n p l e ≤ least R D N P L E
    no_less a b c f g h = at_least (least r d n p l e) R D N P L E
        (omega (arith, at_most.0, a)) (omega (arith, at_most.1, b)) (omega (arith, at_most.2, c))
        (omega (arith, at_most.3, f)) (omega (arith, at_most.4, g)) (omega (arith, at_most.5, h))

    pub one_less : r ≤ R + 1 → d ≤ D + 1 → n ≤ N + 1 → p ≤ P + 1 → l ≤ L + 1 → e ≤ E + 1
        → least r d n p l e ≤ least R D N P L E + 1
    one_less a b c f g h =
        let k = least r d n p l e in
        at_least_one k R D N P L E (omega (arith, at_most.0, a)) (omega (arith, at_most.1, b))
        (omega (arith, at_most.2, c)) (omega (arith, at_most.3, f)) (omega (arith, at_most.4, g))
        (omega (arith, at_most.5, h)) where
          at_least_one : (k R D N P L E : ℕ) → k ≤ R + 1 → k ≤ D + 1 → k ≤ N + 1 → k ≤ P + 1
              → k ≤ L + 1 → k ≤ E + 1 → k ≤ least R D N P L E + 1
          at_least_one k R D N P L E a b c f g h = omega (arith, a, b, c, f, g, h)

-- a part that was to grow, whether it did or not
pub grew : {A E : Type 0} (result : Result A E) (old new places : ℕ)
    → OnOk result (new ≡ max old places) → OnErr result (new ≡ old) → old ≤ new
grew (Ok a) old new places ok err = omega (arith, ok)
grew (Err e) old new places ok err = omega (arith, err)
