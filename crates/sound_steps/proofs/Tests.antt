-- What tests on numbers mean.
use Rattle.std.proofs.Common.{◌≡◌, ◌≢◌, ◌≤◌, ◌<◌, ◌==◌, ℕ, true, false, arith}
use Rattle.std.specs.Prelude.{nat_le, nat_lt}
use Rattle.std.proofs.lemmas.Bool.Decides.{nat_tests}

-- numbers that are not found equal differ
pub differ : (m n : ℕ) → (m == n) ≡ false → m ≢ n
differ m n is = λ same. absurd (grind (arith, nat_tests, same, is))

-- those that are found equal are
pub equal : (m n : ℕ) → (m == n) ≡ true → m ≡ n
equal m n is = grind (arith, nat_tests)

-- what is not above 0 is 0
pub none : (n : ℕ) → nat_lt 0 n ≡ false → n ≡ 0
none n is = grind (arith, nat_tests)

-- at most
pub at_most : (n most : ℕ) → nat_le n most ≡ true → n ≤ most
at_most n most is = grind (arith, nat_tests)

-- or above
pub above : (n least : ℕ) → nat_le n least ≡ false → least < n
above n least is = grind (arith, nat_tests)

-- below
pub below : (n most : ℕ) → nat_lt n most ≡ true → n < most
below n most is = grind (arith, nat_tests)

-- more than one
pub more_than_one : (n : ℕ) → nat_lt 1 n ≡ true → 1 < n
more_than_one n is = below 1 n is
