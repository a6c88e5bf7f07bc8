-- Numbers of one bit, and of one octet.
use Rattle.std.proofs.Common.{◌≡◌, ℕ, ◌-◌, ◌++◌, arith, refl, ap}
use Rattle.per_bits.specs.Bits.{width, binary}
use Rattle.per_bits.specs.Canonical.{offset_encoding, pad}
use Rattle.ras_writing.specs.Encoding.{whole}

pub whole-one_bit : (n place : ℕ) → whole 0 1 n place ≡ binary 1 n
unfolding offset_encoding width
whole-one_bit n place = let same : n - 0 ≡ n = omega arith in ap (λ (k : ℕ). binary 1 k) same

pub whole-one_octet : (n place : ℕ) → whole 1 256 n place ≡ pad place ++ binary 8 (n - 1)
unfolding offset_encoding
whole-one_octet n place = refl

pub ruleset widths = (whole-one_bit, whole-one_octet)
