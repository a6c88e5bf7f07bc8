-- What is written, by the cases of a range and of a length.
use Rattle.std.proofs.Common.{◌≡◌, ℕ, ◌-◌, ◌*◌, ◌<◌, ◌≤◌, [], ◌∷◌, ◌++◌, true, false}
use Rattle.std.proofs.Common.{refl, sym, ◌∙◌, arith, append_assoc}
use Rattle.std.proofs.lemmas.Bool.{le-ltb, lt-ltb}
use Rattle.per_bits.specs.Bits.{binary, width, octets_for}
use Rattle.per_bits.specs.Canonical.{pad, then_encoding, aligned_encoding, wide_encoding}
use Rattle.per_bits.specs.Canonical.{offset_encoding, length_encoding}

pub wide_is : (range n place : ℕ)
    → wide_encoding range n place
    ≡ then_encoding (λ _. binary (width (octets_for range - 1)) (octets_for n - 1))
    (aligned_encoding (8 * octets_for n) n) place
unfolding wide_encoding
wide_is range n place = refl

pub offset_few : (range n place : ℕ) → range < 255
    → offset_encoding range n place ≡ binary (width range) n
unfolding offset_encoding
offset_few range n place h = rw (lt-ltb range 255 h) refl

pub offset_octet : (range n place : ℕ) → 255 ≤ range → range < 256
    → offset_encoding range n place ≡ aligned_encoding 8 n place
unfolding offset_encoding
offset_octet range n place h k = rw (le-ltb range 255 h, lt-ltb range 256 k) refl

pub offset_two : (range n place : ℕ) → 256 ≤ range → range < 65536
    → offset_encoding range n place ≡ aligned_encoding 16 n place
unfolding offset_encoding
offset_two range n place h k =
    rw (le-ltb range 255 (omega arith), le-ltb range 256 h, lt-ltb range 65536 k) refl

pub offset_wide : (range n place : ℕ) → 65536 ≤ range
    → offset_encoding range n place ≡ wide_encoding range n place
unfolding offset_encoding
offset_wide range n place h =
    rw (le-ltb range 255 (omega arith), le-ltb range 256 (omega arith), le-ltb range 65536 h) refl

pub length_short : (n place : ℕ) → n < 128
    → length_encoding n place ≡ (pad place ++ false ∷ []) ++ binary 7 n
unfolding length_encoding
length_short n place h =
    rw (lt-ltb n 128 h) (sym (append_assoc (pad place) (false ∷ []) (binary 7 n)))

pub length_long : (n place : ℕ) → 128 ≤ n
    → length_encoding n place ≡ ((pad place ++ true ∷ []) ++ false ∷ []) ++ binary 14 n
unfolding length_encoding
length_long n place h =
    rw (le-ltb n 128 h)
    (sym (append_assoc (pad place ++ true ∷ []) (false ∷ []) (binary 14 n)
    ∙ append_assoc (pad place) (true ∷ []) (false ∷ binary 14 n)))
