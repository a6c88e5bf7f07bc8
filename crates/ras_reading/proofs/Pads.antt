-- Arrays that are filled from the front, with zeros after what was filled.
use Rattle.std.proofs.Common.{◌≡◌, ℕ, ◌+◌, ◌-◌, ◌<◌, ◌≤◌, List, length, take, drop, set, replicate}
use Rattle.std.proofs.Common.{◌++◌, arith, ap, ◌∙◌, sym}
use Rattle.std.proofs.lemmas.List.{drop-drop, drop-replicate, drop-set-lt, take-append-drop}
use Rattle.ras_module.specs.Texts.{IsPadded}

pub zeros_after : (xs : List ℕ) (i n y : ℕ) → drop i xs ≡ replicate (n - i) 0
    → drop (i + 1) (set xs i y) ≡ replicate (n - (i + 1)) 0
zeros_after xs i n y zeros =
    let less : i < i + 1 = omega arith in
    let same : n - i - 1 ≡ n - (i + 1) = omega arith in
    drop-set-lt (i + 1) xs i y less
    ∙ rw (← drop-drop 1 i xs, zeros, drop-replicate) (ap (λ k. replicate k 0) same)

pub filled : (most : ℕ) (xs : List ℕ) (count : ℕ) → 1 ≤ count → count ≤ most → length xs ≡ most
    → drop count xs ≡ replicate (most - count) 0 → IsPadded most xs count
filled most xs count some few full zeros = record {
  some = some;
  few = few;
  full = full;
  zeros = sym (take-append-drop count xs) ∙ ap (λ back. take count xs ++ back) zeros;
}
