-- Arrays that hold a text with zeros after it.
use Rattle.std.proofs.Common.{◌≡◌, ℕ, ◌-◌, ◌≤◌, List, length, take, replicate, ◌++◌, sym, ◌∙◌, ap}
use Rattle.std.proofs.Common.{arith, length-append}
use Rattle.std.proofs.lemmas.List.{length-replicate}
use Rattle.std.proofs.Math.Seq.{take-append_seam}
use Rattle.ras_module.specs.Texts.{IsPadded}

pub front_of_padded : (most : ℕ) (text characters : List ℕ)
    → characters ≡ text ++ replicate (most - length text) 0 → take (length text) characters ≡ text
front_of_padded most text characters is =
    rw is (take-append_seam text (replicate (most - length text) 0))

pub is_padded : (most : ℕ) (text characters : List ℕ)
    → characters ≡ text ++ replicate (most - length text) 0
    → 1 ≤ length text → length text ≤ most → IsPadded most characters (length text)
is_padded most text characters is some few = record {
  some = some;
  few = few;
  full = ap length is ∙ omega (
    arith,
    length-append text (replicate (most - length text) 0),
    length-replicate {A = ℕ} (most - length text) 0,
  );
  zeros = is ∙ ap (λ front. front ++ replicate (most - length text) 0)
      (sym (front_of_padded most text characters is));
}
