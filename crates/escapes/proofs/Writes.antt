-- The steps of the loops that write what each character becomes, one after another.
use Rattle.std.proofs.Common.{◌≡◌, ℕ, List, [], ◌∷◌, ◌++◌, sym, ◌∙◌, ap, append_assoc}
use Rattle.std.specs.List.{flat_map}
use Rattle.std.specs.Str.{encode_utf8_all}
use Rattle.std.proofs.lemmas.List.{append-nil}
use Rattle.std.proofs.lemmas.Str.{encodes-append}

-- what is written of a character is no longer to be written
pub write_first : (f : ℕ → List ℕ) (before now new : List ℕ) (c : ℕ) (all rest : List ℕ)
    → all ≡ c ∷ rest → new ≡ now ++ encode_utf8_all (f c)
    → now ++ encode_utf8_all (flat_map f all) ≡ before
    → new ++ encode_utf8_all (flat_map f rest) ≡ before
write_first f before now new c all rest a h i =
    ap (λ z. z ++ encode_utf8_all (flat_map f rest)) h
    ∙ (append_assoc now (encode_utf8_all (f c)) (encode_utf8_all (flat_map f rest))
    ∙ (ap (λ z. now ++ z) (sym (encodes-append (f c) (flat_map f rest)))
    ∙ (ap (λ z. now ++ encode_utf8_all (flat_map f z)) (sym a) ∙ i)))

-- nothing is left to be written
pub written : (f : ℕ → List ℕ) (before now all : List ℕ) → all ≡ []
    → now ++ encode_utf8_all (flat_map f all) ≡ before → now ≡ before
written f before now all a i =
    sym (append-nil now) ∙ (ap (λ z. now ++ encode_utf8_all (flat_map f z)) (sym a) ∙ i)
