-- What is written for components in order is an encoding of their values.
use Rattle.std.proofs.Common.{◌≡◌, ℕ, ◌+◌, ◌%◌, ◌<◌, ◌≤◌, ◌^◌, List, [], ◌∷◌, ◌++◌, Bool, length}
use Rattle.std.proofs.Common.{refl, sym, ap, subst, ◌∙◌, arith, append_assoc, append-nil}
use Rattle.std.proofs.Common.{length-append}
use Rattle.per_bits.proofs.Agreement.{whole_encodes, small_encodes}
use Rattle.ras_grammar.specs.Grammar as grammar
use Rattle.ras_grammar.specs.Grammar.{Grammar}
use Rattle.ras_writing.specs.Chain.{◌>>=◌}
use Rattle.ras_writing.specs.Encoding.{Encoding, in_order}
use Rattle.ras_writing.specs.Encoding as encoding

pub record IsEncoding {A : Type 0} (g : Grammar A) (x : A) (component : Encoding) : Type 0 where
  pub here : (place : ℕ) → place < 8 → g.encodes x place (component place)

pub record AreEncodings {A : Type 0} (g : Grammar A) (x : A)
    (components : List Encoding) : Type 0 where
  pub here : (place : ℕ) → place < 8 → g.encodes x place (in_order components place)

pub done : {A : Type 0} {x : A} → AreEncodings (grammar.is x) x []
done = record { here = λ place small. (refl, refl) }

pub below_eight : (n : ℕ) → n % 8 < 8
below_eight n = omega arith

pub one : {A B : Type 0} {first : Grammar A} (next : A → Grammar B) {x : A} {y : B} {e : Encoding}
    {es : List Encoding}
    → IsEncoding first x e → AreEncodings (next x) y es → AreEncodings (first >>= next) y (e ∷ es)
unfolding ◌>>=◌
one {A} {B} {first} next {x} {y} {e} {es} p q = record {
  here = λ place small.
      let after = (place + length (e place)) % 8 in (
        x,
        (
          e place,
          in_order es after,
          refl,
          p.here place small,
          q.here after (below_eight
              (place + length (e place))),
        ),
      );
}

pub in_order-append : (xs ys : List Encoding) (place : ℕ) → place < 8
    → in_order (xs ++ ys) place ≡ in_order xs place ++ in_order ys ((place + length
    (in_order xs place)) % 8)
in_order-append [] ys place small =
    let same : place ≡ (place + 0) % 8 = omega arith in
    ap (λ (n : ℕ). in_order ys n) same
in_order-append (x ∷ xs) ys place small =
    let here = x place in
    let after = (place + length here) % 8 in
    let rest = in_order xs after in
    let last : (after + length rest) % 8 ≡ (place + length (here ++ rest)) % 8 = omega
    (arith, length-append here rest) in
    ap (λ (t : List Bool). here ++ t) (in_order-append xs ys after (below_eight
    (place + length here)))
    ∙ sym (append_assoc here rest (in_order ys ((after + length rest) % 8)))
    ∙ ap (λ (n : ℕ). (here ++ rest) ++ in_order ys n) last

pub part : {A B : Type 0} {first : Grammar A} (next : A
    → Grammar B) {x : A} {y : B} {xs ys : List Encoding}
    → AreEncodings first x xs → AreEncodings (next x) y ys → AreEncodings (first >>= next) y
    (xs ++ ys)
unfolding ◌>>=◌
part {A} {B} {first} next {x} {y} {xs} {ys} p q = record {
  here = λ place small.
      let front = in_order xs place in
      let after = (place + length front) % 8 in (
        x,
        (
          front,
          in_order ys after,
          in_order-append xs ys place small,
          p.here place small,
          q.here
              after (below_eight (place + length front)),
        ),
      );
}

pub boolean_encoded : (bit : Bool) → IsEncoding grammar.boolean bit (encoding.boolean bit)
boolean_encoded bit = record { here = λ place small. refl }

pub whole_encoded : (lo hi n : ℕ) → lo ≤ n → n ≤ hi → hi < 2 ^ 32 → IsEncoding
    (grammar.whole lo hi) n
    (encoding.whole lo hi n)
whole_encoded lo hi n low high fits = record {
  here = λ place small. whole_encodes lo hi n place low high fits;
}

pub index_encoded : (last n : ℕ) → n ≤ last → last < 2 ^ 32 → IsEncoding
    (grammar.choice_index last) n
    (encoding.whole 0 last n)
index_encoded last n high fits = record {
  here = λ place small. whole_encodes 0 last n place (omega arith) high fits;
}

-- no bits, for a component that isn't there
pub none : {A B : Type 0} {first : Grammar A} (next : A
    → Grammar B) {x : A} {y : B} {es : List Encoding}
    → AreEncodings first x [] → AreEncodings (next x) y es → AreEncodings (first >>= next) y es
unfolding ◌>>=◌
none {A} {B} {first} next {x} {y} {es} p q = record {
  here = λ place small.
      let same : place ≡ (place + 0) % 8 = omega arith in (
        x,
        (
          [],
          in_order es place,
          refl,
          p.here place small,
          subst (λ (n : ℕ). (next x).encodes y n
              (in_order es place)) same (q.here place small),
        ),
      );
}

-- one component alone
pub alone : {A : Type 0} {g : Grammar A} {x : A} {e : Encoding} → IsEncoding g x e
    → AreEncodings g x (e ∷ [])
alone {A} {g} {x} {e} p = record {
  here = λ place small. subst (λ (t : List Bool). g.encodes x place t) (sym (append-nil
      (e place))) (p.here place small);
}

-- a part after which nothing is written
pub last : {A B : Type 0} {first : Grammar A} (next : A
    → Grammar B) {x : A} {y : B} {xs : List Encoding}
    → AreEncodings first x xs → AreEncodings (next x) y [] → AreEncodings (first >>= next) y xs
last {A} {B} {first} next {x} {y} {xs} p q = subst (λ (t : List Encoding). AreEncodings
    (first >>= next) y t) (append-nil xs) (part next p q)

pub small_encoded : (n : ℕ) → n < 64 → IsEncoding grammar.small n (encoding.small n)
small_encoded n few = record { here = λ place _. small_encodes n place few }

-- a part that stands with others in brackets
pub part_of : {A B : Type 0} {first : Grammar A} (next : A
    → Grammar B) {x : A} {y : B} {xs : List Encoding} (ys zs : List Encoding)
    → AreEncodings first x xs → AreEncodings (next x) y (ys ++ zs) → AreEncodings (first >>= next) y
    ((xs ++ ys) ++ zs)
part_of {A} {B} {first} next {x} {y} {xs} ys zs p q = subst (λ (t : List Encoding). AreEncodings
    (first >>= next) y t) (sym (append_assoc xs ys zs)) (part next p q)
