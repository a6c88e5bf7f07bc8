-- Readings built of readings: each reads what its form allows, and nothing else.
use Rattle.std.proofs.Common.{◌≡◌, ℕ, ◌+◌, ◌%◌, List, [], ◌++◌, Bool}
use Rattle.std.proofs.Common.{true, false, cond, length, take, refl, sym, ap, ◌∙◌, arith}
use Rattle.std.proofs.Common.{Result, Ok, Err, append_assoc, subst}
use Rattle.std.proofs.lemmas.List.{length-append, length-take, take-append-drop, drop_at}
use Rattle.std.specs.Prelude.{MatchBool}
use Rattle.per_bits.specs.Bits.{pad_length, place_of}
use Rattle.per_bits.specs.Readings.{Gives, ◌>>=◌, aligned}
use Rattle.per_bits.specs.Encodes.{Decodes, Passes, Then, IsPad}
use Rattle.per_bits.specs.Exact.{IsExact}
use Rattle.per_bits.proofs.Results.{bind_ok, ok_is, ok_not_err}

true_not_false : true ≡ false → ⊥
true_not_false e = cc

-- where the rest begins
pub place_after : (front rest : List Bool)
    → (place_of (front ++ rest) + length front) % 8 ≡ place_of rest
place_after front rest = omega (arith, length-append front rest)

-- one form, and then another that may speak of the first value
pub then_exact : {A B F : Type 0} (first : A → ℕ → List Bool → Type 0)
    (read_first : List Bool → Result (A × List Bool) F)
    (second : A → B → ℕ → List Bool → Type 0)
    (read_second : A → List Bool → Result (B × List Bool) F)
    → IsExact first read_first → ((a : A) → IsExact (second a) (read_second a))
    → IsExact
    (λ (b : B) (place : ℕ) (bits : List Bool). (a : A) × Then (first a) (second a b) place bits)
    (λ bits. read_first bits >>= λ x. read_second x.0 x.1)
then_exact {A} {B} {F} first read_first second read_second p q = record {
  found = λ bits rest b e.
      let step = bind_ok (read_first bits) (λ (x : A × List Bool). read_second x.0 x.1)
      (b, rest) e in
      let one = p.found bits step.0.1 step.0.0 step.1 in
      let two = (q step.0.0).found step.0.1 rest b step.2 in
      let whole : bits ≡ (one.0 ++ two.0) ++ rest = one.1
      ∙ ap (λ (t : List Bool). one.0 ++ t) two.1 ∙ sym (append_assoc one.0 two.0 rest) in
      let place : (place_of bits + length one.0) % 8 ≡ place_of step.0.1 =
      ap (λ (t : List Bool). (place_of t + length one.0) % 8) one.1
      ∙ place_after one.0 step.0.1 in
      (one.0 ++ two.0, whole, (step.0.0, (one.0, two.0, refl, one.2, rw place two.2)));
  only = λ front rest b h.
      let a = h.0 in
      let f = h.1.0 in
      let r = h.1.1 in
      let whole : front ++ rest ≡ f ++ (r ++ rest) = ap (λ (t : List Bool). t ++ rest) h.1.2
      ∙ append_assoc f r rest in
      let place : (place_of (front ++ rest) + length f) % 8 ≡ place_of (r ++ rest) =
      ap (λ (t : List Bool). (place_of t + length f) % 8) whole ∙ place_after f (r ++ rest) in
      let one = p.only f (r ++ rest) a
      (subst (λ (t : List Bool). first a (place_of t) f) whole h.1.3) in
      let two = (q a).only r rest b (subst (λ (n : ℕ). second a b n r) place h.1.4) in
      rw (whole, one) two;
}

-- the same if the form is written another way
pub exact_as : {A F : Type 0} (encodes other : A → ℕ → List Bool → Type 0)
    (read : List Bool → Result (A × List Bool) F)
    → ((x : A) (place : ℕ) (bits : List Bool) → encodes x place bits → other x place bits)
    → ((x : A) (place : ℕ) (bits : List Bool) → other x place bits → encodes x place bits)
    → IsExact encodes read → IsExact other read
exact_as encodes other read to back r = record {
  found = λ bits rest x e. let h = r.found bits rest x e in
      (h.0, h.1, to x (place_of bits) h.0 h.2);
  only = λ front rest x h. r.only front rest x (back x (place_of (front ++ rest)) front h);
}

-- no bits, and a value under a condition
pub check_exact : {A F : Type 0} (test : Bool) (P : Type 0) (x : A) (fault : F)
    → (test ≡ false → P) → (P → test ≡ false)
    → IsExact (λ (y : A) (place : ℕ) (bits : List Bool). P × (y ≡ x) × (bits ≡ []))
    (λ bits. cond test (Err fault) (Ok (x, bits)))
check_exact {A} {F} test P x fault to back =
    elim test as (λ t. (t ≡ false → P) → (P → t ≡ false)
    → IsExact (λ (y : A) (place : ℕ) (bits : List Bool). P × (y ≡ x) × (bits ≡ []))
    (λ bits. cond t (Err fault) (Ok (x, bits)))) [
      | true ↦ λ to back. record {
        found = λ bits rest y e. absurd cc;
        only = λ front rest y h. absurd (true_not_false (back h.0));
      }
      | false ↦ λ to back. record {
        found = λ bits rest y e. let same = ok_is (x, bits) (y, rest) e in (
          [],
          ap (λ (p : A × List Bool). p.1) same,
          (to refl, sym (ap (λ (p : A × List Bool). p.0) same), refl),
        );
        only = λ front rest y h. rw (h.1, h.2) refl;
      }
    ] to back

-- if no bits are of a form
pub none_exact : {A F : Type 0} (fault : F)
    → IsExact (λ (x : A) (place : ℕ) (bits : List Bool). ⊥) (λ bits. Err fault)
none_exact {A} {F} fault = record {
  found = λ bits rest x e. absurd (ok_not_err (sym e));
  only = λ front rest x h. absurd h;
}

-- one form or another, by a test
pub either_exact : {A F : Type 0} (test : Bool) (on_true on_false : A → ℕ → List Bool → Type 0)
    (read_true read_false : List Bool → Result (A × List Bool) F)
    → IsExact on_true read_true → IsExact on_false read_false
    → IsExact (λ (x : A) (place : ℕ) (bits : List Bool).
    MatchBool test (on_true x place bits) (on_false x place bits))
    (λ bits. cond test (read_true bits) (read_false bits))
either_exact {A} {F} test on_true on_false read_true read_false p q =
    elim test as (λ t. IsExact
    (λ (x : A) (place : ℕ) (bits : List Bool).
    MatchBool t (on_true x place bits) (on_false x place bits))
    (λ bits. cond t (read_true bits) (read_false bits))) [
      | true ↦ record { found = p.found; only = p.only }
      | false ↦ record { found = q.found; only = q.only }
    ]

-- a form, under a condition
pub guarded_exact : {A F : Type 0} (test : Bool) (P : Type 0) (fault : F)
    (encodes : A → ℕ → List Bool → Type 0) (read : List Bool → Result (A × List Bool) F)
    → (test ≡ true → P) → (P → test ≡ true)
    → IsExact encodes read
    → IsExact (λ (x : A) (place : ℕ) (bits : List Bool). P × encodes x place bits)
    (λ bits. cond test (read bits) (Err fault))
guarded_exact {A} {F} test P fault encodes read to back r =
    elim test as (λ t. (t ≡ true → P) → (P → t ≡ true)
    → IsExact (λ (x : A) (place : ℕ) (bits : List Bool). P × encodes x place bits)
    (λ bits. cond t (read bits) (Err fault))) [
      | true ↦ λ to back. record {
        found = λ bits rest x e. let h = r.found bits rest x e in (h.0, h.1, (to refl, h.2));
        only = λ front rest x h. r.only front rest x h.1;
      }
      | false ↦ λ to back. record {
        found = λ bits rest x e. absurd cc;
        only = λ front rest x h. absurd (true_not_false (sym (back h.0)));
      }
    ] to back

pub pad_exact : {A F : Type 0} (encodes : A → ℕ → List Bool → Type 0)
    (read : List Bool → Result (A × List Bool) F)
    → IsExact encodes read
    → IsExact (λ (x : A). Then IsPad (encodes x)) (λ bits. read (aligned bits))
pad_exact {A} {F} encodes read r = record {
  found = λ bits rest x e.
      let h = r.found (aligned bits) rest x e in
      let pad = take (length bits % 8) bits in
      let len : length pad ≡ pad_length (place_of bits) =
      omega (arith, length-take (length bits % 8) bits) in
      let parts : bits ≡ pad ++ aligned bits = sym (take-append-drop (length bits % 8) bits) in
      let whole : bits ≡ (pad ++ h.0) ++ rest = parts ∙ ap (λ (t : List Bool). pad ++ t) h.1
      ∙ sym (append_assoc pad h.0 rest) in
      let place : (place_of bits + length pad) % 8 ≡ place_of (aligned bits) =
      ap (λ (t : List Bool). (place_of t + length pad) % 8) parts
      ∙ place_after pad (aligned bits) in
      (pad ++ h.0, whole, (pad, h.0, refl, len, rw place h.2));
  only = λ front rest x h.
      let pad = h.0 in
      let f = h.1 in
      let whole : front ++ rest ≡ pad ++ (f ++ rest) = ap (λ (t : List Bool). t ++ rest) h.2
      ∙ append_assoc pad f rest in
      let place : (place_of (front ++ rest) + length pad) % 8 ≡ place_of (f ++ rest) =
      ap (λ (t : List Bool). (place_of t + length pad) % 8) whole
      ∙ place_after pad (f ++ rest) in
      let len : length (front ++ rest) % 8 ≡ length pad =
      omega (arith, h.3, ap length whole, length-append pad (f ++ rest)) in
      let here : aligned (front ++ rest) ≡ f ++ rest =
      rw (len, whole) (drop_at pad (f ++ rest) (length pad) refl) in
      rw here (r.only f rest x (subst (λ (n : ℕ). encodes x n f) place h.4));
}

-- what is passed up to the next octet
pub aligned_takes : (bits rest : List Bool) → rest ≡ aligned bits → Passes IsPad bits rest
aligned_takes bits rest e =
    let parts : bits ≡ take (length bits % 8) bits ++ rest =
    sym (take-append-drop (length bits % 8) bits)
    ∙ ap (λ (t : List Bool). take (length bits % 8) bits ++ t) (sym e) in
    (take (length bits % 8) bits, parts, omega (arith, length-take (length bits % 8) bits))

-- a reader that gives what an exact reading function gives decodes the form
pub answers : {A F : Type 0} (encodes : A → ℕ → List Bool → Type 0)
    (read : List Bool → Result (A × List Bool) F) → IsExact encodes read
    → (old new : List Bool) (result : Result A F) → Gives read old result new
    → Decodes encodes old result new
answers encodes read r old new (Ok x) gives = r.found old new x gives
answers encodes read r old new (Err fault) gives = (
  λ x front rest whole h.
      absurd (ok_not_err (sym
      (r.only front rest x (subst (λ (t : List Bool). encodes x (place_of t) front) whole
      h)) ∙ ap read (sym whole) ∙ gives.0)),
  gives.1,
)
