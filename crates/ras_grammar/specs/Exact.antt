-- What is read is what the bits encode, form by form.
use Rattle.std.proofs.Common.{◌≡◌, ℕ, List, [], ◌++◌, arith, subst, ◌∙◌, Bool, Result, Ok, Err}
use Rattle.std.proofs.Common.{refl, sym, ap}
use Rattle.per_bits.specs.Bits.{bits_of, place_of}
use Rattle.per_bits.specs.Encodes.{EncodesBit, EncodesNumber, EncodesWhole, EncodesLength}
use Rattle.per_bits.specs.Encodes.{EncodesSmall, EncodesOctets, EncodesOpenType}
use Rattle.per_bits.specs.Exact.{IsExact}
use Rattle.per_bits.specs.Readings.{◌>>=◌, bit_reading, number_reading, whole_reading}
use Rattle.per_bits.specs.Readings.{length_reading, small_reading, octets_reading}
use Rattle.per_bits.specs.Readings.{open_type_reading}
use Rattle.per_bits.specs.declared.fault.ReadFault.{ReadFault as BitFault}
use Rattle.per_bits.proofs.Combinators.{then_exact, pad_exact, none_exact}
use Rattle.per_bits.proofs.Results.{ok_is, bind_ok}
use Rattle.per_bits.proofs.Forms.{bit_exact, number_exact, whole_exact, length_exact, small_exact}
use Rattle.per_bits.proofs.Octets.{length-bits_of}
use Rattle.per_bits.proofs.OctetForms.{octets_exact, open_type_exact}
use Rattle.ras_grammar.specs.declared.fault.ReadFault.{ReadFault}
use Rattle.ras_grammar.specs.Faults.{lifted, lifted_index}
use Rattle.ras_grammar.specs.Forms.{EncodesBoth, EncodesNothing, EncodesInside, EncodesAligned}
use Rattle.ras_grammar.specs.Forms.{both_reading, inside_reading, aligned_reading}

lifted_ok : {A : Type 0} (r : Result A BitFault) (y : A) → lifted r ≡ Ok y → r ≡ Ok y
lifted_ok (Ok x) y e = ap Ok (ok_is x y e)
lifted_ok (Err fault) y e = absurd cc

lifts : {A : Type 0} (encodes : A → ℕ → List Bool → Type 0) (reading : List Bool → Result (A
    × List Bool) BitFault)
    → IsExact encodes reading → IsExact encodes (λ bits. lifted (reading bits))
lifts encodes reading exact = record {
  found = λ bits rest x e. exact.found bits rest x (lifted_ok (reading bits) (x, rest) e);
  only = λ front rest x h. rw (exact.only front rest x h) refl;
}

pub bit_lifts : IsExact EncodesBit (λ bits. lifted (bit_reading bits))
bit_lifts = lifts EncodesBit bit_reading bit_exact

pub number_lifts : (count : ℕ) → IsExact (EncodesNumber count) (λ bits. lifted
    (number_reading count bits))
number_lifts count = lifts (EncodesNumber count) (number_reading count) (number_exact count)

pub whole_lifts : (lo hi : ℕ) → IsExact (EncodesWhole lo hi) (λ bits. lifted
    (whole_reading lo hi bits))
whole_lifts lo hi = lifts (EncodesWhole lo hi) (whole_reading lo hi) (whole_exact lo hi)

lifted_index_ok : {A : Type 0} (r : Result A BitFault) (y : A) → lifted_index r ≡ Ok y → r ≡ Ok y
lifted_index_ok (Ok x) y e = ap Ok (ok_is x y e)
lifted_index_ok (Err fault) y e = absurd cc

pub index_lifts : (last : ℕ) → IsExact (EncodesWhole 0 last) (λ bits. lifted_index
    (whole_reading 0 last bits))
index_lifts last = record {
  found = λ bits rest x e. (whole_exact 0 last).found bits rest x (lifted_index_ok
      (whole_reading 0 last bits) (x, rest) e);
  only = λ front rest x h. rw ((whole_exact 0 last).only front rest x h) refl;
}

pub length_lifts : IsExact EncodesLength (λ bits. lifted (length_reading bits))
length_lifts = lifts EncodesLength length_reading length_exact

pub small_lifts : IsExact EncodesSmall (λ bits. lifted (small_reading bits))
small_lifts = lifts EncodesSmall small_reading small_exact

pub octets_lifts : (count : ℕ) → IsExact (EncodesOctets count) (λ bits. lifted
    (octets_reading count bits))
octets_lifts count = lifts (EncodesOctets count) (octets_reading count) (octets_exact count)

pub open_type_lifts : IsExact EncodesOpenType (λ bits. lifted (open_type_reading bits))
open_type_lifts = lifts EncodesOpenType open_type_reading open_type_exact

abbrev done : {A : Type 0} → A → Result A ReadFault
done x = Ok x

pub nothing_exact : {A : Type 0} (x : A) → IsExact (EncodesNothing x) (λ bits. done (x, bits))
nothing_exact {A} x = record {
  found = λ bits rest y e. let same = ok_is (x, bits) (y, rest) e in (
    [],
    ap (λ (p : A
        × List Bool). p.1) same,
    (sym (ap (λ (p : A × List Bool). p.0) same), refl),
  );
  only = λ front rest y h. rw (h.0, h.1) refl;
}

pub failure_exact : {A : Type 0} (fault : ReadFault) → IsExact (λ (x : A) (place : ℕ)
    (bits : List Bool). ⊥) (λ bits. Err fault)
failure_exact fault = none_exact fault

pub both_exact : {A B : Type 0} (first : A → ℕ → List Bool → Type 0) (read_first : List Bool
    → Result (A × List Bool) ReadFault)
    (next : A → B → ℕ → List Bool → Type 0) (read_next : A → List Bool → Result (B
    × List Bool) ReadFault)
    → IsExact first read_first → ((x : A) → IsExact (next x) (read_next x)) → IsExact
    (EncodesBoth first next) (both_reading read_first read_next)
both_exact first read_first next read_next p q = then_exact first read_first next read_next p q

whole_octets : (octets : List ℕ) → place_of (bits_of octets) ≡ 0
whole_octets octets = omega (arith, length-bits_of octets)

pub inside_exact : {A : Type 0} (encodes : A → ℕ → List Bool → Type 0) (reading : List Bool
    → Result (A × List Bool) ReadFault)
    → IsExact encodes reading → IsExact (EncodesInside encodes) (inside_reading reading)
inside_exact {A} encodes reading r = record {
  found = λ bits rest x e.
      let step = bind_ok (lifted (open_type_reading bits)) (λ (octets : List ℕ
      × List Bool). reading (bits_of octets.0) >>= λ value. Ok (value.0, octets.1))
      (x, rest) e in
      let octets = step.0.0 in
      let inner = bind_ok (reading (bits_of octets)) (λ (value : A × List Bool). Ok
      (value.0, step.0.1)) (x, rest) step.2 in
      let same = ok_is (inner.0.0, step.0.1) (x, rest) inner.2 in
      let rest-is : step.0.1 ≡ rest = ap (λ (p : A × List Bool). p.1) same in
      let x-is : inner.0.0 ≡ x = ap (λ (p : A × List Bool). p.0) same in
      let outer = open_type_lifts.found bits step.0.1 octets step.1 in
      let within = r.found (bits_of octets) inner.0.1 inner.0.0 inner.1 in
      let said : encodes x 0 within.0 = subst (λ (n : ℕ). encodes x n within.0)
      (whole_octets octets) (subst (λ (y : A). encodes y (place_of
      (bits_of octets)) within.0) x-is within.2) in (
        outer.0,
        outer.1 ∙ ap (λ (t : List Bool). outer.0 ++ t) rest-is,
        (octets, outer.2, within.0, inner.0.1, within.1, said),
      );
  only = λ front rest x h.
      let octets = h.0 in
      let outer = open_type_lifts.only front rest octets h.1 in
      let place : 0 ≡ place_of (h.2 ++ h.3) = sym (whole_octets octets) ∙ ap place_of h.4 in
      let within = r.only h.2 h.3 x (subst (λ (n : ℕ). encodes x n h.2) place h.5) in
      rw (outer, h.4, within) refl;
}

pub aligned_exact : {A : Type 0} (encodes : A → ℕ → List Bool → Type 0) (reading : List Bool
    → Result (A × List Bool) ReadFault)
    → IsExact encodes reading → IsExact (EncodesAligned encodes) (aligned_reading reading)
aligned_exact encodes reading r = pad_exact encodes reading r
