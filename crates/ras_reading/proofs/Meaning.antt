-- What is read, in the words of the encoding.
use Rattle.std.proofs.Common.{◌≡◌, ℕ, ◌+◌, ◌%◌, ◌≤◌, List, [], ◌∷◌, ◌++◌, Bool, true, false, length}
use Rattle.std.proofs.Common.{take, drop, nat_eq, Option, Some, None, Result, Ok, Err, ◌⊎◌, inl}
use Rattle.std.proofs.Common.{inr, refl, sym, ap, subst, ◌∙◌, arith, length-take, take-append-drop}
use Rattle.std.specs.Prelude.{◌||◌}
use Rattle.std.specs.Result.{IfErr}
use Rattle.per_bits.specs.Bits.{bits_of, number, place_of, width}
use Rattle.per_bits.proofs.Results.{bind_ok, ok_is}
use Rattle.per_bits.proofs.Octets.{length-bits_of}
use Rattle.ras_module.specs.declared.request.Request.{Request}
use Rattle.ras_grammar.specs.declared.fault.ReadFault.{ReadFault}
use Rattle.ras_grammar.specs.declared.fault.ReadFault.TheVariants.{Memory}
use Rattle.ras_grammar.specs.Faults.{IsUnlessMemory}
use Rattle.ras_grammar.specs.Grammar.{Grammar, either, choice_index, value_of}
use Rattle.ras_reading.specs.Messages.{served, root_alternative, ras_message}
use Rattle.ras_reading.specs.Messages.{message_reading, Reads, NotServed, IsFaulty, is_served}

value_ok : {A : Type 0} (r : Result (A × List Bool) ReadFault) (x : A) → value_of r ≡ Ok x →
    (rest : List Bool) × (r ≡ Ok (x, rest))
value_ok {A} (Ok p) x e =
    let done : A × List Bool → Result (A × List Bool) ReadFault = λ q. Ok q in
    (p.1, ap (λ (y : A). done (y, p.1)) (ok_is p.0 x e))
value_ok (Err fault) x e = absurd cc

whole_octets : (octets : List ℕ) → place_of (bits_of octets) ≡ 0
whole_octets octets = omega (arith, length-bits_of octets)

pub request_read : (octets : List ℕ) (request : Request) → message_reading octets ≡ Ok
    (Some request) → Reads octets request
unfolding message_reading
request_read octets request e =
    let read = value_ok (ras_message.reading (bits_of octets)) (Some request) e in
    let h = ras_message.exact.found (bits_of octets) read.0 (Some request) read.1 in (
      h.0,
      read.0,
      h.1,
      subst (λ (n : ℕ). ras_message.encodes (Some request) n h.0)
          (whole_octets octets) h.2,
    )

pub request_found : (octets : List ℕ) (request : Request) → Reads octets request
    → message_reading octets ≡ Ok (Some request)
unfolding message_reading
request_found octets request h =
    let place : 0 ≡ place_of (h.0 ++ h.1) = sym (whole_octets octets) ∙ ap place_of h.2 in
    let here = ras_message.exact.only h.0 h.1 (Some request) (subst (λ
    (n : ℕ). ras_message.encodes (Some request) n h.0) place h.3) in
    rw (h.2, here) refl

-- ---- messages that are not served

served_some : {A : Type 0} (kind : A → Request) (g : Grammar A) (bits rest : List Bool)
    → (served kind g).reading bits ≡ Ok (None, rest) → ⊥
served_some {A} kind g bits rest e =
    let step = bind_ok (g.reading bits) (λ (x : A × List Bool). Ok (Some (kind x.0), x.1))
    (None, rest) e in
    let same = ok_is (Some (kind step.0.0), step.0.1) (None, rest) step.2 in
    let never : Some (kind step.0.0) ≡ None = ap (λ (p : Option Request × List Bool). p.0) same in
    absurd (cc never)

none_if : {A : Type 0} (test : Bool) (kind : A → Request) (g : Grammar A)
    (other : Grammar (Option Request)) (others : Bool) (bits rest : List Bool)
    → (other.reading bits ≡ Ok (None, rest) → others ≡ false) → (either test
    (served kind g) other).reading bits ≡ Ok (None, rest) → (test || others) ≡ false
none_if true kind g other others bits rest h e = absurd (served_some kind g bits rest e)
none_if false kind g other others bits rest h e = h e

if_none : {A : Type 0} (test : Bool) (kind : A → Request) (g : Grammar A)
    (other : Grammar (Option Request)) (others : Bool) (bits : List Bool)
    → (others ≡ false → other.reading bits ≡ Ok (None, bits)) → (test || others) ≡ false →
    (either test (served kind g) other).reading bits ≡ Ok (None, bits)
if_none true kind g other others bits h e = absurd (cc e)
if_none false kind g other others bits h e = h e

others_only : (index : ℕ) (bits rest : List Bool) → (root_alternative index).reading bits ≡ Ok
    (None, rest) → is_served index ≡ false
others_only index bits rest =
    none_if (nat_eq index 0) _ _ _ _ bits rest
    (none_if (nat_eq index 3) _ _ _ _ bits rest
    (none_if (nat_eq index 6) _ _ _ _ bits rest
    (none_if (nat_eq index 9) _ _ _ _ bits rest
    (none_if (nat_eq index 12) _ _ _ _ bits rest
    (none_if (nat_eq index 15) _ _ _ _ bits rest
    (none_if (nat_eq index 22) _ _ _ _ bits rest (λ e. refl)))))))

others_all : (index : ℕ) (bits : List Bool) → is_served index ≡ false →
    (root_alternative index).reading bits ≡ Ok (None, bits)
others_all index bits =
    if_none (nat_eq index 0) _ _ _ _ bits
    (if_none (nat_eq index 3) _ _ _ _ bits
    (if_none (nat_eq index 6) _ _ _ _ bits
    (if_none (nat_eq index 9) _ _ _ _ bits
    (if_none (nat_eq index 12) _ _ _ _ bits
    (if_none (nat_eq index 15) _ _ _ _ bits
    (if_none (nat_eq index 22) _ _ _ _ bits (λ e. refl)))))))

abbrev IsOther : List Bool → Type 0
IsOther bits = (extended : Bool) × (five : List Bool) × (rest : List Bool) × (bits
    ≡ extended ∷ five ++ rest) × (length five ≡ 5)
    × ((extended ≡ true) ⊎ ((number five ≤ 24) × (is_served (number five) ≡ false)))

other_bits : (bits rest : List Bool) → length bits % 8 ≡ 0 → ras_message.reading bits ≡ Ok
    (None, rest) → IsOther bits
unfolding ras_message width
other_bits [] rest whole e = absurd cc
other_bits (true ∷ bits) rest whole e =
    let long : 5 ≤ length bits = omega arith in (
      true,
      take 5 bits,
      drop 5 bits,
      ap (λ (t : List Bool). true ∷ t) (sym
          (take-append-drop 5 bits)),
      omega (arith, length-take 5 bits),
      inl refl,
    )
other_bits (false ∷ bits) rest whole e =
    let step = bind_ok ((choice_index 24).reading bits) (λ (x : ℕ × List Bool).
    (root_alternative x.0).reading x.1) (None, rest) e in
    let index = step.0.0 in
    let here = (choice_index 24).exact.found bits step.0.1 index step.1 in
    let is : number here.0 ≡ index = here.2.3.1 ∙ omega (arith, here.2.2) in
    let few : number here.0 ≤ 24 = omega (arith, here.2.1, here.2.2) in
    let other : is_served (number here.0) ≡ false = subst (λ (n : ℕ). is_served n ≡ false)
    (sym is) (others_only index step.0.1 rest step.2) in (
      false,
      here.0,
      step.0.1,
      ap (λ (t : List Bool). false ∷ t) here.1,
      here.2.3.0,
      inr
          (few, other),
    )

bits_other : (extended : Bool) (five rest : List Bool) → length five ≡ 5
    → ((extended ≡ true) ⊎ ((number five ≤ 24) × (is_served (number five) ≡ false))) → value_of
    (ras_message.reading (extended ∷ five ++ rest)) ≡ Ok None
unfolding ras_message width
bits_other true five rest len why = refl
bits_other false five rest len (inl never) = absurd (cc never)
bits_other false five rest len (inr (few, other)) =
    let same : number five ≡ 0 + number five = omega arith in
    let index = (choice_index 24).exact.only five rest (number five) (
      number five,
      few,
      same,
      (len, refl),
    ) in
    rw (index, others_all (number five) rest other) refl

pub other_read : (octets : List ℕ) → message_reading octets ≡ Ok None → NotServed octets
unfolding message_reading
other_read octets e =
    let read = value_ok (ras_message.reading (bits_of octets)) None e in
    other_bits (bits_of octets) read.0 (omega (arith, length-bits_of octets)) read.1

pub other_found : (octets : List ℕ) → NotServed octets → message_reading octets ≡ Ok None
unfolding message_reading
other_found octets h = rw h.3 (bits_other h.0 h.1 h.2 h.4 h.5)

-- ---- the result of `read`

module _ (octets : List ℕ) (result : Result (Option Request) ReadFault) (gives : IsUnlessMemory
    (message_reading octets) result) where
  pub reads_request : (request : Request) → result ≡ Ok (Some request) → Reads octets request
  reads_request request e = elim gives [
    | inl memory ↦ absurd (cc
        (memory, e))
    | inr is ↦ request_read octets request (sym is ∙ e)
  ]

  pub reads_each : (request : Request) → Reads octets request → IsUnlessMemory (Ok
      (Some request)) result
  reads_each request h = elim gives [
    | inl memory ↦ inl memory
    | inr is ↦ inr (is
        ∙ request_found octets request h)
  ]

  pub reads_other : result ≡ Ok None → NotServed octets
  reads_other e = elim gives [
    | inl memory ↦ absurd (cc (memory, e))
    | inr is ↦ other_read octets
        (sym is ∙ e)
  ]

  pub reads_each_other : NotServed octets → IsUnlessMemory (Ok None) result
  reads_each_other h = elim gives [
    | inl memory ↦ inl memory
    | inr is ↦ inr (is
        ∙ other_found octets h)
  ]

  reads_fault : (fault : ReadFault) → result ≡ Err fault → (fault ≡ Memory) ⊎ IsFaulty octets
  reads_fault fault e = elim gives [
    | inl memory ↦ inl (cc (memory, e))
    | inr is ↦ inr (
      (λ request h. absurd (cc (is, e, request_found octets request h))),
      (λ h. absurd (cc (is, e, other_found octets h))),
    )
  ]

fault_by : (octets : List ℕ) (result : Result (Option Request) ReadFault) → ((fault : ReadFault)
    → result ≡ Err fault → (fault ≡ Memory) ⊎ IsFaulty octets)
    → IfErr result (λ fault. (fault ≡ Memory) ⊎ IsFaulty octets)
fault_by octets (Ok x) h = tt
fault_by octets (Err fault) h = h fault refl

pub reads_faulty : (octets : List ℕ) (result : Result (Option Request) ReadFault) → IsUnlessMemory
    (message_reading octets) result
    → IfErr result (λ fault. (fault ≡ Memory) ⊎ IsFaulty octets)
reads_faulty octets result gives = fault_by octets result (reads_fault octets result gives)
