-- Octets after those that are read do not change what is read of these.
use Rattle.std.proofs.Common.{◌≡◌, ℕ, zero, suc, ◌+◌, ◌-◌, ◌*◌, ◌%◌, ◌≤◌}
use Rattle.std.proofs.Common.{List, [], ◌∷◌, ◌++◌, Bool, true, false, cond, length, drop}
use Rattle.std.proofs.Common.{refl, ap, ◌∙◌, arith, nat_lt, inl, inr, Result, Ok, Err}
use Rattle.std.proofs.lemmas.List.{length-append, length-drop, take-append-le, drop-append-le}
use Rattle.std.proofs.lemmas.Bool.{le-ltb, lt-ltb, cases_lt}
use Rattle.per_bits.specs.Bits.{width, octets_for, octets_in}
use Rattle.per_bits.specs.Readings.{◌>>=◌, bit_reading, number_reading, aligned}
use Rattle.per_bits.specs.Readings.{aligned_number_reading, wide_reading, offset_reading}
use Rattle.per_bits.specs.Readings.{whole_reading, long_length_reading, length_reading}
use Rattle.per_bits.specs.Readings.{small_reading, front_octets_reading, octets_reading}
use Rattle.per_bits.specs.Readings.{open_type_reading}
use Rattle.per_bits.specs.Properties.{Keeps, IsLocal}
use Rattle.per_bits.specs.declared.fault.ReadFault.TheVariants.{Truncated, BadLength, Fragmented}
use Rattle.per_bits.specs.declared.fault.ReadFault.TheVariants.{TooMany}

-- ---- readings built of readings

bind_keeps : {A B F : Type 0} (ended : F) (first further : Result (A × List Bool) F)
    (next : A → List Bool → Result (B × List Bool) F) (more : List Bool)
    → Keeps ended first further more
    → ((x : A) (rest : List Bool) → Keeps ended (next x rest) (next x (rest ++ more)) more)
    → Keeps ended (first >>= λ x. next x.0 x.1) (further >>= λ x. next x.0 x.1) more
bind_keeps ended (Ok value) further next more h k = rw h (k value.0 value.1)
bind_keeps ended (Err fault) further next more h k = λ other. rw (h other) refl

pub bind_local : {A B F : Type 0} (ended : F) (read : List Bool → Result (A × List Bool) F)
    (next : A → List Bool → Result (B × List Bool) F)
    → IsLocal ended read → ((x : A) → IsLocal ended (next x))
    → IsLocal ended (λ bits. read bits >>= λ x. next x.0 x.1)
bind_local ended read next p q bits more whole =
    bind_keeps ended (read bits) (read (bits ++ more)) next more (p bits more whole)
    (λ x rest. q x rest more whole)

pub cond_local : {A F : Type 0} (ended : F) (test : Bool)
    (on_true on_false : List Bool → Result (A × List Bool) F)
    → IsLocal ended on_true → IsLocal ended on_false
    → IsLocal ended (λ bits. cond test (on_true bits) (on_false bits))
cond_local ended true on_true on_false p q = p
cond_local ended false on_true on_false p q = q

pub fault_local : {A F : Type 0} (ended fault : F)
    → IsLocal {A = A} ended (λ bits. Err fault)
fault_local ended fault bits more whole = λ other. refl

pub value_local : {A F : Type 0} (ended : F) (x : A) → IsLocal ended (λ bits. Ok (x, bits))
value_local ended x bits more whole = refl

aligned-append : (bits more : List Bool) → length more % 8 ≡ 0
    → aligned (bits ++ more) ≡ aligned bits ++ more
aligned-append bits more whole =
    let same : length (bits ++ more) % 8 ≡ length bits % 8 =
    omega (arith, length-append bits more) in
    ap (λ (n : ℕ). drop n (bits ++ more)) same
    ∙ drop-append-le (length bits % 8) bits more (omega arith)

pub aligned_local : {A F : Type 0} (ended : F) (read : List Bool → Result (A × List Bool) F)
    → IsLocal ended read → IsLocal ended (λ bits. read (aligned bits))
aligned_local ended read p bits more whole =
    rw (aligned-append bits more whole) (p (aligned bits) more whole)

-- ---- the primitives

pub bit_local : IsLocal Truncated bit_reading
bit_local [] more whole = λ other. absurd (other refl)
bit_local (bit ∷ bits) more whole = refl

pub number_local : (count : ℕ) → IsLocal Truncated (number_reading count)
unfolding number_reading
number_local count bits more whole =
    elim (cases_lt (length bits) count) [
      | inl lt ↦ rw (lt-ltb (length bits) count lt) (λ other. absurd (other refl))
      | inr ge ↦
          let long : count ≤ length (bits ++ more) = omega (arith, length-append bits more) in
          rw (
            le-ltb (length bits) count ge,
            le-ltb (length (bits ++ more)) count long,
            take-append-le count bits more ge,
            drop-append-le count bits more ge,
          ) refl
    ]

aligned_number_local : (count : ℕ) → IsLocal Truncated (aligned_number_reading count)
aligned_number_local count = aligned_local Truncated (number_reading count) (number_local count)

wide_local : (range : ℕ) → IsLocal Truncated (wide_reading range)
unfolding wide_reading
wide_local range =
    bind_local Truncated (number_reading (width (octets_for range - 1)))
    (λ more bits. cond (nat_lt more (octets_for range))
    (aligned_number_reading (8 * (more + 1)) bits) (Err BadLength))
    (number_local (width (octets_for range - 1)))
    (λ more. cond_local Truncated (nat_lt more (octets_for range))
    (aligned_number_reading (8 * (more + 1))) (λ bits. Err BadLength)
    (aligned_number_local (8 * (more + 1))) (fault_local Truncated BadLength))

offset_local : (range : ℕ) → IsLocal Truncated (offset_reading range)
unfolding offset_reading
offset_local range =
    cond_local Truncated (nat_lt range 255) (number_reading (width range))
    (λ bits. cond (nat_lt range 256) (aligned_number_reading 8 bits)
    (cond (nat_lt range 65536) (aligned_number_reading 16 bits) (wide_reading range bits)))
    (number_local (width range))
    (cond_local Truncated (nat_lt range 256) (aligned_number_reading 8)
    (λ bits. cond (nat_lt range 65536) (aligned_number_reading 16 bits)
    (wide_reading range bits))
    (aligned_number_local 8)
    (cond_local Truncated (nat_lt range 65536) (aligned_number_reading 16)
    (wide_reading range) (aligned_number_local 16) (wide_local range)))

pub whole_local : (lo hi : ℕ) → IsLocal Truncated (whole_reading lo hi)
unfolding whole_reading
whole_local lo hi =
    bind_local Truncated (offset_reading (hi - lo))
    (λ offset bits. cond (nat_lt (hi - lo) offset) (Err BadLength) (Ok (lo + offset, bits)))
    (offset_local (hi - lo))
    (λ offset. cond_local Truncated (nat_lt (hi - lo) offset) (λ bits. Err BadLength)
    (λ bits. Ok (lo + offset, bits)) (fault_local Truncated BadLength)
    (value_local Truncated (lo + offset)))

long_length_local : IsLocal Truncated long_length_reading
unfolding long_length_reading
long_length_local =
    bind_local Truncated bit_reading
    (λ fragment bits. cond fragment (Err Fragmented) (number_reading 14 bits)) bit_local
    (λ fragment. cond_local Truncated fragment (λ bits. Err Fragmented) (number_reading 14)
    (fault_local Truncated Fragmented) (number_local 14))

pub length_local : IsLocal Truncated length_reading
unfolding length_reading
length_local =
    aligned_local Truncated
    (λ bits. bit_reading bits
    >>= λ long. cond long.0 (long_length_reading long.1) (number_reading 7 long.1))
    (bind_local Truncated bit_reading
    (λ long bits. cond long (long_length_reading bits) (number_reading 7 bits)) bit_local
    (λ long. cond_local Truncated long long_length_reading (number_reading 7)
    long_length_local (number_local 7)))

pub small_local : IsLocal Truncated small_reading
unfolding small_reading
small_local =
    bind_local Truncated bit_reading
    (λ long bits. cond long (Err TooMany) (number_reading 6 bits)) bit_local
    (λ long. cond_local Truncated long (λ bits. Err TooMany) (number_reading 6)
    (fault_local Truncated TooMany) (number_local 6))

octets_in-append : (count : ℕ) (bits more : List Bool) → 8 * count ≤ length bits
    → octets_in count (bits ++ more) ≡ octets_in count bits
octets_in-append zero bits more h = refl
octets_in-append (suc count) bits more h =
    rw (
      take-append-le 8 bits more (omega arith),
      drop-append-le 8 bits more (omega arith),
      octets_in-append count (drop 8 bits) more (omega (arith, length-drop 8 bits)),
    ) refl

front_octets_local : (count : ℕ) → IsLocal Truncated (front_octets_reading count)
unfolding front_octets_reading
front_octets_local count bits more whole =
    elim (cases_lt (length bits) (8 * count)) [
      | inl lt ↦ rw (lt-ltb (length bits) (8 * count) lt) (λ other. absurd (other refl))
      | inr ge ↦
          let long : 8 * count ≤ length (bits ++ more) = omega (arith, length-append bits more) in
          rw (
            le-ltb (length bits) (8 * count) ge,
            le-ltb (length (bits ++ more)) (8 * count) long,
            octets_in-append count bits more ge,
            drop-append-le (8 * count) bits more ge,
          ) refl
    ]

pub octets_local : (count : ℕ) → IsLocal Truncated (octets_reading count)
octets_local count =
    aligned_local Truncated (front_octets_reading count) (front_octets_local count)

pub open_type_local : IsLocal Truncated open_type_reading
unfolding open_type_reading
open_type_local =
    bind_local Truncated length_reading octets_reading length_local octets_local
