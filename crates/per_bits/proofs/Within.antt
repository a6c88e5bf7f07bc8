-- How many bits are enough for a value.
use Rattle.std.proofs.Common.{◌≡◌, ℕ, ◌+◌, ◌-◌, ◌*◌, ◌%◌, ◌^◌, ◌<◌, ◌≤◌}
use Rattle.std.proofs.Common.{List, [], ◌∷◌, Bool, true, false, cond, length}
use Rattle.std.proofs.Common.{refl, arith, nat_lt, inl, inr, Result, Ok, Err}
use Rattle.std.proofs.lemmas.List.{length-drop}
use Rattle.std.proofs.lemmas.Bool.{le-ltb, lt-ltb, ltb-true, cases_lt}
use Rattle.per_bits.specs.Bits.{width, octets_for}
use Rattle.per_bits.specs.Readings.{◌>>=◌, bit_reading, number_reading, aligned}
use Rattle.per_bits.specs.Readings.{aligned_number_reading, wide_reading, offset_reading}
use Rattle.per_bits.specs.Readings.{whole_reading, long_length_reading, length_reading}
use Rattle.per_bits.specs.Readings.{small_reading, front_octets_reading, octets_reading}
use Rattle.per_bits.specs.Readings.{open_type_reading}
use Rattle.per_bits.specs.Properties.{Spends, IsWithin}
use Rattle.per_bits.specs.declared.fault.ReadFault.{ReadFault}
use Rattle.per_bits.specs.declared.fault.ReadFault.TheVariants.{Truncated, BadLength, Fragmented}
use Rattle.per_bits.specs.declared.fault.ReadFault.TheVariants.{TooMany}
use Rattle.per_bits.proofs.Agreement.{width_least}
use Rattle.per_bits.proofs.Forms.{length_exact}
use Rattle.per_bits.proofs.Shortest.{length_below}

-- ---- readings built of readings

more_is_enough : {A F : Type 0} (ended : F) (most enough : ℕ) (bits : List Bool)
    (result : Result (A × List Bool) F) → most ≤ enough → Spends ended most bits result
    → Spends ended enough bits result
more_is_enough ended most enough bits (Ok value) le h = omega arith
more_is_enough ended most enough bits (Err fault) le h = λ e. omega (arith, h e)

rest_spends : {B F : Type 0} (ended : F) (most then : ℕ) (bits rest : List Bool)
    (result : Result (B × List Bool) F) → length bits ≤ length rest + most
    → Spends ended then rest result → Spends ended (most + then) bits result
rest_spends ended most then bits rest (Ok value) le h = omega arith
rest_spends ended most then bits rest (Err fault) le h = λ e. omega (arith, h e)

bind_spends : {A B F : Type 0} (ended : F) (most then : ℕ) (bits : List Bool)
    (first : Result (A × List Bool) F) (next : A → List Bool → Result (B × List Bool) F)
    → Spends ended most bits first
    → ((x : A) (rest : List Bool) → first ≡ Ok (x, rest) → Spends ended then rest (next x rest))
    → Spends ended (most + then) bits (first >>= λ x. next x.0 x.1)
bind_spends ended most then bits (Ok value) next h k =
    rest_spends ended most then bits value.1 (next value.0 value.1) h (k value.0 value.1 refl)
bind_spends ended most then bits (Err fault) next h k = λ e. omega (arith, h e)

cond_spends : {A F : Type 0} (ended : F) (most : ℕ) (bits : List Bool) (test : Bool)
    (on_true on_false : Result (A × List Bool) F)
    → (test ≡ true → Spends ended most bits on_true)
    → (test ≡ false → Spends ended most bits on_false)
    → Spends ended most bits (cond test on_true on_false)
cond_spends ended most bits true on_true on_false p q = p refl
cond_spends ended most bits false on_true on_false p q = q refl

aligned_spends : {A : Type 0} (most : ℕ) (read : List Bool → Result (A × List Bool) ReadFault)
    → IsWithin Truncated most read → IsWithin Truncated (7 + most) (λ bits. read (aligned bits))
aligned_spends most read p bits =
    rest_spends Truncated 7 most bits (aligned bits) (read (aligned bits))
    (omega (arith, length-drop (length bits % 8) bits)) (p (aligned bits))

-- ---- the primitives

pub bit_within : IsWithin Truncated 1 bit_reading
bit_within [] = λ e. omega arith
bit_within (bit ∷ bits) = omega arith

pub number_within : (count : ℕ) → IsWithin Truncated count (number_reading count)
unfolding number_reading
number_within count bits =
    elim (cases_lt (length bits) count) [
      | inl lt ↦ rw (lt-ltb (length bits) count lt) (λ e. lt)
      | inr ge ↦ rw (le-ltb (length bits) count ge) (omega (arith, length-drop count bits))
    ]

aligned_number_within : (count : ℕ)
    → IsWithin Truncated (7 + count) (aligned_number_reading count)
aligned_number_within count = aligned_spends count (number_reading count) (number_within count)

bad_length : (most : ℕ) (bits : List Bool)
    → Spends {A = ℕ} Truncated most bits (Err BadLength)
bad_length most bits = λ e. absurd cc

wide_within : (range : ℕ) → range < 2 ^ 32 → IsWithin Truncated 41 (wide_reading range)
unfolding wide_reading
wide_within range fits bits =
    let narrow : width range ≤ 32 = width_least 32 range fits in
    let few : octets_for range ≤ 4 = omega arith in
    let count : width (octets_for range - 1) ≤ 2 =
    width_least 2 (octets_for range - 1) (omega arith) in
    bind_spends Truncated 2 39 bits (number_reading (width (octets_for range - 1)) bits)
    (λ more rest. cond (nat_lt more (octets_for range))
    (aligned_number_reading (8 * (more + 1)) rest) (Err BadLength))
    (more_is_enough Truncated (width (octets_for range - 1)) 2 bits _ count
    (number_within (width (octets_for range - 1)) bits))
    (λ more rest e. cond_spends Truncated 39 rest (nat_lt more (octets_for range))
    (aligned_number_reading (8 * (more + 1)) rest) (Err BadLength)
    (λ t. let below : more < octets_for range = ltb-true more (octets_for range) t in
    more_is_enough Truncated (7 + 8 * (more + 1)) 39 rest _ (omega arith)
    (aligned_number_within (8 * (more + 1)) rest))
    (λ _. bad_length 39 rest))

offset_within : (range : ℕ) → range < 2 ^ 32 → IsWithin Truncated 41 (offset_reading range)
unfolding offset_reading
offset_within range fits bits =
    let narrow : width range ≤ 32 = width_least 32 range fits in
    cond_spends Truncated 41 bits (nat_lt range 255) (number_reading (width range) bits)
    (cond (nat_lt range 256) (aligned_number_reading 8 bits)
    (cond (nat_lt range 65536) (aligned_number_reading 16 bits) (wide_reading range bits)))
    (λ _. more_is_enough Truncated (width range) 41 bits _ (omega arith)
    (number_within (width range) bits))
    (λ _. cond_spends Truncated 41 bits (nat_lt range 256) (aligned_number_reading 8 bits)
    (cond (nat_lt range 65536) (aligned_number_reading 16 bits) (wide_reading range bits))
    (λ _. more_is_enough Truncated 15 41 bits _ (omega arith) (aligned_number_within 8 bits))
    (λ _. cond_spends Truncated 41 bits (nat_lt range 65536) (aligned_number_reading 16 bits)
    (wide_reading range bits)
    (λ _. more_is_enough Truncated 23 41 bits _ (omega arith)
    (aligned_number_within 16 bits))
    (λ _. wide_within range fits bits)))

pub whole_within : (lo hi : ℕ) → hi < 2 ^ 32 → IsWithin Truncated 41 (whole_reading lo hi)
unfolding whole_reading
whole_within lo hi fits bits =
    bind_spends Truncated 41 0 bits (offset_reading (hi - lo) bits)
    (λ offset rest. cond (nat_lt (hi - lo) offset) (Err BadLength) (Ok (lo + offset, rest)))
    (offset_within (hi - lo) (omega arith) bits)
    (λ offset rest e. cond_spends Truncated 0 rest (nat_lt (hi - lo) offset) (Err BadLength)
    (Ok (lo + offset, rest)) (λ _. bad_length 0 rest) (λ _. omega arith))

long_length_within : IsWithin Truncated 15 long_length_reading
unfolding long_length_reading
long_length_within bits =
    bind_spends Truncated 1 14 bits (bit_reading bits)
    (λ fragment rest. cond fragment (Err Fragmented) (number_reading 14 rest))
    (bit_within bits)
    (λ fragment rest e. cond_spends Truncated 14 rest fragment (Err Fragmented)
    (number_reading 14 rest) (λ _ d. absurd cc) (λ _. number_within 14 rest))

pub length_within : IsWithin Truncated 23 length_reading
unfolding length_reading
length_within =
    aligned_spends 16
    (λ bits. bit_reading bits
    >>= λ long. cond long.0 (long_length_reading long.1) (number_reading 7 long.1))
    (λ bits. bind_spends Truncated 1 15 bits (bit_reading bits)
    (λ long rest. cond long (long_length_reading rest) (number_reading 7 rest))
    (bit_within bits)
    (λ long rest e. cond_spends Truncated 15 rest long (long_length_reading rest)
    (number_reading 7 rest) (λ _. long_length_within rest)
    (λ _. more_is_enough Truncated 7 15 rest _ (omega arith) (number_within 7 rest))))

pub small_within : IsWithin Truncated 7 small_reading
unfolding small_reading
small_within bits =
    bind_spends Truncated 1 6 bits (bit_reading bits)
    (λ long rest. cond long (Err TooMany) (number_reading 6 rest)) (bit_within bits)
    (λ long rest e. cond_spends Truncated 6 rest long (Err TooMany) (number_reading 6 rest)
    (λ _ d. absurd cc) (λ _. number_within 6 rest))

front_octets_within : (count : ℕ) → IsWithin Truncated (8 * count) (front_octets_reading count)
unfolding front_octets_reading
front_octets_within count bits =
    elim (cases_lt (length bits) (8 * count)) [
      | inl lt ↦ rw (lt-ltb (length bits) (8 * count) lt) (λ e. lt)
      | inr ge ↦
          rw (le-ltb (length bits) (8 * count) ge) (omega (arith, length-drop (8 * count) bits))
    ]

pub octets_within : (count : ℕ) → IsWithin Truncated (7 + 8 * count) (octets_reading count)
octets_within count =
    aligned_spends (8 * count) (front_octets_reading count) (front_octets_within count)

pub open_type_within : IsWithin Truncated (30 + 8 * 16383) open_type_reading
unfolding open_type_reading
open_type_within bits =
    bind_spends Truncated 23 (7 + 8 * 16383) bits (length_reading bits) octets_reading
    (length_within bits)
    (λ count rest e.
    let h = length_exact.found bits rest count e in
    let below : count < 16384 = length_below count _ h.0 h.2 in
    more_is_enough Truncated (7 + 8 * count) (7 + 8 * 16383) rest _ (omega arith)
    (octets_within count rest))
