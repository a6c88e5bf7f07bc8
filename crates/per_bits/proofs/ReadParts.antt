-- Reading a number in parts: what each turn takes of one octet.
use Rattle.std.proofs.Common.{◌≡◌, ℕ, ◌+◌, ◌-◌, ◌*◌, ◌/◌, ◌%◌, ◌^◌, ◌<◌, ◌≤◌}
use Rattle.std.proofs.Common.{List, [], ◌∷◌, ◌++◌, Bool, true, false, length, drop, take}
use Rattle.std.proofs.Common.{refl, sym, ap, subst, cond, ◌∙◌, arith, nat_eq, nat_lt, bit_and}
use Rattle.std.proofs.Common.{append_assoc}
use Rattle.std.proofs.Common.{Ok, Err}
use Rattle.std.proofs.lemmas.List.{length-append, length-take, length-drop, take_at, drop_at}
use Rattle.std.proofs.lemmas.List.{drop-drop}
use Rattle.std.proofs.lemmas.Nat.{shl_whole}
use Rattle.std.proofs.Math.Nat.{pow-le-pow_right}
use Rattle.std.proofs.Math.Seq.{take-add}
use Rattle.std.proofs.lemmas.Bool.{le-ltb, lt-ltb, ltb-true, ltb-false}
use Rattle.per_bits.specs.Bits.{binary, octet, bits_of, number, place_of}
use Rattle.per_bits.specs.Readings.{bit_reading, number_reading}
use Rattle.per_bits.specs.declared.fault.ReadFault.{ReadFault}
use Rattle.per_bits.specs.declared.fault.ReadFault.TheVariants.{Truncated}
use Rattle.per_bits.proofs.Binary.{length-binary, number-binary, binary_split, masked}
use Rattle.per_bits.proofs.Binary.{number-octet}
use Rattle.per_bits.proofs.Results.{err_is, guard_ok, guard_err}
use Rattle.per_bits.proofs.Numbers.{ReadSoFar, number_lt, number-append}
use Rattle.per_bits.proofs.Octets.{length-bits_of, length-octet, octet_done}

-- a part of an octet: what stands after its first bits and before its last
octet_part : (x used count left : ℕ) (others : List Bool) → used + count + left ≡ 8
    → drop used (octet x ++ others) ≡ binary count (x / 2 ^ left) ++ (binary left x ++ others)
unfolding octet
octet_part x used count left others sum =
    let eight : 8 ≡ used + (count + left) = omega arith in
    let parts : binary 8 x
    ≡ binary used (x / 2 ^ (count + left)) ++ binary (count + left) x =
    ap (λ (k : ℕ). binary k x) eight ∙ binary_split used (count + left) x in
    let whole : binary 8 x ++ others
    ≡ binary used (x / 2 ^ (count + left)) ++ (binary (count + left) x ++ others) =
    ap (λ (t : List Bool). t ++ others) parts
    ∙ append_assoc (binary used (x / 2 ^ (count + left))) (binary (count + left) x) others in
    let behind : drop used (binary 8 x ++ others) ≡ binary (count + left) x ++ others =
    ap (λ (t : List Bool). drop used t) whole
    ∙ drop_at (binary used (x / 2 ^ (count + left))) (binary (count + left) x ++ others) used
    (length-binary used (x / 2 ^ (count + left))) in
    behind ∙ ap (λ (t : List Bool). t ++ others) (binary_split count left x)
    ∙ append_assoc (binary count (x / 2 ^ left)) (binary left x) others

pub part_here : (bits : List Bool) (octets rest : List ℕ) (x used count : ℕ)
    → drop used (bits_of octets) ≡ bits → octets ≡ x ∷ rest → used + count ≤ 8
    → number_reading count bits
    ≡ Ok (x / 2 ^ (8 - (used + count)) % 2 ^ count, drop (used + count) (bits_of octets))
unfolding number_reading
part_here bits octets rest x used count view front within =
    let left = 8 - (used + count) in
    let value = binary count (x / 2 ^ left) in
    let behind = binary left x ++ bits_of rest in
    let here : bits ≡ value ++ behind =
    sym view ∙ ap (λ (t : List ℕ). drop used (bits_of t)) front
    ∙ octet_part x used count left (bits_of rest) (omega arith) in
    let len : length value ≡ count = length-binary count (x / 2 ^ left) in
    let long : nat_lt (length bits) count ≡ false =
    le-ltb _ _ (omega (arith, ap length here, length-append value behind)) in
    let after : drop (used + count) (bits_of octets) ≡ behind =
    sym (drop-drop count used (bits_of octets))
    ∙ ap (λ (t : List Bool). drop count t) (view ∙ here)
    ∙ drop_at value behind count len in
    rw (long, here, take_at value behind count len, drop_at value behind count len, after)
    (ap (λ (n : ℕ). Ok (n, behind)) (number-binary count (x / 2 ^ left)))

-- after a part, that many more bits of the number have been read
pub part_more : (bits : List Bool) (i n count m : ℕ) (rest after : List Bool)
    → ReadSoFar bits i n rest → number_reading count rest ≡ Ok (m, after)
    → ReadSoFar bits (i + count) (n * 2 ^ count + m) after
unfolding number_reading
part_more bits i n count m rest after so_far e =
    let g = guard_ok (nat_lt (length rest) count) Truncated
    (number (take count rest), drop count rest) (m, after) e in
    let long : count ≤ length rest = ltb-false _ _ g.0 in
    let m-is : number (take count rest) ≡ m = ap (λ (p : ℕ × List Bool). p.0) g.1 in
    let after-is : drop count rest ≡ after = ap (λ (p : ℕ × List Bool). p.1) g.1 in
    let len : length (take count rest) ≡ count = omega (arith, length-take count rest) in
    let all : length bits ≡ i + length rest =
    omega (arith, so_far.within, ap length so_far.rest_is, length-drop i bits) in
    let front : take (i + count) bits ≡ take i bits ++ take count rest =
    take-add i count bits
    ∙ ap (λ (t : List Bool). take i bits ++ take count t) (sym so_far.rest_is) in
    let value : number (take (i + count) bits) ≡ n * 2 ^ count + m =
    ap number front ∙ number-append (take i bits) (take count rest)
    ∙ ap (λ (k : ℕ). number (take i bits) * 2 ^ k + number (take count rest)) len
    ∙ ap (λ (k : ℕ). k * 2 ^ count + number (take count rest)) (sym so_far.number_is)
    ∙ ap (λ (k : ℕ). n * 2 ^ count + k) m-is in
    let behind : after ≡ drop (i + count) bits =
    sym after-is ∙ ap (λ (t : List Bool). drop count t) so_far.rest_is
    ∙ drop-drop count i bits in
    let total : length (take (i + count) bits) ≡ i + count =
    omega (arith, length-take (i + count) bits) in
    record {
      number_is = sym value;
      rest_is = behind;
      within = omega arith;
      small = subst (λ (k : ℕ). n * 2 ^ count + m < 2 ^ k) total
          (subst (λ (k : ℕ). k < 2 ^ length (take (i + count) bits)) value
          (number_lt (take (i + count) bits)));
    }

-- if the octets end within a part, they end within the number
pub part_short : (bits : List Bool) (i n count whole : ℕ) (rest : List Bool) (fault : ReadFault)
    → ReadSoFar bits i n rest → i + count ≤ whole → number_reading count rest ≡ Err fault
    → number_reading whole bits ≡ Err fault
unfolding number_reading
part_short bits i n count whole rest fault so_far le e =
    let g = guard_err (nat_lt (length rest) count) Truncated
    (number (take count rest), drop count rest) fault e in
    let ended : length rest < count = ltb-true _ _ g.0 in
    let short : nat_lt (length bits) whole ≡ true =
    lt-ltb _ _ (omega (arith, so_far.within, ap length so_far.rest_is, length-drop i bits)) in
    rw (short, g.1) refl

-- where the bits of a reader begin
pub place_seen : (bits : List Bool) (octets : List ℕ) (used : ℕ)
    → drop used (bits_of octets) ≡ bits
    → used < 8 → used ≤ 8 * length octets → place_of bits ≡ used
place_seen bits octets used view small within =
    let len : length bits ≡ 8 * length octets - used =
    ap length (sym view) ∙ length-drop used (bits_of octets)
    ∙ ap (λ (n : ℕ). n - used) (length-bits_of octets) in
    omega arith

-- a part of the octet at hand, as the code computes it
pub part_read : (bits : List Bool) (octets rest : List ℕ) (x used count : ℕ)
    → drop used (bits_of octets) ≡ bits → octets ≡ x ∷ rest → used + count ≤ 8
    → number_reading count bits
    ≡ Ok (
      bit_and (x / 2 ^ (8 - (used + count))) (1 * 2 ^ count % 2 ^ 32 - 1),
      drop (used + count) (bits_of octets),
    )
part_read bits octets rest x used count view front within =
    part_here bits octets rest x used count view front within
    ∙ ap (λ (n : ℕ). Ok (n, drop (used + count) (bits_of octets)))
    (sym (masked (x / 2 ^ (8 - (used + count))) count (omega arith)))

pub part_last : (bits : List Bool) (octets rest : List ℕ) (x used count : ℕ)
    → drop used (bits_of octets) ≡ bits → octets ≡ x ∷ rest → used + count ≡ 8
    → number_reading count bits
    ≡ Ok (bit_and (x / 2 ^ (8 - (used + count))) (1 * 2 ^ count % 2 ^ 32 - 1), bits_of rest)
part_last bits octets rest x used count view front full =
    part_read bits octets rest x used count view front (omega arith)
    ∙ ap (λ (t : List Bool). Ok (
      bit_and (x / 2 ^ (8 - (used + count)))
          (1 * 2 ^ count % 2 ^ 32 - 1),
      t,
    ))
    (ap (λ (n : ℕ). drop n (bits_of octets)) full ∙ octet_done octets rest x front)

-- if there is no octet, there is no part
pub none_here : (bits : List Bool) (octets : List ℕ) (used count : ℕ)
    → drop used (bits_of octets) ≡ bits → length octets ≡ 0 → 0 < count
    → number_reading count bits ≡ Err Truncated
unfolding number_reading
none_here bits octets used count view none some =
    let len : length bits ≡ 0 =
    ap length (sym view) ∙ length-drop used (bits_of octets)
    ∙ omega (arith, length-bits_of octets) in
    let short : nat_lt (length bits) count ≡ true = lt-ltb _ _ (omega arith) in
    rw short refl

-- ---- the turns of a number

-- a turn of the reader, if the number fits 32 bits
pub record Turn (bits : List Bool) (i n : ℕ) (rest : List Bool) : Type 0 where
  pub fits : n < 2 ^ 32
  pub so_far : ReadSoFar bits i n rest

pub part_turn : (bits : List Bool) (whole left taken n m : ℕ) (rest after : List Bool)
    → ReadSoFar bits (whole - left) n rest → number_reading taken rest ≡ Ok (m, after)
    → left ≤ whole → taken ≤ left → whole ≤ 32
    → Turn bits (whole - (left - taken)) (n * 2 ^ taken % 2 ^ 32 + m) after
part_turn bits whole left taken n m rest after so_far e within some most =
    let i = whole - left in
    let shifted : n * 2 ^ taken % 2 ^ 32 ≡ n * 2 ^ taken =
    shl_whole n i taken 32 so_far.small (omega arith) in
    let count : i + taken ≡ whole - (left - taken) = omega arith in
    let next = part_more bits i n taken m rest after so_far e in
    let below : i + taken ≤ 32 = omega arith in
    let least : 2 ^ (i + taken) ≤ 2 ^ 32 = pow-le-pow_right {n = 2} (omega arith) below in
    record {
      fits = rw shifted (omega (arith, next.small, least));
      so_far = rw (shifted, ← count) next;
    }

-- ---- a bit is a number in one

bit_value : (b : Bool) → nat_eq (cond b 1 0 + 0) 1 ≡ b
bit_value true = refl
bit_value false = refl

pub bit_read : (bits after : List Bool) (n : ℕ) → number_reading 1 bits ≡ Ok (n, after)
    → bit_reading bits ≡ Ok (nat_eq n 1, after)
unfolding number_reading
bit_read [] after n e = absurd cc
bit_read (b ∷ bits) after n e =
    let one = guard_ok (nat_lt (length (b ∷ bits)) 1) Truncated
    (number (take 1 (b ∷ bits)), drop 1 (b ∷ bits)) (n, after) e in
    let value : cond b 1 0 + 0 ≡ n = ap (λ (p : ℕ × List Bool). p.0) one.1 in
    let rest : bits ≡ after = ap (λ (p : ℕ × List Bool). p.1) one.1 in
    rw (← value, ← rest, bit_value b) refl

pub bit_short : (bits : List Bool) (fault : ReadFault) → number_reading 1 bits ≡ Err fault
    → bit_reading bits ≡ Err fault
unfolding number_reading
bit_short [] fault e = ap (λ (d : ReadFault). Err d) (err_is Truncated fault e)
bit_short (b ∷ bits) fault e =
    let short = guard_err (nat_lt (length (b ∷ bits)) 1) Truncated
    (number (take 1 (b ∷ bits)), drop 1 (b ∷ bits)) fault e in
    absurd (omega (arith, ltb-true (length (b ∷ bits)) 1 short.0))

-- ---- two octets where an octet begins

pub two_read : (bits : List Bool) (octets behind rest : List ℕ) (x y used : ℕ)
    → drop used (bits_of octets) ≡ bits → used ≡ 0 → octets ≡ x ∷ behind → behind ≡ y ∷ rest
    → x < 256 → y < 256
    → number_reading 16 bits ≡ Ok (x * 2 ^ 8 % 2 ^ 32 + y, drop used (bits_of rest))
unfolding number_reading
two_read bits octets behind rest x y used view none first second small small2 =
    let two = octet x ++ octet y in
    let here : bits ≡ two ++ bits_of rest =
    sym view ∙ ap (λ (k : ℕ). drop k (bits_of octets)) none ∙ ap bits_of first
    ∙ ap (λ (t : List ℕ). octet x ++ bits_of t) second
    ∙ sym (append_assoc (octet x) (octet y) (bits_of rest)) in
    let len : length two ≡ 16 =
    omega (arith, length-append (octet x) (octet y), length-octet x, length-octet y) in
    let long : nat_lt (length bits) 16 ≡ false =
    le-ltb _ _ (omega (arith, ap length here, length-append two (bits_of rest))) in
    let value : number two ≡ x * 2 ^ 8 % 2 ^ 32 + y =
    number-append (octet x) (octet y)
    ∙ ap (λ (k : ℕ). number (octet x) * 2 ^ k + number (octet y)) (length-octet y)
    ∙ omega (arith, number-octet x small, number-octet y small2) in
    rw (
      long,
      here,
      take_at two (bits_of rest) 16 len,
      drop_at two (bits_of rest) 16 len,
      value,
      none,
    ) refl

pub two_short : (bits : List Bool) (octets : List ℕ) (used : ℕ)
    → drop used (bits_of octets) ≡ bits → length octets < 2
    → number_reading 16 bits ≡ Err Truncated
unfolding number_reading
two_short bits octets used view few =
    let len : length bits ≡ 8 * length octets - used =
    ap length (sym view) ∙ length-drop used (bits_of octets)
    ∙ ap (λ (n : ℕ). n - used) (length-bits_of octets) in
    let short : nat_lt (length bits) 16 ≡ true = lt-ltb _ _ (omega arith) in
    rw short refl
