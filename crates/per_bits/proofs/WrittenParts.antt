-- What a writer shows after a part of a number.
use Rattle.std.proofs.Common.{◌≡◌, ℕ, ◌+◌, ◌-◌, ◌*◌, ◌/◌, ◌%◌, ◌^◌, ◌<◌, ◌≤◌}
use Rattle.std.proofs.Common.{List, [], ◌∷◌, ◌++◌, Bool, false, sym, ap, subst, ◌∙◌}
use Rattle.std.proofs.Common.{arith, append_assoc, bit_and}
use Rattle.std.proofs.lemmas.List.{append-nil}
use Rattle.std.proofs.lemmas.Nat.{shl_whole, shr_high, shr_split, pow-add, mul-add-lt}
use Rattle.std.proofs.Math.Nat.{pow-le-pow_right, mul_comm}
use Rattle.per_bits.specs.Bits.{binary, octet, bits_of}
use Rattle.per_bits.specs.Canonical.{Written, after, place_in}
use Rattle.per_bits.proofs.Binary.{length-binary, binary_low}
use Rattle.per_bits.proofs.Binary.{binary_split, binary_high, masked}
use Rattle.per_bits.proofs.Writing.{shown, same, bits_of-push, place_shown, WrittenSoFar}
use Rattle.per_bits.proofs.Writing.{after-after}

-- bits after those that the octet has
part_push : (used count begun n : ℕ) → n < 2 ^ count
    → binary (used + count) (begun * 2 ^ count + n) ≡ binary used begun ++ binary count n
part_push used count begun n small =
    let whole = begun * 2 ^ count + n in
    binary_split used count whole
    ∙ ap (λ (m : ℕ). binary used m ++ binary count whole) (shr_high begun count n small)
    ∙ ap (λ (t : List Bool). binary used begun ++ t) (binary_low count begun count n (omega arith))

cat_lt : (begun used count n : ℕ) → begun < 2 ^ used → n < 2 ^ count
    → begun * 2 ^ count + n < 2 ^ (used + count)
cat_lt begun used count n held small =
    let power : 2 ^ (used + count) ≡ 2 ^ count * 2 ^ used =
    pow-add 2 used count ∙ mul_comm (2 ^ used) (2 ^ count) in
    rw power (mul-add-lt begun (2 ^ count) n (2 ^ used) held small)

-- the begun octet with one part more
pub record Begun (begun used count n more : ℕ) : Type 0 where
  pub value : more ≡ begun * 2 ^ count + n
  pub below : more < 2 ^ (used + count)
  pub fits : more < 2 ^ 8
  pub bits : binary (used + count) more ≡ binary used begun ++ binary count n

pub begun_more : (begun used count n : ℕ) → begun < 2 ^ used → n < 2 ^ count → used + count ≤ 8
    → Begun begun used count n (begun * 2 ^ count % 2 ^ 32 + n)
begun_more begun used count n held small within =
    let shifted : begun * 2 ^ count % 2 ^ 32 ≡ begun * 2 ^ count =
    shl_whole begun used count 32 held (omega arith) in
    let bits = part_push used count begun n small in
    let count_is = length-binary (used + count) (begun * 2 ^ count + n) in
    let below : begun * 2 ^ count + n < 2 ^ (used + count) =
    cat_lt begun used count n held small in
    let most : 2 ^ (used + count) ≤ 2 ^ 8 = pow-le-pow_right {n = 2} (omega arith) within in
    record {
      value = ap (λ (m : ℕ). m + n) shifted;
      below = rw shifted below;
      fits = rw shifted (omega (arith, below, most));
      bits = rw shifted bits;
    }

-- the octet at hand is not full
pub part_begun : (old : Written) (items : List ℕ) (begun used space count n more : ℕ)
    → shown items begun used space ≡ old → Begun begun used count n more
    → shown items more (used + count) space ≡ after old (binary count n)
part_begun old items begun used space count n more view h =
    let bits : bits_of items ++ binary (used + count) more
    ≡ (bits_of items ++ binary used begun) ++ binary count n =
    ap (λ (t : List Bool). bits_of items ++ t) h.bits
    ∙ sym (append_assoc (bits_of items) (binary used begun) (binary count n)) in
    rw (← view) (same _ _ _ _ bits (omega (arith, length-binary count n)))

-- the octet at hand is full
pub part_full : (old : Written) (items items2 : List ℕ) (begun used space space2 count n more : ℕ)
    → shown items begun used space ≡ old → Begun begun used count n more → used + count ≡ 8
    → items2 ≡ items ++ more ∷ [] → space2 + 1 ≡ space
    → shown items2 0 0 space2 ≡ after old (binary count n)
unfolding octet
part_full old items items2 begun used space space2 count n more view h full push room =
    let last : octet more ≡ binary used begun ++ binary count n =
    subst (λ (k : ℕ). binary k more ≡ binary used begun ++ binary count n) full h.bits in
    let bits : bits_of items2 ++ [] ≡ (bits_of items ++ binary used begun) ++ binary count n =
    append-nil (bits_of items2) ∙ ap (λ (ys : List ℕ). bits_of ys) push
    ∙ bits_of-push items more ∙ ap (λ (t : List Bool). bits_of items ++ t) last
    ∙ sym (append_assoc (bits_of items) (binary used begun) (binary count n)) in
    rw (← view) (same _ _ _ _ bits (omega (arith, length-binary count n)))

-- the place of a writer
pub place_left : (old : Written) (items : List ℕ) (begun used space : ℕ)
    → shown items begun used space ≡ old → used < 8 → 8 - used + place_in old ≡ 8
place_left old items begun used space view small =
    omega (arith, place_shown old items begun used space view small)

-- the lowest bits, masked
pub masked_part : (n count : ℕ) → count ≤ 8
    → binary count (bit_and n (1 * 2 ^ count % 2 ^ 32 - 1)) ≡ binary count n
masked_part n count within =
    ap (λ (m : ℕ). binary count m) (masked n count within)
    ∙ sym (binary_low count (n / 2 ^ count) count (n % 2 ^ count) (omega arith))
    ∙ ap (λ (m : ℕ). binary count m) (shr_split n count)

pub write_part : (old new next : Written) (whole left taken n : ℕ)
    → WrittenSoFar old new whole (whole - left) n → left ≤ whole → taken ≤ left → taken ≤ 8
    → next ≡ after new (binary taken
    (bit_and (n / 2 ^ (left - taken)) (1 * 2 ^ taken % 2 ^ 32 - 1)))
    → whole ≤ old.room
    → WrittenSoFar old next whole (whole - (left - taken)) n
write_part old new next whole left taken n so_far within some small is enough =
    let rest = left - taken in
    let high = binary taken (n / 2 ^ rest) in
    let next-is : next ≡ after new high =
    is ∙ ap (λ (t : List Bool). after new t) (masked_part (n / 2 ^ rest) taken small) in
    let so : whole - (whole - left) ≡ taken + rest = omega arith in
    let then : whole - (whole - rest) ≡ rest = omega arith in
    let split : binary (whole - (whole - left)) n ≡ high ++ binary rest n =
    ap (λ (k : ℕ). binary k n) so ∙ binary_split taken rest n in
    let bits : (new.bits ++ high) ++ binary rest n ≡ old.bits ++ binary whole n =
    append_assoc new.bits high (binary rest n)
    ∙ ap (λ (t : List Bool). new.bits ++ t) (sym split) ∙ so_far.bits in
    record {
      bits = rw (next-is, then) bits;
      room = rw next-is (omega (arith, so_far.room, length-binary taken (n / 2 ^ rest)));
    }

-- the room of a writer
pub room_shown : (old : Written) (items : List ℕ) (begun used space : ℕ)
    → shown items begun used space ≡ old → 8 * space - used ≡ old.room
room_shown old items begun used space view = ap (λ (w : Written). w.room) view

-- the octet at hand, whole
pub octet_more : (old : Written) (items items2 : List ℕ) (begun used space space2 n : ℕ)
    → shown items begun used space ≡ old → used ≡ 0 → items2 ≡ items ++ bit_and n 255 ∷ []
    → space2 + 1 ≡ space → shown items2 begun used space2 ≡ after old (binary 8 n)
unfolding octet
octet_more old items items2 begun used space space2 n view none push room =
    let bits : bits_of items2 ++ [] ≡ (bits_of items ++ []) ++ binary 8 n =
    append-nil (bits_of items2) ∙ ap (λ (ys : List ℕ). bits_of ys) push
    ∙ bits_of-push items (bit_and n 255)
    ∙ ap (λ (t : List Bool). bits_of items ++ t) (masked_part n 8 (omega arith))
    ∙ ap (λ (t : List Bool). t ++ binary 8 n) (sym (append-nil (bits_of items))) in
    rw (← view, none) (same _ _ _ _ bits (omega (arith, length-binary 8 n)))

-- two octets are a number in sixteen bits
pub octets-two : (old : Written) (n : ℕ)
    → after (after old (binary 8 (n / 2 ^ 8))) (binary 8 n) ≡ after old (binary 16 n)
octets-two old n = after-after old (binary 8 (n / 2 ^ 8)) (binary 8 n)
    ∙ ap (λ (t : List Bool). after old t) (sym (binary_split 8 8 n))

-- a first bit 0
pub octet-short : (n : ℕ) → n < 128 → binary 8 n ≡ false ∷ binary 7 n
octet-short n small =
    let is : n ≡ 0 * 2 ^ 7 + n = omega arith in
    ap (λ (m : ℕ). binary 8 m) is ∙ binary_high 0 7 n small
