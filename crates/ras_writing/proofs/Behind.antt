-- Components after octets.
use Rattle.std.proofs.Common.{◌≡◌, ℕ, suc, ◌+◌, ◌/◌, ◌%◌, ◌<◌, List, [], ◌∷◌, ◌++◌, Bool, false}
use Rattle.std.proofs.Common.{length, get_or, arith, refl, sym, ap, ◌∙◌, append_assoc, append-nil}
use Rattle.std.proofs.Common.{length-append}
use Rattle.std.proofs.lemmas.List.{take_at, drop_at, length-replicate}
use Rattle.std.proofs.Common.{drop, drop-cons, add-one}
use Rattle.ras_module.specs.Aliases.{characters_of}
use Rattle.ras_module.specs.Rooms.{text_room, aliases_room}
use Rattle.ras_module.specs.declared.alias.Alias.{Alias}
use Rattle.ras_writing.specs.Replies.{alias_address, alias_addresses}
use Rattle.per_bits.specs.Bits.{bits_of, octets_in, octet, pad_length}
use Rattle.per_bits.specs.Canonical.{pad}
use Rattle.per_bits.proofs.Binary.{number-octet}
use Rattle.per_bits.proofs.Octets.{length-octet, length-bits_of}
use Rattle.ras_writing.specs.Encoding.{Encoding, in_order, behind, padded_octets}

pub behind_append : (xs ys : List Encoding) (bits : List Bool) → behind (xs ++ ys) bits
    ≡ behind ys (behind xs bits)
behind_append [] ys bits = refl
behind_append (x ∷ xs) ys bits = behind_append xs ys (bits ++ x (length bits % 8))

-- bits with components after them are these bits, and then the components in order
pub behind-in_order : (components : List Encoding) (bits : List Bool) → behind components bits
    ≡ bits ++ in_order components (length bits % 8)
behind-in_order [] bits = sym (append-nil bits)
behind-in_order (x ∷ xs) bits =
    let here = x (length bits % 8) in
    let place : length (bits ++ here) % 8 ≡ (length bits % 8 + length here) % 8 = omega
    (arith, length-append bits here) in
    behind-in_order xs (bits ++ here)
    ∙ ap (λ (n : ℕ). (bits ++ here) ++ in_order xs n) place
    ∙ append_assoc bits here (in_order xs ((length bits % 8 + length here) % 8))

-- each is an octet
abbrev pub Fit : List ℕ → Type 0
Fit xs = (i : ℕ) → i < length xs → get_or xs i 0 < 256

octets_in-bits_of : (xs : List ℕ) (count : ℕ) (rest : List Bool) → Fit xs → octets_in
    (length xs + count) (bits_of xs ++ rest) ≡ xs ++ octets_in count rest
octets_in-bits_of [] count rest fit =
    let none : 0 + count ≡ count = omega arith in
    ap (λ (n : ℕ). octets_in n rest) none
octets_in-bits_of (x ∷ xs) count rest fit =
    let more : suc (length xs) + count ≡ suc (length xs + count) = omega arith in
    let parts : (octet x ++ bits_of xs) ++ rest ≡ octet x ++ (bits_of xs ++ rest) = append_assoc
    (octet x) (bits_of xs) rest in
    rw (
      more,
      parts,
      take_at (octet x) (bits_of xs ++ rest) 8 (length-octet x),
      drop_at (octet x)
          (bits_of xs ++ rest) 8 (length-octet x),
      number-octet x (fit 0
          (omega arith)),
      octets_in-bits_of xs count rest (λ i h. fit (suc i) (omega arith)),
    ) refl

octets_in-all : (xs : List ℕ) (bits : List Bool) (count : ℕ) → Fit xs → bits_of xs ≡ bits
    → length xs ≡ count → octets_in count bits ≡ xs
octets_in-all xs bits count fit e n =
    let all : octets_in (length xs + 0) (bits_of xs ++ []) ≡ xs = octets_in-bits_of xs 0 [] fit
    ∙ append-nil xs in
    let count-is : length xs + 0 ≡ count = omega arith in
    sym (ap (λ (k : ℕ). octets_in k bits) count-is)
    ∙ ap (λ (t : List Bool). octets_in (length xs + 0) t) (sym e ∙ sym (append-nil (bits_of xs)))
    ∙ all

-- the octets that stand after others, if components were written after those
pub appended : (old new : List ℕ) (components : List Encoding) (bits : List Bool) → Fit old
    → Fit new
    → bits ≡ behind components (bits_of old) → bits_of new ≡ bits ++ pad (length bits % 8) → new
    ≡ old ++ padded_octets (in_order components 0)
unfolding padded_octets
appended old new components bits fit_old fit_new written finished =
    let more = in_order components 0 in
    let place : length (bits_of old) % 8 ≡ 0 = omega (arith, length-bits_of old) in
    let whole : bits ≡ bits_of old ++ more = written ∙ behind-in_order components (bits_of old)
    ∙ ap (λ (n : ℕ). bits_of old ++ in_order components n) place in
    let end : length bits % 8 ≡ length more % 8 = omega (
      arith,
      ap length whole,
      length-append
          (bits_of old) more,
      length-bits_of old,
    ) in
    let all : bits_of new ≡ bits_of old ++ (more ++ pad (length more % 8)) =
    finished ∙ ap (λ (n : ℕ). bits ++ pad n) end ∙ ap (λ (t : List Bool). t ++ pad
    (length more % 8)) whole ∙ append_assoc (bits_of old) more (pad (length more % 8)) in
    let count : length new ≡ length old + (length more + 7) / 8 =
    omega (
      arith,
      length-bits_of new,
      ap length all,
      length-append (bits_of old) (more ++ pad
          (length more % 8)),
      length-append more (pad (length more % 8)),
      length-bits_of old,
      length-replicate (pad_length (length more % 8)) false,
    ) in
    sym (octets_in-all new (bits_of old ++ (more ++ pad (length more % 8))) (length old +
    (length more + 7) / 8) fit_new all count)
    ∙ octets_in-bits_of old ((length more + 7) / 8) (more ++ pad (length more % 8)) fit_old

-- the aliases that are left: one, and those after it
aliases_left : (aliases : List Alias) (alias : Alias) (i : ℕ) → alias ≡ get_or aliases i alias
    → i < length aliases → drop i aliases ≡ alias ∷ drop (i + 1) aliases
aliases_left aliases alias i is lt = drop-cons aliases i alias lt
    ∙ ap (λ (a : Alias). a ∷ drop (suc i) aliases) (sym is)
    ∙ ap (λ (n : ℕ). alias ∷ drop n aliases) (sym (add-one i))

-- aliases after others
pub aliases_more : (aliases : List Alias) (alias : Alias) (i : ℕ) (bits more : List Bool) → alias
    ≡ get_or aliases i alias → i < length aliases
    → more ≡ behind (alias_address alias) bits → behind (alias_addresses (drop
    (i + 1) aliases)) more ≡ behind (alias_addresses (drop i aliases)) bits
aliases_more aliases alias i bits more is lt e =
    rw (e, aliases_left aliases alias i is lt) (sym (behind_append (alias_address alias)
    (alias_addresses (drop (i + 1) aliases)) bits))

-- the room of the aliases that are left
pub room_left : (aliases : List Alias) (alias : Alias) (i : ℕ) → alias ≡ get_or aliases i alias
    → i < length aliases
    → aliases_room (drop i aliases)
    ≡ text_room (characters_of alias) + aliases_room (drop (i + 1) aliases)
room_left aliases alias i is lt = ap aliases_room (aliases_left aliases alias i is lt)
