-- What is written for the parts of a RegistrationConfirm is passed over as an identifier is looked
-- for behind it.
use Rattle.std.proofs.Common.{◌≡◌, ℕ, zero, suc, ◌+◌, ◌*◌, ◌/◌, ◌%◌, ◌==◌, ◌<◌, ◌≤◌, ◌^◌, List, []}
use Rattle.std.proofs.Common.{◌∷◌, ◌++◌, Bool, true, false, not, length, take, drop, refl, sym, ap}
use Rattle.std.proofs.Common.{◌∙◌, subst, arith, append-nil, length-append, length-take}
use Rattle.std.proofs.Common.{length-drop, lit<, map, take-append-drop}
use Rattle.std.proofs.lemmas.Bool.Decides.{nat_tests}
use Rattle.std.proofs.lemmas.List.{length-replicate}
use Rattle.std.proofs.Math.Nat.{pow-le-pow_right}
use Rattle.std.specs.List.{AllByRecursion}
use Rattle.per_bits.specs.Bits.{binary, number, octets_in, pad_length}
use Rattle.per_bits.specs.Canonical as canonical
use Rattle.per_bits.proofs.Agreement.{whole_encodes, length_encodes, octets_encode}
use Rattle.per_bits.proofs.Binary.{length-binary}
use Rattle.per_bits.proofs.Numbers.{number_lt}
use Rattle.ras_module.specs.declared.address.Address.{Address}
use Rattle.ras_module.specs.declared.alias.Alias.{Alias}
use Rattle.ras_module.specs.declared.alias.Alias.TheVariants.{Digits, H323Id}
use Rattle.ras_grammar.specs.Grammar as grammar
use Rattle.ras_grammar.specs.Grammar.{Grammar, nothing, boolean, bits, whole, octets, aligned}
use Rattle.ras_grammar.specs.Grammar.{either, skipped, choice_index}
use Rattle.ras_grammar.specs.Sequences.{octet_string}
use Rattle.ras_writing.specs.Chain.{◌>>=◌}
use Rattle.ras_writing.specs.Encoding.{Encoding, in_order}
use Rattle.ras_writing.specs.Encoding as encoding
use Rattle.ras_writing.specs.Properties.{AreAliases, IsAddress, IsAlias}
use Rattle.ras_writing.specs.Replies.{alias_address, alias_addresses, alias_list, bmp_string}
use Rattle.ras_writing.specs.Replies.{characters, digits, digit_code, has_aliases}
use Rattle.ras_writing.specs.Replies.{protocol_identifier, terminal_alias, transport_address}
use Rattle.ras_writing.proofs.OpenTypesWritten.{bits_of-octets_in}
use Rattle.ras_writing.proofs.Written.{AreEncodings, IsEncoding, below_eight, boolean_encoded, done}
use Rattle.ras_writing.proofs.Written.{in_order-append, index_encoded, last, none, one}
use Rattle.ras_writing.proofs.Written.{whole_encoded}
use Rattle.record_audit.specs.Told.{absent, passed_address, passed_alias, passed_aliases}
use Rattle.record_audit.specs.Told.{passed_digits, passed_text}

-- ---- what is read and dropped

pub passed_over : {A : Type 0} (g : Grammar A) {x : A} {es : List Encoding} → AreEncodings g x es
    → AreEncodings (skipped true g) tt es
passed_over g {x} {es} p = record {
  here = λ place small.
      let whole = in_order es place in
      (x, (whole, [], sym (append-nil whole), p.here place small, (refl, refl)));
}

-- ---- octets

length_encoded : (n : ℕ) → n < 16384 → IsEncoding grammar.length n (encoding.size n)
length_encoded n few = record { here = λ place _. length_encodes n place few }

octets_encoded : (xs : List ℕ) (count : ℕ) → length xs ≡ count
    → AllByRecursion (λ x. x < 256) xs → IsEncoding (octets count) xs (encoding.octets xs)
octets_encoded xs count as_many fit = record {
  here = λ place _.
      subst (λ (n : ℕ). (octets n).encodes xs place (canonical.octets_encoding xs place)) as_many
      (octets_encode xs place fit);
}

-- the octets of bits, eight of each
length-octets_in : (count : ℕ) (all : List Bool) → length (octets_in count all) ≡ count
length-octets_in zero all = refl
length-octets_in (suc count) all = ap suc (length-octets_in count (drop 8 all))

octets_fit : (count : ℕ) (all : List Bool) → AllByRecursion (λ x. x < 256) (octets_in count all)
octets_fit zero all = tt
octets_fit (suc count) all =
    let few : length (take 8 all) ≤ 8 = omega (arith, length-take 8 all) in (
      omega (arith, number_lt (take 8 all), pow-le-pow_right {n = 2} (omega arith) few),
      octets_fit count (drop 8 all),
    )

-- whole octets of bits, at the front of an octet
octets_here : (count : ℕ) (all : List Bool) → length all ≡ 8 * count
    → (octets count).encodes (octets_in count all) 0 all
octets_here count all many = (
  [],
  all,
  refl,
  refl,
  (
    length-octets_in count all,
    octets_fit count all,
    sym (bits_of-octets_in count all many),
  ),
)

-- components that are whole octets, behind zeros up to the next octet
aligned_octets : (count : ℕ) (es : List Encoding) → length (in_order es 0) ≡ 8 * count
    → AreEncodings (octets count) (octets_in count (in_order es 0)) (encoding.align ∷ es)
aligned_octets count es many = record {
  here = λ place small.
      let zeros = canonical.pad place in
      let start : 0 ≡ (place + length zeros) % 8 =
      omega (arith, length-replicate (pad_length place) false) in
      let all = in_order es 0 in (
        zeros,
        in_order es ((place + length zeros) % 8),
        refl,
        length-replicate (pad_length place) false,
        (
          length-octets_in count all,
          octets_fit count all,
          ap (in_order es) (sym start) ∙ sym (bits_of-octets_in count all many),
        ),
      );
}

-- ---- texts

length-characters : (text : List ℕ) (place : ℕ)
    → length (in_order (characters text) place) ≡ 8 * (2 * length text)
length-characters [] place = refl
length-characters (x ∷ xs) place =
    let rest = in_order (characters xs) ((place + length (binary 16 x)) % 8) in
    omega (
      arith,
      length-append (binary 16 x) rest,
      length-binary 16 x,
      length-characters xs ((place + length (binary 16 x)) % 8),
    )

-- the same as passed_text, of which a proof sees the chain
unfoldable chained_text : ℕ → Grammar (Unit {0})
chained_text most = do
  count ← whole 1 most
  characters ← octets (2 * count)
  nothing

same_text : (most : ℕ) → chained_text most ≡ passed_text most
unfolding chained_text passed_text ◌>>=◌
same_text most = refl

text_chained : (most : ℕ) (text : List ℕ) → 1 ≤ length text → length text ≤ most
    → most < 2 ^ 32 → AreEncodings (chained_text most) tt (bmp_string most text)
unfolding chained_text
text_chained most text some few small =
    one _ (whole_encoded 1 most (length text) some few small)
    (last _ (aligned_octets (2 * length text) (characters text) (length-characters text 0)) done)

pub text_passed : (most : ℕ) (text : List ℕ) → 1 ≤ length text → length text ≤ most
    → most < 2 ^ 32 → AreEncodings (passed_text most) tt (bmp_string most text)
text_passed most text some few small =
    subst (λ (g : Grammar (Unit {0})). AreEncodings g tt (bmp_string most text)) (same_text most)
    (text_chained most text some few small)

-- ---- dialled digits

length-digits : (text : List ℕ) (place : ℕ)
    → length (in_order (digits text) place) ≡ 4 * length text
length-digits [] place = refl
length-digits (x ∷ xs) place =
    let here = binary 4 (digit_code x) in
    let rest = in_order (digits xs) ((place + length here) % 8) in
    omega (
      arith,
      length-append here rest,
      length-binary 4 (digit_code x),
      length-digits xs ((place + length here) % 8),
    )

-- four bits that are left, or none
left_over : (b : Bool) (all : List Bool) (place : ℕ) → (b ≡ true → length all ≡ 4)
    → (b ≡ false → length all ≡ 0) → (skipped b (bits 4)).encodes tt place all
left_over true all place four none =
    (number all, (all, [], sym (append-nil all), (four refl, refl), (refl, refl)))
left_over false all place four none = (refl, empty all (none refl)) where
  empty : (xs : List Bool) → length xs ≡ 0 → xs ≡ []
  empty [] is = refl
  empty (x ∷ xs) is = absurd (omega (arith, is))

digits_passed : (text : List ℕ) → 1 ≤ length text → length text ≤ 128
    → AreEncodings passed_digits tt
    (encoding.whole 1 128 (length text) ∷ encoding.align ∷ digits text)
unfolding passed_digits
digits_passed text some few = record {
  here = λ place small.
      let count = length text in
      let first = canonical.whole_encoding 1 128 count place in
      let after = (place + length first) % 8 in
      let zeros = canonical.pad after in
      let then = (after + length zeros) % 8 in
      let start : 0 ≡ then = omega (arith, length-replicate (pad_length after) false) in
      let all = in_order (digits text) then in
      let pairs = 8 * (count / 2) in
      let many : length all ≡ 4 * count = length-digits text then in
      let front = take pairs all in
      let rest = drop pairs all in
      let whole : length front ≡ 8 * (count / 2) = omega (arith, length-take pairs all) in
      let left : length rest ≡ 4 * (count % 2) = omega (arith, length-drop pairs all) in (
        count,
        (
          first,
          zeros ++ all,
          refl,
          whole_encodes 1 128 count place some few (omega arith),
          (
            zeros,
            all,
            refl,
            length-replicate (pad_length after) false,
            (
              octets_in (count / 2) front,
              (
                front,
                rest,
                sym (take-append-drop pairs all),
                subst (λ (n : ℕ). (octets (count / 2)).encodes (octets_in (count / 2) front) n
                    front) start (octets_here (count / 2) front whole),
                left_over (count % 2 == 1) rest ((then + length front) % 8)
                    (λ odd. grind (arith, nat_tests, left, odd))
                    (λ even. grind (arith, nat_tests, left, even)),
              ),
            ),
          ),
        ),
      );
}

-- ---- aliases

-- the same as passed_alias
unfoldable chained_alias : Grammar (Unit {0})
chained_alias = do
  extended ← boolean
  root ← absent extended
  index ← choice_index 1
  either (index == 0) passed_digits (passed_text 256)

same_alias : chained_alias ≡ passed_alias
unfolding chained_alias passed_alias ◌>>=◌
same_alias = refl

alias_chained : (alias : Alias) → IsAlias alias
    → AreEncodings chained_alias tt (alias_address alias)
unfolding chained_alias alias_address
alias_chained (Digits text) h =
    one _ (boolean_encoded false) (none _ done
    (one _ (index_encoded 1 0 (omega arith) (omega arith)) (digits_passed text h.some h.few)))
alias_chained (H323Id text) h =
    one _ (boolean_encoded false) (none _ done
    (one _ (index_encoded 1 1 (omega arith) (omega arith))
    (text_passed 256 text h.some h.few (omega arith))))

alias_passed : (alias : Alias) → IsAlias alias
    → AreEncodings passed_alias tt (alias_address alias)
alias_passed alias h =
    subst (λ (g : Grammar (Unit {0})). AreEncodings g tt (alias_address alias)) same_alias
    (alias_chained alias h)

each_passed : (list : List Alias) → AllByRecursion IsAlias list → (place : ℕ) → place < 8
    → (grammar.each (length list) passed_alias).encodes (map (λ alias. tt) list) place
    (in_order (alias_addresses list) place)
each_passed [] h place small = (refl, refl)
each_passed (x ∷ xs) h place small =
    let here = in_order (alias_address x) place in
    let after = (place + length here) % 8 in
    let rest = in_order (alias_addresses xs) after in (
      tt,
      (
        here,
        rest,
        in_order-append (alias_address x) (alias_addresses xs) place small,
        (alias_passed x h.0).here place small,
        (
          map (λ alias. tt) xs,
          (
            rest,
            [],
            sym (append-nil rest),
            each_passed xs h.1 after (below_eight (place + length here)),
            (refl, refl),
          ),
        ),
      ),
    )

aliases_passed : (list : List Alias) → AreAliases list
    → AreEncodings passed_aliases tt (alias_list list)
unfolding passed_aliases
aliases_passed list h = record {
  here = λ place small.
      let first = canonical.length_encoding (length list) place in
      let after = (place + length first) % 8 in
      let rest = in_order (alias_addresses list) after in (
        length list,
        (
          first,
          rest,
          refl,
          length_encodes (length list) place (omega (arith, h.few)),
          (
            map (λ alias. tt) list,
            (
              rest,
              [],
              sym (append-nil rest),
              each_passed list h.each after (below_eight (place + length first)),
              (refl, refl),
            ),
          ),
        ),
      );
}

-- if there are any
pub terminal_passed : (list : List Alias) → AreAliases list
    → AreEncodings (skipped (has_aliases list) passed_aliases) tt (terminal_alias list)
unfolding terminal_alias
terminal_passed [] h = done
terminal_passed (x ∷ xs) h = passed_over passed_aliases (aliases_passed (x ∷ xs) h)

-- ---- the other parts

pub protocol_passed : AreEncodings (skipped true octet_string) tt protocol_identifier
unfolding protocol_identifier
protocol_passed = passed_over octet_string {x = 0 ∷ 8 ∷ 145 ∷ 74 ∷ 0 ∷ 2 ∷ []} (record {
  here = λ place small.
      let contents : List ℕ = 0 ∷ 8 ∷ 145 ∷ 74 ∷ 0 ∷ 2 ∷ [] in
      let first = canonical.length_encoding 6 place in
      let after = (place + length first) % 8 in
      let rest = canonical.octets_encoding contents after in (
        6,
        (
          first,
          rest ++ [],
          refl,
          length_encodes 6 place (omega arith),
          subst (λ (t : List Bool). (octets 6).encodes contents after t) (sym (append-nil rest))
              (octets_encode contents after (
                lit< tt,
                (lit< tt, (lit< tt, (lit< tt, (lit< tt, (lit< tt, tt))))),
              )),
        ),
      );
})

-- the same as passed_address
unfoldable chained_address : Grammar (Unit {0})
chained_address = do
  count ← grammar.length
  one ← absent (not (count == 1))
  extended ← boolean
  root ← absent extended
  index ← choice_index 6
  ip ← absent (not (index == 0))
  octets ← octets 4
  port ← whole 0 65535
  nothing

same_address : chained_address ≡ passed_address
unfolding chained_address passed_address ◌>>=◌
same_address = refl

address_chained : (address : Address) → IsAddress address
    → AreEncodings chained_address tt (encoding.size 1 ∷ transport_address address)
unfolding chained_address transport_address
address_chained address h =
    one _ (length_encoded 1 (omega arith)) (none _ done
    (one _ (boolean_encoded false) (none _ done
    (one _ (index_encoded 6 0 (omega arith) (omega arith)) (none _ done
    (one _ (octets_encoded address.ip 4 h.four h.fit)
    (one _ (whole_encoded 0 65535 address.port (omega arith) h.port (omega arith)) done)))))))

pub address_passed : (address : Address) → IsAddress address
    → AreEncodings passed_address tt (encoding.size 1 ∷ transport_address address)
address_passed address h =
    subst (λ (g : Grammar (Unit {0})). AreEncodings g tt
    (encoding.size 1 ∷ transport_address address)) same_address
    (address_chained address h)
