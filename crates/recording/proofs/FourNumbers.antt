-- Addresses and networks, read as they were written.
use Rattle.std.proofs.Common.{◌≡◌, ◌<◌, ◌≤◌, ◌+◌, ◌^◌, ◌==◌, ℕ, suc, List, [], ◌∷◌, ◌++◌, true, false}
use Rattle.std.proofs.Common.{Option, Some, length, take, drop, codes}
use Rattle.std.proofs.Common.{arith, refl, sym, ap, ◌∙◌, append_assoc, subst}
use Rattle.std.proofs.lemmas.Bool.Decides.{nat_tests}
use Rattle.std.proofs.lemmas.Fmt.{decimal_nonempty}
use Rattle.std.specs.Fmt.{decimal}
use Rattle.std.specs.List.{position_or_len}
use Rattle.value_texts.specs.Parts.{front_part, rest_part}
use Rattle.value_texts.specs.Texts.{◌>>=◌, address_of, network_of, number_of}
use Rattle.ras_module.specs.declared.address.Address.{Address}
use Rattle.ras_writing.specs.Properties.{IsAddress}
use Rattle.zone_config.specs.declared.network.Network.{Network}
use Rattle.script.specs.Prints.{address_text}
use Rattle.recording.specs.Again.{HasFourOctets}
use Rattle.recording.specs.Zones.{network_text}
use Rattle.recording.proofs.LinesWritten.{numbers_flat}
use Rattle.recording.proofs.LineWords.{Without, IsMark, without_append, number_without, number_back}
use Rattle.recording.proofs.LineWords.{dot_is_mark, colon_is_mark, slash_is_mark}
use Rattle.recording.proofs.LineWords.{space_is_mark, end_is_mark}

-- ---- parts

place_back : (mark : ℕ) (word rest : List ℕ) → Without mark word
    → position_or_len (λ c. c == mark) (word ++ mark ∷ rest) ≡ length word
place_back mark [] rest none =
    let same : (mark == mark) ≡ true = grind (arith, nat_tests) in rw same refl
place_back mark (c ∷ word) rest none =
    rw none.0 (omega (arith, place_back mark word rest none.1))

take_front : (xs ys : List ℕ) → take (length xs) (xs ++ ys) ≡ xs
take_front [] ys = refl
take_front (x ∷ xs) ys = ap (λ (t : List ℕ). x ∷ t) (take_front xs ys)

drop_front : (xs ys : List ℕ) (y : ℕ) → drop (length xs + 1) (xs ++ y ∷ ys) ≡ ys
drop_front [] ys y = refl
drop_front (x ∷ xs) ys y =
    let e : length (x ∷ xs) + 1 ≡ suc (length xs + 1) = omega arith in
    rw e (drop_front xs ys y)

front_back : (mark : ℕ) (word rest : List ℕ) → Without mark word
    → front_part mark (word ++ mark ∷ rest) ≡ word
front_back mark word rest none =
    ap (λ (n : ℕ). take n (word ++ mark ∷ rest)) (place_back mark word rest none)
    ∙ take_front word (mark ∷ rest)

rest_back : (mark : ℕ) (word rest : List ℕ) → Without mark word
    → rest_part mark (word ++ mark ∷ rest) ≡ rest
rest_back mark word rest none =
    ap (λ (n : ℕ). drop (n + 1) (word ++ mark ∷ rest)) (place_back mark word rest none)
    ∙ drop_front word rest mark

-- ---- four octets, a mark and a number

abbrev from_numbers : {X : Type 0} → (List ℕ → ℕ → X) → Option ℕ → Option ℕ → Option ℕ
    → Option ℕ → Option ℕ → Option X
from_numbers value a b c d last = do
  a ← a
  b ← b
  c ← c
  d ← d
  last ← last
  Some (value (a ∷ b ∷ c ∷ d ∷ []) last)

some_append : (xs ys : List ℕ) → 0 < length xs → 0 < length (xs ++ ys)
some_append [] ys some = absurd (omega arith)
some_append (x ∷ xs) ys some = omega arith

module _ (mark : ℕ) (is_mark : IsMark mark) (a b c d last : ℕ) (small_a : a < 256)
    (small_b : b < 256) (small_c : c < 256) (small_d : d < 256) (small_last : last < 2 ^ 64) where
  abbrev behind_c : List ℕ
  behind_c = decimal d ++ mark ∷ decimal last

  abbrev behind_b : List ℕ
  behind_b = decimal c ++ 46 ∷ behind_c

  abbrev behind_a : List ℕ
  behind_a = decimal b ++ 46 ∷ behind_b

  abbrev pub the_word : List ℕ
  the_word = decimal a ++ 46 ∷ behind_a

  dotless : (n : ℕ) → n < 256 → Without 46 (decimal n)
  dotless n small = number_without n (omega (arith, small)) 46 dot_is_mark

  rest_a : rest_part 46 the_word ≡ behind_a
  rest_a = rest_back 46 (decimal a) behind_a (dotless a small_a)

  rest_b : rest_part 46 (rest_part 46 the_word) ≡ behind_b
  rest_b = ap (rest_part 46) rest_a ∙ rest_back 46 (decimal b) behind_b (dotless b small_b)

  rest_c : rest_part 46 (rest_part 46 (rest_part 46 the_word)) ≡ behind_c
  rest_c = ap (rest_part 46) rest_b ∙ rest_back 46 (decimal c) behind_c (dotless c small_c)

  front_of : (mark n : ℕ) (word rest : List ℕ) → word ≡ decimal n ++ mark ∷ rest
      → Without mark (decimal n) → n < 256 → number_of 0 255 (front_part mark word) ≡ Some n
  front_of mark n word rest is none small =
      ap (λ (w : List ℕ). number_of 0 255 (front_part mark w)) is
      ∙ ap (number_of 0 255) (front_back mark (decimal n) rest none)
      ∙ number_back n (omega (arith, small)) 0 255 (omega arith) (omega (arith, small))

  last_back : (most : ℕ) → last ≤ most
      → number_of 0 most (rest_part mark (rest_part 46 (rest_part 46 (rest_part 46 the_word))))
      ≡ Some last
  last_back most few =
      ap (λ (w : List ℕ). number_of 0 most (rest_part mark w)) rest_c
      ∙ ap (number_of 0 most) (rest_back mark (decimal d) (decimal last)
      (number_without d (omega (arith, small_d)) mark is_mark))
      ∙ number_back last small_last 0 most (omega arith) few

  pub numbers_back : {X : Type 0} (value : List ℕ → ℕ → X) (most : ℕ) → last ≤ most
      → from_numbers value
      (number_of 0 255 (front_part 46 the_word))
      (number_of 0 255 (front_part 46 (rest_part 46 the_word)))
      (number_of 0 255 (front_part 46 (rest_part 46 (rest_part 46 the_word))))
      (number_of 0 255 (front_part mark (rest_part 46 (rest_part 46 (rest_part 46 the_word)))))
      (number_of 0 most (rest_part mark (rest_part 46 (rest_part 46 (rest_part 46 the_word)))))
      ≡ Some (value (a ∷ b ∷ c ∷ d ∷ []) last)
  numbers_back value most few i = from_numbers value
      (front_of 46 a the_word behind_a refl (dotless a small_a) small_a i)
      (front_of 46 b (rest_part 46 the_word) behind_b rest_a (dotless b small_b) small_b i)
      (front_of 46 c (rest_part 46 (rest_part 46 the_word)) behind_c rest_b
      (dotless c small_c) small_c i)
      (front_of mark d (rest_part 46 (rest_part 46 (rest_part 46 the_word))) (decimal last) rest_c
      (number_without d (omega (arith, small_d)) mark is_mark) small_d i)
      (last_back most few i)

  pub word_without : (other : ℕ) → IsMark other → (46 == other) ≡ false → (mark == other) ≡ false
      → Without other the_word
  word_without other out no_dot no_mark =
      without_append other (decimal a) (46 ∷ behind_a)
      (number_without a (omega (arith, small_a)) other out) (
        no_dot,
        without_append other (decimal b) (46 ∷ behind_b)
            (number_without b (omega (arith, small_b)) other out) (
              no_dot,
              without_append other (decimal c) (46 ∷ behind_c)
                  (number_without c (omega (arith, small_c)) other out) (
                    no_dot,
                    without_append other (decimal d) (mark ∷ decimal last)
                        (number_without d (omega (arith, small_d)) other out)
                        (no_mark, number_without last small_last other out),
                  ),
            ),
      )

  pub word_some : 0 < length the_word
  word_some = some_append (decimal a) (46 ∷ behind_a) (decimal_nonempty a (omega (arith, small_a)))

-- ---- addresses

-- what is said of the text of an address or of a network
pub record IsTold {X : Type 0} (value : X) (read : List ℕ → Option X) (text : List ℕ)
    : Type 0 where
  pub back : read text ≡ Some value
  pub no_space : Without 32 text
  pub no_end : Without 10 text
  pub some : 0 < length text

abbrev address_with : List ℕ → ℕ → Address
address_with ip port = record { ip = ip; port = port }

module _ (a b c d port : ℕ) (small_a : a < 256) (small_b : b < 256) (small_c : c < 256)
    (small_d : d < 256) (small_port : port ≤ 65535) where
  address_told : IsTold (address_with (a ∷ b ∷ c ∷ d ∷ []) port) address_of
      (address_text (address_with (a ∷ b ∷ c ∷ d ∷ []) port))
  address_told =
      let few : port < 2 ^ 64 = omega (arith, small_port) in
      subst (λ (w : List ℕ). IsTold (address_with (a ∷ b ∷ c ∷ d ∷ []) port) address_of w)
      (numbers_flat 58 (decimal a) (decimal b) (decimal c) (decimal d) (decimal port))
      (record {
        back = numbers_back 58 colon_is_mark a b c d port small_a small_b small_c small_d few
            address_with 65535 small_port;
        no_space = word_without 58 colon_is_mark a b c d port small_a small_b small_c small_d few
            32 space_is_mark refl refl;
        no_end = word_without 58 colon_is_mark a b c d port small_a small_b small_c small_d few
            10 end_is_mark refl refl;
        some = word_some 58 colon_is_mark a b c d port small_a small_b small_c small_d few;
      })

address_in : (port : ℕ) (ip : List ℕ) → IsAddress (address_with ip port)
    → IsTold (address_with ip port) address_of (address_text (address_with ip port))
address_in port [] h = absurd (cc h.four)
address_in port (a ∷ []) h = absurd (cc h.four)
address_in port (a ∷ b ∷ []) h = absurd (cc h.four)
address_in port (a ∷ b ∷ c ∷ []) h = absurd (cc h.four)
address_in port (a ∷ b ∷ c ∷ d ∷ []) h =
    address_told a b c d port h.fit.0 h.fit.1.0 h.fit.1.1.0 h.fit.1.1.1.0 h.port
address_in port (a ∷ b ∷ c ∷ d ∷ e ∷ rest) h = absurd (omega (arith, h.four))

-- the text of an address
pub address_is_told : (address : Address) → IsAddress address
    → IsTold address address_of (address_text address)
address_is_told address h = address_in address.port address.ip h

-- ---- networks

abbrev network_with : List ℕ → ℕ → Network
network_with ip bits = record { ip = ip; bits = bits }

module _ (a b c d bits : ℕ) (small_a : a < 256) (small_b : b < 256) (small_c : c < 256)
    (small_d : d < 256) (small_bits : bits ≤ 32) where
  network_told : IsTold (network_with (a ∷ b ∷ c ∷ d ∷ []) bits) network_of
      (network_text (network_with (a ∷ b ∷ c ∷ d ∷ []) bits))
  network_told =
      let few : bits < 2 ^ 64 = omega (arith, small_bits) in
      subst (λ (w : List ℕ). IsTold (network_with (a ∷ b ∷ c ∷ d ∷ []) bits) network_of w)
      (numbers_flat 47 (decimal a) (decimal b) (decimal c) (decimal d) (decimal bits))
      (record {
        back = numbers_back 47 slash_is_mark a b c d bits small_a small_b small_c small_d few
            network_with 32 small_bits;
        no_space = word_without 47 slash_is_mark a b c d bits small_a small_b small_c small_d few
            32 space_is_mark refl refl;
        no_end = word_without 47 slash_is_mark a b c d bits small_a small_b small_c small_d few
            10 end_is_mark refl refl;
        some = word_some 47 slash_is_mark a b c d bits small_a small_b small_c small_d few;
      })

network_in : (bits : ℕ) (ip : List ℕ) → HasFourOctets (network_with ip bits) → bits ≤ 32
    → IsTold (network_with ip bits) network_of (network_text (network_with ip bits))
network_in bits [] h few = absurd (cc h.four)
network_in bits (a ∷ []) h few = absurd (cc h.four)
network_in bits (a ∷ b ∷ []) h few = absurd (cc h.four)
network_in bits (a ∷ b ∷ c ∷ []) h few = absurd (cc h.four)
network_in bits (a ∷ b ∷ c ∷ d ∷ []) h few =
    network_told a b c d bits h.fit.0 h.fit.1.0 h.fit.1.1.0 h.fit.1.1.1.0 few
network_in bits (a ∷ b ∷ c ∷ d ∷ e ∷ rest) h few = absurd (omega (arith, h.four))

-- the text of a network
pub network_is_told : (network : Network) → HasFourOctets network → network.bits ≤ 32
    → IsTold network network_of (network_text network)
network_is_told network h few = network_in network.bits network.ip h few
