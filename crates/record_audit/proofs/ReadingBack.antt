-- What was written is read again.
use Rattle.std.proofs.Common.{◌≡◌, ◌<◌, ◌≤◌, ◌+◌, ◌-◌, ◌^◌, ◌==◌, ◌&&◌, ℕ, suc, List, [], ◌∷◌, ◌++◌}
use Rattle.std.proofs.Common.{Bool, true, false, cond, Option, Some, None, length, take, drop}
use Rattle.std.proofs.Common.{arith, refl, sym, ap, ◌∙◌, filter, nat_lt, nat_le, codes}
use Rattle.std.proofs.Common.{append_assoc, subst, inl, inr, if◌then◌else◌}
use Rattle.std.proofs.lemmas.Bool.{cases_eq}
use Rattle.std.proofs.lemmas.Bool.Decides.{nat_tests}
use Rattle.std.proofs.lemmas.Fmt.{decimal_is_IsNumeral, decimal_nonempty}
use Rattle.std.proofs.lemmas.List.Elements.{All-from_recursion, recursion_from_All}
use Rattle.std.proofs.lemmas.List.Splits.{slice_split_at, slice_split_none}
use Rattle.std.proofs.lemmas.Str.Parse.{digit_from_value}
use Rattle.std.specs.Char.{is_ascii_digit}
use Rattle.std.specs.Fmt.{decimal}
use Rattle.std.specs.Int.{IsInRange}
use Rattle.std.specs.List.{AllByRecursion, list_all, position_or_len}
use Rattle.std.specs.Str.Parse.{AllDigits}
use Rattle.value_texts.specs.Parts.{front_part, rest_part}
use Rattle.value_texts.specs.Texts.{◌>>=◌, address_of, number_of}
use Rattle.ras_module.specs.declared.address.Address.{Address}
use Rattle.hex.specs.Hex.{IsBytes, encode_upper, is_hex_digit}
use Rattle.hex.proofs.HexLemmas.{decode_of-encode_upper, decode_of-ok}
use Rattle.std.specs.Result.{result_ok}
use Rattle.ras_writing.specs.Properties.{IsAddress}
use Rattle.record_audit.specs.Written.{IsEvent, IsEventReadBack, datagram_text, turn_text}
use Rattle.script.specs.Fields.{octets_of}
use Rattle.script.specs.Prints.{address_text}
use Rattle.script.specs.Words.{words_of}
use Rattle.script.specs.Lines.{line_of, line_of_words, moment_of}
use Rattle.script.specs.declared.line.Line.{Line}
use Rattle.script.specs.declared.line.Line.TheVariants.{At}
use Rattle.script.specs.declared.event.ScriptEvent.TheVariants as script
use Rattle.zone_events.specs.declared.event.Event.{Event}
use Rattle.zone_events.specs.declared.event.Event.TheVariants.{Datagram, Turn}

abbrev pub Without : ℕ → List ℕ → Type 0
Without mark word = AllByRecursion (λ c. (c == mark) ≡ false) word

pub without_append : (mark : ℕ) (xs ys : List ℕ) → Without mark xs → Without mark ys
    → Without mark (xs ++ ys)
without_append mark [] ys h k = k
without_append mark (x ∷ xs) ys h k = (h.0, without_append mark xs ys h.1 k)

some_append : (xs ys : List ℕ) → 0 < length xs → 0 < length (xs ++ ys)
some_append [] ys some = absurd (omega arith)
some_append (x ∷ xs) ys some = omega arith

-- ---- words

abbrev is_word : List ℕ → Bool
is_word word = nat_lt 0 (length word)

pub words_front : (word rest : List ℕ) → Without 32 word → 0 < length word
    → words_of (word ++ 32 ∷ rest) ≡ word ∷ words_of rest
words_front word rest none some =
    let b : is_word word ≡ true = grind (arith, nat_tests) in
    ap (filter is_word) (slice_split_at (λ c. c == 32) word 32 rest
    (All-from_recursion (λ c. (c == 32) ≡ false) word none) refl)
    ∙ ap (λ (t : Bool). cond t (word ∷ words_of rest) (words_of rest)) b

pub words_last : (word : List ℕ) → Without 32 word → 0 < length word
    → words_of word ≡ word ∷ []
words_last word none some =
    let b : is_word word ≡ true = grind (arith, nat_tests) in
    ap (filter is_word) (slice_split_none (λ c. c == 32) word
    (All-from_recursion (λ c. (c == 32) ≡ false) word none))
    ∙ ap (λ (t : Bool). cond t (word ∷ []) []) b

-- ---- parts

place_back : (mark : ℕ) (word rest : List ℕ) → Without mark word
    → position_or_len (λ c. c == mark) (word ++ mark ∷ rest) ≡ length word
place_back mark [] rest none =
    let same : (mark == mark) ≡ true = grind (arith, nat_tests) in rw same refl
place_back mark (c ∷ word) rest none =
    rw none.0 (omega (arith, place_back mark word rest none.1))

take_front : (xs ys : List ℕ) → take (length xs) (xs ++ ys) ≡ xs
take_front [] ys = refl
take_front (x ∷ xs) ys = ap (λ (t : List ℕ). x ∷ t) (take_front xs ys)

drop_front : (xs ys : List ℕ) (y : ℕ) → drop (length xs + 1) (xs ++ y ∷ ys) ≡ ys
drop_front [] ys y = refl
drop_front (x ∷ xs) ys y =
    let e : length (x ∷ xs) + 1 ≡ suc (length xs + 1) = omega arith in
    rw e (drop_front xs ys y)

pub front_back : (mark : ℕ) (word rest : List ℕ) → Without mark word
    → front_part mark (word ++ mark ∷ rest) ≡ word
front_back mark word rest none =
    ap (λ (n : ℕ). take n (word ++ mark ∷ rest)) (place_back mark word rest none)
    ∙ take_front word (mark ∷ rest)

pub rest_back : (mark : ℕ) (word rest : List ℕ) → Without mark word
    → rest_part mark (word ++ mark ∷ rest) ≡ rest
rest_back mark word rest none =
    ap (λ (n : ℕ). drop (n + 1) (word ++ mark ∷ rest)) (place_back mark word rest none)
    ∙ drop_front word rest mark

-- ---- numbers

digits_pass : (ds : List ℕ) → AllDigits 10 ds → list_all is_ascii_digit ds ≡ true
digits_pass [] d = refl
digits_pass (c ∷ cs) d =
    let in_range : IsInRange 48 57 c = digit_from_value c d.0 in
    let one : is_ascii_digit c ≡ true = grind (arith, nat_tests) in
    rw (one, digits_pass cs d.1) refl

digits_without : (mark : ℕ) → ((c : ℕ) → IsInRange 48 57 c → (c == mark) ≡ false)
    → (ds : List ℕ) → AllDigits 10 ds → Without mark ds
digits_without mark out [] d = tt
digits_without mark out (c ∷ cs) d =
    (out c (digit_from_value c d.0), digits_without mark out cs d.1)

module _ (n : ℕ) (small : n < 2 ^ 64) where
  pub without_space : Without 32 (decimal n)
  without_space = digits_without 32 (λ c r. grind (arith, nat_tests)) (decimal n)
      (decimal_is_IsNumeral n small).0.1

  pub without_dot : Without 46 (decimal n)
  without_dot = digits_without 46 (λ c r. grind (arith, nat_tests)) (decimal n)
      (decimal_is_IsNumeral n small).0.1

  pub without_colon : Without 58 (decimal n)
  without_colon = digits_without 58 (λ c r. grind (arith, nat_tests)) (decimal n)
      (decimal_is_IsNumeral n small).0.1

  pub number_back : (low high : ℕ) → low ≤ n → n ≤ high → number_of low high (decimal n) ≡ Some n
  number_back low high above below =
      let numeral = decimal_is_IsNumeral n small in
      let some : nat_lt 0 (length (decimal n)) ≡ true = grind (arith, nat_tests, numeral.0.0) in
      let least : nat_le low n ≡ true = grind (arith, nat_tests) in
      let most : nat_le n high ≡ true = grind (arith, nat_tests) in
      let digits = digits_pass (decimal n) numeral.0.1 in
      (λ i. if nat_lt 0 (length (decimal n)) && list_all is_ascii_digit (decimal n)
      && nat_le low (numeral.1 i) && nat_le (numeral.1 i) high then Some (numeral.1 i) else None)
      ∙ (λ i. if some i && digits i && least i && most i then Some n else None)

-- ---- addresses

abbrev dotted : List ℕ → List ℕ → List ℕ → List ℕ → List ℕ → List ℕ
dotted a b c d port = a ++ 46 ∷ (b ++ 46 ∷ (c ++ 46 ∷ (d ++ 58 ∷ port)))

dotted_flat : (a b c d port : List ℕ)
    → a ++ (46 ∷ []) ++ b ++ (46 ∷ []) ++ c ++ (46 ∷ []) ++ d ++ (58 ∷ []) ++ port
    ≡ dotted a b c d port
dotted_flat a b c d port = simp append_assoc

abbrev from_numbers : Option ℕ → Option ℕ → Option ℕ → Option ℕ → Option ℕ → Option Address
from_numbers a b c d port = do
  a ← a
  b ← b
  c ← c
  d ← d
  port ← port
  Some (record { ip = a ∷ b ∷ c ∷ d ∷ []; port = port })

module _ (a b c d port : ℕ) (small_a : a ≤ 255) (small_b : b ≤ 255) (small_c : c ≤ 255)
    (small_d : d ≤ 255) (small_port : port ≤ 65535) where
  abbrev the_address : Address
  the_address = record { ip = a ∷ b ∷ c ∷ d ∷ []; port = port }

  abbrev behind_c : List ℕ
  behind_c = decimal d ++ 58 ∷ decimal port

  abbrev behind_b : List ℕ
  behind_b = decimal c ++ 46 ∷ behind_c

  abbrev behind_a : List ℕ
  behind_a = decimal b ++ 46 ∷ behind_b

  abbrev the_word : List ℕ
  the_word = decimal a ++ 46 ∷ behind_a

  rest_a : rest_part 46 the_word ≡ behind_a
  rest_a = rest_back 46 (decimal a) behind_a (without_dot a (omega arith))

  rest_b : rest_part 46 (rest_part 46 the_word) ≡ behind_b
  rest_b = ap (rest_part 46) rest_a
      ∙ rest_back 46 (decimal b) behind_b (without_dot b (omega arith))

  rest_c : rest_part 46 (rest_part 46 (rest_part 46 the_word)) ≡ behind_c
  rest_c = ap (rest_part 46) rest_b
      ∙ rest_back 46 (decimal c) behind_c (without_dot c (omega arith))

  octet_back : (n : ℕ) → n ≤ 255 → number_of 0 255 (decimal n) ≡ Some n
  octet_back n small = number_back n (omega arith) 0 255 (omega arith) small

  front_of : (mark n : ℕ) (word rest : List ℕ) → word ≡ decimal n ++ mark ∷ rest
      → Without mark (decimal n) → n ≤ 255 → number_of 0 255 (front_part mark word) ≡ Some n
  front_of mark n word rest is none small =
      ap (λ (w : List ℕ). number_of 0 255 (front_part mark w)) is
      ∙ ap (number_of 0 255) (front_back mark (decimal n) rest none) ∙ octet_back n small

  port_back : number_of 0 65535 (rest_part 58 (rest_part 46 (rest_part 46 (rest_part 46 the_word))))
      ≡ Some port
  port_back =
      ap (λ (w : List ℕ). number_of 0 65535 (rest_part 58 w)) rest_c
      ∙ ap (number_of 0 65535) (rest_back 58 (decimal d) (decimal port)
      (without_colon d (omega arith)))
      ∙ number_back port (omega arith) 0 65535 (omega arith) small_port

  dotted_back : address_of the_word ≡ Some the_address
  dotted_back i = from_numbers
      (front_of 46 a the_word behind_a refl (without_dot a (omega arith)) small_a i)
      (front_of 46 b (rest_part 46 the_word) behind_b rest_a (without_dot b (omega arith)) small_b i)
      (front_of 46 c (rest_part 46 (rest_part 46 the_word)) behind_c rest_b
      (without_dot c (omega arith)) small_c i)
      (front_of 58 d (rest_part 46 (rest_part 46 (rest_part 46 the_word))) (decimal port) rest_c
      (without_colon d (omega arith)) small_d i)
      (port_back i)

  text_is : address_text the_address ≡ the_word
  text_is = dotted_flat (decimal a) (decimal b) (decimal c) (decimal d) (decimal port)

  pub address_back : address_of (address_text the_address) ≡ Some the_address
  address_back = ap address_of text_is ∙ dotted_back

  pub address_without_space : Without 32 (address_text the_address)
  address_without_space = subst (Without 32) (sym text_is)
      (without_append 32 (decimal a) (46 ∷ behind_a) (without_space a (omega arith)) (
        refl,
        without_append 32 (decimal b) (46 ∷ behind_b) (without_space b (omega arith)) (
          refl,
          without_append 32 (decimal c) (46 ∷ behind_c) (without_space c (omega arith)) (
            refl,
            without_append 32 (decimal d) (58 ∷ decimal port) (without_space d (omega arith))
                (refl, without_space port (omega arith)),
          ),
        ),
      ))

  pub address_some : 0 < length (address_text the_address)
  address_some = subst (λ (w : List ℕ). 0 < length w) (sym text_is)
      (some_append (decimal a) (46 ∷ behind_a) (decimal_nonempty a (omega arith)))

back_in : (port : ℕ) (ip : List ℕ) → IsAddress (record { ip = ip; port = port })
    → address_of (address_text (record { ip = ip; port = port }))
    ≡ Some (record { ip = ip; port = port })
back_in port [] h = absurd (cc h.four)
back_in port (a ∷ []) h = absurd (cc h.four)
back_in port (a ∷ b ∷ []) h = absurd (cc h.four)
back_in port (a ∷ b ∷ c ∷ []) h = absurd (cc h.four)
back_in port (a ∷ b ∷ c ∷ d ∷ []) h =
    address_back a b c d port (omega (arith, h.fit.0)) (omega (arith, h.fit.1.0))
    (omega (arith, h.fit.1.1.0)) (omega (arith, h.fit.1.1.1.0)) h.port
back_in port (a ∷ b ∷ c ∷ d ∷ e ∷ rest) h = absurd (omega (arith, h.four))

no_space : (port : ℕ) (ip : List ℕ) → IsAddress (record { ip = ip; port = port })
    → Without 32 (address_text (record { ip = ip; port = port }))
no_space port [] h = absurd (cc h.four)
no_space port (a ∷ []) h = absurd (cc h.four)
no_space port (a ∷ b ∷ []) h = absurd (cc h.four)
no_space port (a ∷ b ∷ c ∷ []) h = absurd (cc h.four)
no_space port (a ∷ b ∷ c ∷ d ∷ []) h =
    address_without_space a b c d port (omega (arith, h.fit.0)) (omega (arith, h.fit.1.0))
    (omega (arith, h.fit.1.1.0)) (omega (arith, h.fit.1.1.1.0)) h.port
no_space port (a ∷ b ∷ c ∷ d ∷ e ∷ rest) h = absurd (omega (arith, h.four))

some_text : (port : ℕ) (ip : List ℕ) → IsAddress (record { ip = ip; port = port })
    → 0 < length (address_text (record { ip = ip; port = port }))
some_text port [] h = absurd (cc h.four)
some_text port (a ∷ []) h = absurd (cc h.four)
some_text port (a ∷ b ∷ []) h = absurd (cc h.four)
some_text port (a ∷ b ∷ c ∷ []) h = absurd (cc h.four)
some_text port (a ∷ b ∷ c ∷ d ∷ []) h =
    address_some a b c d port (omega (arith, h.fit.0)) (omega (arith, h.fit.1.0))
    (omega (arith, h.fit.1.1.0)) (omega (arith, h.fit.1.1.1.0)) h.port
some_text port (a ∷ b ∷ c ∷ d ∷ e ∷ rest) h = absurd (omega (arith, h.four))

back_of : (source : Address) → IsAddress source
    → address_of (address_text source) ≡ Some source
back_of source h = back_in source.port source.ip h

no_space_in : (source : Address) → IsAddress source → Without 32 (address_text source)
no_space_in source h = no_space source.port source.ip h

some_of : (source : Address) → IsAddress source → 0 < length (address_text source)
some_of source h = some_text source.port source.ip h

-- ---- octets

no_space_digit : (c : ℕ) → is_hex_digit c ≡ true → (c == 32) ≡ false
no_space_digit c h = elim (cases_eq c 32) [
  | inl e ↦ let at : is_hex_digit 32 ≡ true = subst (λ (n : ℕ). is_hex_digit n ≡ true) e h in
      absurd (cc at)
  | inr other ↦ grind (arith, nat_tests)
]

digits_no_space : (ds : List ℕ) → AllByRecursion (λ c. is_hex_digit c ≡ true) ds → Without 32 ds
digits_no_space [] h = tt
digits_no_space (c ∷ cs) h = (no_space_digit c h.0, digits_no_space cs h.1)

module _ (bytes : List ℕ) (octets : IsBytes bytes) where
  pub octets_back : octets_of (encode_upper bytes) ≡ Some bytes
  octets_back = ap result_ok (decode_of-encode_upper bytes octets)

  pub octets_without_space : Without 32 (encode_upper bytes)
  octets_without_space = digits_no_space (encode_upper bytes)
      (recursion_from_All (λ c. is_hex_digit c ≡ true) (encode_upper bytes)
      (decode_of-ok (encode_upper bytes) bytes (decode_of-encode_upper bytes octets)).1)

-- ---- lines of events

at_flat : (moment address octets : List ℕ)
    → codes "at " ++ moment ++ codes " from " ++ address ++ codes " " ++ octets
    ≡ codes "at" ++ 32 ∷ (moment ++ 32 ∷ (codes "from" ++ 32 ∷ (address ++ 32 ∷ octets)))
at_flat moment address octets = simp append_assoc

at_words : (moment address octets : List ℕ) → Without 32 moment → Without 32 address
    → 0 < length moment → 0 < length address
    → words_of (codes "at " ++ moment ++ codes " from " ++ address ++ codes " " ++ octets)
    ≡ codes "at" ∷ moment ∷ codes "from" ∷ address ∷ words_of octets
at_words moment address octets no_moment no_address some_moment some_address =
    ap words_of (at_flat moment address octets)
    ∙ words_front (codes "at")
    (moment ++ 32 ∷ (codes "from" ++ 32 ∷ (address ++ 32 ∷ octets))) (refl, (refl, tt)) (omega arith)
    ∙ ap (λ (ws : List (List ℕ)). codes "at" ∷ ws)
    (words_front moment (codes "from" ++ 32 ∷ (address ++ 32 ∷ octets)) no_moment some_moment)
    ∙ ap (λ (ws : List (List ℕ)). codes "at" ∷ moment ∷ ws)
    (words_front (codes "from") (address ++ 32 ∷ octets) (refl, (refl, (refl, (refl, tt)))) (omega arith))
    ∙ ap (λ (ws : List (List ℕ)). codes "at" ∷ moment ∷ codes "from" ∷ ws)
    (words_front address octets no_address some_address)

abbrev turn_from : Option ℕ → Option Line
turn_from moment = do
  moment ← moment
  Some (At (script.Event (Turn moment)))

abbrev from_parts : Option ℕ → Option Address → Option (List ℕ) → Option Line
from_parts moment address octets = do
  moment ← moment
  source ← address
  octets ← octets
  Some (At (script.Event (Datagram source octets moment)))

-- the words that are left of the octets
abbrev octets_words : List ℕ → List (List ℕ)
octets_words [] = []
octets_words (c ∷ cs) = (c ∷ cs) ∷ []

octets_left : (octets : List ℕ) → Without 32 octets → words_of octets ≡ octets_words octets
octets_left [] none = refl
octets_left (c ∷ cs) none = words_last (c ∷ cs) none (omega arith)

at_read : (words : List (List ℕ)) (moment address octets : List ℕ) (m : ℕ) (source : Address)
    (bytes : List ℕ) → words ≡ octets_words octets
    → moment_of moment ≡ Some m → address_of address ≡ Some source
    → octets_of octets ≡ Some bytes
    → line_of_words (codes "at" ∷ moment ∷ codes "from" ∷ address ∷ words)
    ≡ Some (At (script.Event (Datagram source bytes m)))
at_read words moment address [] m source bytes is is_m is_source is_bytes =
    ap (λ (ws : List (List ℕ)). line_of_words (codes "at" ∷ moment ∷ codes "from" ∷ address ∷ ws)) is
    ∙ (λ i. from_parts (is_m i) (is_source i) (is_bytes i))
at_read words moment address (c ∷ cs) m source bytes is is_m is_source is_bytes =
    ap (λ (ws : List (List ℕ)). line_of_words (codes "at" ∷ moment ∷ codes "from" ∷ address ∷ ws)) is
    ∙ (λ i. from_parts (is_m i) (is_source i) (is_bytes i))

-- a line of a datagram is read as it was written
pub datagram_back : (source : Address) (bytes : List ℕ) (moment : ℕ) → IsAddress source
    → IsBytes bytes → moment < 2 ^ 53
    → line_of (datagram_text source bytes moment)
    ≡ Some (At (script.Event (Datagram source bytes moment)))
unfolding line_of
datagram_back source bytes moment is_address octets small =
    ap line_of_words (at_words (decimal moment) (address_text source) (encode_upper bytes)
    (without_space moment (omega arith)) (no_space_in source is_address)
    (decimal_nonempty moment (omega arith)) (some_of source is_address))
    ∙ at_read (words_of (encode_upper bytes)) (decimal moment) (address_text source)
    (encode_upper bytes) moment source bytes
    (octets_left (encode_upper bytes) (octets_without_space bytes octets))
    (number_back moment (omega arith) 0 (2 ^ 53 - 1) (omega arith) (omega arith))
    (back_of source is_address) (octets_back bytes octets)

turn_flat : (moment : List ℕ) → codes "turn " ++ moment ≡ codes "turn" ++ 32 ∷ moment
turn_flat moment = refl

-- and so is a line of a turn
pub turn_back : (moment : ℕ) → moment < 2 ^ 53
    → line_of (turn_text moment) ≡ Some (At (script.Event (Turn moment)))
unfolding line_of
turn_back moment small =
    ap line_of_words (words_front (codes "turn") (decimal moment) (refl, (refl, (refl, (refl, tt))))
    (omega arith)
    ∙ ap (λ (ws : List (List ℕ)). codes "turn" ∷ ws)
    (words_last (decimal moment) (without_space moment (omega arith))
    (decimal_nonempty moment (omega arith))))
    ∙ (λ i. turn_from (number_back moment (omega arith) 0 (2 ^ 53 - 1) (omega arith)
    (omega arith) i))

pub read_back : (event : Event) → IsEvent event → IsEventReadBack event
read_back (Datagram source bytes moment) h = record {
  line = refl;
  back = datagram_back source bytes moment h.0 h.1 h.2;
}
read_back (Turn moment) h = record {
  line = refl;
  back = turn_back moment h;
}
