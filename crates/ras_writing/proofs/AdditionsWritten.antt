-- What is written for the additions that have a type is an encoding of them.
use Rattle.std.proofs.Common.{◌≡◌, ℕ, ◌+◌, ◌%◌, ◌≤◌, List, [], ◌∷◌, ◌++◌, Bool, true, false, length}
use Rattle.std.proofs.Common.{refl, sym, subst, append-nil, arith, lit<, ◌<◌, ◌*◌, zero, suc, Some}
use Rattle.std.proofs.Common.{replicate, ◌-◌, length-append, ◌∙◌}
use Rattle.std.specs.List.{AllByRecursion}
use Rattle.std.proofs.lemmas.List.{length-replicate}
use Rattle.per_bits.specs.Canonical as canonical
use Rattle.per_bits.proofs.Agreement.{octets_encode, width_least}
use Rattle.per_bits.specs.Bits.{binary, width, octets_for, pad_length, octet}
use Rattle.per_bits.specs.Canonical.{wide_encoding, pad, offset_encoding}
use Rattle.per_bits.proofs.Binary.{length-binary}
use Rattle.ras_grammar.specs.Sequences as sequences
use Rattle.ras_grammar.specs.Grammar as forms
use Rattle.ras_writing.specs.Replies.{time_to_live_octets}
use Rattle.ras_writing.specs.Encoding.{in_order}
use Rattle.ras_writing.specs.Encoding as encoding
use Rattle.ras_writing.specs.ReplyGrammar as grammar
use Rattle.ras_writing.proofs.Written.{AreEncodings, done, one, alone, boolean_encoded}
use Rattle.ras_writing.proofs.Written.{whole_encoded}
use Rattle.ras_writing.proofs.OpenTypesWritten.{inside_written, front_written}

pub one_octet : length (encoding.in_order (encoding.octets (0 ∷ []) ∷ []) 0) ≡ 8 * 1
unfolding octet
one_octet = refl

two_octets : length (encoding.in_order (encoding.octets (0 ∷ 0 ∷ []) ∷ []) 0) ≡ 8 * 2
unfolding octet
two_octets = refl

guid_octets : length (encoding.in_order (encoding.boolean false ∷ encoding.octets
    (replicate 16 0) ∷ []) 0) ≡ 8 * 17
unfolding octet
guid_octets = refl

-- ---- a BOOLEAN, UUIEsRequested, a CallIdentifier

zero_bits : in_order (encoding.octets (0 ∷ []) ∷ []) 0 ≡ (false ∷ []) ++ replicate 7 false
unfolding octet
zero_bits = refl

pub boolean_added : AreEncodings (forms.optional true (forms.inside forms.boolean)) (Some false)
    (encoding.size 1 ∷ encoding.octets (0 ∷ []) ∷ [])
boolean_added = front_written forms.boolean 1 (encoding.octets (0 ∷ []) ∷ []) (false ∷ [])
    (replicate 7 false) (omega arith) one_octet zero_bits refl

abbrev ten_booleans : List encoding.Encoding
ten_booleans =
    encoding.boolean false ∷ encoding.boolean false ∷ encoding.boolean false ∷ encoding.boolean
    false ∷ encoding.boolean false ∷ encoding.boolean false ∷ encoding.boolean false ∷
    encoding.boolean false ∷ encoding.boolean false ∷ encoding.boolean false ∷ []

uuies_written : AreEncodings grammar.uuies_requested tt ten_booleans
unfolding grammar.uuies_requested
uuies_written =
    one _ (boolean_encoded false) (one _ (boolean_encoded false) (one _ (boolean_encoded false)
    (one _ (boolean_encoded false) (one _ (boolean_encoded false) (one _ (boolean_encoded false)
    (one _ (boolean_encoded false) (one _ (boolean_encoded false) (one _ (boolean_encoded false)
    (one _ (boolean_encoded false) done)))))))))

uuies_bits : in_order (encoding.octets (0 ∷ 0 ∷ []) ∷ []) 0 ≡ in_order ten_booleans 0 ++ replicate 6
    false
unfolding octet
uuies_bits = refl

pub uuies_added : AreEncodings (forms.optional true (forms.inside grammar.uuies_requested))
    (Some tt)
    (encoding.size 2 ∷ encoding.octets (0 ∷ 0 ∷ []) ∷ [])
uuies_added = front_written grammar.uuies_requested 2 (encoding.octets (0 ∷ 0 ∷ []) ∷ [])
    (in_order ten_booleans 0) (replicate 6 false) (omega arith) two_octets uuies_bits
    (uuies_written.here 0 (omega arith))

zeros_fit : (n : ℕ) → AllByRecursion (λ x. x < 256) (replicate n 0)
zeros_fit zero = tt
zeros_fit (suc n) = (lit< tt, zeros_fit n)

abbrev guid_encoding : List encoding.Encoding
guid_encoding = encoding.boolean false ∷ encoding.octets (replicate 16 0) ∷ []

guid_written : AreEncodings sequences.call_identifier (replicate 16 0) guid_encoding
unfolding sequences.call_identifier
guid_written = record {
  here = λ place _.
      let zeros : List ℕ = replicate 16 0 in
      let after = (place + 1) % 8 in
      let octets = canonical.octets_encoding zeros after in (
        false,
        (
          false ∷ [],
          octets ++ [],
          refl,
          refl,
          subst (λ (t : List Bool). (forms.octets 16).encodes zeros after t) (sym
              (append-nil octets)) (octets_encode zeros after (zeros_fit 16)),
        ),
      );
}

pub guid_added : AreEncodings (forms.optional true (forms.inside sequences.call_identifier)) (Some
    (replicate 16 0)) (encoding.size 17 ∷ guid_encoding)
guid_added = front_written sequences.call_identifier 17 guid_encoding (in_order guid_encoding 0) []
    (omega arith) guid_octets (sym (append-nil (in_order guid_encoding 0)))
    (guid_written.here 0 (omega arith))

-- ---- timeToLive

width_two : width (octets_for 4294967294 - 1) ≡ 2
unfolding width
width_two = refl

time_to_live_length : (granted : ℕ) → length (in_order (encoding.whole 1 4294967295 granted ∷ [])
    0) ≡ 8 * time_to_live_octets granted
unfolding offset_encoding wide_encoding
time_to_live_length granted =
    let own = octets_for (granted - 1) in
    let front = binary (width (octets_for 4294967294 - 1)) (own - 1) in
    let rest = binary (8 * own) (granted - 1) in
    let two : length front ≡ 2 = length-binary (width (octets_for 4294967294 - 1)) (own - 1)
    ∙ width_two in
    let zeros = pad ((0 + length front) % 8) in
    omega (
      arith,
      length-append (front ++ (zeros ++ rest)) [],
      length-append front
          (zeros ++ rest),
      length-append zeros rest,
      length-replicate (pad_length
          ((0 + length front) % 8)) false,
      length-binary (8 * own) (granted - 1),
    )

pub time_to_live_written : (granted : ℕ) → 1 ≤ granted → granted ≤ 4294967295
    → AreEncodings (forms.inside sequences.time_to_live) granted (encoding.size
    (time_to_live_octets granted) ∷ encoding.whole 1 4294967295 granted ∷ [])
time_to_live_written granted low high =
    let most : width (granted - 1) ≤ 32 = width_least 32 (granted - 1) (omega arith) in
    inside_written sequences.time_to_live (time_to_live_octets granted)
    (encoding.whole 1 4294967295 granted ∷ []) (omega arith) (time_to_live_length granted)
    (alone (whole_encoded 1 4294967295 granted low high (omega arith)))
