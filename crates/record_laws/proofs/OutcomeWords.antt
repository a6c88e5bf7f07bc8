-- The words of the line of an outcome.
use Rattle.std.proofs.Common.{◌≡◌, ◌<◌, ◌==◌, ◌^◌, ℕ, List, [], ◌∷◌, ◌++◌, codes, true}
use Rattle.std.proofs.Common.{false, Option, Some, None, arith, refl, sym, ap, ◌∙◌, append_assoc}
use Rattle.std.proofs.Common.{append-nil, subst, inl, inr}
use Rattle.std.proofs.lemmas.Bool.{cases_eq}
use Rattle.std.proofs.lemmas.Bool.Decides.{nat_tests}
use Rattle.std.proofs.lemmas.Fmt.{decimal_nonempty}
use Rattle.std.proofs.lemmas.List.Elements.{recursion_from_All}
use Rattle.std.specs.Fmt.{decimal}
use Rattle.std.specs.List.{AllByRecursion}
use Rattle.hex.specs.Hex.{IsBytes, encode_upper, is_hex_digit}
use Rattle.hex.proofs.HexLemmas.{decode_of-encode_upper, decode_of-ok}
use Rattle.pools.specs.declared.interface.Lend.{Lend}
use Rattle.pools.specs.declared.interface.Lend.TheVariants.{Lent, Refused, Wait}
use Rattle.zone_events.specs.declared.due_item.DueItem.{DueItem}
use Rattle.zone_events.specs.declared.due_item.DueItem.TheVariants.{RegistrationOver, Interrogate}
use Rattle.zone_events.specs.declared.due_item.DueItem.TheVariants.{Silent, Retry, KeptOver}
use Rattle.zone_events.specs.declared.due_item.DueItem.TheVariants.{PoolTurn}
use Rattle.zone_events.specs.declared.outcome.Datagram.{Datagram}
use Rattle.zone_events.specs.declared.outcome.IgnoredCause.{IgnoredCause}
use Rattle.zone_events.specs.declared.outcome.IgnoredCause.TheVariants.{TooLong, Unreadable}
use Rattle.zone_events.specs.declared.outcome.IgnoredCause.TheVariants.{NotServed}
use Rattle.zone_events.specs.declared.outcome.IgnoredCause.TheVariants.{Busy, UnknownEndpoint}
use Rattle.zone_events.specs.declared.outcome.Note.{Note}
use Rattle.zone_events.specs.declared.outcome.Note.TheVariants.{Served, Kept, Ignored, Done, Idle}
use Rattle.zone_events.specs.declared.outcome.Note.TheVariants.{Replaced}
use Rattle.zone_events.specs.declared.outcome.Outcome.{Outcome}
use Rattle.script.specs.Prints.{address_text, answer_text, cause_text, dropped_text}
use Rattle.script.specs.Prints.{identifier_text}
use Rattle.script.specs.Prints.{note_text, output_text}
use Rattle.script.specs.Words.{words_of}
use Rattle.recording.proofs.FourNumbers.{IsTold, address_is_told}
use Rattle.recording.proofs.LineWords.{Without, end_is_mark, number_without, space_is_mark}
use Rattle.recording.proofs.LineWords.{without_append, words_last}
use Rattle.recording.proofs.NameTexts.{name_is_told}
use Rattle.record_laws.specs.Outcomes.{IsAnswer, IsBirth, IsItem, IsNote, IsOutcome, IsOutput}
use Rattle.record_laws.specs.Outcomes.{IsWordName, outcome_text}
use Rattle.record_laws.proofs.SpacedWords.{AreWords, IsWord, plain_word, spaced, spaced_append}
use Rattle.record_laws.proofs.SpacedWords.{spaced_without, words_append, words_behind, words_spaced}

-- ---- the words of each part

abbrev pub item_words : DueItem → List (List ℕ)
item_words (RegistrationOver id) = codes "registration-over" ∷ identifier_text id ∷ []
item_words (Interrogate id) = codes "interrogate" ∷ identifier_text id ∷ []
item_words (Silent id) = codes "silent" ∷ identifier_text id ∷ []
item_words (Retry born) = codes "retry" ∷ decimal born ∷ []
item_words (KeptOver born) = codes "kept-over" ∷ decimal born ∷ []
item_words PoolTurn = codes "pool-turn" ∷ []

abbrev pub note_words : Note → List (List ℕ)
note_words Served = codes "served" ∷ []
note_words Kept = codes "kept" ∷ []
note_words (Ignored cause) = codes "ignored" ∷ cause_text cause ∷ []
note_words (Done item) = codes "done" ∷ item_words item
note_words Idle = codes "idle" ∷ []
note_words (Replaced pool) = codes "replaced" ∷ decimal pool ∷ []

abbrev pub answer_words : Option Lend → List (List ℕ)
answer_words None = []
answer_words (Some (Lent units)) = codes "lent" ∷ decimal units ∷ []
answer_words (Some Refused) = codes "refused" ∷ []
answer_words (Some Wait) = codes "wait" ∷ []

abbrev pub dropped_words : Option ℕ → List (List ℕ)
dropped_words None = []
dropped_words (Some born) = codes "dropped" ∷ decimal born ∷ []

-- the word of some octets; none for none
abbrev pub left_words : List ℕ → List (List ℕ)
left_words [] = []
left_words (c ∷ cs) = (c ∷ cs) ∷ []

abbrev pub output_words : Option Datagram → List (List ℕ)
output_words None = []
output_words (Some datagram) =
    codes ">" ∷ address_text datagram.to ∷ left_words (encode_upper datagram.bytes)

-- ---- they are words

pub number_word : (n : ℕ) → n < 2 ^ 64 → IsWord (decimal n)
number_word n small = record {
  no_space = number_without n small 32 space_is_mark;
  no_end = number_without n small 10 end_is_mark;
  some = decimal_nonempty n small;
}

pub told_word : {X : Type 0} (value : X) (read : List ℕ → Option X) (text : List ℕ)
    → IsTold value read text → IsWord text
told_word value read text told = record {
  no_space = told.no_space;
  no_end = told.no_end;
  some = told.some;
}

name_word : (id : List ℕ) → IsWordName id → IsWord (identifier_text id)
name_word id h = told_word id _ (identifier_text id) (name_is_told id h.1 h.0)

cause_word : (cause : IgnoredCause) → IsWord (cause_text cause)
cause_word TooLong = plain_word (codes "too-long") refl refl refl
cause_word Unreadable = plain_word (codes "unreadable") refl refl refl
cause_word NotServed = plain_word (codes "not-served") refl refl refl
cause_word Busy = plain_word (codes "busy") refl refl refl
cause_word UnknownEndpoint = plain_word (codes "unknown-endpoint") refl refl refl

item_are_words : (item : DueItem) → IsItem item → AreWords (item_words item)
item_are_words (RegistrationOver id) h =
    (plain_word (codes "registration-over") refl refl refl, (name_word id h, tt))
item_are_words (Interrogate id) h =
    (plain_word (codes "interrogate") refl refl refl, (name_word id h, tt))
item_are_words (Silent id) h =
    (plain_word (codes "silent") refl refl refl, (name_word id h, tt))
item_are_words (Retry born) h =
    (plain_word (codes "retry") refl refl refl, (number_word born h, tt))
item_are_words (KeptOver born) h =
    (plain_word (codes "kept-over") refl refl refl, (number_word born h, tt))
item_are_words PoolTurn h = (plain_word (codes "pool-turn") refl refl refl, tt)

note_are_words : (note : Note) → IsNote note → AreWords (note_words note)
note_are_words Served h = (plain_word (codes "served") refl refl refl, tt)
note_are_words Kept h = (plain_word (codes "kept") refl refl refl, tt)
note_are_words (Ignored cause) h =
    (plain_word (codes "ignored") refl refl refl, (cause_word cause, tt))
note_are_words (Done item) h =
    (plain_word (codes "done") refl refl refl, item_are_words item h)
note_are_words Idle h = (plain_word (codes "idle") refl refl refl, tt)
note_are_words (Replaced pool) h =
    (plain_word (codes "replaced") refl refl refl, (number_word pool h, tt))

answer_are_words : (answer : Option Lend) → IsAnswer answer → AreWords (answer_words answer)
answer_are_words None h = tt
answer_are_words (Some (Lent units)) h =
    (plain_word (codes "lent") refl refl refl, (number_word units h, tt))
answer_are_words (Some Refused) h = (plain_word (codes "refused") refl refl refl, tt)
answer_are_words (Some Wait) h = (plain_word (codes "wait") refl refl refl, tt)

dropped_are_words : (dropped : Option ℕ) → IsBirth dropped → AreWords (dropped_words dropped)
dropped_are_words None h = tt
dropped_are_words (Some born) h =
    (plain_word (codes "dropped") refl refl refl, (number_word born h, tt))

-- ---- the octets that are sent

no_mark_digit : (mark c : ℕ) → is_hex_digit mark ≡ false → is_hex_digit c ≡ true
    → (c == mark) ≡ false
no_mark_digit mark c out h = elim (cases_eq c mark) [
  | inl e ↦ let at : is_hex_digit mark ≡ true = subst (λ (n : ℕ). is_hex_digit n ≡ true) e h in
      absurd (cc (sym out ∙ at))
  | inr other ↦ grind (arith, nat_tests)
]

digits_without : (mark : ℕ) → is_hex_digit mark ≡ false → (ds : List ℕ)
    → AllByRecursion (λ c. is_hex_digit c ≡ true) ds → Without mark ds
digits_without mark out [] h = tt
digits_without mark out (c ∷ cs) h =
    (no_mark_digit mark c out h.0, digits_without mark out cs h.1)

pub octets_without : (mark : ℕ) → is_hex_digit mark ≡ false → (bytes : List ℕ) → IsBytes bytes
    → Without mark (encode_upper bytes)
octets_without mark out bytes octets = digits_without mark out (encode_upper bytes)
    (recursion_from_All (λ c. is_hex_digit c ≡ true) (encode_upper bytes)
    (decode_of-ok (encode_upper bytes) bytes (decode_of-encode_upper bytes octets)).1)

pub octets_left : (octets : List ℕ) → Without 32 octets → words_of octets ≡ left_words octets
octets_left [] none = refl
octets_left (c ∷ cs) none = words_last (c ∷ cs) none (omega arith)

-- ---- the text of each part

item_flat : (item : DueItem) → note_text (Done item) ≡ codes "done" ++ spaced (item_words item)
item_flat (RegistrationOver id) =
    ap (λ (t : List ℕ). codes "done registration-over " ++ t)
    (sym (append-nil (identifier_text id)))
item_flat (Interrogate id) =
    ap (λ (t : List ℕ). codes "done interrogate " ++ t) (sym (append-nil (identifier_text id)))
item_flat (Silent id) =
    ap (λ (t : List ℕ). codes "done silent " ++ t) (sym (append-nil (identifier_text id)))
item_flat (Retry born) =
    ap (λ (t : List ℕ). codes "done retry " ++ t) (sym (append-nil (decimal born)))
item_flat (KeptOver born) =
    ap (λ (t : List ℕ). codes "done kept-over " ++ t) (sym (append-nil (decimal born)))
item_flat PoolTurn = refl

note_flat : (note : Note) → codes " " ++ note_text note ≡ spaced (note_words note)
note_flat Served = refl
note_flat Kept = refl
note_flat (Ignored cause) =
    ap (λ (t : List ℕ). codes " ignored " ++ t) (sym (append-nil (cause_text cause)))
note_flat (Done item) = ap (λ (t : List ℕ). 32 ∷ t) (item_flat item)
note_flat Idle = refl
note_flat (Replaced pool) =
    ap (λ (t : List ℕ). codes " replaced " ++ t) (sym (append-nil (decimal pool)))

answer_flat : (answer : Option Lend) → answer_text answer ≡ spaced (answer_words answer)
answer_flat None = refl
answer_flat (Some (Lent units)) =
    ap (λ (t : List ℕ). codes " lent " ++ t) (sym (append-nil (decimal units)))
answer_flat (Some Refused) = refl
answer_flat (Some Wait) = refl

dropped_flat : (dropped : Option ℕ) → dropped_text dropped ≡ spaced (dropped_words dropped)
dropped_flat None = refl
dropped_flat (Some born) =
    ap (λ (t : List ℕ). codes " dropped " ++ t) (sym (append-nil (decimal born)))

-- ---- the whole line

-- the words between the number and what is sent, and those behind them
abbrev middle : Outcome → List (List ℕ) → List (List ℕ)
middle outcome last =
    note_words outcome.note ++ (answer_words outcome.answer
    ++ (dropped_words outcome.dropped ++ last))

abbrev pub line_words : ℕ → Outcome → List (List ℕ)
line_words number outcome = decimal number ∷ middle outcome (output_words outcome.output)

middle_are_words : (outcome : Outcome) → IsOutcome outcome → (last : List (List ℕ))
    → AreWords last → AreWords (middle outcome last)
middle_are_words outcome h last hs =
    words_append (note_words outcome.note) _ (note_are_words outcome.note h.note)
    (words_append (answer_words outcome.answer) _ (answer_are_words outcome.answer h.answer)
    (words_append (dropped_words outcome.dropped) last
    (dropped_are_words outcome.dropped h.dropped) hs))

middle_spaced : (outcome : Outcome) (last : List (List ℕ))
    → spaced (middle outcome last)
    ≡ spaced (note_words outcome.note) ++ (spaced (answer_words outcome.answer)
    ++ (spaced (dropped_words outcome.dropped) ++ spaced last))
middle_spaced outcome last =
    spaced_append (note_words outcome.note) _
    ∙ ap (λ (t : List ℕ). spaced (note_words outcome.note) ++ t)
    (spaced_append (answer_words outcome.answer) _
    ∙ ap (λ (t : List ℕ). spaced (answer_words outcome.answer) ++ t)
    (spaced_append (dropped_words outcome.dropped) last))

parts_flat : (a b c d e f : List ℕ)
    → a ++ b ++ c ++ d ++ e ++ f ≡ a ++ ((b ++ c) ++ (d ++ (e ++ f)))
parts_flat a b c d e f = simp append_assoc

-- the text as spaced words, with this behind them
text_with : (number : ℕ) (outcome : Outcome) (behind : List ℕ)
    → decimal number ++ codes " " ++ note_text outcome.note
    ++ answer_text outcome.answer ++ dropped_text outcome.dropped ++ behind
    ≡ decimal number ++ (spaced (note_words outcome.note) ++ (spaced (answer_words outcome.answer)
    ++ (spaced (dropped_words outcome.dropped) ++ behind)))
text_with number outcome behind =
    parts_flat (decimal number) (codes " ") (note_text outcome.note) (answer_text outcome.answer)
    (dropped_text outcome.dropped) behind
    ∙ (λ i. decimal number ++ (note_flat outcome.note i ++ (answer_flat outcome.answer i
    ++ (dropped_flat outcome.dropped i ++ behind))))

text_none : (number : ℕ) (outcome : Outcome) → outcome.output ≡ None
    → outcome_text number outcome ≡ decimal number ++ spaced (middle outcome [])
text_none number outcome none =
    ap (λ (o : Option Datagram). decimal number ++ codes " " ++ note_text outcome.note
    ++ answer_text outcome.answer ++ dropped_text outcome.dropped ++ output_text o) none
    ∙ text_with number outcome []
    ∙ ap (λ (t : List ℕ). decimal number ++ t) (sym (middle_spaced outcome []))

abbrev addressed : Datagram → List (List ℕ)
addressed datagram = codes ">" ∷ address_text datagram.to ∷ []

output_flat : (address octets : List ℕ)
    → codes " > " ++ address ++ codes " " ++ octets
    ≡ spaced (codes ">" ∷ address ∷ []) ++ 32 ∷ octets
output_flat address octets = simp (append_assoc, append-nil)

five_flat : (a b c d e f : List ℕ)
    → a ++ (b ++ (c ++ (d ++ (e ++ f)))) ≡ (a ++ (b ++ (c ++ (d ++ e)))) ++ f
five_flat a b c d e f = simp append_assoc

text_some : (number : ℕ) (outcome : Outcome) (datagram : Datagram)
    → outcome.output ≡ Some datagram
    → outcome_text number outcome
    ≡ (decimal number ++ spaced (middle outcome (addressed datagram)))
    ++ 32 ∷ encode_upper datagram.bytes
text_some number outcome datagram some =
    ap (λ (o : Option Datagram). decimal number ++ codes " " ++ note_text outcome.note
    ++ answer_text outcome.answer ++ dropped_text outcome.dropped ++ output_text o) some
    ∙ text_with number outcome (output_text (Some datagram))
    ∙ ap (λ (t : List ℕ). decimal number ++ (spaced (note_words outcome.note)
    ++ (spaced (answer_words outcome.answer) ++ (spaced (dropped_words outcome.dropped) ++ t))))
    (output_flat (address_text datagram.to) (encode_upper datagram.bytes))
    ∙ five_flat (decimal number) (spaced (note_words outcome.note))
    (spaced (answer_words outcome.answer)) (spaced (dropped_words outcome.dropped))
    (spaced (addressed datagram)) (32 ∷ encode_upper datagram.bytes)
    ∙ ap (λ (t : List ℕ). (decimal number ++ t) ++ 32 ∷ encode_upper datagram.bytes)
    (sym (middle_spaced outcome (addressed datagram)))

-- what is said of the text
pub record IsLine (number : ℕ) (outcome : Outcome) : Type 0 where
  pub words : words_of (outcome_text number outcome) ≡ line_words number outcome
  pub no_end : Without 10 (outcome_text number outcome)

addressed_are_words : (datagram : Datagram) → IsOutput (Some datagram)
    → AreWords (addressed datagram)
addressed_are_words datagram h = (
  plain_word (codes ">") refl refl refl,
  (told_word datagram.to _ (address_text datagram.to) (address_is_told datagram.to h.0), tt),
)

middle_append : (outcome : Outcome) (front behind : List (List ℕ))
    → middle outcome front ++ behind ≡ middle outcome (front ++ behind)
middle_append outcome front behind = simp append_assoc

line_none : (number : ℕ) (outcome : Outcome) → number < 2 ^ 64 → IsOutcome outcome
    → outcome.output ≡ None → IsLine number outcome
line_none number outcome small h none =
    let text = text_none number outcome none in
    let are = middle_are_words outcome h [] tt in
    record {
      words = ap words_of text
          ∙ words_spaced (decimal number) (middle outcome []) (number_word number small) are
          ∙ ap (λ (o : Option Datagram). decimal number ∷ middle outcome (output_words o))
          (sym none);
      no_end = subst (Without 10) (sym text)
          (without_append 10 (decimal number) (spaced (middle outcome []))
          (number_word number small).no_end (spaced_without (middle outcome []) are));
    }

line_some : (number : ℕ) (outcome : Outcome) (datagram : Datagram) → number < 2 ^ 64
    → IsOutcome outcome → outcome.output ≡ Some datagram → IsOutput (Some datagram)
    → IsLine number outcome
line_some number outcome datagram small h some sent =
    let text = text_some number outcome datagram some in
    let are = middle_are_words outcome h (addressed datagram) (addressed_are_words datagram sent) in
    let octets = encode_upper datagram.bytes in
    record {
      words = ap words_of text
          ∙ words_behind (decimal number) (middle outcome (addressed datagram)) octets
          (number_word number small) are
          ∙ ap (λ (ws : List (List ℕ)). decimal number
          ∷ (middle outcome (addressed datagram) ++ ws))
          (octets_left octets (octets_without 32 refl datagram.bytes sent.1))
          ∙ ap (λ (ws : List (List ℕ)). decimal number ∷ ws)
          (middle_append outcome (addressed datagram) (left_words octets))
          ∙ ap (λ (o : Option Datagram). decimal number ∷ middle outcome (output_words o))
          (sym some);
      no_end = subst (Without 10) (sym text)
          (without_append 10 (decimal number ++ spaced (middle outcome (addressed datagram)))
          (32 ∷ octets)
          (without_append 10 (decimal number) (spaced (middle outcome (addressed datagram)))
          (number_word number small).no_end
          (spaced_without (middle outcome (addressed datagram)) are))
          (refl, octets_without 10 refl datagram.bytes sent.1));
    }

pub line_is : (number : ℕ) (outcome : Outcome) → number < 2 ^ 64 → IsOutcome outcome
    → IsLine number outcome
line_is number outcome small h = by outcome.output refl h.output
  where
    by : (output : Option Datagram) → outcome.output ≡ output → IsOutput output
        → IsLine number outcome
    by None is sent = line_none number outcome small h is
    by (Some datagram) is sent = line_some number outcome datagram small h is sent
