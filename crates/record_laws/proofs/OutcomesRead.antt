-- The words of the line of an outcome, read again.
use Rattle.std.proofs.Common.{◌≡◌, ◌<◌, ◌-◌, ◌^◌, ℕ, List, [], ◌∷◌, ◌++◌, codes}
use Rattle.std.proofs.Common.{Option, Some, None, arith, refl, ap, ◌∙◌}
use Rattle.std.specs.Fmt.{decimal}
use Rattle.std.specs.Result.{result_ok}
use Rattle.hex.specs.Hex.{encode_upper}
use Rattle.hex.proofs.HexLemmas.{decode_of-encode_upper}
use Rattle.pools.specs.declared.interface.Lend.{Lend}
use Rattle.pools.specs.declared.interface.Lend.TheVariants.{Lent, Refused, Wait}
use Rattle.ras_module.specs.declared.address.Address.{Address}
use Rattle.value_texts.specs.Texts.{◌>>=◌, address_of}
use Rattle.zone_events.specs.declared.due_item.DueItem.{DueItem}
use Rattle.zone_events.specs.declared.due_item.DueItem.TheVariants.{RegistrationOver, Interrogate}
use Rattle.zone_events.specs.declared.due_item.DueItem.TheVariants.{Silent, Retry, KeptOver}
use Rattle.zone_events.specs.declared.due_item.DueItem.TheVariants.{PoolTurn}
use Rattle.zone_events.specs.declared.outcome.Datagram.{Datagram}
use Rattle.zone_events.specs.declared.outcome.IgnoredCause.TheVariants.{TooLong, Unreadable}
use Rattle.zone_events.specs.declared.outcome.IgnoredCause.TheVariants.{NotServed}
use Rattle.zone_events.specs.declared.outcome.IgnoredCause.TheVariants.{Busy, UnknownEndpoint}
use Rattle.zone_events.specs.declared.outcome.Note.{Note}
use Rattle.zone_events.specs.declared.outcome.Note.TheVariants.{Served, Kept, Ignored, Done, Idle}
use Rattle.zone_events.specs.declared.outcome.Note.TheVariants.{Replaced}
use Rattle.zone_events.specs.declared.outcome.Outcome.{Outcome}
use Rattle.script.specs.Fields.{octets_of}
use Rattle.script.specs.Outcomes.{Left, answer_in, count_in, dropped_in, note_in, output_of}
use Rattle.script.specs.Outcomes.{front_in, shown_by_words, shown_of, shown_with}
use Rattle.script.specs.Prints.{address_text, outcome_line}
use Rattle.script.specs.declared.outcome.Front.{Front}
use Rattle.script.specs.declared.outcome.ShownOutcome.{ShownOutcome}
use Rattle.recording.proofs.FourNumbers.{address_is_told}
use Rattle.recording.proofs.LineWords.{number_back}
use Rattle.recording.proofs.NameTexts.{name_is_told}
use Rattle.record_laws.specs.Outcomes.{IsAnswer, IsBirth, IsItem, IsNote, IsOutcome, IsOutput}
use Rattle.record_laws.specs.Outcomes.{IsOutcomeReadBack, outcome_text, shown}
use Rattle.record_laws.proofs.OutcomeWords.{answer_words, dropped_words, left_words, line_is}
use Rattle.record_laws.proofs.OutcomeWords.{item_words, line_words, note_words, output_words}

-- ---- numbers

abbrev with_rest : Left → Option ℕ → Option (ℕ × Left)
with_rest rest count = do
  count ← count
  Some (count, rest)

count_back : (n : ℕ) → n < 2 ^ 64 → (rest : Left) → count_in (decimal n ∷ rest) ≡ Some (n, rest)
count_back n small rest =
    ap (with_rest rest) (number_back n small 0 (2 ^ 64 - 1) (omega arith) (omega arith))

-- ---- notes

abbrev item_with : Left → Option DueItem → Option (DueItem × Left)
item_with rest item = do
  item ← item
  Some (item, rest)

abbrev done_with : Left → Option DueItem → Option (Note × Left)
done_with rest item = do
  found ← item_with rest item
  Some (Done found.0, found.1)

abbrev named_with : (List ℕ → DueItem) → Option (List ℕ) → Option DueItem
named_with item name = do
  id ← name
  Some (item id)

abbrev born_with : (ℕ → DueItem) → Option ℕ → Option DueItem
born_with item count = do
  born ← count
  Some (item born)

item_back : (item : DueItem) → IsItem item → (rest : Left)
    → note_in (codes "done" ∷ (item_words item ++ rest)) ≡ Some (Done item, rest)
item_back (RegistrationOver id) h rest =
    ap (λ (name : Option (List ℕ)). done_with rest (named_with RegistrationOver name))
    (name_is_told id h.1 h.0).back
item_back (Interrogate id) h rest =
    ap (λ (name : Option (List ℕ)). done_with rest (named_with Interrogate name))
    (name_is_told id h.1 h.0).back
item_back (Silent id) h rest =
    ap (λ (name : Option (List ℕ)). done_with rest (named_with Silent name))
    (name_is_told id h.1 h.0).back
item_back (Retry born) h rest =
    ap (λ (count : Option ℕ). done_with rest (born_with Retry count))
    (number_back born h 0 (2 ^ 64 - 1) (omega arith) (omega arith))
item_back (KeptOver born) h rest =
    ap (λ (count : Option ℕ). done_with rest (born_with KeptOver count))
    (number_back born h 0 (2 ^ 64 - 1) (omega arith) (omega arith))
item_back PoolTurn h rest = refl

abbrev replaced_with : Option (ℕ × Left) → Option (Note × Left)
replaced_with found = do
  pool ← found
  Some (Replaced pool.0, pool.1)

note_back : (note : Note) → IsNote note → (rest : Left)
    → note_in (note_words note ++ rest) ≡ Some (note, rest)
note_back Served h rest = refl
note_back Kept h rest = refl
note_back (Ignored TooLong) h rest = refl
note_back (Ignored Unreadable) h rest = refl
note_back (Ignored NotServed) h rest = refl
note_back (Ignored Busy) h rest = refl
note_back (Ignored UnknownEndpoint) h rest = refl
note_back (Done item) h rest = item_back item h rest
note_back Idle h rest = refl
note_back (Replaced pool) h rest = ap replaced_with (count_back pool h rest)

-- ---- the pool's answer, and the entry that was dropped

abbrev lent_with : Option (ℕ × Left) → Option (Option Lend × Left)
lent_with found = do
  units ← found
  Some (Some (Lent units.0), units.1)

no_answer : (dropped : Option ℕ) (output : Option Datagram)
    → answer_in (dropped_words dropped ++ output_words output)
    ≡ Some (None, dropped_words dropped ++ output_words output)
no_answer None None = refl
no_answer None (Some datagram) = refl
no_answer (Some born) output = refl

answer_back : (answer : Option Lend) → IsAnswer answer → (dropped : Option ℕ)
    (output : Option Datagram)
    → answer_in (answer_words answer ++ (dropped_words dropped ++ output_words output))
    ≡ Some (answer, dropped_words dropped ++ output_words output)
answer_back None h dropped output = no_answer dropped output
answer_back (Some (Lent units)) h dropped output =
    ap lent_with (count_back units h (dropped_words dropped ++ output_words output))
answer_back (Some Refused) h dropped output = refl
answer_back (Some Wait) h dropped output = refl

abbrev dropped_with : Option (ℕ × Left) → Option (Option ℕ × Left)
dropped_with found = do
  born ← found
  Some (Some born.0, born.1)

dropped_back : (dropped : Option ℕ) → IsBirth dropped → (output : Option Datagram)
    → dropped_in (dropped_words dropped ++ output_words output)
    ≡ Some (dropped, output_words output)
dropped_back None h None = refl
dropped_back None h (Some datagram) = refl
dropped_back (Some born) h output = ap dropped_with (count_back born h (output_words output))

-- ---- what is sent

abbrev sent_with : Option Address → Option (List ℕ) → Option (Option Datagram)
sent_with address octets = do
  to ← address
  octets ← octets
  Some (Some (record { to = to; bytes = octets }))

sent_back : (address hex : List ℕ) (to : Address) (bytes : List ℕ)
    → address_of address ≡ Some to → octets_of hex ≡ Some bytes
    → output_of (codes ">" ∷ address ∷ left_words hex)
    ≡ Some (Some (record { to = to; bytes = bytes }))
sent_back address [] to bytes is_to is_bytes = λ i. sent_with (is_to i) (is_bytes i)
sent_back address (c ∷ cs) to bytes is_to is_bytes = λ i. sent_with (is_to i) (is_bytes i)

output_back : (output : Option Datagram) → IsOutput output
    → output_of (output_words output) ≡ Some output
output_back None h = refl
output_back (Some datagram) h =
    sent_back (address_text datagram.to) (encode_upper datagram.bytes) datagram.to datagram.bytes
    (address_is_told datagram.to h.0).back
    (ap result_ok (decode_of-encode_upper datagram.bytes h.1))

-- ---- the whole line

abbrev with_dropped : ℕ → Note → Option Lend → Option ℕ × Left → Option (Front × Left)
with_dropped number note answer found = Some (
  record { number = number; note = note; answer = answer; dropped = found.0 },
  found.1,
)

abbrev with_answer : ℕ → Note → Option Lend × Left → Option (Front × Left)
with_answer number note found = do
  dropped ← dropped_in found.1
  with_dropped number note found.0 dropped

abbrev with_note : ℕ → Note × Left → Option (Front × Left)
with_note number found = do
  answer ← answer_in found.1
  with_answer number found.0 answer

abbrev with_number : ℕ × Left → Option (Front × Left)
with_number found = do
  note ← note_in found.1
  with_note found.0 note

abbrev front_of : ℕ → Outcome → Front
front_of number outcome = record {
  number = number;
  note = outcome.note;
  answer = outcome.answer;
  dropped = outcome.dropped;
}

front_back : (number : ℕ) (outcome : Outcome) → number < 2 ^ 64 → IsOutcome outcome
    → front_in (line_words number outcome)
    ≡ Some (front_of number outcome, output_words outcome.output)
front_back number outcome small h =
    ap (λ (found : Option (ℕ × Left)). found >>= with_number) (count_back number small _)
    ∙ ap (λ (found : Option (Note × Left)). found >>= with_note number)
    (note_back outcome.note h.note _)
    ∙ ap (λ (found : Option (Option Lend × Left)). found >>= with_answer number outcome.note)
    (answer_back outcome.answer h.answer outcome.dropped outcome.output)
    ∙ ap (λ (found : Option (Option ℕ × Left)). found
    >>= with_dropped number outcome.note outcome.answer)
    (dropped_back outcome.dropped h.dropped outcome.output)

abbrev with_output : Front → Option Datagram → Option ShownOutcome
with_output front output = Some (shown_with front output)

abbrev with_front : Front × Left → Option ShownOutcome
with_front found = do
  output ← output_of found.1
  with_output found.0 output

words_back : (number : ℕ) (outcome : Outcome) → number < 2 ^ 64 → IsOutcome outcome
    → shown_by_words (line_words number outcome) ≡ Some (shown number outcome)
words_back number outcome small h =
    ap (λ (found : Option (Front × Left)). found >>= with_front)
    (front_back number outcome small h)
    ∙ ap (λ (output : Option (Option Datagram)). output >>= with_output (front_of number outcome))
    (output_back outcome.output h.output)

pub outcome_flat : (number : ℕ) (outcome : Outcome)
    → outcome_line number outcome ≡ outcome_text number outcome ++ codes "\n"
outcome_flat number outcome = refl

pub read_back : (number : ℕ) (outcome : Outcome) → number < 2 ^ 64 → IsOutcome outcome
    → IsOutcomeReadBack number outcome
unfolding shown_of
read_back number outcome small h =
    let is = line_is number outcome small h in
    record {
      line = outcome_flat number outcome;
      no_end = is.no_end;
      back = ap shown_by_words is.words ∙ words_back number outcome small h;
    }
