-- What the line of an outcome shows; none if it is not understood.
use Rattle.std.specs.Prelude.{ℕ, ◌≡◌, ◌-◌, ◌^◌, List, [], ◌∷◌, drop, Bool, false, Option, Some}
use Rattle.std.specs.Prelude.{None, codes, if◌then◌else◌}
use Rattle.std.specs.Str.{bytes_eq}
use Rattle.pools.specs.declared.interface.Lend.{Lend}
use Rattle.pools.specs.declared.interface.Lend.TheVariants.{Lent, Refused, Wait}
use Rattle.zone_events.specs.declared.due_item.DueItem.{DueItem}
use Rattle.zone_events.specs.declared.due_item.DueItem.TheVariants.{RegistrationOver, Interrogate}
use Rattle.zone_events.specs.declared.due_item.DueItem.TheVariants.{Silent, Retry, KeptOver}
use Rattle.zone_events.specs.declared.due_item.DueItem.TheVariants.{PoolTurn}
use Rattle.zone_events.specs.declared.outcome.Datagram.{Datagram}
use Rattle.zone_events.specs.declared.outcome.IgnoredCause.{IgnoredCause}
use Rattle.zone_events.specs.declared.outcome.IgnoredCause.TheVariants.{TooLong, Unreadable}
use Rattle.zone_events.specs.declared.outcome.IgnoredCause.TheVariants.{NotServed}
use Rattle.zone_events.specs.declared.outcome.IgnoredCause.TheVariants.{Busy, UnknownEndpoint}
use Rattle.zone_events.specs.declared.outcome.Note.{Note}
use Rattle.zone_events.specs.declared.outcome.Note.TheVariants.{Served, Kept, Ignored, Done, Idle}
use Rattle.zone_events.specs.declared.outcome.Note.TheVariants.{Replaced}
use Rattle.script.specs.declared.outcome.Front.{Front}
use Rattle.script.specs.declared.outcome.ShownOutcome.{ShownOutcome}
use Rattle.script.specs.Words.{words_of, begins_with}
use Rattle.script.specs.Fields.{octets_of}
use Rattle.value_texts.specs.Texts.{◌>>=◌, number_of, address_of, name_of}

-- the words of a line that are left
abbrev pub Left : Type 0
Left = List (List ℕ)

-- What was read of the words, and those that are left behind it; None if they begin with nothing
-- that is understood.
abbrev pub Takes : {A : Type 0} → (Left → Option (A × Left)) → Left → Option A → Left → Type 0
Takes reading old (Some x) new = reading old ≡ Some (x, new)
Takes reading old None new = reading old ≡ None

-- a number below 2^64
abbrev pub count_of : List ℕ → Option ℕ
count_of word = number_of 0 (2 ^ 64 - 1) word

abbrev pub count_in : Left → Option (ℕ × Left)
count_in [] = None
count_in (word ∷ rest) = do
  count ← count_of word
  Some (count, rest)

-- why a datagram was ignored
abbrev pub cause_of : List ℕ → Option IgnoredCause
cause_of word =
    if bytes_eq word (codes "too-long") then Some TooLong
    else if bytes_eq word (codes "unreadable") then Some Unreadable
    else if bytes_eq word (codes "not-served") then Some NotServed
    else if bytes_eq word (codes "busy") then Some Busy
    else if bytes_eq word (codes "unknown-endpoint") then Some UnknownEndpoint
    else None

abbrev pub with_identifier : (List ℕ → DueItem) → List ℕ → Option DueItem
with_identifier item word = do
  id ← name_of word
  Some (item id)

abbrev pub with_birth : (ℕ → DueItem) → List ℕ → Option DueItem
with_birth item word = do
  born ← count_of word
  Some (item born)

-- an item that is named with an endpoint, or with the birth of a kept entry
abbrev pub named_item : List ℕ → List ℕ → Option DueItem
named_item kind word =
    if bytes_eq kind (codes "registration-over") then with_identifier RegistrationOver word
    else if bytes_eq kind (codes "interrogate") then with_identifier Interrogate word
    else if bytes_eq kind (codes "silent") then with_identifier Silent word
    else if bytes_eq kind (codes "retry") then with_birth Retry word
    else if bytes_eq kind (codes "kept-over") then with_birth KeptOver word
    else None

abbrev pub named_item_in : List ℕ → Left → Option (DueItem × Left)
named_item_in kind [] = None
named_item_in kind (word ∷ rest) = do
  item ← named_item kind word
  Some (item, rest)

-- what was due
abbrev pub item_in : Left → Option (DueItem × Left)
item_in [] = None
item_in (kind ∷ rest) =
    if bytes_eq kind (codes "pool-turn") then Some (PoolTurn, rest) else named_item_in kind rest

abbrev pub ignored_in : Left → Option (Note × Left)
ignored_in [] = None
ignored_in (word ∷ rest) = do
  cause ← cause_of word
  Some (Ignored cause, rest)

abbrev pub done_in : Left → Option (Note × Left)
done_in words = do
  item ← item_in words
  Some (Done item.0, item.1)

abbrev pub replaced_in : Left → Option (Note × Left)
replaced_in words = do
  pool ← count_in words
  Some (Replaced pool.0, pool.1)

-- what happened
abbrev pub note_in : Left → Option (Note × Left)
note_in [] = None
note_in (kind ∷ rest) =
    if bytes_eq kind (codes "served") then Some (Served, rest)
    else if bytes_eq kind (codes "kept") then Some (Kept, rest)
    else if bytes_eq kind (codes "idle") then Some (Idle, rest)
    else if bytes_eq kind (codes "ignored") then ignored_in rest
    else if bytes_eq kind (codes "done") then done_in rest
    else if bytes_eq kind (codes "replaced") then replaced_in rest
    else None

abbrev pub lent_in : Left → Option (Option Lend × Left)
lent_in words = do
  units ← count_in words
  Some (Some (Lent units.0), units.1)

-- what the pool answered, if one was asked
abbrev pub answer_in : Left → Option (Option Lend × Left)
answer_in words =
    if begins_with (codes "lent") words then lent_in (drop 1 words)
    else if begins_with (codes "refused") words then Some (Some Refused, drop 1 words)
    else if begins_with (codes "wait") words then Some (Some Wait, drop 1 words)
    else Some (None, words)

abbrev pub born_in : Left → Option (Option ℕ × Left)
born_in words = do
  born ← count_in words
  Some (Some born.0, born.1)

-- the birth of the kept entry that was dropped, if one was
abbrev pub dropped_in : Left → Option (Option ℕ × Left)
dropped_in words =
    if begins_with (codes "dropped") words then born_in (drop 1 words) else Some (None, words)

abbrev pub sent_to : List ℕ → List ℕ → List ℕ → Option (Option Datagram)
sent_to mark address hex =
    if bytes_eq mark (codes ">") then (do
      to ← address_of address
      octets ← octets_of hex
      Some (Some (record { to = to; bytes = octets })))
    else None

-- nothing, or `> ADDRESS HEX`; the octets may be none, and the line then ends with the address
abbrev pub output_of : Left → Option (Option Datagram)
output_of [] = Some None
output_of (mark ∷ address ∷ []) = sent_to mark address []
output_of (mark ∷ address ∷ hex ∷ []) = sent_to mark address hex
output_of other = None

-- what stands before the output: `N NOTE`, the pool's answer, and the entry that was dropped
abbrev pub front_in : Left → Option (Front × Left)
front_in words = do
  number ← count_in words
  note ← note_in number.1
  answer ← answer_in note.1
  dropped ← dropped_in answer.1
  Some (
    record {
      number = number.0;
      note = note.0;
      answer = answer.0;
      dropped = dropped.0;
    },
    dropped.1,
  )

-- an identifier that was handed out is not shown: it is told in the output alone
abbrev pub shown_with : Front → Option Datagram → ShownOutcome
shown_with front output = record {
  number = front.number;
  outcome = record {
    answer = front.answer;
    output = output;
    note = front.note;
    dropped = front.dropped;
    given = None;
  };
}

abbrev pub shown_by_words : Left → Option ShownOutcome
shown_by_words words = do
  front ← front_in words
  output ← output_of front.1
  Some (shown_with front.0 output)

unfoldable pub shown_of : List ℕ → Option ShownOutcome
shown_of line = shown_by_words (words_of line)
