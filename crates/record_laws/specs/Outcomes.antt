-- The lines of outcomes, without their ends, as they are written.
use Rattle.std.specs.Prelude.{ℕ, ◌≡◌, ◌==◌, ◌<◌, ◌^◌, List, ◌++◌, codes, false, true, Option, Some}
use Rattle.std.specs.Prelude.{None}
use Rattle.std.specs.Fmt.{decimal}
use Rattle.std.specs.List.{AllByRecursion}
use Rattle.hex.specs.Hex.{IsBytes}
use Rattle.pools.specs.declared.interface.Lend.{Lend}
use Rattle.pools.specs.declared.interface.Lend.TheVariants.{Lent, Refused, Wait}
use Rattle.ras_writing.specs.Properties.{IsAddress, IsName}
use Rattle.zone_events.specs.declared.due_item.DueItem.{DueItem}
use Rattle.zone_events.specs.declared.due_item.DueItem.TheVariants.{RegistrationOver, Interrogate}
use Rattle.zone_events.specs.declared.due_item.DueItem.TheVariants.{Silent, Retry, KeptOver}
use Rattle.zone_events.specs.declared.due_item.DueItem.TheVariants.{PoolTurn}
use Rattle.zone_events.specs.declared.outcome.Datagram.{Datagram}
use Rattle.zone_events.specs.declared.outcome.Note.{Note}
use Rattle.zone_events.specs.declared.outcome.Note.TheVariants.{Served, Kept, Ignored, Done, Idle}
use Rattle.zone_events.specs.declared.outcome.Note.TheVariants.{Replaced}
use Rattle.zone_events.specs.declared.outcome.Outcome.{Outcome}
use Rattle.script.specs.declared.outcome.ShownOutcome.{ShownOutcome}
use Rattle.script.specs.Outcomes.{shown_of}
use Rattle.script.specs.Prints.{answer_text, dropped_text, note_text, outcome_line, output_text}
use Rattle.recording.specs.Zones.{is_one_word}

abbrev pub outcome_text : ℕ → Outcome → List ℕ
outcome_text number outcome =
    decimal number ++ codes " " ++ note_text outcome.note
    ++ answer_text outcome.answer ++ dropped_text outcome.dropped
    ++ output_text outcome.output

-- an identifier as the type keeps it, that is one word
abbrev pub IsWordName : List ℕ → Type 0
IsWordName id = IsName id × (is_one_word id ≡ true)

-- what the types of a due item keep; an identifier is one word
abbrev pub IsItem : DueItem → Type 0
IsItem (RegistrationOver id) = IsWordName id
IsItem (Interrogate id) = IsWordName id
IsItem (Silent id) = IsWordName id
IsItem (Retry born) = born < 2 ^ 64
IsItem (KeptOver born) = born < 2 ^ 64
IsItem PoolTurn = Unit {0}

abbrev pub IsNote : Note → Type 0
IsNote Served = Unit {0}
IsNote Kept = Unit {0}
IsNote (Ignored cause) = Unit {0}
IsNote (Done item) = IsItem item
IsNote Idle = Unit {0}
IsNote (Replaced pool) = pool < 2 ^ 64

abbrev pub IsAnswer : Option Lend → Type 0
IsAnswer None = Unit {0}
IsAnswer (Some (Lent units)) = units < 2 ^ 64
IsAnswer (Some Refused) = Unit {0}
IsAnswer (Some Wait) = Unit {0}

abbrev pub IsBirth : Option ℕ → Type 0
IsBirth None = Unit {0}
IsBirth (Some born) = born < 2 ^ 64

abbrev pub IsOutput : Option Datagram → Type 0
IsOutput None = Unit {0}
IsOutput (Some datagram) = IsAddress datagram.to × IsBytes datagram.bytes

-- what the types of an outcome keep; an identifier that it names is one word
pub record IsOutcome (outcome : Outcome) : Type 0 where
  pub note : IsNote outcome.note
  pub answer : IsAnswer outcome.answer
  pub dropped : IsBirth outcome.dropped
  pub output : IsOutput outcome.output

-- the outcome as a line shows it, with this number
abbrev pub shown : ℕ → Outcome → ShownOutcome
shown number outcome = record { number = number; outcome = record outcome { given = None } }

-- its line is this text, in which no line ends, and reading the text gives the outcome again
pub record IsOutcomeReadBack (number : ℕ) (outcome : Outcome) : Type 0 where
  pub line : outcome_line number outcome ≡ outcome_text number outcome ++ codes "\n"
  pub no_end : AllByRecursion (λ c. (c == 10) ≡ false) (outcome_text number outcome)
  pub back : shown_of (outcome_text number outcome) ≡ Some (shown number outcome)
