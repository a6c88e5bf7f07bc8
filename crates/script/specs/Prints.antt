-- The lines that are printed of what came of events.
use Rattle.std.specs.Prelude.{ℕ, ◌+◌, List, [], ◌∷◌, ◌++◌, map, slice_index, encode_utf8_all}
use Rattle.std.specs.Prelude.{Option, Some, None, Result, Ok, Err, codes, if◌then◌else◌}
use Rattle.std.specs.Fmt.{decimal}
use Rattle.std.specs.Int.{is_in_range}
use Rattle.zone_events.specs.declared.due_item.DueItem.{DueItem}
use Rattle.zone_events.specs.declared.due_item.DueItem.TheVariants.{RegistrationOver, Interrogate}
use Rattle.zone_events.specs.declared.due_item.DueItem.TheVariants.{Silent, Retry, KeptOver}
use Rattle.zone_events.specs.declared.due_item.DueItem.TheVariants.{PoolTurn}
use Rattle.hex.specs.Hex.{encode_upper}
use Rattle.pools.specs.declared.fault.ReplaceFault.{ReplaceFault}
use Rattle.pools.specs.declared.interface.Lend.{Lend}
use Rattle.pools.specs.declared.interface.Lend.TheVariants.{Lent, Refused, Wait}
use Rattle.pools.specs.Replacing.{replace_fault_number}
use Rattle.ras_module.specs.declared.address.Address.{Address}
use Rattle.zone_events.specs.declared.outcome.Datagram.{Datagram}
use Rattle.zone_events.specs.declared.outcome.IgnoredCause.{IgnoredCause}
use Rattle.zone_events.specs.declared.outcome.IgnoredCause.TheVariants.{TooLong, Unreadable}
use Rattle.zone_events.specs.declared.outcome.IgnoredCause.TheVariants.{NotServed}
use Rattle.zone_events.specs.declared.outcome.IgnoredCause.TheVariants.{Busy, UnknownEndpoint}
use Rattle.zone_events.specs.declared.outcome.Note.{Note}
use Rattle.zone_events.specs.declared.outcome.Note.TheVariants.{Served, Kept, Ignored, Done, Idle}
use Rattle.zone_events.specs.declared.outcome.Note.TheVariants.{Replaced}
use Rattle.zone_events.specs.declared.outcome.Outcome.{Outcome}

-- the character with this code of 16 bits; the codes of surrogates stand for no character, and
-- U+FFFD is written in their place
abbrev pub character_of : ℕ → ℕ
character_of code = if is_in_range 0xD800 0xDFFF code then 0xFFFD else code

-- the characters of an identifier, in UTF-8
abbrev pub identifier_text : List ℕ → List ℕ
identifier_text id = encode_utf8_all (map character_of id)

-- why a datagram was ignored
abbrev pub cause_text : IgnoredCause → List ℕ
cause_text TooLong = codes "too-long"
cause_text Unreadable = codes "unreadable"
cause_text NotServed = codes "not-served"
cause_text Busy = codes "busy"
cause_text UnknownEndpoint = codes "unknown-endpoint"

-- what was due: with the identifier of the endpoint, or with the birth of the kept entry
abbrev pub item_text : DueItem → List ℕ
item_text (RegistrationOver id) = codes "registration-over " ++ identifier_text id
item_text (Interrogate id) = codes "interrogate " ++ identifier_text id
item_text (Silent id) = codes "silent " ++ identifier_text id
item_text (Retry born) = codes "retry " ++ decimal born
item_text (KeptOver born) = codes "kept-over " ++ decimal born
item_text PoolTurn = codes "pool-turn"

-- what happened
abbrev pub note_text : Note → List ℕ
note_text Served = codes "served"
note_text Kept = codes "kept"
note_text (Ignored cause) = codes "ignored " ++ cause_text cause
note_text (Done item) = codes "done " ++ item_text item
note_text Idle = codes "idle"
note_text (Replaced pool) = codes "replaced " ++ decimal pool

-- what the pool answered, if one was asked; units are of 100 bit/s
abbrev pub answer_text : Option Lend → List ℕ
answer_text None = []
answer_text (Some (Lent units)) = codes " lent " ++ decimal units
answer_text (Some Refused) = codes " refused"
answer_text (Some Wait) = codes " wait"

-- the birth of the kept entry that was dropped, if one was
abbrev pub dropped_text : Option ℕ → List ℕ
dropped_text None = []
dropped_text (Some born) = codes " dropped " ++ decimal born

-- `A.B.C.D:PORT`
abbrev pub address_text : Address → List ℕ
address_text address =
    decimal (slice_index address.ip 0) ++ codes "."
    ++ decimal (slice_index address.ip 1) ++ codes "."
    ++ decimal (slice_index address.ip 2) ++ codes "."
    ++ decimal (slice_index address.ip 3) ++ codes ":"
    ++ decimal address.port

-- if something is sent: ` > ADDRESS HEX`
abbrev pub output_text : Option Datagram → List ℕ
output_text None = []
output_text (Some datagram) =
    codes " > " ++ address_text datagram.to ++ codes " " ++ encode_upper datagram.bytes

-- the line of the outcome of an event with this number: `N NOTE`, the pool's answer, the entry that
-- was dropped, and the output
abbrev pub outcome_line : ℕ → Outcome → List ℕ
outcome_line number outcome =
    decimal number ++ codes " " ++ note_text outcome.note
    ++ answer_text outcome.answer ++ dropped_text outcome.dropped
    ++ output_text outcome.output ++ codes "\n"

-- a line for each of these, numbered from this number on
abbrev pub lines_from : {A : Type 0} → (ℕ → A → List ℕ) → ℕ → List A → List ℕ
lines_from line number [] = []
lines_from line number (x ∷ xs) = line number x ++ lines_from line (number + 1) xs

-- the line of an event with this number, whose fresh pool is refused: `N not replaced K`, with the
-- number of the fault
abbrev pub refusal_line : ℕ → ReplaceFault → List ℕ
refusal_line number fault =
    decimal number ++ codes " not replaced " ++ decimal (replace_fault_number fault) ++ codes "\n"

-- what came of an event: the outcome of a step, or why the fresh pool is refused
abbrev pub Upshot : Type 0
Upshot = Result Outcome ReplaceFault

abbrev pub upshot_line : ℕ → Upshot → List ℕ
upshot_line number (Ok outcome) = outcome_line number outcome
upshot_line number (Err fault) = refusal_line number fault

-- a line for each of these, numbered from 1
abbrev pub upshot_lines : List Upshot → List ℕ
upshot_lines upshots = lines_from upshot_line 1 upshots
