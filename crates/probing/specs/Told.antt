-- What an answer says, in words, each as it follows a text.
use Rattle.std.specs.Prelude.{ℕ, ◌≡◌, ◌/◌, ◌%◌, List, ◌++◌, Bool, false, codes, get_or, nat_eq}
use Rattle.std.specs.Prelude.{Option, Some, None, Result, Ok, Err, if◌then◌else◌}
use Rattle.std.specs.Char.Utf16.{utf16_lossy_chars}
use Rattle.std.specs.Fmt.{decimal}
use Rattle.std.specs.List.{flat_map}
use Rattle.std.specs.Str.{encode_utf8_all}
use Rattle.escapes.specs.Escapes.{json_piece}
use Rattle.ras_module.specs.declared.address.Address.{Address}
use Rattle.ras_grammar.specs.declared.fault.ReadFault.{ReadFault}
use Rattle.probing.specs.Replies.{reply_reading}
use Rattle.probing.specs.declared.reply.Confirm.{Confirm}
use Rattle.probing.specs.declared.reply.DiscoveryReply.{DiscoveryReply}
use Rattle.probing.specs.declared.reply.DiscoveryReply.TheVariants as reply
use Rattle.probing.specs.declared.reply.Reject.{Reject}
use Rattle.probing.specs.declared.reply.RejectReason.{RejectReason}
use Rattle.probing.specs.declared.reply.RejectReason.TheVariants as reason

abbrev pub with_number : List ℕ → List ℕ → ℕ → List ℕ
with_number text before number = text ++ before ++ decimal number

-- an address, as in 10.0.0.1:1719
abbrev pub with_address : List ℕ → List ℕ → Address → List ℕ
with_address text before address =
    text ++ before ++ decimal (get_or address.ip 0 0)
    ++ codes "." ++ decimal (get_or address.ip 1 0)
    ++ codes "." ++ decimal (get_or address.ip 2 0)
    ++ codes "." ++ decimal (get_or address.ip 3 0)
    ++ codes ":" ++ decimal address.port

-- milliseconds with a tenth
abbrev pub with_milliseconds : List ℕ → ℕ → List ℕ
with_milliseconds text microseconds =
    text ++ codes " answers after " ++ decimal (microseconds / 1000)
    ++ codes "." ++ decimal (microseconds % 1000 / 100) ++ codes " ms\n"

-- a name as it stands in a string of JSON
abbrev pub with_name : List ℕ → Option (List ℕ) → List ℕ
with_name text None = text ++ codes "a gatekeeper without a name"
with_name text (Some units) =
    text ++ encode_utf8_all (flat_map json_piece (utf16_lossy_chars units))

-- what is told of an answer to another request, or of no answer at all
abbrev pub with_no_confirm : List ℕ → List ℕ
with_no_confirm text = text ++ codes "not a confirm\n"

-- the number of the request is 1
abbrev pub with_confirm : List ℕ → Confirm → ℕ → List ℕ
with_confirm text confirm microseconds =
    if nat_eq confirm.seq 1
    then with_milliseconds (with_address (with_name text confirm.gatekeeper) (codes " at ")
    confirm.ras) microseconds
    else with_no_confirm text

abbrev pub reason_words : RejectReason → List ℕ
reason_words reason.ResourceUnavailable = codes "resourceUnavailable"
reason_words reason.TerminalExcluded = codes "terminalExcluded"
reason_words reason.InvalidRevision = codes "invalidRevision"
reason_words reason.UndefinedReason = codes "undefinedReason"
reason_words reason.SecurityDenial = codes "securityDenial"
reason_words reason.GenericDataReason = codes "genericDataReason"
reason_words reason.NeededFeatureNotSupported = codes "neededFeatureNotSupported"
reason_words reason.Later = codes "a reason of a later edition"

abbrev pub with_reject : List ℕ → Reject → List ℕ
with_reject text reject =
    if nat_eq reject.seq 1
    then text ++ codes "rejected: " ++ reason_words reject.reason ++ codes "\n"
    else with_no_confirm text

-- what a reading of an answer is told as, these microseconds after the request
abbrev pub with_told : List ℕ → Result DiscoveryReply ReadFault → ℕ → List ℕ
with_told text (Ok (reply.Confirm confirm)) microseconds = with_confirm text confirm microseconds
with_told text (Ok (reply.Reject reject)) microseconds = with_reject text reject
with_told text (Ok reply.Other) microseconds = with_no_confirm text
with_told text (Err fault) microseconds = with_no_confirm text

-- whether a reading confirms the request with number 1
abbrev pub is_found : Result DiscoveryReply ReadFault → Bool
is_found (Ok (reply.Confirm confirm)) = nat_eq confirm.seq 1
is_found (Ok (reply.Reject reject)) = false
is_found (Ok reply.Other) = false
is_found (Err fault) = false

-- An answer was told: behind what the text told before it tells how some octets read, and it is
-- said that they confirm the request if and only if they do.
abbrev pub IsAnswerTold : List ℕ → List ℕ → Bool → Type 0
IsAnswerTold old new found =
    (octets : List ℕ) × (microseconds : ℕ)
    × (new ≡ with_told old (reply_reading octets) microseconds)
    × (found ≡ is_found (reply_reading octets))
