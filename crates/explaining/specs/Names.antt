-- The names of messages (H.225.0, RasMessage), and of what is wrong with octets.
use Rattle.std.specs.Prelude.{ℕ, ◌-◌, ◌/◌, List, Bool, true, false, codes, nat_eq, nat_lt}
use Rattle.std.specs.Prelude.{if◌then◌else◌}
use Rattle.ras_grammar.specs.declared.fault.ReadFault.{ReadFault}
use Rattle.ras_grammar.specs.declared.fault.ReadFault.TheVariants.{Truncated, BadLength, Fragmented}
use Rattle.ras_grammar.specs.declared.fault.ReadFault.TheVariants.{TooMany, BadChoice}
use Rattle.ras_grammar.specs.declared.fault.ReadFault.TheVariants.{BadCharacter, Memory}

-- the root alternative with this index
abbrev pub root_name : ℕ → List ℕ
root_name index =
    if nat_eq index 0 then codes "GatekeeperRequest"
    else if nat_eq index 1 then codes "GatekeeperConfirm"
    else if nat_eq index 2 then codes "GatekeeperReject"
    else if nat_eq index 3 then codes "RegistrationRequest"
    else if nat_eq index 4 then codes "RegistrationConfirm"
    else if nat_eq index 5 then codes "RegistrationReject"
    else if nat_eq index 6 then codes "UnregistrationRequest"
    else if nat_eq index 7 then codes "UnregistrationConfirm"
    else if nat_eq index 8 then codes "UnregistrationReject"
    else if nat_eq index 9 then codes "AdmissionRequest"
    else if nat_eq index 10 then codes "AdmissionConfirm"
    else if nat_eq index 11 then codes "AdmissionReject"
    else if nat_eq index 12 then codes "BandwidthRequest"
    else if nat_eq index 13 then codes "BandwidthConfirm"
    else if nat_eq index 14 then codes "BandwidthReject"
    else if nat_eq index 15 then codes "DisengageRequest"
    else if nat_eq index 16 then codes "DisengageConfirm"
    else if nat_eq index 17 then codes "DisengageReject"
    else if nat_eq index 18 then codes "LocationRequest"
    else if nat_eq index 19 then codes "LocationConfirm"
    else if nat_eq index 20 then codes "LocationReject"
    else if nat_eq index 21 then codes "InfoRequest"
    else if nat_eq index 22 then codes "InfoRequestResponse"
    else if nat_eq index 23 then codes "NonStandardMessage"
    else if nat_eq index 24 then codes "UnknownMessageResponse"
    else codes "a message without a name"

-- the alternative behind the extension marker with this index
abbrev pub later_name : ℕ → List ℕ
later_name index =
    if nat_eq index 0 then codes "RequestInProgress"
    else if nat_eq index 1 then codes "ResourcesAvailableIndicate"
    else if nat_eq index 2 then codes "ResourcesAvailableConfirm"
    else if nat_eq index 3 then codes "InfoRequestAck"
    else if nat_eq index 4 then codes "InfoRequestNak"
    else if nat_eq index 5 then codes "ServiceControlIndication"
    else if nat_eq index 6 then codes "ServiceControlResponse"
    else if nat_eq index 7 then codes "AdmissionConfirmSequence"
    else codes "a message without a name"

-- The message that an octet begins. Its first bit is set for what stands behind the extension
-- marker: the seven bits behind it are the index there. Else the five behind it are the index.
abbrev pub message_name : ℕ → List ℕ
message_name first =
    if nat_lt first 128 then root_name (first / 4) else later_name (first - 128)

-- whether it can be said up to which octet a fault shows
abbrev pub has_place : ReadFault → Bool
has_place Truncated = false
has_place BadLength = true
has_place Fragmented = true
has_place TooMany = true
has_place BadChoice = true
has_place BadCharacter = true
has_place Memory = true

abbrev pub fault_words : ReadFault → List ℕ
fault_words Truncated = codes "the octets end too early"
fault_words BadLength = codes "a length or a number is outside its range"
fault_words Fragmented = codes "a length is in fragments"
fault_words TooMany = codes "a small number is in its long form"
fault_words BadChoice = codes "an alternative has no such index"
fault_words BadCharacter = codes "a character can't be dialled"
fault_words Memory = codes "out of memory"
