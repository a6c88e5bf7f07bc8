-- What octets are, in words.
use Rattle.std.specs.Prelude.{ℕ, List, ◌++◌, length, codes, get_or, Option, Some, None}
use Rattle.std.specs.Prelude.{Result, Ok, Err, nat_lt, if◌then◌else◌}
use Rattle.ras_module.specs.declared.request.Request.{Request}
use Rattle.ras_module.specs.declared.request.TheConstants.Request as request_octets
use Rattle.ras_grammar.specs.declared.fault.ReadFault.{ReadFault}
use Rattle.ras_reading.specs.Messages.{message_reading}
use Rattle.explaining.specs.Names.{fault_words, has_place, message_name}
use Rattle.explaining.specs.Parts.{with_number}
use Rattle.explaining.specs.Places.{place_of}
use Rattle.explaining.specs.Requests.{with_request}

abbrev pub with_length : List ℕ → ℕ → List ℕ
with_length text octets = with_number text (codes "too long: ") octets ++ codes " octets"

-- a message that isn't served
abbrev pub with_name : List ℕ → List ℕ → List ℕ
with_name text octets = text ++ codes "not served: " ++ message_name (get_or octets 0 0)

abbrev pub with_place : List ℕ → ℕ → List ℕ
with_place text place = with_number text (codes "unreadable: octet ") place ++ codes ": "

-- a fault: up to which octet it shows, and what is wrong
unfoldable pub with_placed_fault : List ℕ → List ℕ → ReadFault → List ℕ
with_placed_fault text octets fault =
    with_place text (place_of octets fault) ++ fault_words fault

-- the same, without the octet if it can't be said
abbrev pub with_fault : List ℕ → List ℕ → ReadFault → List ℕ
with_fault text octets fault =
    if has_place fault then with_placed_fault text octets fault
    else text ++ codes "unreadable: " ++ fault_words fault

-- what octets are read as
abbrev pub with_reading : List ℕ → List ℕ → Result (Option Request) ReadFault → List ℕ
with_reading text octets (Ok (Some request)) = with_request text request
with_reading text octets (Ok None) = with_name text octets
with_reading text octets (Err fault) = with_fault text octets fault

-- what octets are
abbrev pub with_message : List ℕ → List ℕ → List ℕ
with_message text octets =
    if nat_lt request_octets.MOST (length octets) then with_length text (length octets)
    else with_reading text octets (message_reading octets)
