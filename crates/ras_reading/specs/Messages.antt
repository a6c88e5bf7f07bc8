-- All messages of RAS (H.225.0, RasMessage).
use Rattle.std.specs.Prelude.{ℕ, ◌≡◌, ◌≤◌, ◌⊎◌, List, [], ◌∷◌, ◌++◌, Bool, true, false, length}
use Rattle.std.specs.Prelude.{nat_eq, Option, Some, None, Result}
use Rattle.std.specs.List.{list_any}
use Rattle.per_bits.specs.Bits.{bits_of, number}
use Rattle.ras_module.specs.declared.request.Request.{Request}
use Rattle.ras_module.specs.declared.request.Request.TheVariants.{Grq, Rrq, Urq, Arq, Brq, Drq, Irr}
use Rattle.ras_grammar.specs.declared.fault.ReadFault.{ReadFault}
use Rattle.ras_grammar.specs.Grammar.{Grammar, ◌>>=◌, is, boolean, choice_index, either}
use Rattle.ras_grammar.specs.Grammar.{if◌equals◌take◌else◌, value_of}
use Rattle.ras_reading.specs.Requests.{gatekeeper_request, registration_request}
use Rattle.ras_reading.specs.Requests.{unregistration_request, admission_request, bandwidth_request}
use Rattle.ras_reading.specs.Requests.{disengage_request, info_request_response}

-- a message that is served, as the request of its kind
abbrev pub served : {A : Type 0} → (A → Request) → Grammar A → Grammar (Option Request)
served kind message = do
  parts ← message
  is (Some (kind parts))

abbrev pub not_served : Grammar (Option Request)
not_served = is None

-- the messages before the extension marker, by their indexes
abbrev pub root_alternative : ℕ → Grammar (Option Request)
root_alternative index =
    if index equals 0 take served Grq gatekeeper_request
    else if index equals 3 take served Rrq registration_request
    else if index equals 6 take served Urq unregistration_request
    else if index equals 9 take served Arq admission_request
    else if index equals 12 take served Brq bandwidth_request
    else if index equals 15 take served Drq disengage_request
    else if index equals 22 take served Irr info_request_response
    else not_served

abbrev pub root_message : Grammar (Option Request)
root_message = do
  index ← choice_index 24
  root_alternative index

-- RasMessage: a request that is served, or None for any other message. No more is read of the
-- others.
unfoldable pub ras_message : Grammar (Option Request)
ras_message = do
  extended ← boolean
  either extended not_served root_message

-- What octets are read as: a fault, None for a message that is not served, or a request.
unfoldable pub message_reading : List ℕ → Result (Option Request) ReadFault
message_reading octets = value_of (ras_message.reading (bits_of octets))

-- ---- in the words of the encoding

-- A prefix of the bits of the octets encodes the request.
abbrev pub Reads : List ℕ → Request → Type 0
Reads octets request = (front : List Bool) × (rest : List Bool) × (bits_of octets ≡ front ++ rest)
    × ras_message.encodes (Some request) 0 front

-- whether the message of a root index is served: GRQ, RRQ, URQ, ARQ, BRQ, DRQ, IRR
abbrev pub is_served : ℕ → Bool
is_served index = list_any (nat_eq index) (0 ∷ 3 ∷ 6 ∷ 9 ∷ 12 ∷ 15 ∷ 22 ∷ [])

-- The first bit of the octets is 1, or the next five name a root alternative that is not served.
abbrev pub NotServed : List ℕ → Type 0
NotServed octets = (extended : Bool) × (five : List Bool) × (rest : List Bool)
    × (bits_of octets ≡ extended ∷ five ++ rest) × (length five ≡ 5)
    × ((extended ≡ true) ⊎ ((number five ≤ 24) × (is_served (number five) ≡ false)))

-- The octets are no request, and no other message.
abbrev pub IsFaulty : List ℕ → Type 0
IsFaulty octets = ((request : Request) → ¬ Reads octets request) × ¬ NotServed octets
