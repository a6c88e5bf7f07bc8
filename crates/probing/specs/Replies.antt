-- The answers to a discovery (H.225.0), component by component.
use Rattle.std.specs.Prelude.{ℕ, List, true, Result, nat_eq, if◌then◌else◌}
use Rattle.per_bits.specs.Bits.{bits_of}
use Rattle.ras_module.specs.declared.address.Address.{Address}
use Rattle.ras_grammar.specs.declared.fault.ReadFault.{ReadFault}
use Rattle.ras_grammar.specs.declared.fault.ReadFault.TheVariants.{BadChoice}
use Rattle.ras_grammar.specs.Grammar.{Grammar, ◌>>=◌, is, failure, nothing, boolean, whole, small}
use Rattle.ras_grammar.specs.Grammar.{choice_index, open_type, either, if◌equals◌take◌else◌}
use Rattle.ras_grammar.specs.Grammar.{optional, skipped, value_of}
use Rattle.ras_grammar.specs.Sequences.{octet_string, object_identifier, request_seq_num}
use Rattle.ras_grammar.specs.Sequences.{protocol_identifier, identifier}
use Rattle.ras_grammar.specs.Addresses.{ip_address}
use Rattle.probing.specs.declared.reply.Confirm.{Confirm}
use Rattle.probing.specs.declared.reply.DiscoveryReply.{DiscoveryReply}
use Rattle.probing.specs.declared.reply.DiscoveryReply.TheVariants as reply
use Rattle.probing.specs.declared.reply.Reject.{Reject}
use Rattle.probing.specs.declared.reply.RejectReason.{RejectReason}
use Rattle.probing.specs.declared.reply.RejectReason.TheVariants as reason

-- what isn't read
abbrev pub not_read : {A : Type 0} → Grammar A
not_read {A} = failure {A = A} BadChoice

-- H221NonStandard: t35CountryCode, t35Extension, manufacturerCode, and no additions
abbrev pub h221_codes : Grammar (Unit {0})
h221_codes = do
  country ← whole 0 255
  extension ← whole 0 255
  manufacturer ← whole 0 65535
  nothing

abbrev pub h221_identifier : Grammar (Unit {0})
h221_identifier = do
  extended ← boolean
  either extended not_read h221_codes

-- NonStandardIdentifier: object, h221NonStandard
abbrev pub root_identifier : Grammar (Unit {0})
root_identifier = do
  index ← choice_index 1
  if index equals 0 take skipped true object_identifier else h221_identifier

-- NonStandardParameter: nonStandardIdentifier, data
abbrev pub non_standard_data : Grammar (Unit {0})
non_standard_data = do
  extended ← boolean
  who ← either extended not_read root_identifier
  what ← octet_string
  nothing

-- TransportAddress: only an ipAddress
abbrev pub root_address : Grammar Address
root_address = do
  index ← choice_index 6
  if index equals 0 take ip_address else not_read

abbrev pub ras_address : Grammar Address
ras_address = do
  extended ← boolean
  either extended not_read root_address

-- GatekeeperRejectReason: resourceUnavailable, terminalExcluded, invalidRevision, undefinedReason
abbrev pub root_reason : ℕ → RejectReason
root_reason index =
    if nat_eq index 0 then reason.ResourceUnavailable
    else if nat_eq index 1 then reason.TerminalExcluded
    else if nat_eq index 2 then reason.InvalidRevision
    else reason.UndefinedReason

-- behind the extension marker: securityDenial, genericDataReason, neededFeatureNotSupported
abbrev pub later_reason : ℕ → RejectReason
later_reason index =
    if nat_eq index 0 then reason.SecurityDenial
    else if nat_eq index 1 then reason.GenericDataReason
    else if nat_eq index 2 then reason.NeededFeatureNotSupported
    else reason.Later

abbrev pub later_reject_reason : Grammar RejectReason
later_reject_reason = do
  index ← small
  value ← open_type
  is (later_reason index)

abbrev pub root_reject_reason : Grammar RejectReason
root_reject_reason = do
  index ← choice_index 3
  is (root_reason index)

abbrev pub reject_reason : Grammar RejectReason
reject_reason = do
  extended ← boolean
  either extended later_reject_reason root_reject_reason

-- GatekeeperConfirm: requestSeqNum, protocolIdentifier, nonStandardData?, gatekeeperIdentifier?,
-- rasAddress; the additions are not read
unfoldable pub gatekeeper_confirm : Grammar Confirm
gatekeeper_confirm = do
  extended ← boolean
  has_non_standard_data ← boolean
  has_gatekeeper ← boolean
  seq ← request_seq_num
  protocol ← protocol_identifier
  extra ← skipped has_non_standard_data non_standard_data
  gatekeeper ← optional has_gatekeeper identifier
  ras ← ras_address
  is (record { seq = seq; gatekeeper = gatekeeper; ras = ras })

-- GatekeeperReject: requestSeqNum, protocolIdentifier, nonStandardData?, gatekeeperIdentifier?,
-- rejectReason; the additions are not read
unfoldable pub gatekeeper_reject : Grammar Reject
gatekeeper_reject = do
  extended ← boolean
  has_non_standard_data ← boolean
  has_gatekeeper ← boolean
  seq ← request_seq_num
  protocol ← protocol_identifier
  extra ← skipped has_non_standard_data non_standard_data
  gatekeeper ← optional has_gatekeeper identifier
  why ← reject_reason
  is (record { seq = seq; reason = why })

abbrev pub confirm_reply : Grammar DiscoveryReply
confirm_reply = do
  confirm ← gatekeeper_confirm
  is (reply.Confirm confirm)

abbrev pub reject_reply : Grammar DiscoveryReply
reject_reply = do
  reject ← gatekeeper_reject
  is (reply.Reject reject)

-- RasMessage before the extension marker: GatekeeperConfirm, GatekeeperReject; no more is read of
-- the others
abbrev pub root_alternative : ℕ → Grammar DiscoveryReply
root_alternative index =
    if index equals 1 take confirm_reply
    else if index equals 2 take reject_reply
    else is reply.Other

abbrev pub root_reply : Grammar DiscoveryReply
root_reply = do
  index ← choice_index 24
  root_alternative index

-- RasMessage
unfoldable pub discovery_reply : Grammar DiscoveryReply
discovery_reply = do
  extended ← boolean
  either extended (is reply.Other) root_reply

-- What octets are read as: a fault, or an answer to a discovery.
unfoldable pub reply_reading : List ℕ → Result DiscoveryReply ReadFault
reply_reading octets = value_of (discovery_reply.reading (bits_of octets))
