-- The replies of the gatekeeper (H.225.0), component by component.
use Rattle.std.specs.Prelude.{ℕ, ◌+◌, ◌-◌, List, [], ◌∷◌, ◌++◌, Bool, true, false, length}
use Rattle.std.specs.Prelude.{replicate, nat_eq, if◌then◌else◌}
use Rattle.ras_module.specs.declared.address.Address.{Address}
use Rattle.ras_module.specs.declared.reason.GatekeeperRejectReason.{GatekeeperRejectReason}
use Rattle.ras_module.specs.declared.reason.GatekeeperRejectReason.TheVariants as gatekeeper
use Rattle.ras_module.specs.declared.alias.Alias.{Alias}
use Rattle.ras_module.specs.declared.alias.Alias.TheVariants.{Digits, H323Id}
use Rattle.ras_module.specs.declared.reason.RegistrationRejectReason.{RegistrationRejectReason}
use Rattle.ras_module.specs.declared.reason.RegistrationRejectReason.TheVariants as registration
use Rattle.ras_module.specs.declared.reason.UnregRejectReason.{UnregRejectReason}
use Rattle.ras_module.specs.declared.reason.UnregRejectReason.TheVariants as unreg
use Rattle.ras_module.specs.declared.reason.AdmissionRejectReason.{AdmissionRejectReason}
use Rattle.ras_module.specs.declared.reason.AdmissionRejectReason.TheVariants as admission
use Rattle.ras_module.specs.declared.reason.BandRejectReason.{BandRejectReason}
use Rattle.ras_module.specs.declared.reason.BandRejectReason.TheVariants as band
use Rattle.ras_module.specs.declared.reason.DisengageRejectReason.{DisengageRejectReason}
use Rattle.ras_module.specs.declared.reason.DisengageRejectReason.TheVariants as disengage
use Rattle.ras_module.specs.declared.reply.Reply.{Reply}
use Rattle.ras_module.specs.declared.reply.Reply.TheVariants.{Gcf, Grj, Rcf, Rrj, Ucf, Urj, Acf}
use Rattle.ras_module.specs.declared.reply.Reply.TheVariants.{Arj, Bcf, Brj, Dcf, Drj, Irq, Rip}
use Rattle.per_bits.specs.Bits.{octets_for}
use Rattle.ras_writing.specs.Encoding.{Encoding, in_order, padded_octets, boolean, align, bits}
use Rattle.ras_writing.specs.Encoding.{whole, size, small, octets}

-- ---- what many messages share

-- RasMessage: a message before the extension marker, by its index
abbrev pub root_message : ℕ → List Encoding
root_message index = boolean false ∷ whole 0 24 index ∷ []

abbrev pub request_seq_num : ℕ → Encoding
request_seq_num seq = whole 1 65535 seq

-- ProtocolIdentifier {itu-t (0) recommendation (0) h (8) 2250 version (0) 2}
unfoldable pub protocol_identifier : List Encoding
protocol_identifier = size 6 ∷ octets (0 ∷ 8 ∷ 145 ∷ 74 ∷ 0 ∷ 2 ∷ []) ∷ []

abbrev pub characters : List ℕ → List Encoding
characters [] = []
characters (character ∷ others) = bits 16 character ∷ characters others

-- BMPString (SIZE(1..most))
abbrev pub bmp_string : ℕ → List ℕ → List Encoding
bmp_string most text = whole 1 most (length text) ∷ align ∷ characters text

-- GatekeeperIdentifier, EndpointIdentifier
unfoldable pub identifier : List ℕ → List Encoding
identifier text = bmp_string 128 text

-- TransportAddress: ipAddress
unfoldable pub transport_address : Address → List Encoding
transport_address address = boolean false ∷ whole 0 6 0 ∷ octets address.ip ∷ whole 0 65535
    address.port ∷ []

-- the code of a character that may be dialled, in the order of the permitted alphabet: # * , 0 to 9
abbrev pub digit_code : ℕ → ℕ
digit_code character =
    if nat_eq character 35 then 0
    else if nat_eq character 42 then 1
    else if nat_eq character 44 then 2
    else character - 45

abbrev pub digits : List ℕ → List Encoding
digits [] = []
digits (character ∷ others) = bits 4 (digit_code character) ∷ digits others

-- AliasAddress: dialledDigits, h323-ID
unfoldable pub alias_address : Alias → List Encoding
alias_address (Digits text) = boolean false ∷ whole 0 1 0 ∷ whole 1 128
    (length text) ∷ align ∷ digits text
alias_address (H323Id text) = boolean false ∷ whole 0 1 1 ∷ bmp_string 256 text

abbrev pub alias_addresses : List Alias → List Encoding
alias_addresses [] = []
alias_addresses (alias ∷ others) = alias_address alias ++ alias_addresses others

-- SEQUENCE OF AliasAddress
abbrev pub alias_list : List Alias → List Encoding
alias_list aliases = size (length aliases) ∷ alias_addresses aliases

-- BandWidth, in units of 100 bit/s
abbrev pub band_width : ℕ → Encoding
band_width units = whole 0 4294967295 units

-- a root alternative of a CHOICE of NULLs, by the index of the last one and its own
abbrev pub null_choice : ℕ → ℕ → List Encoding
null_choice last index = boolean false ∷ whole 0 last index ∷ []

-- an open type of one octet 0: a NULL, or a BOOLEAN that is false
abbrev pub zero_octet : List Encoding
zero_octet = size 1 ∷ octets (0 ∷ []) ∷ []

-- an alternative after the extension marker that is a NULL, by its index there
abbrev pub null_extension : ℕ → List Encoding
null_extension index = boolean true ∷ small index ∷ zero_octet

-- ---- the reasons

abbrev pub gatekeeper_reason : GatekeeperRejectReason → ℕ
gatekeeper_reason gatekeeper.TerminalExcluded = 1

unfoldable pub registration_reason : RegistrationRejectReason → List Encoding
registration_reason registration.DiscoveryRequired = null_choice 7 0
registration_reason registration.InvalidCallSignalAddress = null_choice 7 2
registration_reason registration.InvalidRasAddress = null_choice 7 3
registration_reason (registration.DuplicateAlias held) = null_choice 7 4 ++ alias_list held
registration_reason registration.ResourceUnavailable = null_extension 1
registration_reason registration.FullRegistrationRequired = null_extension 4

-- the aliases that a reason names
abbrev pub held_in : RegistrationRejectReason → List Alias
held_in (registration.DuplicateAlias held) = held
held_in other = []

abbrev pub unreg_reason : UnregRejectReason → ℕ
unreg_reason unreg.NotCurrentlyRegistered = 0
unreg_reason unreg.CallInProgress = 1

abbrev pub admission_reason : AdmissionRejectReason → ℕ
admission_reason admission.CalledPartyNotRegistered = 0
admission_reason admission.RequestDenied = 2
admission_reason admission.InvalidEndpointIdentifier = 6
admission_reason admission.ResourceUnavailable = 7

abbrev pub band_reason : BandRejectReason → ℕ
band_reason band.NotBound = 0
band_reason band.InvalidConferenceId = 1
band_reason band.InsufficientResources = 3

abbrev pub disengage_reason : DisengageRejectReason → ℕ
disengage_reason disengage.NotRegistered = 0
disengage_reason disengage.RequestToDropOther = 1

-- ---- the messages

abbrev pub has_aliases : List Alias → Bool
has_aliases [] = false
has_aliases (first ∷ others) = true

-- terminalAlias, if there are aliases
unfoldable pub terminal_alias : List Alias → List Encoding
terminal_alias [] = []
terminal_alias (first ∷ others) = alias_list (first ∷ others)

-- the octets of a TimeToLive
abbrev pub time_to_live_octets : ℕ → ℕ
time_to_live_octets seconds = 1 + octets_for (seconds - 1)

unfoldable pub registration_confirm_additions : ℕ → List Encoding
registration_confirm_additions granted =
    small 5 ∷ bits 6 17
    ∷ size (time_to_live_octets granted) ∷ whole 1 4294967295 granted
    ∷ zero_octet

-- GatekeeperConfirm: requestSeqNum, protocolIdentifier, nonStandardData?, gatekeeperIdentifier?,
-- rasAddress
unfoldable pub gatekeeper_confirm : ℕ → List ℕ → Address → List Encoding
gatekeeper_confirm seq gatekeeper ras =
    root_message 1
    ++ boolean false ∷ boolean false ∷ boolean true
    ∷ request_seq_num seq
    ∷ protocol_identifier
    ++ (identifier gatekeeper ++ transport_address ras)

-- GatekeeperReject: requestSeqNum, protocolIdentifier, nonStandardData?, gatekeeperIdentifier?,
-- rejectReason
unfoldable pub gatekeeper_reject : ℕ → GatekeeperRejectReason → List Encoding
gatekeeper_reject seq reason =
    root_message 2
    ++ boolean false ∷ boolean false ∷ boolean false
    ∷ request_seq_num seq
    ∷ protocol_identifier
    ++ null_choice 3 (gatekeeper_reason reason)

unfoldable pub registration_confirm_front : ℕ → Address → Bool → List Encoding
registration_confirm_front seq call_signal has_aliases =
    root_message 4
    ++ boolean true ∷ boolean false ∷ boolean has_aliases ∷ boolean true
    ∷ request_seq_num seq
    ∷ protocol_identifier
    ++ size 1 ∷ transport_address call_signal

-- RegistrationConfirm: requestSeqNum, protocolIdentifier, nonStandardData?, callSignalAddress,
-- terminalAlias?,
-- gatekeeperIdentifier?, endpointIdentifier; additions 1 timeToLive, 5 willRespondToIRR
unfoldable pub registration_confirm : ℕ → Address → List Alias → List ℕ → List ℕ → ℕ → List Encoding
registration_confirm seq call_signal aliases gatekeeper endpoint granted =
    registration_confirm_front seq call_signal (has_aliases aliases)
    ++ (terminal_alias aliases
    ++ (identifier gatekeeper
    ++ (identifier endpoint
    ++ registration_confirm_additions granted)))

-- RegistrationReject: requestSeqNum, protocolIdentifier, nonStandardData?, rejectReason,
-- gatekeeperIdentifier?
unfoldable pub registration_reject : ℕ → RegistrationRejectReason → List Encoding
registration_reject seq reason =
    root_message 5
    ++ boolean false ∷ boolean false ∷ boolean false
    ∷ request_seq_num seq
    ∷ protocol_identifier
    ++ registration_reason reason

-- UnregistrationConfirm: requestSeqNum, nonStandardData?
unfoldable pub unregistration_confirm : ℕ → List Encoding
unregistration_confirm seq =
    root_message 7
    ++ boolean false ∷ boolean false
    ∷ request_seq_num seq ∷ []

-- UnregistrationReject: requestSeqNum, rejectReason, nonStandardData?
unfoldable pub unregistration_reject : ℕ → UnregRejectReason → List Encoding
unregistration_reject seq reason =
    root_message 8
    ++ boolean false ∷ boolean false
    ∷ request_seq_num seq
    ∷ null_choice 2 (unreg_reason reason)

-- AdmissionConfirm: requestSeqNum, bandWidth, callModel (direct), destCallSignalAddress,
-- irrFrequency?,
-- nonStandardData?; additions 9 willRespondToIRR, 10 uuiesRequested (nine BOOLEANs)
unfoldable pub admission_confirm_additions : List Encoding
admission_confirm_additions = small 10 ∷ bits 11 3 ∷ zero_octet ++ size 2 ∷ octets (0 ∷ 0 ∷ []) ∷ []

unfoldable pub admission_confirm : ℕ → ℕ → Address → List Encoding
admission_confirm seq units dest =
    root_message 10
    ++ boolean true ∷ boolean false ∷ boolean false
    ∷ request_seq_num seq
    ∷ band_width units
    ∷ null_choice 1 0
    ++ transport_address dest
    ++ admission_confirm_additions

-- AdmissionReject: requestSeqNum, rejectReason, nonStandardData?
unfoldable pub admission_reject : ℕ → AdmissionRejectReason → List Encoding
admission_reject seq reason =
    root_message 11
    ++ boolean false ∷ boolean false
    ∷ request_seq_num seq
    ∷ null_choice 7 (admission_reason reason)

-- BandwidthConfirm: requestSeqNum, bandWidth, nonStandardData?
unfoldable pub bandwidth_confirm : ℕ → ℕ → List Encoding
bandwidth_confirm seq units =
    root_message 13
    ++ boolean false ∷ boolean false
    ∷ request_seq_num seq
    ∷ band_width units ∷ []

-- BandwidthReject: requestSeqNum, rejectReason, allowedBandWidth, nonStandardData?
unfoldable pub bandwidth_reject : ℕ → BandRejectReason → ℕ → List Encoding
bandwidth_reject seq reason allowed =
    root_message 14
    ++ boolean false ∷ boolean false
    ∷ request_seq_num seq
    ∷ null_choice 5 (band_reason reason)
    ++ band_width allowed ∷ []

-- DisengageConfirm: requestSeqNum, nonStandardData?
unfoldable pub disengage_confirm : ℕ → List Encoding
disengage_confirm seq =
    root_message 16
    ++ boolean false ∷ boolean false
    ∷ request_seq_num seq ∷ []

-- DisengageReject: requestSeqNum, rejectReason, nonStandardData?
unfoldable pub disengage_reject : ℕ → DisengageRejectReason → List Encoding
disengage_reject seq reason =
    root_message 17
    ++ boolean false ∷ boolean false
    ∷ request_seq_num seq
    ∷ null_choice 1 (disengage_reason reason)

-- InfoRequest: requestSeqNum, callReferenceValue (0: all calls), nonStandardData?,
-- replyAddress?; addition 0 callIdentifier,
-- an open type of 17 octets: its extension bit, and the 16 octets of its guid
unfoldable pub info_request : ℕ → List Encoding
info_request seq =
    root_message 21
    ++ boolean true ∷ boolean false ∷ boolean false
    ∷ request_seq_num seq
    ∷ whole 0 65535 0
    ∷ small 0 ∷ boolean true
    ∷ size 17 ∷ boolean false ∷ octets (replicate 16 0) ∷ []

-- RequestInProgress: requestSeqNum, nonStandardData?, tokens?, cryptoTokens?, integrityCheckValue?,
-- delay. It is the first message after the extension marker, and so an open type, of 5 octets.
unfoldable pub request_in_progress : ℕ → ℕ → List Encoding
request_in_progress seq delay =
    boolean true ∷ small 0 ∷ size 5
    ∷ boolean false ∷ boolean false ∷ boolean false ∷ boolean false ∷ boolean false
    ∷ request_seq_num seq
    ∷ whole 1 65535 delay ∷ []

abbrev pub components : Reply → List Encoding
components (Gcf confirm) = gatekeeper_confirm confirm.seq confirm.gatekeeper confirm.ras
components (Grj seq reason) = gatekeeper_reject seq reason
components (Rcf confirm) =
    registration_confirm confirm.seq confirm.call_signal confirm.aliases confirm.gatekeeper
    confirm.endpoint confirm.granted
components (Rrj seq reason) = registration_reject seq reason
components (Ucf seq) = unregistration_confirm seq
components (Urj seq reason) = unregistration_reject seq reason
components (Acf seq units dest) = admission_confirm seq units dest
components (Arj seq reason) = admission_reject seq reason
components (Bcf seq units) = bandwidth_confirm seq units
components (Brj seq reason allowed) = bandwidth_reject seq reason allowed
components (Dcf seq) = disengage_confirm seq
components (Drj seq reason) = disengage_reject seq reason
components (Irq seq) = info_request seq
components (Rip seq delay) = request_in_progress seq delay

-- The octets of a reply: its components one after another, the last octet padded with zeros.
unfoldable pub encoding_of : Reply → List ℕ
encoding_of reply = padded_octets (in_order (components reply) 0)
