-- Which bits encode the replies of the gatekeeper (H.225.0), component by component, as a
-- decoder takes them.
use Rattle.std.specs.Prelude.{ℕ, Bool, true, Option, Some, None, ◌||◌}
use Rattle.ras_module.specs.declared.address.Address.{Address}
use Rattle.ras_module.specs.declared.reason.GatekeeperRejectReason.{GatekeeperRejectReason}
use Rattle.ras_module.specs.declared.reason.GatekeeperRejectReason.TheVariants as gatekeeper
use Rattle.ras_module.specs.declared.reason.RegistrationRejectReason.{RegistrationRejectReason}
use Rattle.ras_module.specs.declared.reason.RegistrationRejectReason.TheVariants as registration
use Rattle.ras_module.specs.declared.reason.UnregRejectReason.{UnregRejectReason}
use Rattle.ras_module.specs.declared.reason.UnregRejectReason.TheVariants as unreg
use Rattle.ras_module.specs.declared.reason.AdmissionRejectReason.{AdmissionRejectReason}
use Rattle.ras_module.specs.declared.reason.AdmissionRejectReason.TheVariants as admission
use Rattle.ras_module.specs.declared.reason.BandRejectReason.{BandRejectReason}
use Rattle.ras_module.specs.declared.reason.BandRejectReason.TheVariants as band
use Rattle.ras_module.specs.declared.reason.DisengageRejectReason.{DisengageRejectReason}
use Rattle.ras_module.specs.declared.reason.DisengageRejectReason.TheVariants as disengage
use Rattle.ras_module.specs.declared.reply.Reply.{Reply}
use Rattle.ras_module.specs.declared.reply.Reply.TheVariants.{Gcf, Grj, Rcf, Rrj, Ucf, Urj, Acf}
use Rattle.ras_module.specs.declared.reply.Reply.TheVariants.{Arj, Bcf, Brj, Dcf, Drj, Irq, Rip}
use Rattle.ras_grammar.specs.declared.fault.ReadFault.TheVariants.{BadChoice}
use Rattle.ras_grammar.specs.Grammar.{Grammar, is, nothing, failure, small, inside, open_type}
use Rattle.ras_grammar.specs.Grammar.{boolean, whole, choice_index, either, if◌equals◌take◌else◌}
use Rattle.ras_grammar.specs.Grammar.{skipped}
use Rattle.ras_writing.specs.Chain.{◌>>=◌}
use Rattle.ras_grammar.specs.Sequences.{additions, is_present, addition, skipped_addition}
use Rattle.ras_grammar.specs.Sequences.{request_seq_num, call_identifier}
use Rattle.ras_grammar.specs.Sequences.{protocol_identifier, identifier, non_standard_parameter}
use Rattle.ras_grammar.specs.Addresses.{transport_address, address_list}
use Rattle.ras_grammar.specs.Aliases.{alias_list, optional_aliases}
use Rattle.ras_grammar.specs.Sequences.{band_width, call_reference, time_to_live}

-- what is no reply of this gatekeeper
abbrev pub no_reply : {A : Type 0} → Grammar A
no_reply {A} = failure {A = A} BadChoice

abbrev pub required : {A : Type 0} → Bool → Grammar A → Grammar A
required present g = either present g no_reply

abbrev pub only_ip : Option Address → Grammar Address
only_ip (Some address) = is address
only_ip None = no_reply

-- the ipAddress of a TransportAddress
abbrev pub ip_transport_address : Grammar Address
ip_transport_address = do
  address ← transport_address
  only_ip address

-- a root alternative of a CHOICE, by the index of the last one
abbrev pub root_choice : {A : Type 0} → ℕ → (ℕ → Grammar A) → Grammar A
root_choice {A} last alternative = do
  extended ← boolean
  either extended no_reply (do
    index ← choice_index last
    alternative index)

-- ---- the reasons

abbrev pub gatekeeper_reason : ℕ → Grammar GatekeeperRejectReason
gatekeeper_reason index = if index equals 1 take is gatekeeper.TerminalExcluded else no_reply

abbrev pub unreg_reason : ℕ → Grammar UnregRejectReason
unreg_reason index =
    if index equals 0 take is unreg.NotCurrentlyRegistered
    else if index equals 1 take is unreg.CallInProgress
    else no_reply

abbrev pub admission_reason : ℕ → Grammar AdmissionRejectReason
admission_reason index =
    if index equals 0 take is admission.CalledPartyNotRegistered
    else if index equals 2 take is admission.RequestDenied
    else if index equals 6 take is admission.InvalidEndpointIdentifier
    else if index equals 7 take is admission.ResourceUnavailable
    else no_reply

abbrev pub band_reason : ℕ → Grammar BandRejectReason
band_reason index =
    if index equals 0 take is band.NotBound
    else if index equals 1 take is band.InvalidConferenceId
    else if index equals 3 take is band.InsufficientResources
    else no_reply

abbrev pub disengage_reason : ℕ → Grammar DisengageRejectReason
disengage_reason index =
    if index equals 0 take is disengage.NotRegistered
    else if index equals 1 take is disengage.RequestToDropOther
    else no_reply

-- ---- the messages

-- GatekeeperConfirm; that of this gatekeeper has its gatekeeperIdentifier
unfoldable pub gatekeeper_confirm : Grammar Reply
gatekeeper_confirm = do
  extended ← boolean
  has_non_standard_data ← boolean
  has_gatekeeper ← boolean
  seq ← request_seq_num
  protocol ← protocol_identifier
  non_standard_data ← skipped has_non_standard_data non_standard_parameter
  gatekeeper ← required has_gatekeeper identifier
  ras ← ip_transport_address
  is (Gcf (record { seq = seq; gatekeeper = gatekeeper; ras = ras }))

-- GatekeeperReject
unfoldable pub gatekeeper_reject : Grammar Reply
gatekeeper_reject = do
  extended ← boolean
  has_non_standard_data ← boolean
  has_gatekeeper ← boolean
  seq ← request_seq_num
  protocol ← protocol_identifier
  non_standard_data ← skipped has_non_standard_data non_standard_parameter
  gatekeeper ← skipped has_gatekeeper identifier
  reason ← root_choice 3 gatekeeper_reason
  is (Grj seq reason)

-- DuplicateAlias's aliases
abbrev pub alias_reason : Grammar RegistrationRejectReason
alias_reason = do
  held ← alias_list
  is (registration.DuplicateAlias held)

-- the reasons before the extension marker
abbrev pub registration_reason : ℕ → Grammar RegistrationRejectReason
registration_reason index =
    if index equals 0 take is registration.DiscoveryRequired
    else if index equals 2 take is registration.InvalidCallSignalAddress
    else if index equals 3 take is registration.InvalidRasAddress
    else if index equals 4 take alias_reason
    else no_reply

-- the reasons after it
abbrev pub later_reason : ℕ → Grammar RegistrationRejectReason
later_reason index =
    if index equals 1 take is registration.ResourceUnavailable
    else if index equals 4 take is registration.FullRegistrationRequired
    else no_reply

-- RegistrationRejectReason
unfoldable pub registration_reject_reason : Grammar RegistrationRejectReason
registration_reject_reason = do
  extended ← boolean
  either extended (do
    index ← small
    null ← skipped true open_type
    later_reason index) (do
      index ← choice_index 7
      registration_reason index)

-- RegistrationConfirm; that of this gatekeeper has its gatekeeperIdentifier and a timeToLive
unfoldable pub registration_confirm : Grammar Reply
registration_confirm = do
  extended ← boolean
  has_non_standard_data ← boolean
  has_aliases ← boolean
  has_gatekeeper ← boolean
  seq ← request_seq_num
  protocol ← protocol_identifier
  non_standard_data ← skipped has_non_standard_data non_standard_parameter
  first ← address_list
  call_signal ← only_ip first
  aliases ← optional_aliases has_aliases
  gatekeeper ← required has_gatekeeper identifier
  endpoint ← identifier
  present ← additions extended
  addition_0 ← skipped_addition present 0
  granted ← required (is_present present 1) (inside time_to_live)
  addition_2 ← skipped_addition present 2
  addition_3 ← skipped_addition present 3
  addition_4 ← skipped_addition present 4
  will_respond_to_irr ← addition present 5 boolean
  is (Rcf (record {
    seq = seq;
    call_signal = call_signal;
    aliases = aliases;
    gatekeeper = gatekeeper;
    endpoint = endpoint;
    granted = granted;
  }))

-- RegistrationReject
unfoldable pub registration_reject : Grammar Reply
registration_reject = do
  extended ← boolean
  has_non_standard_data ← boolean
  has_gatekeeper ← boolean
  seq ← request_seq_num
  protocol ← protocol_identifier
  non_standard_data ← skipped has_non_standard_data non_standard_parameter
  reason ← registration_reject_reason
  gatekeeper ← skipped has_gatekeeper identifier
  is (Rrj seq reason)

-- UnregistrationConfirm
unfoldable pub unregistration_confirm : Grammar Reply
unregistration_confirm = do
  extended ← boolean
  has_non_standard_data ← boolean
  seq ← request_seq_num
  non_standard_data ← skipped has_non_standard_data non_standard_parameter
  is (Ucf seq)

-- UnregistrationReject
unfoldable pub unregistration_reject : Grammar Reply
unregistration_reject = do
  extended ← boolean
  has_non_standard_data ← boolean
  seq ← request_seq_num
  reason ← root_choice 2 unreg_reason
  non_standard_data ← skipped has_non_standard_data non_standard_parameter
  is (Urj seq reason)

-- AdmissionReject
unfoldable pub admission_reject : Grammar Reply
admission_reject = do
  extended ← boolean
  has_non_standard_data ← boolean
  seq ← request_seq_num
  reason ← root_choice 7 admission_reason
  non_standard_data ← skipped has_non_standard_data non_standard_parameter
  is (Arj seq reason)

-- BandwidthConfirm
unfoldable pub bandwidth_confirm : Grammar Reply
bandwidth_confirm = do
  extended ← boolean
  has_non_standard_data ← boolean
  seq ← request_seq_num
  units ← band_width
  non_standard_data ← skipped has_non_standard_data non_standard_parameter
  is (Bcf seq units)

-- BandwidthReject
unfoldable pub bandwidth_reject : Grammar Reply
bandwidth_reject = do
  extended ← boolean
  has_non_standard_data ← boolean
  seq ← request_seq_num
  reason ← root_choice 5 band_reason
  allowed ← band_width
  non_standard_data ← skipped has_non_standard_data non_standard_parameter
  is (Brj seq reason allowed)

-- DisengageConfirm
unfoldable pub disengage_confirm : Grammar Reply
disengage_confirm = do
  extended ← boolean
  has_non_standard_data ← boolean
  seq ← request_seq_num
  non_standard_data ← skipped has_non_standard_data non_standard_parameter
  is (Dcf seq)

-- DisengageReject
unfoldable pub disengage_reject : Grammar Reply
disengage_reject = do
  extended ← boolean
  has_non_standard_data ← boolean
  seq ← request_seq_num
  reason ← root_choice 1 disengage_reason
  non_standard_data ← skipped has_non_standard_data non_standard_parameter
  is (Drj seq reason)

-- CallModel: only direct
abbrev pub call_model : ℕ → Grammar (Unit {0})
call_model index = if index equals 0 take nothing else no_reply

-- UUIEsRequested: nine BOOLEANs; no more of its open type is read
unfoldable pub uuies_requested : Grammar (Unit {0})
uuies_requested = do
  extended ← boolean
  setup ← boolean
  call_proceeding ← boolean
  connect ← boolean
  alerting ← boolean
  information ← boolean
  release_complete ← boolean
  facility ← boolean
  progress ← boolean
  empty ← boolean
  nothing

-- AdmissionConfirm: requestSeqNum, bandWidth, callModel, destCallSignalAddress, irrFrequency?,
-- nonStandardData?; additions up
-- to 10
unfoldable pub admission_confirm : Grammar Reply
admission_confirm = do
  extended ← boolean
  has_irr_frequency ← boolean
  has_non_standard_data ← boolean
  seq ← request_seq_num
  units ← band_width
  model ← root_choice 1 call_model
  dest ← ip_transport_address
  irr_frequency ← skipped has_irr_frequency (whole 1 65535)
  non_standard_data ← skipped has_non_standard_data non_standard_parameter
  present ← additions extended
  addition_0 ← skipped_addition present 0
  addition_1 ← skipped_addition present 1
  addition_2 ← skipped_addition present 2
  addition_3 ← skipped_addition present 3
  addition_4 ← skipped_addition present 4
  addition_5 ← skipped_addition present 5
  addition_6 ← skipped_addition present 6
  addition_7 ← skipped_addition present 7
  addition_8 ← skipped_addition present 8
  will_respond_to_irr ← addition present 9 boolean
  uuies ← addition present 10 uuies_requested
  is (Acf seq units dest)

-- InfoRequest: requestSeqNum, callReferenceValue, nonStandardData?, replyAddress?; addition 0
-- callIdentifier
unfoldable pub info_request : Grammar Reply
info_request = do
  extended ← boolean
  has_non_standard_data ← boolean
  has_reply_address ← boolean
  seq ← request_seq_num
  reference ← call_reference
  non_standard_data ← skipped has_non_standard_data non_standard_parameter
  reply_address ← skipped has_reply_address transport_address
  present ← additions extended
  guid ← addition present 0 call_identifier
  is (Irq seq)

-- RequestInProgress: requestSeqNum, nonStandardData?, tokens?, cryptoTokens?, integrityCheckValue?,
-- delay; with tokens or a check value it is no reply of this gatekeeper
unfoldable pub request_in_progress : Grammar Reply
request_in_progress = do
  extended ← boolean
  has_non_standard_data ← boolean
  has_tokens ← boolean
  has_crypto_tokens ← boolean
  has_check_value ← boolean
  seq ← request_seq_num
  non_standard_data ← skipped has_non_standard_data non_standard_parameter
  tokens ← either (has_tokens || has_crypto_tokens || has_check_value) no_reply nothing
  delay ← whole 1 65535
  is (Rip seq delay)

abbrev pub root_reply : ℕ → Grammar Reply
root_reply index =
    if index equals 1 take gatekeeper_confirm
    else if index equals 2 take gatekeeper_reject
    else if index equals 4 take registration_confirm
    else if index equals 5 take registration_reject
    else if index equals 7 take unregistration_confirm
    else if index equals 8 take unregistration_reject
    else if index equals 10 take admission_confirm
    else if index equals 11 take admission_reject
    else if index equals 13 take bandwidth_confirm
    else if index equals 14 take bandwidth_reject
    else if index equals 16 take disengage_confirm
    else if index equals 17 take disengage_reject
    else if index equals 21 take info_request
    else no_reply

-- the messages after the extension marker, by their indexes there
abbrev pub later_reply : Grammar Reply
later_reply = do
  index ← small
  if index equals 0 take inside request_in_progress else no_reply

abbrev pub earlier_reply : Grammar Reply
earlier_reply = do
  index ← choice_index 24
  root_reply index

-- RasMessage
unfoldable pub reply_message : Grammar Reply
reply_message = do
  extended ← boolean
  either extended later_reply earlier_reply
