-- The requests of endpoints (H.225.0), component by component.
use Rattle.std.specs.Prelude.{ℕ, List, Bool, false, Option, Some, None, nat_eq, unwrap_or}
use Rattle.std.specs.Prelude.{if◌then◌else◌}
use Rattle.std.specs.List.{list_all}
use Rattle.ras_module.specs.declared.call_key.CallKey.{CallKey}
use Rattle.ras_module.specs.declared.request.GatekeeperRequest.{GatekeeperRequest}
use Rattle.ras_module.specs.declared.request.RegistrationRequest.{RegistrationRequest}
use Rattle.ras_module.specs.declared.request.UnregistrationRequest.{UnregistrationRequest}
use Rattle.ras_module.specs.declared.request.AdmissionRequest.{AdmissionRequest}
use Rattle.ras_module.specs.declared.request.BandwidthRequest.{BandwidthRequest}
use Rattle.ras_module.specs.declared.request.DisengageRequest.{DisengageRequest}
use Rattle.ras_module.specs.declared.request.InfoRequestResponse.{InfoRequestResponse}
use Rattle.ras_reading.specs.declared.request.RegistrationAdditions.{RegistrationAdditions}
use Rattle.ras_reading.specs.declared.request.AdmissionPreamble.{AdmissionPreamble}
use Rattle.ras_grammar.specs.Grammar.{Grammar, ◌>>=◌, is, boolean, optional, skipped}
use Rattle.ras_grammar.specs.Sequences.{null_choice, additions, addition, skipped_addition}
use Rattle.ras_grammar.specs.Sequences.{skipped_additions, request_seq_num, protocol_identifier}
use Rattle.ras_grammar.specs.Sequences.{identifier, non_standard_parameter, band_width}
use Rattle.ras_grammar.specs.Sequences.{call_reference, conference_identifier, call_identifier}
use Rattle.ras_grammar.specs.Sequences.{time_to_live}
use Rattle.ras_grammar.specs.Addresses.{transport_address, optional_address, address_list}
use Rattle.ras_grammar.specs.Aliases.{skipped_aliases, optional_aliases}
use Rattle.ras_reading.specs.EndpointTypes.{vendor_identifier, endpoint_type}

-- ---- what many requests share

-- CallType: pointToPoint, oneToN, nToOne, nToN
unfoldable pub call_type : Grammar (Unit {0})
call_type = null_choice 3

-- DisengageReason: forcedDrop, normalDrop, undefinedReason
unfoldable pub disengage_reason : Grammar (Unit {0})
disengage_reason = null_choice 2

-- The key of a call: its callIdentifier if it is there and not all zero, else its conferenceID.
abbrev pub call_key : List ℕ → Option (List ℕ) → CallKey
call_key conference None = record { octets = conference }
call_key conference (Some guid) = record {
  octets = if list_all (λ octet. nat_eq octet 0) guid then conference else guid;
}

-- CallModel: direct, gatekeeperRouted
unfoldable pub call_model : Grammar (Unit {0})
call_model = null_choice 1

-- Q954Details: two BOOLEANs
unfoldable pub q954_details : Grammar (Unit {0})
q954_details = do
  extended ← boolean
  conference_calling ← boolean
  three_party_service ← boolean
  skipped_additions extended

-- QseriesOptions: q932Full, q951Full, q952Full, q953Full, q955Full, q956Full, q957Full, q954Info
unfoldable pub qseries_options : Grammar (Unit {0})
qseries_options = do
  extended ← boolean
  q932 ← boolean
  q951 ← boolean
  q952 ← boolean
  q953 ← boolean
  q955 ← boolean
  q956 ← boolean
  q957 ← boolean
  q954 ← q954_details
  skipped_additions extended

-- ---- the messages

-- GatekeeperRequest: requestSeqNum, protocolIdentifier, nonStandardData?, rasAddress, endpointType,
-- gatekeeperIdentifier?; callServices?, endpointAlias? and the additions are not read
unfoldable pub gatekeeper_request : Grammar GatekeeperRequest
gatekeeper_request = do
  extended ← boolean
  has_non_standard_data ← boolean
  has_gatekeeper ← boolean
  has_call_services ← boolean
  has_endpoint_alias ← boolean
  seq ← request_seq_num
  protocol ← protocol_identifier
  non_standard_data ← skipped has_non_standard_data non_standard_parameter
  ras ← transport_address
  type_of_endpoint ← endpoint_type
  gatekeeper ← optional has_gatekeeper identifier
  is (record { seq = seq; gatekeeper = gatekeeper })

-- The additions of a RegistrationRequest: 1 timeToLive, 5 keepAlive, 6 endpointIdentifier
unfoldable pub registration_additions : Bool → Grammar RegistrationAdditions
registration_additions extended = do
  present ← additions extended
  addition_0 ← skipped_addition present 0
  time_to_live ← addition present 1 time_to_live
  addition_2 ← skipped_addition present 2
  addition_3 ← skipped_addition present 3
  addition_4 ← skipped_addition present 4
  keep_alive ← addition present 5 boolean
  endpoint ← addition present 6 identifier
  is (record {
    time_to_live = time_to_live;
    keep_alive = unwrap_or keep_alive false;
    endpoint = endpoint;
  })

-- RegistrationRequest: requestSeqNum, protocolIdentifier, nonStandardData?, discoveryComplete,
-- callSignalAddress,
-- rasAddress, terminalType, terminalAlias?, gatekeeperIdentifier?, endpointVendor; additions
unfoldable pub registration_request : Grammar RegistrationRequest
registration_request = do
  extended ← boolean
  has_non_standard_data ← boolean
  has_aliases ← boolean
  has_gatekeeper ← boolean
  seq ← request_seq_num
  protocol ← protocol_identifier
  non_standard_data ← skipped has_non_standard_data non_standard_parameter
  discovery_complete ← boolean
  call_signal ← address_list
  ras ← address_list
  terminal ← endpoint_type
  aliases ← optional_aliases has_aliases
  gatekeeper ← optional has_gatekeeper identifier
  vendor ← vendor_identifier
  more ← registration_additions extended
  is (record {
    seq = seq;
    call_signal = call_signal;
    ras = ras;
    aliases = aliases;
    gatekeeper = gatekeeper;
    time_to_live = more.time_to_live;
    keep_alive = more.keep_alive;
    endpoint = more.endpoint;
  })

-- UnregistrationRequest: requestSeqNum, callSignalAddress, endpointAlias?, nonStandardData?,
-- endpointIdentifier?; the
-- additions are not read
unfoldable pub unregistration_request : Grammar UnregistrationRequest
unregistration_request = do
  extended ← boolean
  has_aliases ← boolean
  has_non_standard_data ← boolean
  has_endpoint ← boolean
  seq ← request_seq_num
  call_signal ← address_list
  aliases ← skipped has_aliases skipped_aliases
  non_standard_data ← skipped has_non_standard_data non_standard_parameter
  endpoint ← optional has_endpoint identifier
  is (record { seq = seq; call_signal = call_signal; endpoint = endpoint })

-- The extension bit of an AdmissionRequest, and which of its components are there
unfoldable pub admission_preamble : Grammar AdmissionPreamble
admission_preamble = do
  extended ← boolean
  has_call_model ← boolean
  has_dest ← boolean
  has_dest_address ← boolean
  has_dest_extra ← boolean
  has_src_address ← boolean
  has_non_standard_data ← boolean
  has_call_services ← boolean
  is (record {
    extended = extended;
    has_call_model = has_call_model;
    has_dest = has_dest;
    has_dest_address = has_dest_address;
    has_dest_extra = has_dest_extra;
    has_src_address = has_src_address;
    has_non_standard_data = has_non_standard_data;
    has_call_services = has_call_services;
  })

-- AdmissionRequest: requestSeqNum, callType, callModel?, endpointIdentifier, destinationInfo?,
-- destCallSignalAddress?,
-- destExtraCallInfo?, srcInfo, srcCallSignalAddress?, bandWidth, callReferenceValue,
-- nonStandardData?, callServices?,
-- conferenceID, activeMC, answerCall; addition 1 callIdentifier
unfoldable pub admission_request : Grammar AdmissionRequest
admission_request = do
  there ← admission_preamble
  seq ← request_seq_num
  type_of_call ← call_type
  model ← skipped there.has_call_model call_model
  endpoint ← identifier
  dest ← optional_aliases there.has_dest
  dest_address ← optional_address there.has_dest_address
  dest_extra ← skipped there.has_dest_extra skipped_aliases
  src ← skipped_aliases
  src_address ← optional_address there.has_src_address
  asked ← band_width
  reference ← call_reference
  non_standard_data ← skipped there.has_non_standard_data non_standard_parameter
  services ← skipped there.has_call_services qseries_options
  conference ← conference_identifier
  active_mc ← boolean
  answer ← boolean
  present ← additions there.extended
  addition_0 ← skipped_addition present 0
  guid ← addition present 1 call_identifier
  is (record {
    seq = seq;
    endpoint = endpoint;
    dest = dest;
    dest_address = dest_address;
    asked = asked;
    call = call_key conference guid;
    answer = answer;
  })

-- BandwidthRequest: requestSeqNum, endpointIdentifier, conferenceID, callReferenceValue,
-- callType?, bandWidth,
-- nonStandardData?; addition 0 callIdentifier
unfoldable pub bandwidth_request : Grammar BandwidthRequest
bandwidth_request = do
  extended ← boolean
  has_call_type ← boolean
  has_non_standard_data ← boolean
  seq ← request_seq_num
  endpoint ← identifier
  conference ← conference_identifier
  reference ← call_reference
  type_of_call ← skipped has_call_type call_type
  asked ← band_width
  non_standard_data ← skipped has_non_standard_data non_standard_parameter
  present ← additions extended
  guid ← addition present 0 call_identifier
  is (record {
    seq = seq;
    endpoint = endpoint;
    call = call_key conference guid;
    asked = asked;
  })

-- DisengageRequest: requestSeqNum, endpointIdentifier, conferenceID, callReferenceValue,
-- disengageReason,
-- nonStandardData?; addition 0 callIdentifier
unfoldable pub disengage_request : Grammar DisengageRequest
disengage_request = do
  extended ← boolean
  has_non_standard_data ← boolean
  seq ← request_seq_num
  endpoint ← identifier
  conference ← conference_identifier
  reference ← call_reference
  reason ← disengage_reason
  non_standard_data ← skipped has_non_standard_data non_standard_parameter
  present ← additions extended
  guid ← addition present 0 call_identifier
  is (record { seq = seq; endpoint = endpoint; call = call_key conference guid })

-- InfoRequestResponse: nonStandardData?, requestSeqNum, endpointType, endpointIdentifier; the
-- rest is not read
unfoldable pub info_request_response : Grammar InfoRequestResponse
info_request_response = do
  extended ← boolean
  has_non_standard_data ← boolean
  has_endpoint_alias ← boolean
  has_per_call_info ← boolean
  non_standard_data ← skipped has_non_standard_data non_standard_parameter
  seq ← request_seq_num
  type_of_endpoint ← endpoint_type
  endpoint ← identifier
  is (record { seq = seq; endpoint = endpoint })
