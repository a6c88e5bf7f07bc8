-- Requests in words: the names of H.225.0, each with its value. What isn't there is left out.
use Rattle.std.specs.Prelude.{ℕ, List, codes}
use Rattle.ras_module.specs.declared.request.Request.{Request}
use Rattle.ras_module.specs.declared.request.Request.TheVariants.{Grq, Rrq, Urq, Arq, Brq, Drq, Irr}
use Rattle.ras_module.specs.declared.request.GatekeeperRequest.{GatekeeperRequest}
use Rattle.ras_module.specs.declared.request.RegistrationRequest.{RegistrationRequest}
use Rattle.ras_module.specs.declared.request.UnregistrationRequest.{UnregistrationRequest}
use Rattle.ras_module.specs.declared.request.AdmissionRequest.{AdmissionRequest}
use Rattle.ras_module.specs.declared.request.BandwidthRequest.{BandwidthRequest}
use Rattle.ras_module.specs.declared.request.DisengageRequest.{DisengageRequest}
use Rattle.ras_module.specs.declared.request.InfoRequestResponse.{InfoRequestResponse}
use Rattle.explaining.specs.Parts.{with_aliases, with_flag, with_key, with_number}
use Rattle.explaining.specs.Parts.{with_optional_address, with_optional_number}
use Rattle.explaining.specs.Parts.{with_optional_text, with_quoted}

abbrev pub with_endpoint : List ℕ → List ℕ → List ℕ
with_endpoint text id = with_quoted text (codes ", endpointIdentifier \"") id

abbrev pub with_discovery : List ℕ → GatekeeperRequest → List ℕ
with_discovery text request =
    let seq = with_number text (codes "GatekeeperRequest: requestSeqNum ") request.seq in
    with_optional_text seq (codes ", gatekeeperIdentifier \"") request.gatekeeper

-- until when a registration is asked for, and whose it is
abbrev pub with_terms : List ℕ → RegistrationRequest → List ℕ
with_terms text request =
    let lasting = with_optional_number text (codes ", timeToLive ") request.time_to_live in
    let kept = with_flag lasting (codes ", keepAlive") request.keep_alive in
    with_optional_text kept (codes ", endpointIdentifier \"") request.endpoint

-- the number of a registration request, and the addresses of who registers
abbrev pub with_registrant : List ℕ → RegistrationRequest → List ℕ
with_registrant text request =
    let seq = with_number text (codes "RegistrationRequest: requestSeqNum ") request.seq in
    let called = with_optional_address seq (codes ", callSignalAddress ") request.call_signal in
    with_optional_address called (codes ", rasAddress ") request.ras

abbrev pub with_registration : List ℕ → RegistrationRequest → List ℕ
with_registration text request =
    let named = with_aliases (with_registrant text request) (codes ", terminalAlias")
    request.aliases in
    let there = with_optional_text named (codes ", gatekeeperIdentifier \"") request.gatekeeper in
    with_terms there request

abbrev pub with_unregistration : List ℕ → UnregistrationRequest → List ℕ
with_unregistration text request =
    let seq = with_number text (codes "UnregistrationRequest: requestSeqNum ") request.seq in
    let called = with_optional_address seq (codes ", callSignalAddress ") request.call_signal in
    with_optional_text called (codes ", endpointIdentifier \"") request.endpoint

-- who asks for a call, and who is called
unfoldable pub with_parties : List ℕ → AdmissionRequest → List ℕ
with_parties text request =
    let named = with_aliases (with_endpoint text request.endpoint) (codes ", destinationInfo")
    request.dest in
    with_optional_address named (codes ", destCallSignalAddress ") request.dest_address

-- what is asked for which call
unfoldable pub with_asked : List ℕ → AdmissionRequest → List ℕ
with_asked text request =
    let asked = with_number text (codes ", bandWidth ") request.asked in
    with_flag (with_key asked request.call) (codes ", answerCall") request.answer

abbrev pub with_admission : List ℕ → AdmissionRequest → List ℕ
with_admission text request =
    let seq = with_number text (codes "AdmissionRequest: requestSeqNum ") request.seq in
    with_asked (with_parties seq request) request

abbrev pub with_bandwidth : List ℕ → BandwidthRequest → List ℕ
with_bandwidth text request =
    let seq = with_number text (codes "BandwidthRequest: requestSeqNum ") request.seq in
    let by = with_endpoint seq request.endpoint in
    with_key (with_number by (codes ", bandWidth ") request.asked) request.call

abbrev pub with_disengage : List ℕ → DisengageRequest → List ℕ
with_disengage text request =
    let seq = with_number text (codes "DisengageRequest: requestSeqNum ") request.seq in
    with_key (with_endpoint seq request.endpoint) request.call

abbrev pub with_info_response : List ℕ → InfoRequestResponse → List ℕ
with_info_response text request =
    let seq = with_number text (codes "InfoRequestResponse: requestSeqNum ") request.seq in
    with_endpoint seq request.endpoint

abbrev pub with_request : List ℕ → Request → List ℕ
with_request text (Grq request) = with_discovery text request
with_request text (Rrq request) = with_registration text request
with_request text (Urq request) = with_unregistration text request
with_request text (Arq request) = with_admission text request
with_request text (Brq request) = with_bandwidth text request
with_request text (Drq request) = with_disengage text request
with_request text (Irr request) = with_info_response text request
