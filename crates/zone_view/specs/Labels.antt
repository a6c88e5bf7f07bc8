-- Words for what is counted.
use Rattle.std.specs.Prelude.{ℕ, List, codes}
use Rattle.zone_view.specs.declared.kinds.Answer.{Answer}
use Rattle.zone_view.specs.declared.kinds.Answer.TheVariants as answer
use Rattle.zone_view.specs.declared.kinds.ReplyKind.{ReplyKind}
use Rattle.zone_view.specs.declared.kinds.ReplyKind.TheVariants as reply
use Rattle.zone_view.specs.declared.kinds.RequestKind.{RequestKind}
use Rattle.zone_view.specs.declared.kinds.RequestKind.TheVariants as request
use Rattle.zone_view.specs.declared.kinds.TurnDeed.{TurnDeed}
use Rattle.zone_view.specs.declared.kinds.TurnDeed.TheVariants as deed
use Rattle.zone_view.specs.declared.reject.Reject.{Reject}
use Rattle.zone_view.specs.declared.reject.Reject.TheVariants as reject

-- the abbreviations of H.225.0, of the requests
abbrev pub request_label : RequestKind → List ℕ
request_label request.Grq = codes "GRQ"
request_label request.Rrq = codes "RRQ"
request_label request.Urq = codes "URQ"
request_label request.Arq = codes "ARQ"
request_label request.Brq = codes "BRQ"
request_label request.Drq = codes "DRQ"
request_label request.Irr = codes "IRR"

-- and of the messages that a gatekeeper sends
abbrev pub reply_label : ReplyKind → List ℕ
reply_label reply.Gcf = codes "GCF"
reply_label reply.Grj = codes "GRJ"
reply_label reply.Rcf = codes "RCF"
reply_label reply.Rrj = codes "RRJ"
reply_label reply.Ucf = codes "UCF"
reply_label reply.Urj = codes "URJ"
reply_label reply.Acf = codes "ACF"
reply_label reply.Arj = codes "ARJ"
reply_label reply.Bcf = codes "BCF"
reply_label reply.Brj = codes "BRJ"
reply_label reply.Dcf = codes "DCF"
reply_label reply.Drj = codes "DRJ"
reply_label reply.Irq = codes "IRQ"
reply_label reply.Rip = codes "RIP"

-- a word for what a turn did
abbrev pub deed_label : TurnDeed → List ℕ
deed_label deed.RegistrationOver = codes "registration_over"
deed_label deed.Interrogation = codes "interrogation"
deed_label deed.Silence = codes "silence"
deed_label deed.Retry = codes "retry"
deed_label deed.KeptOver = codes "kept_over"
deed_label deed.PoolTurn = codes "pool_turn"
deed_label deed.Idle = codes "idle"

-- a word for what a pool answered
abbrev pub answer_label : Answer → List ℕ
answer_label answer.Lent = codes "lent"
answer_label answer.Refused = codes "refused"
answer_label answer.Wait = codes "wait"

-- the message that gives a reject
abbrev pub reject_message : Reject → ReplyKind
reject_message reject.DiscoveryTerminalExcluded = reply.Grj
reject_message reject.RegistrationDiscoveryRequired = reply.Rrj
reject_message reject.RegistrationInvalidCallSignalAddress = reply.Rrj
reject_message reject.RegistrationInvalidRasAddress = reply.Rrj
reject_message reject.RegistrationDuplicateAlias = reply.Rrj
reject_message reject.RegistrationResourceUnavailable = reply.Rrj
reject_message reject.RegistrationFullRegistrationRequired = reply.Rrj
reject_message reject.UnregistrationNotCurrentlyRegistered = reply.Urj
reject_message reject.UnregistrationCallInProgress = reply.Urj
reject_message reject.AdmissionCalledPartyNotRegistered = reply.Arj
reject_message reject.AdmissionRequestDenied = reply.Arj
reject_message reject.AdmissionInvalidEndpointIdentifier = reply.Arj
reject_message reject.AdmissionResourceUnavailable = reply.Arj
reject_message reject.BandwidthNotBound = reply.Brj
reject_message reject.BandwidthInvalidConferenceId = reply.Brj
reject_message reject.BandwidthInsufficientResources = reply.Brj
reject_message reject.DisengageNotRegistered = reply.Drj
reject_message reject.DisengageRequestToDropOther = reply.Drj

-- the name of its reason in H.225.0
abbrev pub reject_label : Reject → List ℕ
reject_label reject.DiscoveryTerminalExcluded = codes "terminalExcluded"
reject_label reject.RegistrationDiscoveryRequired = codes "discoveryRequired"
reject_label reject.RegistrationInvalidCallSignalAddress = codes "invalidCallSignalAddress"
reject_label reject.RegistrationInvalidRasAddress = codes "invalidRASAddress"
reject_label reject.RegistrationDuplicateAlias = codes "duplicateAlias"
reject_label reject.RegistrationResourceUnavailable = codes "resourceUnavailable"
reject_label reject.RegistrationFullRegistrationRequired = codes "fullRegistrationRequired"
reject_label reject.UnregistrationNotCurrentlyRegistered = codes "notCurrentlyRegistered"
reject_label reject.UnregistrationCallInProgress = codes "callInProgress"
reject_label reject.AdmissionCalledPartyNotRegistered = codes "calledPartyNotRegistered"
reject_label reject.AdmissionRequestDenied = codes "requestDenied"
reject_label reject.AdmissionInvalidEndpointIdentifier = codes "invalidEndpointIdentifier"
reject_label reject.AdmissionResourceUnavailable = codes "resourceUnavailable"
reject_label reject.BandwidthNotBound = codes "notBound"
reject_label reject.BandwidthInvalidConferenceId = codes "invalidConferenceID"
reject_label reject.BandwidthInsufficientResources = codes "insufficientResources"
reject_label reject.DisengageNotRegistered = codes "notRegistered"
reject_label reject.DisengageRequestToDropOther = codes "requestToDropOther"
