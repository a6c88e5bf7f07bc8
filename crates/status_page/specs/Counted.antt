-- What is told of the counts, kind by kind, in order, each with its label.
use Rattle.std.specs.Prelude.{List, ℕ, [], ◌∷◌, map, codes}
use Rattle.zone_events.specs.declared.outcome.IgnoredCause.{IgnoredCause}
use Rattle.zone_events.specs.declared.outcome.IgnoredCause.TheVariants as cause
use Rattle.zone_view.specs.Labels.{answer_label, deed_label, reject_label, reply_label}
use Rattle.zone_view.specs.Labels.{request_label}
use Rattle.zone_view.specs.declared.count.Count.{Count}
use Rattle.zone_view.specs.declared.count.Count.TheVariants as count
use Rattle.zone_view.specs.declared.kinds.Answer.TheVariants as answer
use Rattle.zone_view.specs.declared.kinds.ReplyKind.TheVariants as reply
use Rattle.zone_view.specs.declared.kinds.RequestKind.TheVariants as request
use Rattle.zone_view.specs.declared.kinds.TurnDeed.TheVariants as deed
use Rattle.zone_view.specs.declared.reject.Reject.{Reject}
use Rattle.zone_view.specs.declared.reject.Reject.TheVariants as reject

-- a word for why a datagram was ignored
abbrev pub cause_label : IgnoredCause → List ℕ
cause_label cause.TooLong = codes "too_long"
cause_label cause.Unreadable = codes "unreadable"
cause_label cause.NotServed = codes "not_served"
cause_label cause.Busy = codes "busy"
cause_label cause.UnknownEndpoint = codes "unknown_endpoint"

-- the label of what is counted
abbrev pub label_of : Count → List ℕ
label_of (count.Request kind) = request_label kind
label_of (count.Reply kind) = reply_label kind
label_of (count.Reject which) = reject_label which
label_of (count.Ignored why) = cause_label why
label_of (count.Turn which) = deed_label which
label_of (count.Answer which) = answer_label which
label_of count.Repeat = codes "repeated"

abbrev pub requests : List Count
requests =
    map count.Request (request.Grq ∷ request.Rrq ∷ request.Urq ∷ request.Arq ∷ request.Brq
    ∷ request.Drq ∷ request.Irr ∷ [])

abbrev pub replies : List Count
replies =
    map count.Reply (reply.Gcf ∷ reply.Grj ∷ reply.Rcf ∷ reply.Rrj ∷ reply.Ucf ∷ reply.Urj
    ∷ reply.Acf ∷ reply.Arj ∷ reply.Bcf ∷ reply.Brj ∷ reply.Dcf ∷ reply.Drj ∷ reply.Irq ∷ reply.Rip
    ∷ [])

abbrev pub rejects : List Reject
rejects =
    reject.DiscoveryTerminalExcluded ∷ reject.RegistrationDiscoveryRequired
    ∷ reject.RegistrationInvalidCallSignalAddress ∷ reject.RegistrationInvalidRasAddress
    ∷ reject.RegistrationDuplicateAlias ∷ reject.RegistrationResourceUnavailable
    ∷ reject.RegistrationFullRegistrationRequired ∷ reject.UnregistrationNotCurrentlyRegistered
    ∷ reject.UnregistrationCallInProgress ∷ reject.AdmissionCalledPartyNotRegistered
    ∷ reject.AdmissionRequestDenied ∷ reject.AdmissionInvalidEndpointIdentifier
    ∷ reject.AdmissionResourceUnavailable ∷ reject.BandwidthNotBound
    ∷ reject.BandwidthInvalidConferenceId ∷ reject.BandwidthInsufficientResources
    ∷ reject.DisengageNotRegistered ∷ reject.DisengageRequestToDropOther ∷ []

abbrev pub ignored : List Count
ignored =
    map count.Ignored (cause.TooLong ∷ cause.Unreadable ∷ cause.NotServed ∷ cause.Busy
    ∷ cause.UnknownEndpoint ∷ [])

abbrev pub turns : List Count
turns =
    map count.Turn (deed.RegistrationOver ∷ deed.Interrogation ∷ deed.Silence ∷ deed.Retry
    ∷ deed.KeptOver ∷ deed.PoolTurn ∷ deed.Idle ∷ [])

abbrev pub answers : List Count
answers = map count.Answer (answer.Lent ∷ answer.Refused ∷ answer.Wait ∷ [])
