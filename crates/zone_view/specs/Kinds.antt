-- Places of what is counted.
use Rattle.std.specs.Prelude.{ℕ, ◌+◌}
use Rattle.zone_events.specs.Events.{cause_number}
use Rattle.zone_view.specs.declared.count.Count.{Count}
use Rattle.zone_view.specs.declared.count.Count.TheVariants as count
use Rattle.zone_view.specs.declared.kinds.Answer.{Answer}
use Rattle.zone_view.specs.declared.kinds.Answer.TheVariants as answer
use Rattle.zone_view.specs.declared.kinds.ReplyKind.{ReplyKind}
use Rattle.zone_view.specs.declared.kinds.ReplyKind.TheVariants as reply
use Rattle.zone_view.specs.declared.kinds.RequestKind.{RequestKind}
use Rattle.zone_view.specs.declared.kinds.RequestKind.TheVariants as request
use Rattle.zone_view.specs.declared.kinds.TurnDeed.{TurnDeed}
use Rattle.zone_view.specs.declared.kinds.TurnDeed.TheVariants as deed
use Rattle.zone_view.specs.declared.reject.Reject.{Reject}
use Rattle.zone_view.specs.declared.reject.Reject.TheVariants as reject

-- the place of a kind among the requests
abbrev pub request_place : RequestKind → ℕ
request_place request.Grq = 0
request_place request.Rrq = 1
request_place request.Urq = 2
request_place request.Arq = 3
request_place request.Brq = 4
request_place request.Drq = 5
request_place request.Irr = 6

-- that of a kind among the messages of a gatekeeper
abbrev pub reply_place : ReplyKind → ℕ
reply_place reply.Gcf = 0
reply_place reply.Grj = 1
reply_place reply.Rcf = 2
reply_place reply.Rrj = 3
reply_place reply.Ucf = 4
reply_place reply.Urj = 5
reply_place reply.Acf = 6
reply_place reply.Arj = 7
reply_place reply.Bcf = 8
reply_place reply.Brj = 9
reply_place reply.Dcf = 10
reply_place reply.Drj = 11
reply_place reply.Irq = 12
reply_place reply.Rip = 13

-- that of a reject
abbrev pub reject_place : Reject → ℕ
reject_place reject.DiscoveryTerminalExcluded = 0
reject_place reject.RegistrationDiscoveryRequired = 1
reject_place reject.RegistrationInvalidCallSignalAddress = 2
reject_place reject.RegistrationInvalidRasAddress = 3
reject_place reject.RegistrationDuplicateAlias = 4
reject_place reject.RegistrationResourceUnavailable = 5
reject_place reject.RegistrationFullRegistrationRequired = 6
reject_place reject.UnregistrationNotCurrentlyRegistered = 7
reject_place reject.UnregistrationCallInProgress = 8
reject_place reject.AdmissionCalledPartyNotRegistered = 9
reject_place reject.AdmissionRequestDenied = 10
reject_place reject.AdmissionInvalidEndpointIdentifier = 11
reject_place reject.AdmissionResourceUnavailable = 12
reject_place reject.BandwidthNotBound = 13
reject_place reject.BandwidthInvalidConferenceId = 14
reject_place reject.BandwidthInsufficientResources = 15
reject_place reject.DisengageNotRegistered = 16
reject_place reject.DisengageRequestToDropOther = 17

-- that of what a turn did
abbrev pub deed_place : TurnDeed → ℕ
deed_place deed.RegistrationOver = 0
deed_place deed.Interrogation = 1
deed_place deed.Silence = 2
deed_place deed.Retry = 3
deed_place deed.KeptOver = 4
deed_place deed.PoolTurn = 5
deed_place deed.Idle = 6

-- that of an answer of a pool
abbrev pub answer_place : Answer → ℕ
answer_place answer.Lent = 0
answer_place answer.Refused = 1
answer_place answer.Wait = 2

-- The place of a count among all: the requests come first, then the replies, and so on.
abbrev pub count_place : Count → ℕ
count_place (count.Request kind) = request_place kind
count_place (count.Reply kind) = 7 + reply_place kind
count_place (count.Reject which) = 21 + reject_place which
count_place (count.Ignored cause) = 38 + cause_number cause
count_place (count.Turn which) = 44 + deed_place which
count_place (count.Answer which) = 51 + answer_place which
count_place count.Repeat = 54
