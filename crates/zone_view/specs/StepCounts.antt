-- What is counted of one step.
use Rattle.std.specs.Prelude.{◌/◌, ℕ, List, [], ◌∷◌, Option, None, Some, Bool, true, false}
use Rattle.std.specs.Prelude.{option_map, nat_eq, if◌then◌else◌, slice_get}
use Rattle.std.specs.Bool.{then_some}
use Rattle.pools.specs.declared.interface.Lend.{Lend}
use Rattle.pools.specs.declared.interface.Lend.TheVariants as lend
use Rattle.zone_events.specs.declared.due_item.DueItem.{DueItem}
use Rattle.zone_events.specs.declared.due_item.DueItem.TheVariants as item
use Rattle.zone_events.specs.declared.outcome.Datagram.{Datagram}
use Rattle.zone_events.specs.declared.outcome.IgnoredCause.{IgnoredCause}
use Rattle.zone_events.specs.declared.outcome.IgnoredCause.TheVariants as cause
use Rattle.zone_events.specs.declared.outcome.Note.{Note}
use Rattle.zone_events.specs.declared.outcome.Note.TheVariants as note
use Rattle.zone_events.specs.declared.outcome.Outcome.{Outcome}
use Rattle.zone_view.specs.declared.count.Count.{Count}
use Rattle.zone_view.specs.declared.count.Count.TheVariants as count
use Rattle.zone_view.specs.declared.kinds.Answer.{Answer}
use Rattle.zone_view.specs.declared.kinds.Answer.TheVariants as answer
use Rattle.zone_view.specs.declared.kinds.ReplyKind.{ReplyKind}
use Rattle.zone_view.specs.declared.kinds.ReplyKind.TheVariants as reply
use Rattle.zone_view.specs.declared.kinds.RequestKind.{RequestKind}
use Rattle.zone_view.specs.declared.kinds.RequestKind.TheVariants as request
use Rattle.zone_view.specs.declared.kinds.TurnDeed.{TurnDeed}
use Rattle.zone_view.specs.declared.kinds.TurnDeed.TheVariants as deed
use Rattle.zone_view.specs.declared.reject.Reject.{Reject}
use Rattle.zone_view.specs.declared.reject.Reject.TheVariants as reject
use Rattle.zone_view.specs.declared.step_counts.StepCounts.{StepCounts}

-- whether the datagram of the step was read as a request
abbrev pub is_read : Note → Bool
is_read note.Served = true
is_read note.Kept = true
is_read (note.Ignored cause.Busy) = true
is_read (note.Ignored cause.UnknownEndpoint) = true
is_read other = false

-- The kind of a request, by the index of its alternative of RasMessage (H.225.0).
unfoldable pub request_at : ℕ → Option RequestKind
request_at index =
    if nat_eq index 0 then Some request.Grq
    else if nat_eq index 3 then Some request.Rrq
    else if nat_eq index 6 then Some request.Urq
    else if nat_eq index 9 then Some request.Arq
    else if nat_eq index 12 then Some request.Brq
    else if nat_eq index 15 then Some request.Drq
    else if nat_eq index 22 then Some request.Irr
    else None

-- The kind of the request that was read: a root alternative has in its first octet the bit 0, the
-- five bits of its index, and two bits more.
abbrev pub request_by : Option ℕ → Note → Option RequestKind
request_by None what = None
request_by (Some octet) what = if is_read what then request_at (octet / 4) else None

-- The kind of a message of a gatekeeper, by its first octet: a root alternative of RasMessage
-- (H.225.0) has there the bit 0, the five bits of its index, and two bits more; requestInProgress,
-- the first alternative behind the extension marker, has the bit 1 and zeros.
unfoldable pub kind_of_root : ℕ → Option ReplyKind
kind_of_root index =
    if nat_eq index 1 then Some reply.Gcf
    else if nat_eq index 2 then Some reply.Grj
    else if nat_eq index 4 then Some reply.Rcf
    else if nat_eq index 5 then Some reply.Rrj
    else if nat_eq index 7 then Some reply.Ucf
    else if nat_eq index 8 then Some reply.Urj
    else if nat_eq index 10 then Some reply.Acf
    else if nat_eq index 11 then Some reply.Arj
    else if nat_eq index 13 then Some reply.Bcf
    else if nat_eq index 14 then Some reply.Brj
    else if nat_eq index 16 then Some reply.Dcf
    else if nat_eq index 17 then Some reply.Drj
    else if nat_eq index 21 then Some reply.Irq
    else None

unfoldable pub kind_by : ℕ → Option ReplyKind
kind_by octet = if nat_eq octet 128 then Some reply.Rip else kind_of_root (octet / 4)

abbrev pub kind_in : List ℕ → Option ReplyKind
kind_in [] = None
kind_in (first ∷ others) = kind_by first

-- The reasons of each reject, by the octet in which the CHOICE of its reason begins: a root
-- alternative has there the bit 0 and its index, in as many bits as the CHOICE needs; one behind the
-- extension marker has the bit 1 and its index.
abbrev pub registration_reject : ℕ → Option Reject
registration_reject octet =
    if nat_eq octet 129 then Some reject.RegistrationResourceUnavailable
    else if nat_eq octet 132 then Some reject.RegistrationFullRegistrationRequired
    else if nat_eq (octet / 16) 0 then Some reject.RegistrationDiscoveryRequired
    else if nat_eq (octet / 16) 2 then Some reject.RegistrationInvalidCallSignalAddress
    else if nat_eq (octet / 16) 3 then Some reject.RegistrationInvalidRasAddress
    else if nat_eq (octet / 16) 4 then Some reject.RegistrationDuplicateAlias
    else None

abbrev pub unregistration_reject : ℕ → Option Reject
unregistration_reject octet =
    if nat_eq (octet / 32) 0 then Some reject.UnregistrationNotCurrentlyRegistered
    else if nat_eq (octet / 32) 1 then Some reject.UnregistrationCallInProgress
    else None

abbrev pub admission_reject : ℕ → Option Reject
admission_reject octet =
    if nat_eq (octet / 16) 0 then Some reject.AdmissionCalledPartyNotRegistered
    else if nat_eq (octet / 16) 2 then Some reject.AdmissionRequestDenied
    else if nat_eq (octet / 16) 6 then Some reject.AdmissionInvalidEndpointIdentifier
    else if nat_eq (octet / 16) 7 then Some reject.AdmissionResourceUnavailable
    else None

abbrev pub bandwidth_reject : ℕ → Option Reject
bandwidth_reject octet =
    if nat_eq (octet / 16) 0 then Some reject.BandwidthNotBound
    else if nat_eq (octet / 16) 1 then Some reject.BandwidthInvalidConferenceId
    else if nat_eq (octet / 16) 3 then Some reject.BandwidthInsufficientResources
    else None

abbrev pub disengage_reject : ℕ → Option Reject
disengage_reject octet =
    if nat_eq (octet / 64) 0 then Some reject.DisengageNotRegistered
    else if nat_eq (octet / 64) 1 then Some reject.DisengageRequestToDropOther
    else None

abbrev pub reject_by : (ℕ → Option Reject) → Option ℕ → Option Reject
reject_by reason None = None
reject_by reason (Some octet) = reason octet

-- The octet in which the reason begins: behind two octets of the requestSeqNum, which begin with the
-- second octet; in a GatekeeperReject and a RegistrationReject, whose flags need one bit more than
-- the first octet has, they begin with the third, and seven octets of the protocolIdentifier stand
-- between.
abbrev pub reject_of : ReplyKind → List ℕ → Option Reject
reject_of reply.Grj octets = Some reject.DiscoveryTerminalExcluded
reject_of reply.Rrj octets = reject_by registration_reject (slice_get octets 11)
reject_of reply.Urj octets = reject_by unregistration_reject (slice_get octets 3)
reject_of reply.Arj octets = reject_by admission_reject (slice_get octets 3)
reject_of reply.Brj octets = reject_by bandwidth_reject (slice_get octets 3)
reject_of reply.Drj octets = reject_by disengage_reject (slice_get octets 3)
reject_of other octets = None

abbrev pub reject_in : Option ReplyKind → List ℕ → Option Reject
reject_in None octets = None
reject_in (Some kind) octets = reject_of kind octets

-- the octets that are sent
abbrev pub octets_sent : Option Datagram → List ℕ
octets_sent None = []
octets_sent (Some datagram) = datagram.bytes

abbrev pub deed_of_item : DueItem → TurnDeed
deed_of_item (item.RegistrationOver id) = deed.RegistrationOver
deed_of_item (item.Interrogate id) = deed.Interrogation
deed_of_item (item.Silent id) = deed.Silence
deed_of_item (item.Retry born) = deed.Retry
deed_of_item (item.KeptOver born) = deed.KeptOver
deed_of_item item.PoolTurn = deed.PoolTurn

-- what a turn did, by what happened in its step
abbrev pub deed_of : Note → Option TurnDeed
deed_of (note.Done which) = Some (deed_of_item which)
deed_of note.Idle = Some deed.Idle
deed_of other = None

-- for which cause a datagram was ignored
abbrev pub ignored_by : Note → Option IgnoredCause
ignored_by (note.Ignored why) = Some why
ignored_by other = None

abbrev pub is_repeat : Note → Bool
is_repeat note.Kept = true
is_repeat other = false

abbrev pub answer_of : Option Lend → Option Answer
answer_of None = None
answer_of (Some (lend.Lent units)) = Some answer.Lent
answer_of (Some lend.Refused) = Some answer.Refused
answer_of (Some lend.Wait) = Some answer.Wait

-- all that is counted of a step with this outcome, of a datagram with this first octet, if of one
abbrev pub counts_of : Option ℕ → Outcome → StepCounts
counts_of first o = record {
  request = request_by first o.note;
  reply = kind_in (octets_sent o.output);
  reject = reject_in (kind_in (octets_sent o.output)) (octets_sent o.output);
  ignored = ignored_by o.note;
  turn = deed_of o.note;
  answer = answer_of o.answer;
  is_repeat = is_repeat o.note;
}

-- each thing that is counted once
abbrev pub each_of : StepCounts → List (Option Count)
each_of c =
    option_map count.Request c.request ∷ option_map count.Reply c.reply
    ∷ option_map count.Reject c.reject ∷ option_map count.Ignored c.ignored
    ∷ option_map count.Turn c.turn ∷ option_map count.Answer c.answer
    ∷ then_some c.is_repeat count.Repeat ∷ []
