-- Disengaging from calls (H.323, 7.2.4; H.225.0: DRQ, DCF, DRJ). Each case applies if none above
-- it does.
use Rattle.std.specs.Prelude.{Option, None, Some}
use Rattle.std.specs.FinMap.{get}
use Rattle.ras_module.specs.declared.reason.DisengageRejectReason.TheVariants.{NotRegistered}
use Rattle.ras_module.specs.declared.reason.DisengageRejectReason.TheVariants.{RequestToDropOther}
use Rattle.ras_module.specs.declared.reply.Reply.TheVariants.{Dcf, Drj}
use Rattle.ras_module.specs.declared.request.DisengageRequest.{DisengageRequest}
use Rattle.registrations.specs.declared.registration.Registration.{Registration}
use Rattle.admission.specs.declared.leg.Leg.{Leg}
use Rattle.admission.specs.Calls.{leg_at}
use Rattle.zone_tables.specs.Tables.{Tables}
use Rattle.zone_tables.specs.Disengaging.{without_leg_of}
use Rattle.ras_requests.specs.Plans.{Plan, Settled, unchanged}

-- A DRQ: of this endpoint if it is registered, with its leg in the call if it has one.
abbrev pub disengagement_of : Tables → DisengageRequest → Option Registration → Option Leg → Plan
disengagement_of z q None leg = Settled (unchanged z (Drj q.seq NotRegistered))
disengagement_of z q (Some r) None = Settled (unchanged z (Drj q.seq RequestToDropOther))
disengagement_of z q (Some r) (Some leg) =
    Settled (record { reply = Dcf q.seq; tables = without_leg_of z q.call q.endpoint })

abbrev pub disengagement : Tables → DisengageRequest → Plan
disengagement z q =
    disengagement_of z q (get z.live q.endpoint) (leg_at z.calls q.call q.endpoint)
