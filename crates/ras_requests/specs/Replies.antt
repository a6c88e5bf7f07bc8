-- The reply to a request for which a pool was asked for units (H.225.0: ACF, ARJ, BCF, BRJ, RIP).
use Rattle.std.specs.Prelude.{◌+◌, ◌^◌, ◌<◌, ℕ, Bool, true, false, Option, None, Some}
use Rattle.ras_module.specs.declared.reason.AdmissionRejectReason.TheVariants.{RequestDenied}
use Rattle.ras_module.specs.declared.reason.BandRejectReason.TheVariants.{InsufficientResources}
use Rattle.ras_module.specs.declared.reply.Reply.{Reply}
use Rattle.ras_module.specs.declared.reply.Reply.TheVariants.{Acf, Arj, Bcf, Brj, Rip}
use Rattle.pools.specs.declared.interface.Lend.{Lend}
use Rattle.pools.specs.declared.interface.Lend.TheVariants.{Lent, Refused, Wait}
use Rattle.zone_tables.specs.declared.unit_request.Purpose.{Purpose}
use Rattle.zone_tables.specs.declared.unit_request.Purpose.TheVariants.{Opening, Raising}
use Rattle.zone_tables.specs.declared.unit_request.UnitRequest.{UnitRequest}
use Rattle.zone_tables.specs.Pools.{grant_of}

-- if it gets these units: an AdmissionConfirm for a call that opens, a BandwidthConfirm for one
-- that gets more
abbrev pub granted_reply : ℕ → Purpose → ℕ → Reply
granted_reply seq (Opening told) units = Acf seq units told
granted_reply seq (Raising had) units = Bcf seq (had + units)

-- if it gets none
abbrev pub refused_reply : ℕ → Purpose → Reply
refused_reply seq (Opening told) = Arj seq RequestDenied
refused_reply seq (Raising had) = Brj seq InsufficientResources had

-- what a call has with these units is a BandWidth (H.225.0)
abbrev pub IsBandWidth : Purpose → ℕ → Type 0
IsBandWidth (Opening told) units = Unit {0}
IsBandWidth (Raising had) units = had + units < 2 ^ 32

abbrev pub reply_with_grant : ℕ → Purpose → Option ℕ → Reply
reply_with_grant seq purpose None = refused_reply seq purpose
reply_with_grant seq purpose (Some units) = granted_reply seq purpose units

-- after a pool's answer, if the request no longer waits: a wait then counts as a refusal
abbrev pub reply_after : ℕ → UnitRequest → Lend → Reply
reply_after seq q answer = reply_with_grant seq q.purpose (grant_of q.least answer)

-- the same, or a RequestInProgress
abbrev pub reply_of : ℕ → UnitRequest → Lend → Bool → ℕ → Reply
reply_of seq q answer true delay = Rip seq delay
reply_of seq q answer false delay = reply_after seq q answer

abbrev pub IsAnswered : UnitRequest → Lend → Type 0
IsAnswered q (Lent units) = IsBandWidth q.purpose units × (units < 2 ^ 32)
IsAnswered q Refused = Unit {0}
IsAnswered q Wait = Unit {0}
