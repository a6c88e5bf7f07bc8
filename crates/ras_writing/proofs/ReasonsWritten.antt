-- What is written for a reason is an encoding of it.
use Rattle.std.proofs.Common.{[], ◌∷◌, true, false, arith}
use Rattle.ras_module.specs.declared.reason.RegistrationRejectReason.{RegistrationRejectReason}
use Rattle.ras_module.specs.declared.reason.RegistrationRejectReason.TheVariants as registration
use Rattle.ras_module.specs.declared.reason.GatekeeperRejectReason.{GatekeeperRejectReason}
use Rattle.ras_module.specs.declared.reason.GatekeeperRejectReason.TheVariants as gatekeeper
use Rattle.ras_module.specs.declared.reason.UnregRejectReason.{UnregRejectReason}
use Rattle.ras_module.specs.declared.reason.UnregRejectReason.TheVariants as unreg
use Rattle.ras_module.specs.declared.reason.AdmissionRejectReason.{AdmissionRejectReason}
use Rattle.ras_module.specs.declared.reason.AdmissionRejectReason.TheVariants as admission
use Rattle.ras_module.specs.declared.reason.BandRejectReason.{BandRejectReason}
use Rattle.ras_module.specs.declared.reason.BandRejectReason.TheVariants as band
use Rattle.ras_module.specs.declared.reason.DisengageRejectReason.{DisengageRejectReason}
use Rattle.ras_module.specs.declared.reason.DisengageRejectReason.TheVariants as disengage
use Rattle.ras_writing.specs.Properties.{IsReason}
use Rattle.ras_writing.specs.Replies.{registration_reason, null_choice}
use Rattle.ras_writing.specs.Encoding as encoding
use Rattle.ras_writing.specs.Replies as replies
use Rattle.ras_writing.specs.ReplyGrammar as grammar
use Rattle.ras_writing.specs.ReplyGrammar.{root_choice}
use Rattle.ras_writing.proofs.AliasesWritten.{aliases_written}
use Rattle.ras_writing.proofs.Written.{AreEncodings, done, one, last, boolean_encoded}
use Rattle.ras_writing.proofs.Written.{index_encoded, small_encoded}
use Rattle.ras_writing.proofs.OpenTypesWritten.{skipped_written}
use Rattle.ras_writing.proofs.AdditionsWritten.{one_octet}

pub gatekeeper_reason_written : (reason : GatekeeperRejectReason) → AreEncodings
    (root_choice 3 grammar.gatekeeper_reason) reason (null_choice 3
    (replies.gatekeeper_reason reason))
gatekeeper_reason_written gatekeeper.TerminalExcluded = one _ (boolean_encoded false) (one _
    (index_encoded 3 1 (omega arith) (omega arith)) done)

pub unreg_reason_written : (reason : UnregRejectReason) → AreEncodings
    (root_choice 2 grammar.unreg_reason) reason (null_choice 2 (replies.unreg_reason reason))
unreg_reason_written unreg.NotCurrentlyRegistered = one _ (boolean_encoded false) (one _
    (index_encoded 2 0 (omega arith) (omega arith)) done)
unreg_reason_written unreg.CallInProgress = one _ (boolean_encoded false) (one _ (index_encoded 2 1
    (omega arith) (omega arith)) done)

pub admission_reason_written : (reason : AdmissionRejectReason) → AreEncodings
    (root_choice 7 grammar.admission_reason) reason (null_choice 7
    (replies.admission_reason reason))
admission_reason_written admission.CalledPartyNotRegistered = one _ (boolean_encoded false) (one _
    (index_encoded 7 0 (omega arith) (omega arith)) done)
admission_reason_written admission.RequestDenied = one _ (boolean_encoded false) (one _
    (index_encoded 7 2 (omega arith) (omega arith)) done)
admission_reason_written admission.InvalidEndpointIdentifier = one _ (boolean_encoded false) (one _
    (index_encoded 7 6 (omega arith) (omega arith)) done)
admission_reason_written admission.ResourceUnavailable = one _ (boolean_encoded false) (one _
    (index_encoded 7 7 (omega arith) (omega arith)) done)

pub band_reason_written : (reason : BandRejectReason) → AreEncodings
    (root_choice 5 grammar.band_reason) reason (null_choice 5 (replies.band_reason reason))
band_reason_written band.NotBound = one _ (boolean_encoded false) (one _ (index_encoded 5 0
    (omega arith) (omega arith)) done)
band_reason_written band.InvalidConferenceId = one _ (boolean_encoded false) (one _
    (index_encoded 5 1
    (omega arith) (omega arith)) done)
band_reason_written band.InsufficientResources = one _ (boolean_encoded false) (one _
    (index_encoded 5 3
    (omega arith) (omega arith)) done)

pub disengage_reason_written : (reason : DisengageRejectReason) → AreEncodings
    (root_choice 1 grammar.disengage_reason) reason (null_choice 1
    (replies.disengage_reason reason))
disengage_reason_written disengage.NotRegistered = one _ (boolean_encoded false) (one _
    (index_encoded 1 0 (omega arith) (omega arith)) done)
disengage_reason_written disengage.RequestToDropOther = one _ (boolean_encoded false) (one _
    (index_encoded 1 1 (omega arith) (omega arith)) done)

pub registration_reason_written : (reason : RegistrationRejectReason) → IsReason reason
    → AreEncodings grammar.registration_reject_reason reason (registration_reason reason)
unfolding grammar.registration_reject_reason registration_reason
registration_reason_written registration.DiscoveryRequired h = one _ (boolean_encoded false) (one _
    (index_encoded 7 0 (omega arith) (omega arith)) done)
registration_reason_written registration.InvalidCallSignalAddress h = one _ (boolean_encoded false)
    (one _ (index_encoded 7 2 (omega arith) (omega arith)) done)
registration_reason_written registration.InvalidRasAddress h = one _ (boolean_encoded false) (one _
    (index_encoded 7 3 (omega arith) (omega arith)) done)
registration_reason_written (registration.DuplicateAlias held) h = one _ (boolean_encoded false)
    (one _ (index_encoded 7 4 (omega arith) (omega arith)) (last _ (aliases_written held h) done))
registration_reason_written registration.ResourceUnavailable h = one _ (boolean_encoded true) (one _
    (small_encoded 1 (omega arith)) (last _ (skipped_written 1 (encoding.octets (0 ∷ []) ∷ [])
    (omega arith) one_octet) done))
registration_reason_written registration.FullRegistrationRequired h = one _ (boolean_encoded true)
    (one _ (small_encoded 4 (omega arith)) (last _ (skipped_written 1 (encoding.octets
    (0 ∷ []) ∷ [])
    (omega arith) one_octet) done))
