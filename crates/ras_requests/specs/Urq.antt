-- Unregistration of endpoints (H.323, 7.2.2; H.225.0: URQ, UCF, URJ).
use Rattle.std.specs.Prelude.{ℕ, List, Option, None, Some, nat_lt, if◌then◌else◌}
use Rattle.std.specs.FinMap.{get, remove}
use Rattle.ras_module.specs.declared.address.Address.{Address}
use Rattle.ras_module.specs.declared.reason.UnregRejectReason.TheVariants.{NotCurrentlyRegistered}
use Rattle.ras_module.specs.declared.reason.UnregRejectReason.TheVariants.{CallInProgress}
use Rattle.ras_module.specs.declared.reply.Reply.TheVariants.{Ucf, Urj}
use Rattle.ras_module.specs.declared.request.UnregistrationRequest.{UnregistrationRequest}
use Rattle.registrations.specs.declared.registration.Registration.{Registration}
use Rattle.registrations.specs.Registry.{at_address}
use Rattle.admission.specs.Calls.{legs_of}
use Rattle.zone_tables.specs.Tables.{Tables, with_live}
use Rattle.ras_requests.specs.Plans.{Plan, Settled, unchanged}

-- by the identifier if one is given, and else by the call signal address
abbrev pub leaving : Tables → Option (List ℕ) → Option Address → Option Registration
leaving z (Some id) call_signal = get z.live id
leaving z None (Some call_signal) = at_address z.live call_signal
leaving z None None = None

-- the whole registration is removed, but not while the endpoint is in a call
abbrev pub departure : Tables → ℕ → Option Registration → Plan
departure z seq None = Settled (unchanged z (Urj seq NotCurrentlyRegistered))
departure z seq (Some r) =
    if nat_lt 0 (legs_of z.calls r.identifier)
    then Settled (unchanged z (Urj seq CallInProgress))
    else Settled (record { reply = Ucf seq; tables = with_live z (remove z.live r.identifier) })

-- a URQ
abbrev pub unregistration : Tables → UnregistrationRequest → Plan
unregistration z q = departure z q.seq (leaving z q.endpoint q.call_signal)
