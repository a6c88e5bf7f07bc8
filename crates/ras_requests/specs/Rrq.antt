-- Registration of endpoints (H.323, 7.2.2; H.225.0: RRQ, RCF, RRJ). Each case applies if none
-- above it does.
use Rattle.std.specs.Prelude.{◌+◌, ◌*◌, ◌==◌, ℕ, Bool, false, not, nat_lt, min, List, [], ◌∷◌}
use Rattle.std.specs.Prelude.{length, Option, None, Some, if◌then◌else◌}
use Rattle.std.specs.FinMap.{get, insert, len}
use Rattle.keyed.specs.Maps.{update}
use Rattle.ras_module.specs.declared.address.Address.{Address}
use Rattle.ras_module.specs.declared.alias.Alias.{Alias}
use Rattle.ras_module.specs.declared.reason.RegistrationRejectReason.{RegistrationRejectReason}
use Rattle.ras_module.specs.declared.reason.RegistrationRejectReason.TheVariants as reject
use reject.{DiscoveryRequired, InvalidCallSignalAddress, InvalidRasAddress, DuplicateAlias}
use reject.{ResourceUnavailable, FullRegistrationRequired}
use Rattle.ras_module.specs.declared.reply.Reply.{Reply}
use Rattle.ras_module.specs.declared.reply.Reply.TheVariants.{Rcf, Rrj}
use Rattle.ras_module.specs.declared.request.RegistrationRequest.{RegistrationRequest}
use Rattle.ras_module.specs.Addresses.{same_address}
use Rattle.ras_module.specs.Aliases.{without_doubles}
use Rattle.registrations.specs.declared.registration.Registration.{Registration}
use Rattle.registrations.specs.Registry.{at_address, with_deadline, after_rewrite}
use Rattle.registrations.specs.Agreement.{registered_elsewhere}
use Rattle.zone_tables.specs.declared.entry.Entry.{Entry}
use Rattle.zone_tables.specs.Tables.{Tables, with_live, heard_now}
use Rattle.ras_requests.specs.Plans.{Served, Plan, Settled, Naming, unchanged}
use Rattle.ras_requests.specs.Grq.{is_foreign}

-- the time to live that is granted, in seconds: what was asked, but no more than the zone's
abbrev pub granted : Tables → Option ℕ → ℕ
granted z None = z.config.time_to_live
granted z (Some asked) = min asked z.config.time_to_live

-- when a registration of this moment ends, in milliseconds
abbrev pub deadline : Tables → ℕ → RegistrationRequest → ℕ
deadline z now q = now + 1000 * granted z q.time_to_live

abbrev pub rejection : Tables → RegistrationRequest → RegistrationRejectReason → Plan
rejection z q reason = Settled (unchanged z (Rrj q.seq reason))

abbrev pub confirmation : Tables → RegistrationRequest → Address → List Alias → List ℕ → Reply
confirmation z q call_signal aliases id =
    Rcf (record {
      seq = q.seq;
      call_signal = call_signal;
      aliases = aliases;
      gatekeeper = z.config.identifier;
      endpoint = id;
      granted = granted z q.time_to_live;
    })

-- the endpoint that names itself so, if it is registered
abbrev pub named : Tables → Option (List ℕ) → Option Registration
named z None = None
named z (Some id) = get z.live id

-- an address was given, and it is another one than the endpoint's
abbrev pub has_moved : Registration → Option Address → Bool
has_moved r None = false
has_moved r (Some ras) = not (same_address ras r.ras)

-- keepAlive: the time to live is granted anew to an endpoint that is registered and has not moved
abbrev pub keep_alive : Tables → ℕ → RegistrationRequest → Option Registration → Plan
keep_alive z now q None = rejection z q FullRegistrationRequired
keep_alive z now q (Some r) =
    if has_moved r q.ras
    then rejection z q FullRegistrationRequired
    else Settled (record {
      reply = confirmation z q r.call_signal r.aliases r.identifier;
      tables = with_live z (update z.live r.identifier (with_deadline (deadline z now q)));
    })

-- the endpoint with this call signal address registers anew, and keeps its identifier
abbrev pub refreshment : Tables → ℕ → RegistrationRequest → Entry → Registration → Served
refreshment z now q e r = record {
  reply = confirmation z q e.call_signal e.aliases r.identifier;
  tables = with_live z (heard_now now r.identifier
      (update z.live r.identifier (after_rewrite e.ras e.aliases (deadline z now q))));
}

abbrev pub new_registration : Tables → ℕ → RegistrationRequest → Entry → List ℕ → Registration
new_registration z now q e id = record {
  identifier = id;
  call_signal = e.call_signal;
  ras = e.ras;
  aliases = e.aliases;
  deadline = deadline z now q;
  heard = now;
  tries = 0;
  asked = 0;
}

-- an endpoint registers under the identifier that is handed out
abbrev pub addition : Tables → ℕ → RegistrationRequest → Entry → List ℕ → Served
addition z now q e id = record {
  reply = confirmation z q e.call_signal e.aliases id;
  tables = with_live z (insert z.live id (new_registration z now q e id));
}

-- an endpoint whose address is registered, or a new one, for which there has to be a place
abbrev pub entering : Tables → ℕ → RegistrationRequest → Entry → Option Registration → Plan
entering z now q e (Some r) = Settled (refreshment z now q e r)
entering z now q e None =
    if len z.live == z.config.endpoints
    then rejection z q ResourceUnavailable
    else Naming (addition z now q e)

-- if some of the aliases are held by endpoints with another call signal address, those are told
abbrev pub unless_held : Tables → ℕ → RegistrationRequest → Entry → List Alias → Plan
unless_held z now q e [] = entering z now q e (at_address z.live e.call_signal)
unless_held z now q e (alias ∷ held) = rejection z q (DuplicateAlias (alias ∷ held))

-- a full registration, with these addresses and distinct aliases
abbrev pub full_registration : Tables → ℕ → RegistrationRequest → Option Address
    → Option Address → List Alias → Plan
full_registration z now q None ras aliases = rejection z q InvalidCallSignalAddress
full_registration z now q (Some call_signal) None aliases = rejection z q InvalidRasAddress
full_registration z now q (Some call_signal) (Some ras) aliases =
    if nat_lt 32 (length aliases)
    then rejection z q ResourceUnavailable
    else unless_held z now q (record { call_signal = call_signal; ras = ras; aliases = aliases })
    (registered_elsewhere z.live call_signal aliases)

-- an RRQ
abbrev pub registration : Tables → ℕ → RegistrationRequest → Plan
registration z now q =
    if is_foreign z q.gatekeeper then rejection z q DiscoveryRequired
    else if q.keep_alive then keep_alive z now q (named z q.endpoint)
    else full_registration z now q q.call_signal q.ras (without_doubles q.aliases)
