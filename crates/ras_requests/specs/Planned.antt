-- What the code plans about a request: a reply with a change; a registration that is kept alive; a
-- new endpoint; or a request to a pool.
use Rattle.std.specs.Prelude.{◌≡◌, ℕ, List, [], Bool, false, None, Some, IfSome, IsSome}
use Rattle.std.specs.Option.{unwrap_or}
use Rattle.std.specs.FinMap.{get}
use Rattle.ras_module.specs.declared.reply.Reply.TheVariants.{Rcf}
use Rattle.ras_module.specs.declared.request.Request.{Request}
use Rattle.ras_module.specs.declared.request.Request.TheVariants.{Grq, Rrq}
use Rattle.registrations.specs.declared.registration.Registration.{Registration}
use Rattle.zone_tables.specs.declared.change.Change.TheVariants.{Endpoint}
use Rattle.zone_tables.specs.declared.change.EndpointChange.TheVariants.{Addition, Renewal}
use Rattle.ras_requests.specs.declared.plan.Settlement.{Settlement}
use Rattle.ras_requests.specs.declared.plan.GrantedTime.{GrantedTime}
use Rattle.ras_requests.specs.declared.plan.Newcomer.{Newcomer}
use Rattle.zone_tables.specs.declared.unit_request.UnitRequest.{UnitRequest}
use Rattle.ras_requests.specs.declared.plan.Plan.{Plan as CodePlan}
use Rattle.ras_requests.specs.declared.plan.Plan.TheVariants as code_plan
use Rattle.zone_tables.specs.Tables.{Tables, with_calls}
use Rattle.ras_requests.specs.Grq.{is_foreign}
use Rattle.ras_requests.specs.Requests.{endpoint_of, plan_of, seq_of}
use Rattle.ras_requests.specs.Replies.{granted_reply, refused_reply}
use Rattle.zone_tables.specs.Parts.{usage_of}
use Rattle.zone_tables.specs.UnitRequests.{IsUnitRequest, granted_calls, leg_of_purpose}
use Rattle.zone_tables.specs.UnitRequests.{units_requested}
use Rattle.ras_requests.specs.Plans.{Served, Plan, Settled, Naming, Asking, unchanged}
use Rattle.zone_tables.specs.Changes.{after_change, may_return_units, IsRegistered, IsPossible}

-- what a settlement of a request comes to: the calls change for the endpoint that it names
abbrev pub served : Tables → ℕ → Request → Settlement → Served
served z now request d = record {
  reply = d.reply;
  tables = after_change now (endpoint_of request) d.change z;
}

-- It settles the request as planned, and its change can be made.
pub record Settles (z : Tables) (now : ℕ) (request : Request) (plan : Plan) (d : Settlement)
    : Type 0 where
  pub possible : IsPossible z (endpoint_of request) d.change
  pub is : plan ≡ Settled (served z now request d)

-- a new endpoint's registration under an identifier, and what it is told
abbrev pub registration_under : Newcomer → List ℕ → Registration
registration_under n id = record {
  identifier = id;
  call_signal = n.entry.call_signal;
  ras = n.entry.ras;
  aliases = n.entry.aliases;
  deadline = n.deadline;
  heard = n.heard;
  tries = 0;
  asked = 0;
}

abbrev pub settlement_under : Newcomer → List ℕ → Settlement
settlement_under n id = record {
  reply = Rcf (record {
    seq = n.seq;
    call_signal = n.entry.call_signal;
    aliases = n.told;
    gatekeeper = n.gatekeeper;
    endpoint = id;
    granted = n.granted;
  });
  change = Endpoint (Addition (registration_under n id));
}

abbrev pub named_by : Tables → ℕ → Request → Newcomer → List ℕ → Served
named_by z now request n id = served z now request (settlement_under n id)

-- It is a new endpoint, which can be added under any identifier that is not registered.
pub record Names (z : Tables) (now : ℕ) (request : Request) (plan : Plan) (n : Newcomer)
    : Type 0 where
  pub possible : (id : List ℕ) → get z.live id ≡ None
      → IsPossible z (endpoint_of request) (settlement_under n id).change
  pub is : plan ≡ Naming (named_by z now request n)

-- what a registration that is kept alive comes to: its RegistrationConfirm, and its new time to
-- live
abbrev pub renewal_of : Tables → GrantedTime → Registration → Settlement
renewal_of z g r = record {
  reply = Rcf (record {
    seq = g.seq;
    call_signal = r.call_signal;
    aliases = r.aliases;
    gatekeeper = z.config.identifier;
    endpoint = r.identifier;
    granted = g.granted;
  });
  change = Endpoint (Renewal g.deadline);
}

-- The request names an endpoint that is registered, which is granted a new time to live.
pub record Renews (z : Tables) (now : ℕ) (request : Request) (plan : Plan) (g : GrantedTime)
    : Type 0 where
  pub id : List ℕ
  pub registration : Registration
  pub names : endpoint_of request ≡ Some id
  pub registered : get z.live id ≡ Some registration
  pub settles : Settles z now request plan (renewal_of z g registration)

-- the endpoint that a request names; the empty list if it names none
abbrev pub asker_of : Request → List ℕ
asker_of request = unwrap_or (endpoint_of request) []

-- how a request is served if these units were lent, and if none were
abbrev pub granted_by : Tables → Request → UnitRequest → ℕ → Served
granted_by z request q units = record {
  reply = granted_reply (seq_of request) q.purpose units;
  tables = with_calls z (granted_calls (asker_of request) q q.purpose units z.calls);
}

abbrev pub refused_by : Tables → Request → UnitRequest → Served
refused_by z request q = unchanged z (refused_reply (seq_of request) q.purpose)

-- It requests these units of this pool for an endpoint, and may.
pub record RequestsUnits (z : Tables) (request : Request) (plan : Plan) (q : UnitRequest)
    : Type 0 where
  pub may : IsUnitRequest (usage_of z) q
  pub names : IsSome (endpoint_of request)
  pub registered : IfSome (leg_of_purpose (asker_of request) q.purpose) (IsRegistered z.live)
  pub is : plan ≡ Asking (units_requested q) (granted_by z request q) (refused_by z request q)

-- a plan of the code is this plan, and can be carried out
abbrev pub IsPlan : Tables → ℕ → Request → Plan → CodePlan → Type 0
IsPlan z now request plan (code_plan.Settled d) = Settles z now request plan d
IsPlan z now request plan (code_plan.Renewing g) = Renews z now request plan g
IsPlan z now request plan (code_plan.Naming n) = Names z now request plan n
IsPlan z now request plan (code_plan.Asking q) = RequestsUnits z request plan q

-- units may come back to a pool only by a change that settles a request
abbrev pub may_return_units_by : CodePlan → Bool
may_return_units_by (code_plan.Settled d) = may_return_units d.change
may_return_units_by (code_plan.Renewing g) = false
may_return_units_by (code_plan.Naming n) = false
may_return_units_by (code_plan.Asking q) = false

-- it is what the request comes to
abbrev pub IsPlanOf : Tables → ℕ → Request → CodePlan → Type 0
IsPlanOf z now request p =
    (plan : Plan) → plan_of z now request ≡ Some plan → IsPlan z now request plan p

-- Memory is wanted for a plan at most if it is that of a discovery or a full registration that
-- names no other gatekeeper: for a confirm, and for the aliases that are registered.
abbrev pub MayWantMemory : Tables → Request → Type 0
MayWantMemory z (Grq q) = is_foreign z q.gatekeeper ≡ false
MayWantMemory z (Rrq q) = (is_foreign z q.gatekeeper ≡ false) × (q.keep_alive ≡ false)
MayWantMemory z other = ⊥
