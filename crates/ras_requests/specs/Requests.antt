-- Requests, and how each is served.
use Rattle.std.specs.Prelude.{ℕ, List, Option, None, Some}
use Rattle.ras_module.specs.declared.request.Request.{Request}
use Rattle.ras_module.specs.declared.request.Request.TheVariants.{Grq, Rrq, Urq, Arq, Brq, Drq, Irr}
use Rattle.zone_tables.specs.Tables.{Tables}
use Rattle.ras_requests.specs.Plans.{Plan, Settled, unchanged}
use Rattle.ras_requests.specs.Grq.{discovery}
use Rattle.ras_requests.specs.Rrq.{registration}
use Rattle.ras_requests.specs.Urq.{unregistration}
use Rattle.ras_requests.specs.Arq.{admission}
use Rattle.ras_requests.specs.Brq.{bandwidth}
use Rattle.ras_requests.specs.Drq.{disengagement}

-- its requestSeqNum
abbrev pub seq_of : Request → ℕ
seq_of (Grq q) = q.seq
seq_of (Rrq q) = q.seq
seq_of (Urq q) = q.seq
seq_of (Arq q) = q.seq
seq_of (Brq q) = q.seq
seq_of (Drq q) = q.seq
seq_of (Irr q) = q.seq

-- its endpointIdentifier, if it has one
abbrev pub endpoint_of : Request → Option (List ℕ)
endpoint_of (Grq q) = None
endpoint_of (Rrq q) = q.endpoint
endpoint_of (Urq q) = q.endpoint
endpoint_of (Arq q) = Some q.endpoint
endpoint_of (Brq q) = Some q.endpoint
endpoint_of (Drq q) = Some q.endpoint
endpoint_of (Irr q) = Some q.endpoint

-- what it comes to; an InfoRequestResponse is no request that has a reply
abbrev pub plan_of : Tables → ℕ → Request → Option Plan
plan_of z now (Grq q) = Some (Settled (unchanged z (discovery z q)))
plan_of z now (Rrq q) = Some (registration z now q)
plan_of z now (Urq q) = Some (unregistration z q)
plan_of z now (Arq q) = Some (admission z q)
plan_of z now (Brq q) = Some (bandwidth z q)
plan_of z now (Drq q) = Some (disengagement z q)
plan_of z now (Irr q) = None

-- a request that has a reply: any but an InfoRequestResponse
abbrev pub HasReply : Request → Type 0
HasReply (Irr q) = ⊥
HasReply other = Unit {0}
