-- What a request comes to, before anything is chosen for it.
use Rattle.std.specs.Prelude.{ℕ, List, Option, None, Some}
use Rattle.ras_module.specs.declared.reply.Reply.{Reply}
use Rattle.zone_tables.specs.Pools.{RequestedUnits}
use Rattle.zone_tables.specs.Tables.{Tables, with_live, heard_now}

-- the reply to a request, and the tables afterwards
pub record Served : Type 0 where
  pub reply : Reply
  pub tables : Tables

-- a reply, and nothing changes
abbrev pub unchanged : Tables → Reply → Served
unchanged z reply = record { reply = reply; tables = z }

-- A request is served at once; or an unused identifier is handed out for it; or a pool is asked for
-- units, which lends some of them or none.
pub data Plan : Type 0 where
  Settled : Served → Plan
  Naming : (List ℕ → Served) → Plan
  Asking : RequestedUnits → (ℕ → Served) → Served → Plan

-- each way in which it may be served is changed so
abbrev pub map_plan : (Served → Served) → Plan → Plan
map_plan change (Settled served) = Settled (change served)
map_plan change (Naming named) = Naming (λ id. change (named id))
map_plan change (Asking requested lent refused) =
    Asking requested (λ units. change (lent units)) (change refused)

-- Whatever the reply, the endpoint that a served request names was heard, if it is registered and
-- stays so. (If that very identifier is handed out in this step, its registration was heard now as
-- it is.)
abbrev pub with_heard : ℕ → Option (List ℕ) → Served → Served
with_heard now None served = served
with_heard now (Some id) served =
    record served { tables = with_live served.tables (heard_now now id served.tables.live) }

abbrev pub hearing : ℕ → Option (List ℕ) → Plan → Plan
hearing now endpoint plan = map_plan (with_heard now endpoint) plan
