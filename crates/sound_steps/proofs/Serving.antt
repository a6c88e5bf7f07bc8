-- However a pool answers a request, the tables are sound after it.
use Rattle.std.proofs.Common.{◌≡◌, ◌<◌, ℕ, true, List, [], ◌∷◌, length, refl, arith}
use Rattle.std.proofs.Common.{Some, None}
use Rattle.std.specs.Prelude.{IfSome, Option}
use Rattle.std.specs.FinMap.{get}
use Rattle.std.specs.List.{position}
use Rattle.std.specs.Option.{unwrap_or}
use Rattle.std.proofs.lemmas.List.Quantifiers.{position-Some}
use Rattle.ras_module.specs.declared.request.Request.{Request}
use Rattle.pools.specs.declared.interface.Figures.{Figures}
use Rattle.pools.specs.declared.interface.Lend.{Lend}
use Rattle.pools.specs.Account.{IsAnswer}
use Rattle.zone_config.specs.declared.network.Network.{Network}
use Rattle.zone_config.specs.Networks.{has_default, pool_of, serves}
use Rattle.zone_tables.specs.declared.unit_request.UnitRequest.{UnitRequest}
use Rattle.zone_tables.specs.Changes.{IsRegistered}
use Rattle.zone_tables.specs.Parts.{usage_of}
use Rattle.zone_tables.specs.Pools.{RequestedUnits, figures_at, grant_of, pools_after_answer}
use Rattle.zone_tables.specs.Soundness.{CountsOneMore, SoundTables}
use Rattle.zone_tables.specs.Tables.{Tables, heard_now, with_live}
use Rattle.zone_tables.specs.UnitRequests.{IsUnitRequest, calls_with_grant, leg_of_purpose}
use Rattle.zone_tables.specs.UnitRequests.{units_requested}
use Rattle.ras_requests.specs.Planned.{asker_of, granted_by, refused_by}
use Rattle.ras_requests.specs.Plans.{Plan, Served, Settled, Naming, Asking, hearing}
use Rattle.ras_machine.specs.declared.job.Occasion.{Occasion}
use Rattle.ras_machine.specs.declared.job.Occasion.TheVariants.{Again, Anew, First}
use Rattle.ras_machine.specs.Keeping.{granted, plan_at}
use Rattle.sound_steps.proofs.Tables.{tables-answered, tables-heard}

-- the tables after a request that was served so, with these pools
abbrev pub with_pools : Served → List Figures → Tables
with_pools served pools = record served.tables { pools = pools }

-- the tables are sound, and each pool counted at most one refusal and one wait more
pub record IsSoundAfter (z after : Tables) : Type 0 where
  pub sound : SoundTables after
  pub counts : CountsOneMore z.pools after.pools

-- A pool that is there is asked, and whatever it may answer, the tables are sound.
pub record IsSoundAsk (z : Tables) (ask : RequestedUnits) (lent : ℕ → Served)
    (refused : Served) : Type 0 where
  pub exists : ask.pool < length z.pools
  pub sound : (answer : Lend) → IsAnswer (figures_at z.pools ask.pool) ask.units answer
      → SoundTables (with_pools (granted lent refused (grant_of ask.least answer))
      (pools_after_answer z.pools ask answer))

-- however the request is served, the tables are sound
abbrev pub SoundBy : Tables → Plan → Type 0
SoundBy z (Settled served) = IsSoundAfter z served.tables
SoundBy z (Naming named) =
    (id : List ℕ) → get z.live id ≡ None → IsSoundAfter z (named id).tables
SoundBy z (Asking ask lent refused) = IsSoundAsk z ask lent refused

-- units that may be requested
module _ (z : Tables) (sound : SoundTables z) (request : Request) (q : UnitRequest)
    (may : IsUnitRequest (usage_of z) q)
    (registered : IfSome (leg_of_purpose (asker_of request) q.purpose) (IsRegistered z.live)) where
  granted_so : (pools : List Figures) (grant : Option ℕ)
      → SoundTables (record z {
        calls = calls_with_grant (asker_of request) q grant z.calls;
        pools = pools;
      })
      → SoundTables (with_pools
      (granted (granted_by z request q) (refused_by z request q) grant) pools)
  granted_so pools None is = is
  granted_so pools (Some units) is = is

  -- whatever the pool answers, the tables are sound
  pub asks : SoundBy z
      (Asking (units_requested q) (granted_by z request q) (refused_by z request q))
  asks = record {
    exists = may.pool;
    sound = λ answer fits.
        granted_so (pools_after_answer z.pools (units_requested q) answer)
        (grant_of q.least answer)
        (tables-answered z sound (asker_of request) q may registered answer fits);
  }

-- that the endpoint of a request was heard keeps the tables sound
module _ (z : Tables) (now : ℕ) (id : List ℕ) where
  heard_ask : (ask : RequestedUnits) (lent : ℕ → Served) (refused : Served)
      → IsSoundAsk z ask lent refused
      → SoundBy z (hearing now (Some id) (Asking ask lent refused))
  heard_ask ask lent refused is = record {
    exists = is.exists;
    sound = λ answer fits. by_grant answer (grant_of ask.least answer) (is.sound answer fits);
  } where
    by_grant : (answer : Lend) (grant : Option ℕ)
        → SoundTables (with_pools (granted lent refused grant)
        (pools_after_answer z.pools ask answer))
        → SoundTables (with_pools (granted
        (λ units. record (lent units) {
          tables = with_live (lent units).tables (heard_now now id ((lent units).tables).live);
        })
        (record refused {
          tables = with_live refused.tables
              (heard_now now id (refused.tables).live);
        })
        grant) (pools_after_answer z.pools ask answer))
    by_grant answer None sound =
        tables-heard (with_pools refused (pools_after_answer z.pools ask answer)) sound now id
    by_grant answer (Some units) sound =
        tables-heard (with_pools (lent units) (pools_after_answer z.pools ask answer)) sound now id

-- so it is of each plan
heard_too : (z : Tables) (now : ℕ) (endpoint : Option (List ℕ)) (plan : Plan) → SoundBy z plan
    → SoundBy z (hearing now endpoint plan)
heard_too z now None (Settled served) is = is
heard_too z now (Some id) (Settled served) is = record {
  sound = tables-heard served.tables is.sound now id;
  counts = is.counts;
}
heard_too z now None (Naming named) is = is
heard_too z now (Some id) (Naming named) is =
    λ new unused. record {
      sound = tables-heard (named new).tables (is new unused).sound now id;
      counts = (is new unused).counts;
    }
heard_too z now None (Asking ask lent refused) is =
    record { exists = is.exists; sound = is.sound }
heard_too z now (Some id) (Asking ask lent refused) is = heard_ask z now id ask lent refused is

-- and on each occasion
pub sound_at : (z : Tables) (occasion : Occasion) (now : ℕ) (endpoint : Option (List ℕ))
    (plan : Plan) → SoundBy z plan → SoundBy z (plan_at occasion now endpoint plan)
sound_at z (First dropped) now endpoint plan is = heard_too z now endpoint plan is
sound_at z Anew now endpoint plan is = heard_too z now endpoint plan is
sound_at z (Again born left) now endpoint plan is = is

-- some pool serves each address, and is there
pub pool_there : (networks : List (Option Network)) (ip : List ℕ) → has_default networks ≡ true
    → pool_of networks ip < length networks
pool_there [] ip some = absurd (cc some)
pool_there (network ∷ networks) ip some =
    cases (position (λ n. serves n ip) (network ∷ networks)) refl where
      cases : (w : Option ℕ) → position (λ n. serves n ip) (network ∷ networks) ≡ w
          → unwrap_or w 0 < length (network ∷ networks)
      cases None is = omega arith
      cases (Some i) is =
          (position-Some (λ n. serves n ip) (network ∷ networks) i network is).0
