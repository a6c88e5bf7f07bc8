-- A fresh pool that takes over the loans of another one leaves a sound state.
use Rattle.std.proofs.Common.{◌≡◌, ◌≢◌, ◌<◌, ◌≤◌, ◌+◌, ◌^◌, ◌==◌, All, ℕ, Bool, true, false, ap}
use Rattle.std.proofs.Common.{arith}
use Rattle.std.proofs.Common.{List, length, refl, set, subst, sym, ◌∙◌}
use Rattle.std.proofs.lemmas.Bool.Decides.{Decides-eqb}
use Rattle.std.proofs.lemmas.List.{length-set}
use Rattle.std.proofs.lemmas.List.Elements.{All-set}
use Rattle.admission.specs.Calls.{EachCall}
use Rattle.pools.specs.declared.interface.Figures.{Figures}
use Rattle.zone_events.specs.declared.change.PoolChange.{PoolChange}
use Rattle.zone_events.specs.declared.outcome.Outcome.{Outcome}
use Rattle.zone_tables.specs.Pools.{MayReplace, figures_at}
use Rattle.zone_tables.specs.Soundness.{HasCounts, SoundTables}
use Rattle.zone_tables.proofs.OnePool.{figures_elsewhere, figures_here}
use Rattle.ras_machine.specs.Replacing.{Replaces, replaced}
use Rattle.ras_machine.specs.Soundness.{Sound}
use Rattle.ras_machine.specs.State.{State}

module _ (s : State) (change : PoolChange)
    (may : MayReplace s.tables.pools change.pool change.offered) (sound : Sound s) where
  abbrev pools : List Figures
  pools = s.tables.pools

  -- the fresh pool, once it has taken over the loans
  abbrev fresh : Figures
  fresh = record change.offered { lent = (figures_at pools change.pool).lent }

  as_many : length (set pools change.pool fresh) ≡ length pools
  as_many = length-set pools change.pool fresh

  -- each pool has lent what it had
  same_lent : (pool : ℕ)
      → (figures_at (set pools change.pool fresh) pool).lent ≡ (figures_at pools pool).lent
  same_lent pool = by_place (pool == change.pool) refl where
    by_place : (b : Bool) → (pool == change.pool) ≡ b
        → (figures_at (set pools change.pool fresh) pool).lent ≡ (figures_at pools pool).lent
    by_place true is =
        let same = (Decides-eqb pool change.pool).0 is in
        ap (λ (f : Figures). f.lent)
        (figures_here pools change.pool fresh pool same may.there)
        ∙ ap (λ n. (figures_at pools n).lent) (sym same)
    by_place false is =
        let differ : pool ≢ change.pool =
        λ same. cc (sym is ∙ (Decides-eqb pool change.pool).1 same) in
        ap (λ (f : Figures). f.lent) (figures_elsewhere pools change.pool fresh pool differ)

  tables_after : SoundTables (replaced s change).tables
  tables_after = record {
    settings = sound.tables.settings;
    endpoints = sound.tables.endpoints;
    aliases = sound.tables.aliases;
    few_endpoints = sound.tables.few_endpoints;
    calls = sound.tables.calls;
    few_calls = sound.tables.few_calls;
    legs = sound.tables.legs;
    call_limit = sound.tables.call_limit;
    call_pools = subst (λ n. EachCall (λ call. call.pool < n) s.tables.calls) (sym as_many)
        sound.tables.call_pools;
    lent = λ pool below. same_lent pool
        ∙ sound.tables.lent pool (subst (λ n. pool < n) as_many below);
    pool_limits = All-set (λ f. f.lent ≤ f.limit) pools change.pool fresh may.enough
        sound.tables.pool_limits;
    limit = sound.tables.limit;
    pools = as_many ∙ sound.tables.pools;
  }

  -- counts that were below a bound are below a greater one
  counts_more : All (HasCounts (2 ^ 62 + (s.steps + 1))) pools
  counts_more k d below =
      let has = sound.counts k d below in record {
        refusals = omega (arith, has.refusals);
        waits = omega (arith, has.waits);
      }

  counts_fresh : HasCounts (2 ^ 62 + (s.steps + 1)) fresh
  counts_fresh = record {
    refusals = omega (arith, may.idle.refusals);
    waits = omega (arith, may.idle.waits);
  }

  pub sound_after : s.steps < 2 ^ 62 → change.moment < 2 ^ 53 → Sound (replaced s change)
  sound_after few moment = record {
    tables = tables_after;
    counts = All-set (HasCounts (2 ^ 62 + (s.steps + 1))) pools change.pool fresh counts_fresh
        counts_more;
    few_kept = sound.few_kept;
    entries = sound.entries;
    births = sound.births;
    born = λ key entry there. (let before = sound.born key entry there in omega (arith, before));
    waiting = sound.waiting;
    clock = omega (arith, sound.clock, moment);
    least_number = sound.least_number;
    most_number = sound.most_number;
    steps = omega (arith, few);
  }

pub replacement_is_sound : (s : State) (change : PoolChange) (outcome : Outcome) (after : State)
    → change.moment < 2 ^ 53 → Sound s → Replaces s change outcome after → Sound after
replacement_is_sound s change outcome after moment sound step =
    subst Sound (sym step.makes) (sound_after s change step.may sound step.few moment)
