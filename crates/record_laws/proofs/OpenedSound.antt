-- A zone with fresh pools is sound before its first step.
use Rattle.std.proofs.Common.{◌≡◌, ◌∙◌, All, List, [], ◌∷◌, length, map, sym, arith}
use Rattle.std.proofs.lemmas.List.{length-map}
use Rattle.std.proofs.lemmas.List.Elements.{All-from_recursion}
use Rattle.std.specs.Cmp.Lexicographic.{slice_cmp}
use Rattle.std.specs.List.{AllByRecursion}
use Rattle.std.specs.Ordering.{nat_cmp}
use Rattle.std.specs.FinMap as fin
use Rattle.keyed.proofs.Decide.{some_none}
use Rattle.ras_module.specs.CallKeys.{call_key_cmp}
use Rattle.registrations.specs.declared.registration.Registration.{Registration}
use Rattle.admission.specs.declared.call.Call.{Call}
use Rattle.admission.specs.Calls.{IsCall}
use Rattle.admission.proofs.Soundness.{EachCall-empty}
use Rattle.kept_replies.specs.declared.entry.KeptEntry.{KeptEntry}
use Rattle.kept_replies.specs.Keys.{key_cmp}
use Rattle.pools.specs.declared.interface.Figures.{Figures}
use Rattle.pools.specs.declared.pool_spec.PoolSpec.{PoolSpec}
use Rattle.pools.specs.declared.pool_spec.PoolSpec.TheVariants.{Fixed, Step, Paced}
use Rattle.pools.specs.Specs.{account_of}
use Rattle.zone_config.specs.declared.config.ConfigParts.{ConfigParts}
use Rattle.zone_config.specs.Ranges.{IsConfig}
use Rattle.zone_config.proofs.RangesKept.{limits}
use Rattle.zone_tables.specs.Changes.{IsRegistered}
use Rattle.zone_tables.specs.Pools.{IsIdle, figures_of}
use Rattle.zone_tables.specs.Soundness.{SoundTables}
use Rattle.zone_tables.specs.Tables.{empty_tables}
use Rattle.zone_tables.proofs.Backing.{IsBacked-start, within_idle}
use Rattle.ras_machine.specs.Soundness.{Sound}
use Rattle.ras_machine.specs.State.{opening}
use Rattle.ras_machine.proofs.Dropping.{born_nothing}
use Rattle.ras_machine.proofs.Waiting.{waiting_nothing}

-- a fresh pool has nothing lent, and counted nothing
fresh_idle : (pool : PoolSpec) → IsIdle (account_of pool).figures
fresh_idle (Fixed limit) =
    record { lent = omega arith; refusals = omega arith; waits = omega arith }
fresh_idle (Step limit step) =
    record { lent = omega arith; refusals = omega arith; waits = omega arith }
fresh_idle (Paced limit burst) =
    record { lent = omega arith; refusals = omega arith; waits = omega arith }

each_idle : (pools : List PoolSpec) → AllByRecursion IsIdle (figures_of (map account_of pools))
each_idle [] = tt
each_idle (pool ∷ pools) = (fresh_idle pool, each_idle pools)

module _ (config : ConfigParts) (set : IsConfig config) (pools : List PoolSpec)
    (as_many : length pools ≡ length config.networks) where
  abbrev figures : List Figures
  figures = figures_of (map account_of pools)

  idle : All IsIdle figures
  idle = All-from_recursion IsIdle figures (each_idle pools)

  tables_sound : SoundTables (empty_tables config figures)
  tables_sound =
      let within = limits config set.ranges in
      let backed = IsBacked-start figures config.calls config.limit config.call_limit idle
      (omega (arith, within.call_limit)) in
      record {
        settings = set;
        endpoints = record {
          own = λ id r there. some_none (sym there ∙ fin.get-empty (slice_cmp nat_cmp) id);
          apart = λ i j r s there other same.
              some_none (sym there ∙ fin.get-empty (slice_cmp nat_cmp) i);
        };
        aliases = λ i j r s alias there other has holds.
            some_none (sym there ∙ fin.get-empty (slice_cmp nat_cmp) i);
        few_endpoints = omega (arith, fin.len-empty (slice_cmp nat_cmp) Registration);
        calls = EachCall-empty IsCall;
        few_calls = omega (arith, fin.len-empty call_key_cmp Call);
        legs = EachCall-empty (λ call. All (IsRegistered fin.empty) call.legs);
        call_limit = backed.call_limit;
        call_pools = backed.pools;
        lent = backed.lent;
        pool_limits = within_idle figures idle;
        limit = backed.limit;
        pools = length-map (map account_of pools) (λ a. a.figures)
            ∙ length-map pools account_of ∙ as_many;
      }

  pub opening_is_sound : Sound (opening config figures)
  opening_is_sound = record {
    tables = tables_sound;
    counts = λ k d below. record {
      refusals = omega (arith, (idle k d below).refusals);
      waits = omega (arith, (idle k d below).waits);
    };
    few_kept = omega (arith, fin.len-empty key_cmp KeptEntry);
    entries = λ key entry there. some_none (sym there ∙ fin.get-empty key_cmp key);
    births = λ key other entry last there too same.
        some_none (sym there ∙ fin.get-empty key_cmp key);
    born = born_nothing 0;
    waiting = waiting_nothing config.delay;
    clock = omega arith;
    least_number = omega arith;
    most_number = omega arith;
    steps = omega arith;
  }
