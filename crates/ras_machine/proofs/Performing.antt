-- One step by a course, once the course was done.
use Rattle.std.proofs.Common.{◌≡◌, ◌<◌, ◌≤◌, ◌^◌, ◌+◌, ℕ, All, ap, subst, arith}
use Rattle.std.specs.FinMap.{len}
use Rattle.kept_replies.specs.Kept.{KeptTable}
use Rattle.zone_events.specs.declared.outcome.Outcome.{Outcome}
use Rattle.zone_tables.specs.Tables.{Tables}
use Rattle.zone_tables.specs.Soundness.{HasCounts}
use Rattle.ras_machine.specs.State.{State}
use Rattle.ras_machine.specs.Machine.{Course, at_moment, most_steps}
use Rattle.ras_machine.specs.Soundness.{AllWaitInProgress, Sound}
use Rattle.ras_machine.specs.Courses.{Does, Performs}
use Rattle.ras_machine.specs.inside.Parts.{AreSoundParts, state_of}

-- the clock stands at now, and one step more was made
abbrev pub stepped : State → ℕ → ℕ → State
stepped s now steps = record s { clock = now; steps = steps + 1 }

-- the machine is seen by its parts, as they are once the course was done
module _ (old : State) (z : Tables) (kept : KeptTable)
    (clock interrogation_number next_pool_turn steps now : ℕ) (c : Course) (outcome : Outcome)
    (does : Does old now c outcome
    (state_of z kept.kept clock interrogation_number next_pool_turn steps))
    (waiting : AllWaitInProgress z.config.delay kept.kept)
    (sound : Sound old) (parts : AreSoundParts z kept clock interrogation_number steps)
    (moment : now < 2 ^ 53) (few_steps : old.steps < most_steps) where
  abbrev pub after : State
  after =
      stepped (state_of z kept.kept clock interrogation_number next_pool_turn steps) now
      old.steps

  sound_after : Sound after
  sound_after =
      let one_more : 2 ^ 62 + old.steps + 1 ≡ 2 ^ 62 + (old.steps + 1) = omega arith in
      record {
        tables = parts.tables;
        counts = subst (λ (most : ℕ). All (HasCounts most) z.pools) one_more
            (does.counts (2 ^ 62 + old.steps) sound.counts);
        few_kept = subst (λ (most : ℕ). len kept.kept ≤ most) parts.most parts.kept.few;
        entries = parts.kept.each;
        births = parts.kept.births;
        born = does.births sound.born;
        waiting = waiting;
        clock = moment;
        least_number = parts.least_number;
        most_number = parts.most_number;
        steps = omega (arith, few_steps);
      }

  pub performed : Performs old now c outcome after
  performed = record {
    allowed = does.allowed;
    makes = ap (at_moment now (old.steps + 1)) does.makes;
    pools = does.pools;
    few = does.few;
    sound = sound_after;
  }
