use Rattle.std.proofs.Common.{rules, ◌≤◌, ◌^◌, ◌+◌, ◌∙◌, ℕ, All, ap, subst, sym, arith}
use Rattle.std.specs.FinMap.{len}
use Rattle.kept_replies.specs.Kept.{KeptReplies}
use Rattle.zone_tables.specs.Tables.{Tables}
use Rattle.zone_tables.specs.Soundness.{HasCounts}
use Rattle.ras_machine.specs.Soundness.{AllWaitInProgress, AreBornBefore}
use Rattle.ras_machine.proofs.Dropping.{born_nothing}
use Rattle.ras_machine.proofs.Waiting.{waiting_nothing}
use Rattle.ras_machine.proofs.machine.Machine.new.Goals as goal

pub returns-clause-sound : goal.returns-clause-sound
returns-clause-sound c =
    let kept = c.new-kept.result.kept in
    record {
      tables = c.new.ensures.sound;
      counts = subst (λ (z : Tables). All (HasCounts (2 ^ 62 + 0)) z.pools)
          (sym c.new.ensures.tables) (λ k d below. record {
            refusals = (c.requires.idle k d below).refusals;
            waits = (c.requires.idle k d below).waits;
          });
      few_kept = subst (λ (most : ℕ). len kept ≤ most)
          (c.new-kept.ensures.most ∙ c.kept.ensures.same
          ∙ sym (ap (λ (z : Tables). z.config.kept) c.new.ensures.tables))
          c.new-kept.ensures.sound.few;
      entries = c.new-kept.ensures.sound.each;
      births = c.new-kept.ensures.sound.births;
      born = subst (λ (k : KeptReplies). AreBornBefore 0 k) (sym c.new-kept.ensures.kept)
          (born_nothing 0);
      waiting = subst (λ (k : KeptReplies). AllWaitInProgress c.new.result.config.delay k)
          (sym c.new-kept.ensures.kept) (waiting_nothing c.new.result.config.delay);
      clock = omega arith;
      least_number = search rules;
      most_number = search rules;
      steps = omega arith;
    }
