use Rattle.std.proofs.Common.{◌≤◌, ◌∙◌, ap, subst, sym}
use Rattle.std.specs.FinMap.{len}
use Rattle.kept_replies.specs.declared.table.TheConstants.Kept as kept_table
use Rattle.kept_replies.specs.Kept.{AreBornApart, AreEntries, KeptReplies}
use Rattle.zone_tables.specs.Tables.{Tables}
use Rattle.zone_tables.specs.Soundness.{SoundTables}
use Rattle.ras_machine.proofs.machine.Machine.copy.Goals as goal

pub invariant_of-result : goal.invariant_of-result
invariant_of-result c =
    let i = c.self.inside in
    let kept = c.in_ok-copy-2.field-0 in
    let rows = sym c.in_ok-copy-2.ensures.kept in
    let most = c.in_ok-copy-2.ensures.most in
    let was = c.self.invariant.kept in
    record {
      tables = subst SoundTables (sym c.in_ok-copy.ensures) c.self.invariant.tables;
      kept = record {
        each = subst AreEntries rows was.each;
        births = subst AreBornApart rows was.births;
        few = subst (λ (k : KeptReplies). len k ≤ kept.most) rows
            (subst (λ n. len i.kept.kept ≤ n) (sym most) was.few);
        most = subst (λ n. n ≤ kept_table.MOST) (sym most) was.most;
      };
      most = most ∙ (c.self.invariant.most
          ∙ sym (ap (λ (z : Tables). z.config.kept) c.in_ok-copy.ensures));
      clock = c.self.invariant.clock;
      least_number = c.self.invariant.least_number;
      most_number = c.self.invariant.most_number;
      steps = c.self.invariant.steps;
    }
