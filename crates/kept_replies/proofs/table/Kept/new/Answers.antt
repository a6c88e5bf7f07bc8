use Rattle.std.proofs.Common.{refl}
use Rattle.kept_replies.specs.inside.Rows.{rows_seen}
use Rattle.kept_replies.proofs.SeenRows.{AreRows-empty}
use Rattle.kept_replies.proofs.StoredKept.{AreStored-empty, IsConsistent-stored}
use Rattle.kept_replies.proofs.table.Kept.new.Goals as goal

pub invariant_of-result : goal.invariant_of-result
invariant_of-result c = (
  AreStored-empty (rows_seen c.new.result c.new-3.result) c.args.most c.new.ensures.empty
      c.requires.few,
  AreRows-empty c.new.result c.new-3.result c.new.ensures.empty c.new-3.ensures.ends
      c.new-3.ensures.retries,
  rw c.new.ensures.empty c.new-2.ensures,
  rw c.new.ensures.empty c.new-4.ensures,
)

pub returns-clause-sound : goal.returns-clause-sound
returns-clause-sound c =
    IsConsistent-stored (rows_seen c.new.result c.new-3.result) c.args.most _
    (invariant_of-result c).0 refl
