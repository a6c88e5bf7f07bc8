use Rattle.kept_replies.specs.inside.Rows.{rows_seen}
use Rattle.kept_replies.proofs.SeenRows.{AreRows-same}
use Rattle.kept_replies.proofs.StoredKept.{AreStored-same}
use Rattle.kept_replies.proofs.table.Kept.copy.Goals as goal

pub invariant_of-result : goal.invariant_of-result
invariant_of-result c =
    let i = c.self.inside in (
      AreStored-same (rows_seen i.rows i.due) (rows_seen c.in_ok-rows.rows c.in_ok-due.due) i.most
          c.self.invariant.0 c.in_ok-rows.ensures,
      AreRows-same i.rows c.in_ok-rows.rows i.due c.in_ok-due.due c.self.invariant.1
          c.in_ok-rows.ensures c.in_ok-due.ensures,
      c.of-births.ensures,
      c.of-told.ensures,
    )
