use Rattle.std.proofs.Common.{true}
use Rattle.keyed.proofs.Entries.{key_of, value_of}
use Rattle.keyed.proofs.Same.{both_have, one_lacks}
use Rattle.kept_replies.specs.inside.Rows.{rows_seen}
use Rattle.kept_replies.proofs.KeyOrder.{key_cmp_total, key_cmp-IsAntisymmetric}
use Rattle.kept_replies.proofs.StoredKept.{IsMapOf-stored}
use Rattle.kept_replies.proofs.table.Kept.is_same.Goals as goal

pub returns-then-has_all : goal.returns-then-has_all
returns-then-has_all c =
    let mine = c.self.inside in
    let theirs = c.other.inside in
    both_have key_cmp_total key_cmp-IsAntisymmetric key_of value_of
    mine.rows.entries theirs.rows.entries c.args.self.now.kept c.args.other.now.kept
    (IsMapOf-stored (rows_seen mine.rows mine.due) mine.most c.args.self.now c.self.invariant.0
    c.self.view_is)
    (IsMapOf-stored (rows_seen theirs.rows theirs.due) theirs.most c.args.other.now
    c.other.invariant.0 c.other.view_is)
    true c.has_all-then-has_all.result c.if-has_all.ensures c.has_all-then-has_all.ensures

pub returns-else-has_all : goal.returns-else-has_all
returns-else-has_all c =
    let theirs = c.other.inside in
    one_lacks key_cmp_total key_cmp-IsAntisymmetric key_of value_of
    theirs.rows.entries c.args.self.now.kept c.args.other.now.kept
    (IsMapOf-stored (rows_seen theirs.rows theirs.due) theirs.most c.args.other.now
    c.other.invariant.0 c.other.view_is)
    c.has_all.result c.has_all.ensures c.if-has_all.false
