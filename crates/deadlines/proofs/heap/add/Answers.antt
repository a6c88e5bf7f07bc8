use Rattle.std.proofs.Common.{◌≡◌, ◌∙◌, length, ap, arith}
use Rattle.deadlines.specs.inside.Heap.{moments_of}
use Rattle.deadlines.proofs.Few.{fewer_rows}
use Rattle.deadlines.proofs.Indexed.{IsIndexed-added, moments_added, written_back}
use Rattle.deadlines.proofs.heap.add.Goals as goal

pub push_reserved-requires : goal.push_reserved-requires
push_reserved-requires c =
    let few = fewer_rows c.args.rows.now.items c.args.at.now c.args.due c.requires.indexed
    c.requires.absent c.requires.within in
    omega (arith, few, c.requires.ready)

pub settle-requires-clause-indexed : goal.settle-requires-clause-indexed
settle-requires-clause-indexed c =
    let rows = c.args.rows.now.items in
    let pushed = c.push_reserved.ensures.items in
    let count : c.len-i.result ≡ length rows = omega arith in
    rw (c.deref_mut.ensures.value, pushed, count)
    (IsIndexed-added rows c.args.at.now c.args.due c.requires.indexed
    c.requires.absent c.requires.within)

pub returns-clause-moments : goal.returns-clause-moments
returns-clause-moments c =
    let rows = c.args.rows.now.items in
    let pushed = c.push_reserved.ensures.items in
    ap moments_of (written_back c.settle.new.rows c.push_reserved.new.self.items
    c.push_reserved.new.self.len
    (omega arith))
    ∙ (c.settle.ensures.moments ∙ (ap moments_of (c.deref_mut.ensures.value ∙ pushed)
    ∙ moments_added rows c.args.at.now c.args.due c.requires.indexed
    c.requires.absent c.requires.within))
