use Rattle.std.proofs.Common.{true}
use Rattle.registrations.proofs.Same.{both_have, one_lacks}
use Rattle.registrations.proofs.Stored.{live_map}
use Rattle.registrations.proofs.table.Registrations.is_same.Goals as goal

pub returns-then-has_all : goal.returns-then-has_all
returns-then-has_all c =
    let i = c.self.inside in
    let j = c.other.inside in
    both_have i.rows j.rows c.args.self.now.live c.args.other.now.live
    (live_map i.rows i.by_identifier i.by_address i.deadlines i.legs i.ends i.times i.most
    c.self.invariant.stored _
    c.self.view_is)
    (live_map j.rows j.by_identifier j.by_address j.deadlines j.legs j.ends j.times j.most
    c.other.invariant.stored _
    c.other.view_is)
    true c.has_all-then-has_all.result c.if-has_all.ensures c.has_all-then-has_all.ensures

pub returns-else-has_all : goal.returns-else-has_all
returns-else-has_all c =
    let j = c.other.inside in
    one_lacks j.rows c.args.self.now.live c.args.other.now.live
    (live_map j.rows j.by_identifier j.by_address j.deadlines j.legs j.ends j.times j.most
    c.other.invariant.stored _
    c.other.view_is)
    c.has_all.result c.has_all.ensures c.if-has_all.false
