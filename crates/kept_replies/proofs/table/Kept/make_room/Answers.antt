use Rattle.std.proofs.Common.{refl}
use Rattle.kept_replies.specs.inside.Rows.{rows_seen}
use Rattle.kept_replies.proofs.StoredKept.{AreStored-same, IsConsistent-stored}
use Rattle.kept_replies.proofs.table.Kept.make_room.Goals as goal

pub returns-in_err-reserve-clause-sound : goal.returns-in_err-reserve-clause-sound
returns-in_err-reserve-clause-sound c =
    let i = c.self.inside in
    let seen = rows_seen c.reserve.new.self i.due in
    IsConsistent-stored seen i.most _
    (AreStored-same (rows_seen i.rows i.due) seen i.most c.self.invariant.0
    c.reserve.ensures.entries) refl

pub returns-in_err-reserve-2-clause-sound : goal.returns-in_err-reserve-2-clause-sound
returns-in_err-reserve-2-clause-sound c =
    let i = c.self.inside in
    let seen = rows_seen c.reserve.new.self c.reserve-2.new.self in
    IsConsistent-stored seen i.most _
    (AreStored-same (rows_seen i.rows i.due) seen i.most c.self.invariant.0
    c.reserve.ensures.entries) refl

pub returns-clause-sound : goal.returns-clause-sound
returns-clause-sound c =
    let i = c.self.inside in
    let seen = rows_seen c.reserve.new.self c.reserve-2.new.self in
    IsConsistent-stored seen i.most _
    (AreStored-same (rows_seen i.rows i.due) seen i.most c.self.invariant.0
    c.reserve.ensures.entries) refl
