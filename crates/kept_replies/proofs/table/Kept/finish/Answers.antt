use Rattle.std.proofs.Common.{refl}
use Rattle.std.specs.FinMap as map
use Rattle.std.specs.HashMap as hash
use Rattle.kept_replies.specs.Keys.{same_key}
use Rattle.kept_replies.specs.Kept.{finished}
use Rattle.kept_replies.specs.inside.Rows.{rows_seen}
use Rattle.kept_replies.proofs.PlacedBirths.{AreBorn-rewritten}
use Rattle.kept_replies.proofs.SeenRows.{AreRows-rewritten, Rewrites-seen, there_is, there_is_none}
use Rattle.kept_replies.proofs.StoredKept.{some_entry, AreStored-rewrite}
use Rattle.kept_replies.proofs.StoredKept.{Becomes-rewrite, IsConsistent-stored, not_there}
use Rattle.kept_replies.proofs.ToldTimes.{AreTold-rewritten}
use Rattle.kept_replies.proofs.table.Kept.finish.Goals as goal

pub invariant_of-self : goal.invariant_of-self
invariant_of-self c =
    let i = c.self.inside in
    let key = c.args.key.now in
    let entry = some_entry (map.get c.args.self.now.kept key) c.requires in
    let was = there_is (hash.get same_key i.rows key) c.in-Some.ensures.found in
    let change = finished c.args.reply c.args.until in (
      AreStored-rewrite (rows_seen i.rows i.due)
          (rows_seen c.write_done.new.rows c.finish.new.self) key i.most c.args.self.now
          c.self.view_is change
          (Rewrites-seen i.rows c.write_done.new.rows i.due c.finish.new.self
          c.finish.ensures.room change key c.write_done.ensures) entry.0 entry.1
          c.self.invariant.0 refl (λ h. tt),
      AreRows-rewritten i.rows c.write_done.new.rows i.due c.finish.new.self c.self.invariant.1
          change key c.in-Some.place c.write_done.ensures c.in-Some.ensures.index was.0 was.1
          c.finish.ensures,
      AreBorn-rewritten i.rows c.write_done.new.rows i.births i.births c.self.invariant.2 change
          key c.write_done.ensures was.0 was.1 refl,
      AreTold-rewritten i.rows c.write_done.new.rows i.told c.replace.new.self c.self.invariant.3
          c.replace.ensures.still change key c.write_done.ensures was.0 was.1
          (rw c.identifier.ensures at c.replace.ensures.times was.0 was.1),
    )

pub returns-in-Some-clause-sound : goal.returns-in-Some-clause-sound
returns-in-Some-clause-sound c =
    IsConsistent-stored (rows_seen c.write_done.new.rows c.finish.new.self) c.self.inside.most _
    (invariant_of-self c).0 refl

pub returns-in-Some-clause-becomes : goal.returns-in-Some-clause-becomes
returns-in-Some-clause-becomes c =
    let i = c.self.inside in
    let key = c.args.key.now in
    let entry = some_entry (map.get c.args.self.now.kept key) c.requires in
    let change = finished c.args.reply c.args.until in
    Becomes-rewrite (rows_seen i.rows i.due) (rows_seen c.write_done.new.rows c.finish.new.self)
    key i.most c.args.self.now c.self.view_is change
    (Rewrites-seen i.rows c.write_done.new.rows i.due c.finish.new.self c.finish.ensures.room
    change key c.write_done.ensures) entry.0 entry.1

pub returns-in_default-clause-sound : goal.returns-in_default-clause-sound
returns-in_default-clause-sound c =
    let i = c.self.inside in
    IsConsistent-stored (rows_seen i.rows i.due) i.most _ c.self.invariant.0 c.self.view_is

pub returns-in_default-clause-becomes : goal.returns-in_default-clause-becomes
returns-in_default-clause-becomes c =
    let i = c.self.inside in
    let seen = rows_seen i.rows i.due in
    let key = c.args.key.now in
    let entry = some_entry (map.get c.args.self.now.kept key) c.requires in
    absurd (not_there seen i.most c.args.self.now c.self.invariant.0 c.self.view_is key entry.0
    entry.1 (there_is_none (hash.get same_key i.rows key) c.in_default.ensures.found))
