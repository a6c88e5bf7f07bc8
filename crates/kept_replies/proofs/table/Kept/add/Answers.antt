use Rattle.std.proofs.Common.{◌≡◌, None, rules, refl, ◌∙◌, ap, arith}
use Rattle.std.specs.Prelude.{length}
use Rattle.std.specs.HashMap as hash
use Rattle.indexmap.proofs.CallerLemmas.{insert_entry-new}
use Rattle.kept_replies.specs.Keys.{same_key}
use Rattle.kept_replies.specs.inside.Rows.{rows_seen}
use Rattle.kept_replies.specs.inside.Stored.{Appends, Puts}
use Rattle.kept_replies.proofs.PlacedBirths.{AreBorn-appended}
use Rattle.kept_replies.proofs.SeenRows.{AreRows-appended, Puts-seen, one_fits}
use Rattle.kept_replies.proofs.StoredKept.{stored_get, AreStored-write, Adds-put}
use Rattle.kept_replies.proofs.StoredKept.{IsConsistent-stored}
use Rattle.kept_replies.proofs.ToldTimes.{AreTold-appended}
use Rattle.kept_replies.proofs.table.Kept.add.Goals as goal

-- there was no row under its key
absent : (c : goal.Joined-unwrap) → hash.get same_key c.self.inside.rows c.args.key ≡ None
absent c =
    let i = c.self.inside in
    let seen = rows_seen i.rows i.due in
    stored_get seen seen i.most c.args.self.now c.self.invariant.0 c.self.view_is c.args.key
    ∙ c.requires.new

puts : (c : goal.Joined-unwrap)
    → Puts c.self.inside.rows c.insert.new.self c.args.key c.args.entry
puts c = let none = absent c in search rules

appends : (c : goal.Joined-unwrap)
    → Appends c.self.inside.rows.entries c.insert.new.self.entries (c.args.key, c.args.entry)
appends c =
    (rw c.unwrap.ensures at c.insert.ensures.entries)
    ∙ insert_entry-new same_key c.self.inside.rows c.args.key c.args.entry (absent c)

pub invariant_of-self : goal.invariant_of-self
invariant_of-self c =
    let i = c.self.inside in
    let key = c.args.key in (
      AreStored-write (rows_seen i.rows i.due) (rows_seen c.insert.new.self c.write.new.self)
          i.most c.args.self.now c.self.invariant.0 c.self.view_is key c.args.entry
          (Puts-seen i.rows c.insert.new.self i.due c.write.new.self c.write.ensures.room key
          c.args.entry (puts c)) (λ none. c.requires.few) c.requires.birth
          c.requires.entry,
      AreRows-appended i.rows c.insert.new.self i.due c.write.new.self c.self.invariant.1
          (key, c.args.entry) (appends c) c.len.result c.len.ensures.len
          c.write.ensures
          (one_fits (hash.get same_key i.rows key) (length c.insert.new.self.entries)
          (length i.rows.entries) i.due.room (puts c).longer
          (omega (arith, c.requires.room, ap (λ t. t.room) c.self.view_is))),
      AreBorn-appended i.rows c.insert.new.self i.births c.add.new.self c.self.invariant.2
          c.add.ensures.still (key, c.args.entry) (appends c)
          c.add.ensures.births,
      AreTold-appended i.rows c.insert.new.self i.told c.add-2.new.self c.self.invariant.3
          c.add-2.ensures.still (key, c.args.entry) (appends c)
          (rw c.identifier.ensures at c.add-2.ensures.times),
    )

pub returns-clause-adds : goal.returns-clause-adds
returns-clause-adds c =
    let i = c.self.inside in
    let puts = Puts-seen i.rows c.insert.new.self i.due c.write.new.self c.write.ensures.room
    c.args.key c.args.entry (puts c) in
    Adds-put (rows_seen i.rows i.due) (rows_seen c.insert.new.self c.write.new.self) c.args.key
    i.most c.args.self.now c.self.view_is c.args.entry puts.updates puts.room

pub returns-clause-sound : goal.returns-clause-sound
returns-clause-sound c =
    IsConsistent-stored (rows_seen c.insert.new.self c.write.new.self) c.self.inside.most _
    (invariant_of-self c).0 refl
