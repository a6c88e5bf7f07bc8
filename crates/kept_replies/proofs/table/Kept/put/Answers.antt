use Rattle.std.proofs.Common.{ap, sym, refl, ◌∙◌, arith}
use Rattle.std.proofs.lemmas.List.{length-map}
use Rattle.std.specs.Prelude.{length}
use Rattle.std.specs.HashMap as hash
use Rattle.kept_replies.specs.Keys.{same_key}
use Rattle.kept_replies.specs.Kept.{birth_of}
use Rattle.kept_replies.specs.inside.Rows.{rows_seen}
use Rattle.kept_replies.proofs.PlacedBirths.{AreBorn-replaced}
use Rattle.kept_replies.proofs.SeenRows.{AreRows-rewritten, Puts-seen, Puts-rewritten, there_is}
use Rattle.kept_replies.proofs.SeenRows.{there_is_none}
use Rattle.kept_replies.proofs.StoredKept.{stored_get, AreStored-write, Adds-put}
use Rattle.kept_replies.proofs.StoredKept.{IsConsistent-stored}
use Rattle.kept_replies.proofs.ToldTimes.{AreTold-rewritten}
use Rattle.kept_replies.proofs.table.Kept.put.Goals as goal

pub replace-requires : goal.replace-requires
replace-requires c whole =
    let rows = c.self.inside.rows.entries in
    omega (
      arith,
      c.in-Some.ensures.within,
      ap length (c.self.invariant.2 whole),
      length-map rows birth_of,
    )

pub add-requires-clause-new : goal.add-requires-clause-new
add-requires-clause-new c =
    let i = c.self.inside in
    let seen = rows_seen i.rows i.due in
    sym (stored_get seen seen i.most c.args.self.now c.self.invariant.0 c.self.view_is c.args.key)
    ∙ there_is_none (hash.get same_key i.rows c.args.key) c.in-None.ensures.found

pub add-requires-clause-few : goal.add-requires-clause-few
add-requires-clause-few c = c.requires.few (add-requires-clause-new c)

pub add-requires-clause-room : goal.add-requires-clause-room
add-requires-clause-room c = c.requires.room (add-requires-clause-new c)

pub invariant_of-self : goal.invariant_of-self
invariant_of-self c =
    let i = c.self.inside in
    let was = there_is (hash.get same_key i.rows c.args.key) c.in-Some.ensures.found in
    let puts = Puts-seen i.rows c.replace_entry.new.rows i.due c.write.new.self
    c.write.ensures.room c.args.key c.args.entry
    (Puts-rewritten i.rows c.replace_entry.new.rows c.args.key c.args.entry was.0
    c.replace_entry.ensures was.1) in (
      AreStored-write (rows_seen i.rows i.due)
          (rows_seen c.replace_entry.new.rows c.write.new.self) i.most c.args.self.now
          c.self.invariant.0 c.self.view_is c.args.key c.args.entry puts c.requires.few
          c.requires.birth c.requires.entry,
      AreRows-rewritten i.rows c.replace_entry.new.rows i.due c.write.new.self c.self.invariant.1
          (λ other. c.args.entry) c.args.key c.in-Some.place c.replace_entry.ensures
          c.in-Some.ensures.index was.0 was.1 c.write.ensures,
      AreBorn-replaced i.rows c.replace_entry.new.rows i.births c.replace.new.self
          c.self.invariant.2 c.replace.ensures.still c.args.entry c.args.key c.in-Some.place
          c.replace_entry.ensures c.in-Some.ensures.index was.0 was.1 c.replace.ensures.births,
      AreTold-rewritten i.rows c.replace_entry.new.rows i.told c.replace-in-Some.new.self
          c.self.invariant.3 c.replace-in-Some.ensures.still (λ other. c.args.entry) c.args.key
          c.replace_entry.ensures was.0 was.1
          (rw c.identifier.ensures at c.replace-in-Some.ensures.times was.0 was.1),
    )

pub returns-in-Some-clause-adds : goal.returns-in-Some-clause-adds
returns-in-Some-clause-adds c =
    let i = c.self.inside in
    let was = there_is (hash.get same_key i.rows c.args.key) c.in-Some.ensures.found in
    let puts = Puts-seen i.rows c.replace_entry.new.rows i.due c.write.new.self
    c.write.ensures.room c.args.key c.args.entry
    (Puts-rewritten i.rows c.replace_entry.new.rows c.args.key c.args.entry was.0
    c.replace_entry.ensures was.1) in
    Adds-put (rows_seen i.rows i.due) (rows_seen c.replace_entry.new.rows c.write.new.self)
    c.args.key i.most c.args.self.now c.self.view_is c.args.entry puts.updates puts.room

pub returns-in-Some-clause-sound : goal.returns-in-Some-clause-sound
returns-in-Some-clause-sound c =
    IsConsistent-stored (rows_seen c.replace_entry.new.rows c.write.new.self) c.self.inside.most _
    (invariant_of-self c).0 refl

pub returns-in-Some-clause-replaces : goal.returns-in-Some-clause-replaces
returns-in-Some-clause-replaces c there =
    omega (
      arith,
      c.replace_entry.ensures.same_length,
      c.replace_entry.ensures.same_room,
      c.write.ensures.room,
      ap (λ t. t.room) c.self.view_is,
    )

pub returns-in-None-clause-replaces : goal.returns-in-None-clause-replaces
returns-in-None-clause-replaces c there =
    let i = c.self.inside in
    let seen = rows_seen i.rows i.due in
    absurd (there
    (sym (stored_get seen seen i.most c.args.self.now c.self.invariant.0 c.self.view_is c.args.key)
    ∙ there_is_none (hash.get same_key i.rows c.args.key) c.in-None.ensures.found))
