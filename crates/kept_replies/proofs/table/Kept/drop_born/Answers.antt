use Rattle.std.proofs.Common.{subst, refl, sym, ◌∙◌, Some, None, Option, arith}
use Rattle.std.specs.Prelude.{slice_get}
use Rattle.std.specs.Map.Iter.{deref_pair}
use Rattle.kept_replies.specs.declared.entry.KeptEntry.{KeptEntry}
use Rattle.kept_replies.specs.declared.key.KeptKey.{KeptKey}
use Rattle.kept_replies.specs.Kept.{Becomes, without}
use Rattle.kept_replies.specs.inside.Rows.{rows_seen}
use Rattle.kept_replies.proofs.Births.{row_born}
use Rattle.kept_replies.proofs.PlacedBirths.{AreBorn-removed}
use Rattle.kept_replies.proofs.SeenRows.{AreRows-removed, Removes-seen}
use Rattle.kept_replies.proofs.StoredKept.{AreStored-less, Becomes-found, IsConsistent-stored}
use Rattle.kept_replies.proofs.ToldTimes.{AreTold-removed}
use Rattle.kept_replies.proofs.table.Kept.drop_born.Goals as goal

pub invariant_of-self : goal.invariant_of-self
invariant_of-self c =
    let i = c.self.inside in
    let place = c.in-Some.place in
    let row = deref_pair (c.in-Some-get_index._key, c.in-Some-get_index.entry) in
    let there = sym c.in-Some-get_index.ensures.entry in
    let moved = rw there at c.take_row.ensures.entries in (
      AreStored-less (rows_seen i.rows i.due)
          (rows_seen c.take_row.new.rows c.take_out-3.new.self) i.most c.args.self.now
          c.self.invariant.0 c.self.view_is (slice_get i.rows.entries place)
          (Removes-seen i.rows c.take_row.new.rows i.due c.take_out-3.new.self
          c.take_out-3.ensures.room (slice_get i.rows.entries place)
          c.take_row.ensures.removes),
      AreRows-removed i.rows c.take_row.new.rows i.due c.take_out-3.new.self
          c.self.invariant.1 row place c.len.result (sym there) moved
          (sym c.len.ensures.len) (rw there at c.take_row.ensures.removes.shorter)
          c.take_out-3.ensures,
      AreBorn-removed i.rows c.take_row.new.rows i.births c.take_out-2.new.self c.self.invariant.2
          (λ whole. sym c.take_out-2.ensures.still ∙ whole) row place there moved
          c.take_out-2.ensures.births,
      AreTold-removed i.rows c.take_row.new.rows i.told c.take_out.new.self c.self.invariant.3
          c.take_out.ensures.still row place there moved
          (rw c.identifier.ensures at c.take_out.ensures.times),
    )

pub returns-clause-sound : goal.returns-clause-sound
returns-clause-sound c =
    IsConsistent-stored (rows_seen c.take_row.new.rows c.take_out-3.new.self) c.self.inside.most _
    (invariant_of-self c).0 refl

pub returns-clause-becomes : goal.returns-clause-becomes
returns-clause-becomes c =
    let i = c.self.inside in
    let place = c.in-Some.place in
    let seen = rows_seen i.rows i.due in
    Becomes-found seen (rows_seen c.take_row.new.rows c.take_out-3.new.self) i.most
    c.args.self.now c.self.invariant.0 c.self.view_is (slice_get i.rows.entries place) _
    (row_born seen i.most c.args.self.now c.self.invariant.0 c.self.view_is c.args.born
    (Some place) c.in-Some.ensures)
    (Removes-seen i.rows c.take_row.new.rows i.due c.take_out-3.new.self
    c.take_out-3.ensures.room (slice_get i.rows.entries place) c.take_row.ensures.removes)

pub returns-in_default-clause-sound : goal.returns-in_default-clause-sound
returns-in_default-clause-sound c =
    let i = c.self.inside in
    IsConsistent-stored (rows_seen i.rows i.due) i.most _ c.self.invariant.0 c.self.view_is

pub returns-in_default-clause-becomes : goal.returns-in_default-clause-becomes
returns-in_default-clause-becomes c =
    let i = c.self.inside in
    subst (λ (row : Option (KeptKey × KeptEntry)).
    Becomes c.args.self.now c.args.self.now (without c.args.self.now.kept row))
    (row_born (rows_seen i.rows i.due) i.most c.args.self.now c.self.invariant.0 c.self.view_is
    c.args.born None c.in_default.ensures)
    (record { rows = refl; most = refl; room = omega arith })
