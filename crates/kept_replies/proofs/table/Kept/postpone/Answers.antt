use Rattle.std.proofs.Common.{◌≤◌, ◌+◌, refl, sym, ap, ◌∙◌}
use Rattle.std.specs.FinMap as map
use Rattle.std.specs.HashMap as hash
use Rattle.kept_replies.specs.Keys.{same_key}
use Rattle.kept_replies.specs.Kept.{left_in, postponed}
use Rattle.kept_replies.specs.inside.Rows.{rows_seen}
use Rattle.kept_replies.specs.inside.Told.{times, once}
use Rattle.kept_replies.proofs.Moments.{Writes-postponed}
use Rattle.kept_replies.proofs.PlacedBirths.{AreBorn-rewritten}
use Rattle.kept_replies.proofs.SeenRows.{AreRows-rewritten, Rewrites-seen, there_is_none}
use Rattle.kept_replies.proofs.StoredKept.{passing_entry, passing_stays, stored_get}
use Rattle.kept_replies.proofs.StoredKept.{AreStored-rewrite, Becomes-rewrite, IsEntry-postponed}
use Rattle.kept_replies.proofs.StoredKept.{IsConsistent-stored, not_there}
use Rattle.kept_replies.proofs.ToldTimes.{AreTold-rewritten, named_postponed}
use Rattle.kept_replies.proofs.table.Kept.postpone.Goals as goal

pub write_retry-requires : goal.write_retry-requires
write_retry-requires c =
    let i = c.self.inside in
    let seen = rows_seen i.rows i.due in
    passing_stays (hash.get same_key i.rows c.args.key.now)
    (map.get c.args.self.now.kept c.args.key.now) (λ entry. 2 ≤ left_in entry.state)
    (stored_get seen seen i.most c.args.self.now c.self.invariant.0 c.self.view_is
    c.args.key.now)
    c.requires

pub invariant_of-self : goal.invariant_of-self
invariant_of-self c =
    let i = c.self.inside in
    let seen = rows_seen i.rows i.due in
    let key = c.args.key.now in
    let change = postponed c.args.retry in
    let was = passing_entry (map.get c.args.self.now.kept key)
    (λ entry. 2 ≤ left_in entry.state) c.requires in
    let there = stored_get seen seen i.most c.args.self.now c.self.invariant.0 c.self.view_is key
    ∙ was.1 in (
      AreStored-rewrite seen (rows_seen c.write_retry.new.rows c.wait.new.self) key i.most
          c.args.self.now c.self.view_is change
          (Rewrites-seen i.rows c.write_retry.new.rows i.due c.wait.new.self c.wait.ensures.room
          change key c.write_retry.ensures) was.0 was.1 c.self.invariant.0 refl
          (λ h. IsEntry-postponed c.args.retry was.0 was.2),
      AreRows-rewritten i.rows c.write_retry.new.rows i.due c.wait.new.self c.self.invariant.1
          change key c.in-Some.place c.write_retry.ensures c.in-Some.ensures.index was.0 there
          (Writes-postponed i.due c.wait.new.self c.in-Some.place c.args.retry was.0.state was.2
          c.wait.ensures),
      AreBorn-rewritten i.rows c.write_retry.new.rows i.births i.births c.self.invariant.2
          change key c.write_retry.ensures was.0 there refl,
      AreTold-rewritten i.rows c.write_retry.new.rows i.told i.told c.self.invariant.3 (λ h. h)
          change key c.write_retry.ensures was.0 there
          (λ whole id. ap (λ w. times i.told id + once w id)
          (sym (named_postponed c.args.retry was.0.state))),
    )

pub returns-in-Some-clause-sound : goal.returns-in-Some-clause-sound
returns-in-Some-clause-sound c =
    IsConsistent-stored (rows_seen c.write_retry.new.rows c.wait.new.self) c.self.inside.most _
    (invariant_of-self c).0 refl

pub returns-in-Some-clause-becomes : goal.returns-in-Some-clause-becomes
returns-in-Some-clause-becomes c =
    let i = c.self.inside in
    let key = c.args.key.now in
    let was = passing_entry (map.get c.args.self.now.kept key)
    (λ entry. 2 ≤ left_in entry.state) c.requires in
    Becomes-rewrite (rows_seen i.rows i.due) (rows_seen c.write_retry.new.rows c.wait.new.self)
    key i.most c.args.self.now c.self.view_is (postponed c.args.retry)
    (Rewrites-seen i.rows c.write_retry.new.rows i.due c.wait.new.self c.wait.ensures.room
    (postponed c.args.retry) key c.write_retry.ensures) was.0 was.1

pub returns-in_default-clause-sound : goal.returns-in_default-clause-sound
returns-in_default-clause-sound c =
    let i = c.self.inside in
    IsConsistent-stored (rows_seen i.rows i.due) i.most _ c.self.invariant.0 c.self.view_is

pub returns-in_default-clause-becomes : goal.returns-in_default-clause-becomes
returns-in_default-clause-becomes c =
    let i = c.self.inside in
    let key = c.args.key.now in
    let was = passing_entry (map.get c.args.self.now.kept key)
    (λ entry. 2 ≤ left_in entry.state) c.requires in
    absurd (not_there (rows_seen i.rows i.due) i.most c.args.self.now c.self.invariant.0
    c.self.view_is key was.0 was.1
    (there_is_none (hash.get same_key i.rows key) c.in_default.ensures.found))
