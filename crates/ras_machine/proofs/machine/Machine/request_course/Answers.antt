use Rattle.std.proofs.Common.{◌≡◌, ◌≢◌, ◌∙◌, ap, subst, sym, refl}
use Rattle.std.specs.Option.{option_copied}
use Rattle.std.specs.FinMap as fin
use Rattle.kept_replies.specs.Kept.{AreBornApart}
use Rattle.zone_tables.proofs.Answered.{if_ok_with}
use Rattle.ras_machine.specs.State.{State}
use Rattle.ras_machine.specs.Machine.{request_course, serving}
use Rattle.ras_machine.specs.Courses.{CallsFor, IsPlacedIn}
use Rattle.ras_machine.proofs.Calling.{absent_of, has_place, its_plan, known, placed_by}
use Rattle.ras_machine.proofs.Calling.{takes_place}
use Rattle.ras_machine.proofs.Retrying.{is_served}
use Rattle.ras_machine.proofs.machine.Machine.request_course.Goals as goal

pub returns-in-Irr : goal.returns-in-Irr
returns-in-Irr c =
    let s = c.args.self.now in
    let now = c.args.now in
    subst (λ r. CallsFor s now (request_course s now c.args.key c.args.dropped r)
    c.response_course.result) (sym c.in-Irr.is)
    (c.response_course.ensures now)

pub returns-in-Some : goal.returns-in-Some
returns-in-Some c =
    let s = c.args.self.now in
    let now = c.args.now in
    let key = c.args.key in
    let request = c.args.request in
    let served = is_served request c.in_default.not-Irr in
    let plan = its_plan s now key request c.args.dropped served in
    let there = sym (ap (λ (m : State). fin.get m.kept key) c.self.view_is)
    ∙ (sym c.find.ensures.found ∙ ap option_copied c.in-Some.is) in
    if_ok_with _ _ c.serving.result c.serving.ensures (λ called calls.
    subst (λ k. CallsFor s now k called)
    (sym (known s now key request c.args.dropped served c.in-Some.entry.now there
    (sym c.if-is_repeat.ensures)))
    (subst (λ job. CallsFor s now (serving job now request plan.0) called) c.anew.ensures
    (calls plan.0 plan.1)))

pub returns-then-not-is_full : goal.returns-then-not-is_full
returns-then-not-is_full c =
    let s = c.args.self.now in
    let now = c.args.now in
    let key = c.args.key in
    let request = c.args.request in
    let served = is_served request c.in_default.not-Irr in
    let plan = its_plan s now key request c.args.dropped served in
    let absent = sym (ap (λ (m : State). fin.get m.kept key) c.self.view_is)
    ∙ absent_of c.find.result c.find.ensures.found c.in_default-find.not-Some in
    let room = subst (λ (m : State). fin.len m.kept ≢ m.tables.config.kept)
    c.self.view_is (λ full. cc (c.if-not-is_full.ensures.full.1
    (full ∙ sym c.self.invariant.most))) in
    if_ok_with _ _ c.serving-then-not-is_full.result c.serving-then-not-is_full.ensures
    (λ called calls.
    subst (λ k. CallsFor s now k called)
    (sym (has_place s now key request c.args.dropped served absent room))
    (subst (λ job. CallsFor s now (serving job now request plan.0) called)
    c.first.ensures (calls plan.0 plan.1)))

pub serving-requires-2 : goal.serving-requires-2
serving-requires-2 c =
    let s = c.args.self.now in
    let key = c.args.key in
    let absent = sym (ap (λ (m : State). fin.get m.kept key) c.self.view_is)
    ∙ absent_of c.find.result c.find.ensures.found c.in_default-find.not-Some in
    let full = subst (λ (m : State). fin.len m.kept ≡ m.tables.config.kept)
    c.self.view_is (c.if-not-is_full.ensures.full.0 refl ∙ c.self.invariant.most) in
    let apart = subst (λ (m : State). AreBornApart m.kept) c.self.view_is
    c.find.ensures.sound.births in
    record {
      served = is_served c.args.request c.in_default.not-Irr;
      placed = subst (IsPlacedIn s) (sym c.first-2.ensures)
          (placed_by s c.args.now key c.args.dropped apart full absent c.if-is_none.ensures
          c.requires.over);
    }

pub returns : goal.returns
returns c =
    let s = c.args.self.now in
    let now = c.args.now in
    let key = c.args.key in
    let request = c.args.request in
    let served = is_served request c.in_default.not-Irr in
    let plan = its_plan s now key request c.args.dropped served in
    let absent = sym (ap (λ (m : State). fin.get m.kept key) c.self.view_is)
    ∙ absent_of c.find.result c.find.ensures.found c.in_default-find.not-Some in
    let full = subst (λ (m : State). fin.len m.kept ≡ m.tables.config.kept)
    c.self.view_is (c.if-not-is_full.ensures.full.0 refl ∙ c.self.invariant.most) in
    if_ok_with _ _ c.serving-2.result c.serving-2.ensures (λ called calls.
    subst (λ k. CallsFor s now k called)
    (sym (takes_place s now key request c.args.dropped served absent full c.if-is_none.ensures))
    (subst (λ job. CallsFor s now (serving job now request plan.0) called) c.first-2.ensures
    (calls plan.0 plan.1)))
