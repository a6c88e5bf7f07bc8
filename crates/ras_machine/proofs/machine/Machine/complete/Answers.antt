use Rattle.std.proofs.Common.{rules, ◌≡◌, ◌≤◌, ◌+◌, ◌∙◌, Some, None, length, ap, refl, subst, sym}
use Rattle.std.specs.Prelude.{IfSome}
use Rattle.ras_module.specs.declared.reply.TheConstants.Reply as reply_octets
use Rattle.ras_writing.specs.Replies.{encoding_of}
use Rattle.kept_replies.specs.declared.entry.KeptState.TheVariants.{Done}
use Rattle.zone_events.specs.declared.outcome.Datagram.{Datagram}
use Rattle.zone_events.specs.declared.outcome.Outcome.{Outcome}
use Rattle.ras_machine.specs.State.{State}
use Rattle.zone_tables.specs.Tables.{Tables}
use Rattle.ras_machine.specs.inside.Parts.{state_of}
use Rattle.zone_config.specs.declared.config.ConfigParts.{ConfigParts}
use Rattle.zone_config.specs.Terms.{term_of}
use Rattle.ras_machine.specs.Keeping.{dropped_for, kept_with, plan_at}
use Rattle.ras_machine.specs.Machine.{Serving, note_at}
use Rattle.ras_requests.specs.declared.plan.Settlement.{Settlement}
use Rattle.ras_requests.specs.Planned.{served}
use Rattle.ras_requests.specs.Requests.{endpoint_of}
use Rattle.zone_tables.specs.Changes.{after_change}
use Rattle.ras_machine.specs.Courses.{Does, heard_at, resolved}
use Rattle.ras_machine.specs.Soundness.{AreBornBefore}
use Rattle.ras_machine.specs.Steps.{IsTimely, IsUnusedIn}
use Rattle.zone_tables.proofs.Answered.{on_ok}
use Rattle.ras_machine.proofs.Carrying.{does_carried, tables_after}
use Rattle.ras_machine.proofs.machine.Machine.complete.Goals as goal

pub invariant_of-self-2 : goal.invariant_of-self-2
invariant_of-self-2 c = record {
  tables = c.hear.ensures.sound;
  kept = c.keep.ensures.sound;
  most = search rules;
  clock = c.self.invariant.clock;
  least_number = c.self.invariant.least_number;
  most_number = c.self.invariant.most_number;
  steps = c.self.invariant.steps;
}

pub returns-clause-does : goal.returns-clause-does
returns-clause-does c plan is =
    let i = c.self.inside in
    let now = c.args.now in
    let job = c.args.job in
    let request = c.args.request.now in
    let endpoint = endpoint_of request in
    let written = c.args.written in
    let d : Settlement = record { reply = written.reply; change = c.args.change } in
    let given = c.args.outcome.now.given in
    let old =
    state_of i.tables i.kept.kept i.clock i.interrogation_number i.next_pool_turn i.steps in
    let tables = c.hear.new.tables in
    let kept = c.keep.new.kept.kept in
    let applied : c.apply.new.self ≡ after_change now endpoint d.change i.tables =
    on_ok c.apply.result c.in_ok-apply.field-0 c.in_ok-apply.was c.apply.ensures.ok
    ∙ ap (λ who. after_change now who d.change i.tables) c.endpoint_of.ensures in
    let tables_is : tables
    ≡ tables_after i.tables now job.occasion endpoint d.change =
    c.hear.ensures.heard ∙ ap (λ (z : Tables). heard_at z job.occasion now endpoint) applied in
    let until_is : c.term-until.result.until ≡ now + i.tables.config.window =
    ap (λ t. t.until) (c.term-until.ensures.same
    ∙ ap (λ (config : ConfigParts). term_of config now) c.config.ensures.same) in
    let kept_is : kept ≡ kept_with i.kept.kept job.key job.occasion i.steps
    (Done d.reply (now + i.tables.config.window)) =
    c.keep.ensures.kept
    ∙ (λ j. kept_with (c.reserve.ensures.kept j) job.key job.occasion i.steps
    (Done written.reply (until_is j))) in
    let few = subst (λ (o : Datagram). length o.bytes ≤ reply_octets.MOST) c.requires.written.sent
    c.requires.written.few in
    let back = sym c.self.view_is in
    let does = does_carried old now job endpoint d given tables kept
    (subst (λ (m : State). IfSome given (IsUnusedIn m)) back c.requires.unused)
    (subst (λ (m : State). IsTimely m now job.occasion) back c.requires.timely)
    (subst (λ (m : State). AreBornBefore m.steps m.kept) back c.requires.sound.born)
    few tables_is kept_is plan request refl
    (subst (λ (m : State). resolved plan given ≡ Some (served m.tables now request d)) back is) in
    let course = Serving (record {
      job = job;
      request = request;
      plan = plan_at job.occasion now endpoint plan;
    }) in
    let new : State = record old { tables = tables; kept = kept } in
    let due : Outcome = record {
      answer = None;
      output = Some (record { to = job.key.source; bytes = encoding_of d.reply });
      note = note_at job.occasion;
      dropped = dropped_for job.occasion;
      given = given;
    } in
    let outcome : Outcome = record {
      answer = None;
      output = Some written.output;
      note = c.note-outcome.result;
      dropped = c.dropped-outcome.result;
      given = given;
    } in
    let outcome_is : due ≡ outcome = λ j. record {
      answer = None;
      output = Some (sym c.requires.written.sent j);
      note = sym c.note-outcome.ensures j;
      dropped = sym c.dropped-outcome.ensures j;
      given = given;
    } in
    subst (λ (m : State). Does m now course outcome new) c.self.view_is
    (subst (λ (o : Outcome). Does old now course o new) outcome_is does)
