use Rattle.std.proofs.Common.{◌≡◌, ◌∙◌, ap, subst, sym, Some}
use Rattle.std.specs.Option.{option_map}
use Rattle.std.specs.Map.Iter.{deref_pair}
use Rattle.std.specs.FinMap as fin
use Rattle.kept_replies.specs.Kept.{births}
use Rattle.ras_machine.specs.declared.job.Occasion.TheVariants.{Again}
use Rattle.ras_machine.specs.inside.Parts.{state_of}
use Rattle.ras_machine.specs.State.{State}
use Rattle.ras_machine.specs.Courses.{IsAgain}
use Rattle.ras_machine.proofs.Retrying.{is_again, is_served}
use Rattle.ras_machine.proofs.machine.Machine.waiting.Goals as goal

pub returns : goal.returns
returns c now =
    let i = c.self.inside in
    let s =
    state_of i.tables i.kept.kept i.clock i.interrogation_number i.next_pool_turn i.steps in
    let key = c.in-Some.key.now in
    let entry = c.in-Some.entry.now in
    let found : fin.get (births i.kept.kept) c.args.born ≡ Some (key, entry) =
    sym c.by_born.ensures.found ∙ ap (option_map deref_pair) c.in-Some.is in
    subst (λ (m : State). IsAgain m now c.args.born (record {
      key = c.in_ok-copy.field-0;
      occasion = Again c.args.born c.in-Pending.left;
    }) c.in_ok-copy-2.field-0) c.self.view_is
    (is_again s c.by_born.ensures.sound.births now c.args.born key entry found
    c.in-Pending.request c.in-Pending.reply c.in-Pending.retry c.in-Pending.left c.in-Pending.is
    c.in_ok-copy.field-0 c.in_ok-copy-2.field-0 c.in_ok-copy.ensures c.in_ok-copy-2.ensures
    (is_served c.in-Pending.request c.in_default-request.not-Irr))
