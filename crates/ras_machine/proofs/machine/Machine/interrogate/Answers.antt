use Rattle.std.proofs.Common.{◌≡◌, ◌∙◌, ap, subst, sym, Some, None}
use Rattle.std.specs.Option.{option_copied, option_map}
use Rattle.std.specs.FinMap as fin
use Rattle.zone_events.specs.declared.due_item.DueItem.TheVariants.{Interrogate}
use Rattle.ras_machine.specs.State.{State}
use Rattle.zone_tables.specs.Tables.{Tables}
use Rattle.zone_tables.specs.Silence.{times_of}
use Rattle.ras_machine.specs.Turns.{IsDueIn, inquiry}
use Rattle.zone_tables.specs.Leaving.{AreSameButLent}
use Rattle.ras_machine.specs.inside.Parts.{state_of}
use Rattle.zone_tables.proofs.ButLent.{same_after_end}
use Rattle.ras_machine.proofs.Dropping.{born_same}
use Rattle.ras_machine.proofs.Noting.{does_item, tries_few_in}
use Rattle.ras_machine.proofs.machine.Machine.interrogate.Goals as goal

pub interrogated-requires : goal.interrogated-requires
interrogated-requires c =
    let z = c.self.inside.tables in
    let due = subst (λ (m : State). IsDueIn m c.args.now (Interrogate c.args.id.now))
    (sym c.self.view_is) c.requires.due in
    tries_few_in (times_of z.config) c.args.now (fin.get z.live c.args.id.now) due.1
    c.registrations.ensures.asks

pub returns-clause-does : goal.returns-clause-does
returns-clause-does c =
    let i = c.self.inside in
    let old =
    state_of i.tables i.kept.kept i.clock i.interrogation_number i.next_pool_turn i.steps in
    let number = c.following-self-inside in
    let new : State = record old {
      tables = c.interrogated.new.self;
      interrogation_number = number.result;
    } in
    let there : fin.get i.tables.live c.args.id.now ≡ Some c.unwrap.result.now =
    ap (λ live. fin.get live c.args.id.now) (sym c.registrations.ensures.live)
    ∙ (sym c.get.ensures.found ∙ ap option_copied c.unwrap.ensures) in
    let zone_is = sym c.interrogated.ensures.tables in
    does_item old _ c.self.view_is c.args.now (Interrogate c.args.id.now) c.requires.due
    (Some c.in_ok-output.output) c.be_noted.new.self c.be_noted.ensures new
    (ap (option_map (inquiry i.interrogation_number)) there
    ∙ ap Some (sym c.in_ok-output.ensures.encoded))
    (λ j. record old { tables = zone_is j; interrogation_number = sym number.ensures j })
    (subst (λ (z : Tables). AreSameButLent i.tables.pools z.pools) zone_is
    (same_after_end i.tables.pools None))
    (λ before. born_same i.kept.kept i.steps before) c.in_ok-output.ensures.few
