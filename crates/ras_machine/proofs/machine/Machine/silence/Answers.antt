use Rattle.std.proofs.Common.{◌∙◌, refl, ap, sym, None}
use Rattle.zone_events.specs.declared.due_item.DueItem.TheVariants.{Silent}
use Rattle.zone_config.specs.declared.config.ConfigParts.{ConfigParts}
use Rattle.ras_machine.specs.State.{State}
use Rattle.zone_tables.specs.Tables.{Tables}
use Rattle.ras_machine.specs.inside.Parts.{state_of}
use Rattle.ras_machine.proofs.Dropping.{born_same}
use Rattle.ras_machine.proofs.Noting.{does_item}
use Rattle.zone_tables.proofs.Departing.{settings_stay}
use Rattle.ras_machine.proofs.machine.Machine.silence.Goals as goal

pub invariant_of-self : goal.invariant_of-self
invariant_of-self c = record {
  tables = c.silence.ensures.sound;
  kept = c.self.invariant.kept;
  most = c.self.invariant.most ∙ sym (ap (λ (z : Tables). z.config.kept) c.silence.ensures.tables
      ∙ ap (λ (config : ConfigParts). config.kept)
      (settings_stay c.self.inside.tables c.args.id.now));
  clock = c.self.invariant.clock;
  least_number = c.self.invariant.least_number;
  most_number = c.self.invariant.most_number;
  steps = c.self.invariant.steps;
}

pub returns-clause-does : goal.returns-clause-does
returns-clause-does c =
    let i = c.self.inside in
    let old =
    state_of i.tables i.kept.kept i.clock i.interrogation_number i.next_pool_turn i.steps in
    let left = c.silence.new.self in
    let new : State = record old { tables = left } in
    does_item old _ c.self.view_is c.args.now (Silent c.args.id.now) c.requires
    None c.be_noted.new.self c.be_noted.ensures new
    refl (ap (λ (z : Tables). record old { tables = z }) (sym c.silence.ensures.tables))
    c.silence.ensures.pools
    (λ before. born_same i.kept.kept i.steps before) tt
