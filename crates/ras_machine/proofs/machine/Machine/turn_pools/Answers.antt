use Rattle.std.proofs.Common.{◌+◌, ◌∙◌, refl, ap, sym, None}
use Rattle.zone_events.specs.declared.due_item.DueItem.TheVariants.{PoolTurn}
use Rattle.zone_config.specs.declared.config.ConfigParts.{ConfigParts}
use Rattle.ras_machine.specs.State.{State}
use Rattle.ras_machine.specs.inside.Parts.{state_of}
use Rattle.zone_tables.proofs.ButLent.{same_after_end}
use Rattle.ras_machine.proofs.Dropping.{born_same}
use Rattle.ras_machine.proofs.Noting.{does_item}
use Rattle.ras_machine.proofs.machine.Machine.turn_pools.Goals as goal

pub returns-clause-does : goal.returns-clause-does
returns-clause-does c =
    let i = c.self.inside in
    let old =
    state_of i.tables i.kept.kept i.clock i.interrogation_number i.next_pool_turn i.steps in
    let new : State =
    record old { next_pool_turn = c.milliseconds.result + c.pool_turn.result } in
    let now_is = sym c.milliseconds.ensures.same in
    let turn_is = sym (c.pool_turn.ensures.same
    ∙ ap (λ (config : ConfigParts). config.pool_turn) c.config.ensures.same) in
    does_item old _ c.self.view_is c.args.now PoolTurn c.requires
    None c.be_noted.new.self c.be_noted.ensures new
    refl (λ j. record old { next_pool_turn = now_is j + turn_is j })
    (same_after_end i.tables.pools None)
    (λ before. born_same i.kept.kept i.steps before) tt
