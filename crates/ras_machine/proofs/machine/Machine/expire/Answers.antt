use Rattle.std.proofs.Common.{◌+◌, refl, ap, subst, sym, None}
use Rattle.zone_events.specs.declared.due_item.DueItem.TheVariants.{KeptOver}
use Rattle.ras_machine.specs.State.{State}
use Rattle.ras_machine.specs.Soundness.{AreBornBefore}
use Rattle.ras_machine.specs.inside.Parts.{state_of}
use Rattle.zone_tables.proofs.ButLent.{same_after_end}
use Rattle.ras_machine.proofs.Dropping.{born_dropped}
use Rattle.ras_machine.proofs.Noting.{does_item}
use Rattle.ras_machine.proofs.machine.Machine.expire.Goals as goal

pub returns-clause-does : goal.returns-clause-does
returns-clause-does c =
    let i = c.self.inside in
    let old =
    state_of i.tables i.kept.kept i.clock i.interrogation_number i.next_pool_turn i.steps in
    let rows_are = sym c.drop_born.ensures.becomes.rows in
    let new : State = record old { kept = c.drop_born.new.self.kept } in
    does_item old _ c.self.view_is c.args.now (KeptOver c.args.born) c.requires
    None c.be_noted.new.self c.be_noted.ensures new
    refl (ap (λ k. record old { kept = k }) rows_are)
    (same_after_end old.tables.pools None)
    (λ before. subst (λ k. AreBornBefore (i.steps + 1) k) rows_are
    (born_dropped i.kept.kept i.steps before c.args.born)) tt
