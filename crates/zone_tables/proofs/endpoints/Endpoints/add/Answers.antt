use Rattle.std.proofs.Common.{◌≡◌, ◌∙◌, sym, ap, subst, List}
use Rattle.std.specs.Prelude.{Contains}
use Rattle.std.specs.FinMap as fin
use Rattle.ras_module.specs.declared.alias.Alias.{Alias}
use Rattle.aliases.specs.Held.{Held, IsHeldByAnother, with_aliases}
use Rattle.aliases.proofs.Entering.{not_held}
use Rattle.registrations.specs.Registry.{Live}
use Rattle.registrations.specs.Agreement.{Agree}
use Rattle.zone_tables.specs.Parts.{Roster}
use Rattle.zone_tables.proofs.Agreeing.{free_to_add, Agree-add}
use Rattle.zone_tables.proofs.Answered.{on_ok}
use Rattle.zone_tables.proofs.endpoints.Endpoints.add.Goals as goal

pub set_all-requires-clause-free : goal.set_all-requires-clause-free
set_all-requires-clause-free c alias has other =
    let held = c.self.inside.aliases.held in
    let agree = subst (λ (t : Roster). Agree t.roll.live held) c.self.view_is
    c.self.invariant.agree in
    let r = c.args.registration in
    not_held held alias r.identifier
    (free_to_add c.args.self.now.roll held agree r c.requires alias
    (subst (λ (xs : List Alias). Contains xs alias) c.as_slice-aliases.ensures.items has))
    (subst (λ (h : Held). IsHeldByAnother h alias r.identifier) c.reserve-2.ensures.held other)

pub invariant_of-self-2 : goal.invariant_of-self-2
invariant_of-self-2 c =
    let held = c.self.inside.aliases.held in
    let agree = subst (λ (t : Roster). Agree t.roll.live held) c.self.view_is
    c.self.invariant.agree in
    let r = c.args.registration in
    let live_is : c.insert.new.self.live ≡ fin.insert c.args.self.now.roll.live r.identifier r =
    (on_ok c.insert.result c.unwrap.result c.unwrap.ensures c.insert.ensures.ok).rows
    ∙ ap (λ l. fin.insert l r.identifier r)
    (c.reserve.ensures.stays.rows ∙ ap (λ (t : Roster). t.roll.live) c.self.view_is) in
    let held_is : c.set_all.new.self.held ≡ with_aliases held r.aliases r.identifier r.call_signal =
    c.set_all.ensures.held
    ∙ (ap (λ h. with_aliases h c.as_slice-aliases.result.now r.identifier r.call_signal)
    c.reserve-2.ensures.held
    ∙ ap (λ xs. with_aliases held xs r.identifier r.call_signal)
    c.as_slice-aliases.ensures.items) in
    record {
      agree = subst (λ (l : Live). Agree l c.set_all.new.self.held) (sym live_is)
          (subst (λ (h : Held). Agree (fin.insert c.args.self.now.roll.live r.identifier r) h)
          (sym held_is)
          (Agree-add c.args.self.now.roll held agree r c.requires));
      sound = (on_ok c.insert.result c.unwrap.result c.unwrap.ensures c.insert.ensures.ok).sound;
    }
