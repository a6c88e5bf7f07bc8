use Rattle.std.proofs.Common.{◌≡◌, ◌∙◌, sym, ap, subst, List}
use Rattle.std.specs.Prelude.{Contains, IsSome}
use Rattle.std.specs.FinMap as fin
use Rattle.ras_module.specs.declared.alias.Alias.{Alias}
use Rattle.aliases.specs.Held.{Held, IsHeldByAnother, with_aliases, without_holder}
use Rattle.aliases.proofs.Entering.{not_held}
use Rattle.registrations.specs.Registry.{Live, IsConsistent, after_hear, after_rewrite}
use Rattle.registrations.specs.Agreement.{Agree}
use Rattle.keyed.specs.Maps.{update}
use Rattle.zone_tables.specs.Tables.{heard_now}
use Rattle.zone_tables.specs.Parts.{Roster}
use Rattle.zone_tables.proofs.Agreeing.{free_to_rewrite, is_live}
use Rattle.zone_tables.proofs.Answered.{is_there}
use Rattle.zone_tables.proofs.Agreeing.{Agree-rewriting}
use Rattle.zone_tables.proofs.endpoints.Endpoints.rewrite.Goals as goal

pub set_all-requires-clause-free : goal.set_all-requires-clause-free
set_all-requires-clause-free c alias has other =
    let held = c.self.inside.aliases.held in
    let agree = subst (λ (t : Roster). Agree t.roll.live held) c.self.view_is
    c.self.invariant.agree in
    let sound =
    subst (λ (t : Roster). IsConsistent t.roll.live) c.self.view_is
    c.self.invariant.sound.consistent in
    let id = c.args.endpoint.now in
    let dropped : c.drop_aliases.new.aliases.held ≡ without_holder held id =
    c.drop_aliases.ensures.rows ∙ ap (λ h. without_holder h id) c.reserve.ensures.held in
    not_held (without_holder held id) alias id
    (free_to_rewrite c.args.self.now.roll held agree sound id c.args.entry c.requires alias
    (subst (λ (xs : List Alias). Contains xs alias) c.as_slice-2.ensures.items has))
    (subst (λ (h : Held). IsHeldByAnother h alias id) dropped other)

pub rewrite-requires : goal.rewrite-requires
rewrite-requires c =
    let held = c.self.inside.aliases.held in
    let agree = subst (λ (t : Roster). Agree t.roll.live held) c.self.view_is
    c.self.invariant.agree in
    let sound =
    subst (λ (t : Roster). IsConsistent t.roll.live) c.self.view_is
    c.self.invariant.sound.consistent in
    let id = c.args.endpoint.now in
    is_there (fin.get c.self.inside.registrations.live id) c.requires.old
    (ap (λ (t : Roster). fin.get t.roll.live id) c.self.view_is
    ∙ is_live c.args.self.now.roll held agree sound id c.args.entry c.requires)

pub invariant_of-self-2 : goal.invariant_of-self-2
invariant_of-self-2 c =
    let held = c.self.inside.aliases.held in
    let agree = subst (λ (t : Roster). Agree t.roll.live held) c.self.view_is
    c.self.invariant.agree in
    let sound =
    subst (λ (t : Roster). IsConsistent t.roll.live) c.self.view_is
    c.self.invariant.sound.consistent in
    let id = c.args.endpoint.now in
    let e = c.args.entry in
    let now = c.milliseconds.result in
    let dropped : c.drop_aliases.new.aliases.held ≡ without_holder held id =
    c.drop_aliases.ensures.rows ∙ ap (λ h. without_holder h id) c.reserve.ensures.held in
    let held_is : c.set_all.new.self.held
    ≡ with_aliases (without_holder held id) e.aliases id e.call_signal =
    c.set_all.ensures.held
    ∙ (ap (λ h. with_aliases h c.as_slice-2.result.now id e.call_signal) dropped
    ∙ ap (λ xs. with_aliases (without_holder held id) xs id e.call_signal)
    c.as_slice-2.ensures.items) in
    let live_is : c.hear.new.self.live ≡ heard_now now id
    (update c.args.self.now.roll.live id (after_rewrite e.ras e.aliases c.args.deadline)) =
    c.hear.ensures.rows
    ∙ ap (λ l. update l id (after_hear now)) (c.rewrite.ensures.rows
    ∙ ap (λ (t : Roster). update t.roll.live id (after_rewrite e.ras e.aliases c.args.deadline))
    c.self.view_is) in
    record {
      agree = subst (λ (l : Live). Agree l c.set_all.new.self.held) (sym live_is)
          (subst (λ (h : Held). Agree (heard_now now id (update c.args.self.now.roll.live id
          (after_rewrite e.ras e.aliases c.args.deadline))) h) (sym held_is)
          (Agree-rewriting c.args.self.now.roll held agree sound id e c.args.deadline now
          c.requires));
      sound = c.hear.ensures.sound;
    }
