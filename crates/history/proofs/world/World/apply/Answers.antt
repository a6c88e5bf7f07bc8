use Rattle.std.proofs.Common.{◌≡◌, ◌∙◌, None, Some, ap, length, slice_get, slice_set, sym, subst}
use Rattle.std.proofs.Common.{arith}
use Rattle.history.specs.Workers.{event_of}
use Rattle.history.specs.Worlds.{Scene, Applies, refused_apply}
use Rattle.history.proofs.Acts.{do_apply_to}
use Rattle.history.proofs.world.World.apply.Goals as goal

pub invariant_of-self-2 : goal.invariant_of-self-2
invariant_of-self-2 g c =
    let x : Scene = record {
      base = c.self.inside.book.base;
      zone = c.self.inside.zone;
      entries = c.self.inside.book.entries.items;
      workers = c.self.inside.workers.items;
      capacity = c.self.inside.capacity;
    } in
    let free = subst (λ (s : Scene). refused_apply s.zone.state (slice_get s.workers c.args.w)
    ≡ None) (sym c.self.view_is) c.requires in
    let seen : Some c.in_ok-event.event
    ≡ event_of c.index_mut-worker.result.now.hand = ap Some c.in_ok-event.ensures
    ∙ c.in-Some.ensures in
    let place : c.len-place.result
    ≡ length c.reserve_entry.new.self.entries.items = omega
    (arith, c.len-place.ensures, c.reserve_entry.new.self.entries.ok.0) in
    let base = c.add_reserved.ensures.base ∙ c.in_ok-reserve_entry.ensures.base in
    (do_apply_to x c.args.w c.index_mut-worker.result.now c.hold-event.new.self
    c.in_ok-event.event c.hold-event.result c.settled-call.result c.len-place.result
    c.in-Ok.outcome c.copy_of-told.result c.step.new.self c.add_reserved.new.self.base
    c.reserve_entry.new.self.entries.items c.add_reserved.new.self.entries.items
    c.self.invariant free c.index_mut-worker.ensures.value seen c.hold-event.ensures.event
    c.settled-call.ensures c.in-Ok.ensures.step place c.hold-event.ensures.hand
    c.in_ok-reserve_entry.ensures.entries base c.add_reserved.ensures.entries
    c.copy_of-told.ensures).1

pub returns-clause-ok : goal.returns-clause-ok
returns-clause-ok g c =
    let x : Scene = record {
      base = c.self.inside.book.base;
      zone = c.self.inside.zone;
      entries = c.self.inside.book.entries.items;
      workers = c.self.inside.workers.items;
      capacity = c.self.inside.capacity;
    } in
    let free = subst (λ (s : Scene). refused_apply s.zone.state (slice_get s.workers c.args.w)
    ≡ None) (sym c.self.view_is) c.requires in
    let seen : Some c.in_ok-event.event
    ≡ event_of c.index_mut-worker.result.now.hand = ap Some c.in_ok-event.ensures
    ∙ c.in-Some.ensures in
    let place : c.len-place.result
    ≡ length c.reserve_entry.new.self.entries.items = omega
    (arith, c.len-place.ensures, c.reserve_entry.new.self.entries.ok.0) in
    let base = c.add_reserved.ensures.base ∙ c.in_ok-reserve_entry.ensures.base in
    subst (λ (s : Scene). Applies s c.args.w c.copy_of-told.result
    (record {
      base = c.add_reserved.new.self.base;
      zone = c.step.new.self;
      entries = c.add_reserved.new.self.entries.items;
      workers = slice_set x.workers c.args.w c.hold-event.new.self;
      capacity = x.capacity;
    }))
    c.self.view_is
    (do_apply_to x c.args.w c.index_mut-worker.result.now c.hold-event.new.self
    c.in_ok-event.event c.hold-event.result c.settled-call.result c.len-place.result
    c.in-Ok.outcome c.copy_of-told.result c.step.new.self c.add_reserved.new.self.base
    c.reserve_entry.new.self.entries.items c.add_reserved.new.self.entries.items
    c.self.invariant free c.index_mut-worker.ensures.value seen c.hold-event.ensures.event
    c.settled-call.ensures c.in-Ok.ensures.step place c.hold-event.ensures.hand
    c.in_ok-reserve_entry.ensures.entries base c.add_reserved.ensures.entries
    c.copy_of-told.ensures).0

pub returns-clause-order : goal.returns-clause-order
returns-clause-order g c = invariant_of-self-2 g c
