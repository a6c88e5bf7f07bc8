use Rattle.std.proofs.Common.{◌≡◌, None, slice_get, sym, subst}
use Rattle.history.specs.Worlds.{Scene, Receives, refused_receive, with_worker}
use Rattle.history.proofs.Acts.{do_receive}
use Rattle.history.proofs.world.World.receive.Goals as goal

pub invariant_of-self : goal.invariant_of-self
invariant_of-self g c =
    let x : Scene = record {
      base = c.self.inside.book.base;
      zone = c.self.inside.zone;
      entries = c.self.inside.book.entries.items;
      workers = c.self.inside.workers.items;
      capacity = c.self.inside.capacity;
    } in
    (do_receive x c.args.w c.args.event c.index_mut.result.now c.receive.new.self c.self.invariant
    (subst (λ (s : Scene). refused_receive (slice_get s.workers c.args.w)
    ≡ None) (sym c.self.view_is) c.requires) c.index_mut.ensures.value c.receive.ensures).1

pub returns-clause-acted : goal.returns-clause-acted
returns-clause-acted g c =
    let x : Scene = record {
      base = c.self.inside.book.base;
      zone = c.self.inside.zone;
      entries = c.self.inside.book.entries.items;
      workers = c.self.inside.workers.items;
      capacity = c.self.inside.capacity;
    } in
    subst (λ (s : Scene). Receives s c.args.w c.args.event
    (with_worker x c.args.w c.receive.new.self)) c.self.view_is
    (do_receive x c.args.w c.args.event c.index_mut.result.now c.receive.new.self c.self.invariant
    (subst (λ (s : Scene). refused_receive (slice_get s.workers c.args.w)
    ≡ None) (sym c.self.view_is) c.requires) c.index_mut.ensures.value c.receive.ensures).0

pub returns-clause-order : goal.returns-clause-order
returns-clause-order g c = invariant_of-self g c
