use Rattle.std.proofs.Common.{◌≡◌, None, slice_get, sym, subst, arith}
use Rattle.history.specs.Worlds.{Scene, Takes, refused_take, with_worker}
use Rattle.history.proofs.Acts.{do_take, take_few}
use Rattle.history.proofs.world.World.take.Goals as goal

pub take-requires-clause-few : goal.take-requires-clause-few
take-requires-clause-few g c =
    let x : Scene = record {
      base = c.self.inside.book.base;
      zone = c.self.inside.zone;
      entries = c.self.inside.book.entries.items;
      workers = c.self.inside.workers.items;
      capacity = c.self.inside.capacity;
    } in
    let free = subst (λ (s : Scene). refused_take (slice_get s.workers c.args.w)
    ≡ None) (sym c.self.view_is) c.requires in
    let few = take_few x c.args.w c.index_mut.result.now c.self.invariant free
    c.index_mut.ensures.value in
    let is = c.self.inside.book.entries.ok.0 in
    let small = c.self.inside.book.entries.small in
    omega (arith, few, is, small)

pub invariant_of-self : goal.invariant_of-self
invariant_of-self g c =
    let x : Scene = record {
      base = c.self.inside.book.base;
      zone = c.self.inside.zone;
      entries = c.self.inside.book.entries.items;
      workers = c.self.inside.workers.items;
      capacity = c.self.inside.capacity;
    } in
    let free = subst (λ (s : Scene). refused_take (slice_get s.workers c.args.w)
    ≡ None) (sym c.self.view_is) c.requires in
    (do_take x c.args.w c.index_mut.result.now c.take.new.self c.take.result c.self.invariant free
    c.index_mut.ensures.value c.take.ensures.ring c.take.ensures.taken).1

pub returns-clause-acted : goal.returns-clause-acted
returns-clause-acted g c =
    let x : Scene = record {
      base = c.self.inside.book.base;
      zone = c.self.inside.zone;
      entries = c.self.inside.book.entries.items;
      workers = c.self.inside.workers.items;
      capacity = c.self.inside.capacity;
    } in
    let free = subst (λ (s : Scene). refused_take (slice_get s.workers c.args.w)
    ≡ None) (sym c.self.view_is) c.requires in
    subst (λ (s : Scene). Takes s c.args.w c.take.result (with_worker x c.args.w c.take.new.self))
    c.self.view_is
    (do_take x c.args.w c.index_mut.result.now c.take.new.self c.take.result c.self.invariant free
    c.index_mut.ensures.value c.take.ensures.ring c.take.ensures.taken).0

pub returns-clause-order : goal.returns-clause-order
returns-clause-order g c = invariant_of-self g c
