use Rattle.std.proofs.Common.{◌≡◌, None, slice_get, sym, subst, arith}
use Rattle.history.specs.declared.world.WorldStep.TheVariants.{Post}
use Rattle.history.specs.Worlds.{Scene, Happens, refused_post, with_worker}
use Rattle.history.proofs.Acts.{do_post, place_within, told_post}
use Rattle.history.proofs.world.World.post.Goals as goal

pub index-entry-requires : goal.index-entry-requires
index-entry-requires g c =
    let x : Scene = record {
      base = c.self.inside.book.base;
      zone = c.self.inside.zone;
      entries = c.self.inside.book.entries.items;
      workers = c.self.inside.workers.items;
      capacity = c.self.inside.capacity;
    } in
    let free = subst (λ (s : Scene). refused_post (slice_get s.workers c.args.w)
    ≡ None) (sym c.self.view_is) c.requires in
    let below = place_within x c.args.w c.index_mut-worker.result.now c.in-Some.place
    c.self.invariant free c.index_mut-worker.ensures.value c.in-Some.ensures in
    omega (arith, below, c.self.inside.book.entries.ok.0)

pub invariant_of-self-2 : goal.invariant_of-self-2
invariant_of-self-2 g c =
    let x : Scene = record {
      base = c.self.inside.book.base;
      zone = c.self.inside.zone;
      entries = c.self.inside.book.entries.items;
      workers = c.self.inside.workers.items;
      capacity = c.self.inside.capacity;
    } in
    let free = subst (λ (s : Scene). refused_post (slice_get s.workers c.args.w)
    ≡ None) (sym c.self.view_is) c.requires in
    (do_post x c.args.w c.index_mut-worker.result.now c.post.new.self c.in-Some.place
    c.index-entry.result.now c.in_ok-mark.mark c.self.invariant free
    c.index_mut-worker.ensures.value c.in-Some.ensures c.index-entry.ensures
    c.in_ok-mark.ensures.mark c.in_ok-mark.ensures.ok).1

pub returns-clause-ok : goal.returns-clause-ok
returns-clause-ok g c =
    let x : Scene = record {
      base = c.self.inside.book.base;
      zone = c.self.inside.zone;
      entries = c.self.inside.book.entries.items;
      workers = c.self.inside.workers.items;
      capacity = c.self.inside.capacity;
    } in
    let free = subst (λ (s : Scene). refused_post (slice_get s.workers c.args.w)
    ≡ None) (sym c.self.view_is) c.requires in
    let y = with_worker x c.args.w c.post.new.self in
    subst (λ (s : Scene). Happens s (Post c.args.w) c.acted_by.result y) c.self.view_is
    (told_post x y c.args.w c.in_ok-mark.mark c.acted_by.result c.acted_by.ensures
    (do_post x c.args.w c.index_mut-worker.result.now c.post.new.self c.in-Some.place
    c.index-entry.result.now c.in_ok-mark.mark c.self.invariant free
    c.index_mut-worker.ensures.value c.in-Some.ensures c.index-entry.ensures
    c.in_ok-mark.ensures.mark c.in_ok-mark.ensures.ok).0)

pub returns-clause-order : goal.returns-clause-order
returns-clause-order g c = invariant_of-self-2 g c
