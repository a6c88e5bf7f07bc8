-- What each step does to a world that is in order.
use Rattle.std.proofs.Common.{◌≡◌, ◌<◌, ◌≤◌, ◌+◌, inl, inr, ℕ, zero, suc, false, List, [], ◌∷◌}
use Rattle.std.proofs.Common.{◌++◌, length, get_or, refl, sym, ◌∙◌, ap, subst, cond, Some, None}
use Rattle.std.specs.Prelude.{Option, slice_get, slice_set, replicate}
use Rattle.std.proofs.lemmas.Option.{slice_get_cases, slice_get_within, slice_get-get_or}
use Rattle.zone_events.specs.declared.event.Event.{Event}
use Rattle.zone_events.specs.declared.outcome.Datagram.{Datagram}
use Rattle.zone_events.specs.declared.outcome.Outcome.{Outcome}
use Rattle.ras_machine.specs.State.{State}
use Rattle.ras_machine.specs.Soundness.{Sound}
use Rattle.ras_core.specs.Running.{Running}
use Rattle.zone_events.specs.declared.change.Change.{Change}
use Rattle.zone_events.specs.declared.change.Change.TheVariants as change
use Rattle.ras_core.specs.Runs.{RunningChange, RunningStep}
use Rattle.books.specs.declared.book.Entry.{Entry}
use Rattle.books.specs.Books.{entries_of_seat}
use Rattle.history.specs.declared.worker.Hand.{Hand}
use Rattle.history.specs.declared.worker.Hand.TheVariants.{Idle, Holding, Done}
use Rattle.history.specs.declared.worker.Mark.{Mark}
use Rattle.history.specs.declared.worker.Mark.TheVariants.{Posted, Dropped, Silent}
use Rattle.history.specs.declared.world.Acted.{Acted}
use Rattle.history.specs.declared.world.WorldStep.TheVariants.{Post}
use Rattle.history.specs.declared.fault.WorldFault.{WorldFault}
use Rattle.history.specs.declared.fault.WorldFault.TheVariants.{NoWorker, NotIdle, RingEmpty}
use Rattle.history.specs.Workers.{WorkerState, IsServed, IsInHand, is_idle, event_of, place_of}
use Rattle.history.specs.Workers.{is_empty, mark_of, posted, acted_by}
use Rattle.history.specs.Worlds.{Scene, IsInOrder, with_worker, entry_by, refused_receive}
use Rattle.history.specs.Worlds.{refused_apply, refused_post, refused_take, Receives, Applies}
use Rattle.history.specs.Worlds.{Posts, Takes, Happens}
use Rattle.history.proofs.Scenes.{order_with, served_receive, served_take, served_post}
use Rattle.history.proofs.Scenes.{order_apply, order_beside, few_taken}

-- a step that isn't refused is of a worker
some_worker : (ws : List WorkerState) (w : ℕ) (got : WorkerState) (f : Option WorkerState
    → Option WorldFault) → f None ≡ Some NoWorker → f (slice_get ws w) ≡ None → got
    ≡ get_or ws w got → slice_get ws w ≡ Some got
some_worker ws w got f refuses free is =
    elim ((slice_get_cases ws w).1) [
      | inl found ↦ slice_get-get_or ws w got found.1 ∙ ap Some (sym is)
      | inr past ↦ absurd (let both : None ≡ Some NoWorker = sym free
          ∙ (ap f past.1 ∙ refuses) in cc both)
    ]

idle_hand : (h : Hand) → cond (is_idle h) None (Some NotIdle) ≡ None → h ≡ Idle
idle_hand Idle h = refl
idle_hand (Holding event) h = absurd (cc h)
idle_hand (Done place) h = absurd (cc h)

done_hand : (h : Hand) (place : ℕ) → Some place ≡ place_of h → h ≡ Done place
done_hand Idle place h = absurd (cc h)
done_hand (Holding event) place h = absurd (cc h)
done_hand (Done p) place h = ap Done (sym (cc h))

event_hand : (h : Hand) (event : Event) → Some event ≡ event_of h → h ≡ Holding event
event_hand Idle event h = absurd (cc h)
event_hand (Holding e) event h = ap Holding (sym (cc h))
event_hand (Done p) event h = absurd (cc h)

pub do_receive : (x : Scene) (w : ℕ) (event : Event) (got new : WorkerState) → IsInOrder x
    → refused_receive (slice_get x.workers w) ≡ None → got ≡ get_or x.workers w got → new
    ≡ record got { hand = Holding event }
    → Receives x w event (with_worker x w new) × IsInOrder (with_worker x w new)
do_receive x w event got new order free is now =
    let there = some_worker x.workers w got refused_receive refl free is in
    let idle = idle_hand got.hand (subst (λ o. refused_receive o ≡ None) there free) in (
      record { worker = got; there = there; idle = idle; after = ap (with_worker x w) now },
      order_with x w new order (subst (IsServed x.entries w) (sym now)
          (served_receive x.entries w got event (order.served w got there) idle)),
    )

pub place_within : (x : Scene) (w : ℕ) (got : WorkerState) (place : ℕ) → IsInOrder x
    → refused_post (slice_get x.workers w) ≡ None → got ≡ get_or x.workers w got → Some place
    ≡ place_of got.hand → place < length x.entries
place_within x w got place order free is done =
    let there = some_worker x.workers w got refused_post refl free is in
    let s = order.served w got there in
    let hand : IsInHand (Done place) x.entries s.waiting = subst
    (λ (h : Hand). IsInHand h x.entries s.waiting) (done_hand got.hand place done) s.hand in
    slice_get_within x.entries place hand.0 hand.2

pub do_post : (x : Scene) (w : ℕ) (got new : WorkerState) (place : ℕ) (e : Entry) (m : Mark)
    → IsInOrder x → refused_post (slice_get x.workers w) ≡ None → got ≡ get_or x.workers w got
    → Some place ≡ place_of got.hand
    → e ≡ get_or x.entries place e → m ≡ mark_of x.capacity (length got.ring) (e.outcome.output)
    → new ≡ posted got m (e.outcome.output)
    → Posts x w m (with_worker x w new) × IsInOrder (with_worker x w new)
do_post x w got new place e m order free is done e_is mark now =
    let there = some_worker x.workers w got refused_post refl free is in
    let at : slice_get x.entries place
    ≡ Some e = slice_get-get_or x.entries place e (place_within x w got place order free is
    done) ∙ ap Some (sym e_is) in
    let hand = done_hand got.hand place done in (
      record {
        worker = got;
        place = place;
        entry = e;
        there = there;
        done = hand;
        at = at;
        marked = mark;
        after = ap (with_worker x w) now;
      },
      order_with x w new order (subst (IsServed x.entries w) (sym now)
          (served_post x.entries w got place e x.capacity (length got.ring) m
          (order.served w got there) hand at mark)),
    )

some_in : (ring : List Datagram) → is_empty ring ≡ false → (o : Datagram) × (rest : List Datagram)
    × (ring ≡ o ∷ rest)
some_in [] h = absurd (cc h)
some_in (o ∷ rest) h = (o, rest, refl)

some_ring : (ring : List Datagram) → cond (is_empty ring) (Some RingEmpty) None ≡ None
    → is_empty ring ≡ false
some_ring [] h = absurd (cc h)
some_ring (o ∷ rest) h = refl

pub take_few : (x : Scene) (w : ℕ) (got : WorkerState) → IsInOrder x
    → refused_take (slice_get x.workers w) ≡ None → got ≡ get_or x.workers w got
    → got.taken + 1 ≤ length x.entries
take_few x w got order free is =
    let there = some_worker x.workers w got refused_take refl free is in
    let some = some_ring got.ring (subst (λ o. refused_take o ≡ None) there free) in
    let ring = some_in got.ring some in
    few_taken x.entries w got ring.0 ring.1 (order.served w got there) ring.2

pub do_take : (x : Scene) (w : ℕ) (got new : WorkerState) (o : Datagram) → IsInOrder x
    → refused_take (slice_get x.workers w) ≡ None → got ≡ get_or x.workers w got → got.ring
    ≡ o ∷ new.ring
    → new ≡ record {
      hand = got.hand;
      ring = new.ring;
      settled = got.settled;
      taken = got.taken + 1;
    }
    → Takes x w o (with_worker x w new) × IsInOrder (with_worker x w new)
do_take x w got new o order free is ring now =
    let there = some_worker x.workers w got refused_take refl free is in (
      record {
        worker = got;
        rest = new.ring;
        there = there;
        ring = ring;
        after = ap (with_worker x w) now;
      },
      order_with x w new order (subst (IsServed x.entries w) (sym now)
          (served_take x.entries w got o new.ring (order.served w got there) ring)),
    )

pub do_apply : (x : Scene) (w : ℕ) (got new : WorkerState) (event : Event) (call : ℕ)
    (outcome : Outcome) (after : Running) → IsInOrder x
    → refused_apply x.zone.state (slice_get x.workers w) ≡ None
    → got ≡ get_or x.workers w got → event_of got.hand ≡ Some event → call ≡ length got.settled
    → RunningStep x.zone event outcome after → new
    ≡ record got { hand = Done (length x.entries) }
    → (let y : Scene = record {
      base = x.base;
      zone = after;
      entries = x.entries ++ entry_by w call (change.Event event) outcome ∷ [];
      workers = slice_set x.workers w new;
      capacity = x.capacity;
    } in Applies x w outcome y
    × IsInOrder y)
do_apply x w got new event call outcome after order free is held called step now =
    let there = some_worker x.workers w got (refused_apply x.zone.state) refl free is in
    let hand = event_hand got.hand event (sym held) in
    let e : Entry = entry_by w call (change.Event event) outcome in (
      record {
        worker = got;
        event = event;
        there = there;
        holding = hand;
        step = step;
        after = λ i. record {
          base = x.base;
          zone = after;
          entries = x.entries ++ entry_by w (called i) (change.Event event) outcome ∷ [];
          workers = slice_set x.workers w (now i);
          capacity = x.capacity;
        };
      },
      subst (λ (k : WorkerState). IsInOrder (record {
        base = x.base;
        zone = after;
        entries = x.entries ++ e ∷ [];
        workers = slice_set x.workers w k;
        capacity = x.capacity;
      })) (sym now)
          (order_apply x w got event e after order there refl called hand step),
    )

-- the same of a book that was given room, and an outcome that was copied
pub do_apply_to : (x : Scene) (w : ℕ) (got new : WorkerState) (copied event : Event)
    (call place : ℕ) (outcome told : Outcome) (after : Running) (base : State)
    (before entries : List Entry) → IsInOrder x
    → refused_apply x.zone.state (slice_get x.workers w) ≡ None
    → got ≡ get_or x.workers w got → Some copied ≡ event_of got.hand → event_of got.hand
    ≡ Some event → call ≡ length got.settled → RunningStep x.zone copied outcome after
    → place ≡ length before → new ≡ record got { hand = Done place } → before ≡ x.entries → base
    ≡ x.base → entries ≡ before ++ entry_by w call (change.Event event) outcome ∷ []
    → told ≡ outcome
    → (let y : Scene = record {
      base = base;
      zone = after;
      entries = entries;
      workers = slice_set x.workers w new;
      capacity = x.capacity;
    } in Applies x w told y
    × IsInOrder y)
do_apply_to x w got new copied event call place outcome told after base before entries order free
    is seen held called step at now before_is base_is entries_is told_is =
    let same : copied ≡ event = (let both : Some copied ≡ Some event = seen ∙ held in cc both) in
    let step_is = subst (λ (e : Event). RunningStep x.zone e outcome after) same step in
    let here : place ≡ length x.entries = at ∙ ap length before_is in
    let now_is : new ≡ record got { hand = Done (length x.entries) } = now
    ∙ ap (λ (n : ℕ). record got { hand = Done n }) here in
    let all : entries ≡ x.entries ++ entry_by w call (change.Event event) outcome ∷ [] = entries_is
    ∙ ap (λ (es : List Entry). es ++ entry_by w call (change.Event event) outcome ∷ []) before_is in
    let done = do_apply x w got new event call outcome after order free is held called step_is
    now_is in
    let all_done = subst (λ (es : List Entry). (let y : Scene = record {
      base = x.base;
      zone = after;
      entries = es;
      workers = slice_set x.workers w new;
      capacity = x.capacity;
    } in Applies x w outcome y × IsInOrder y)) (sym all) done in
    let base_done = subst (λ (b : State). (let y : Scene = record {
      base = b;
      zone = after;
      entries = entries;
      workers = slice_set x.workers w new;
      capacity = x.capacity;
    } in Applies
    x w outcome y × IsInOrder y)) (sym base_is) all_done in
    subst (λ (o : Outcome). (let y : Scene = record {
      base = base;
      zone = after;
      entries = entries;
      workers = slice_set x.workers w new;
      capacity = x.capacity;
    } in Applies
    x w o y × IsInOrder y)) (sym told_is) base_done

-- what is told of a post is what was done
pub told_post : (x y : Scene) (w : ℕ) (m : Mark) (told : Acted) → told ≡ acted_by m
    → Posts x w m y → Happens x (Post w) told y
told_post x y w m told is posts = subst (λ (a : Acted). Happens x (Post w) a y) (sym is)
    (by_mark m posts) where
      by_mark : (m : Mark) → Posts x w m y → Happens x (Post w) (acted_by m) y
      by_mark Posted p = p
      by_mark Dropped p = p
      by_mark Silent p = p

abbrev idle_worker : WorkerState
idle_worker = record { hand = Idle; ring = []; settled = []; taken = 0 }

replicate_get : (n w : ℕ) (k : WorkerState) → slice_get (replicate n idle_worker) w ≡ Some k → k
    ≡ idle_worker
replicate_get zero w k h = absurd (cc h)
replicate_get (suc n) zero k h = sym (cc h)
replicate_get (suc n) (suc w) k h = replicate_get n w k h

pub order_opening : (base : State) (zone : Running) (entries : List Entry)
    (workers : List WorkerState) (n capacity : ℕ) → base ≡ zone.state → Sound base → entries ≡ []
    → workers ≡ replicate n idle_worker
    → IsInOrder (record {
      base = base;
      zone = zone;
      entries = entries;
      workers = workers;
      capacity = capacity;
    })
order_opening base zone entries workers n capacity same sound none all =
    subst (λ (es : List Entry). IsInOrder (record {
      base = base;
      zone = zone;
      entries = es;
      workers = workers;
      capacity = capacity;
    })) (sym none)
    (subst (λ (ws : List WorkerState). IsInOrder (record {
      base = base;
      zone = zone;
      entries = [];
      workers = ws;
      capacity = capacity;
    })) (sym all)
    (record {
      run = sym same;
      counted = λ seat i e h. absurd (cc h);
      sound = subst Sound same sound;
      served = λ w k h. subst (IsServed [] w) (sym (replicate_get n w k h)) (record {
        past = [];
        waiting = [];
        took = [];
        split = refl;
        hand = refl;
        marked = refl;
        count = refl;
        order = refl;
      });
    }))

-- a pool was replaced: the step is the last entry of a book that was given room
pub do_replace : (x : Scene) (seat call : ℕ) (what : Change) (outcome : Outcome) (after : Running)
    (base : State) (read before entries : List Entry) → IsInOrder x → seat ≡ length x.workers
    → call ≡ length (entries_of_seat seat read) → read ≡ before → before ≡ x.entries
    → base ≡ x.base → entries ≡ before ++ entry_by seat call what outcome ∷ []
    → RunningChange x.zone what outcome after
    → IsInOrder (record {
      base = base;
      zone = after;
      entries = entries;
      workers = x.workers;
      capacity = x.capacity;
    })
do_replace x seat call what outcome after base read before entries order seat_is called read_is
    before_is base_is entries_is step =
    let e : Entry = entry_by seat call what outcome in
    let all : entries ≡ x.entries ++ e ∷ [] = entries_is
    ∙ ap (λ (es : List Entry). es ++ e ∷ []) before_is in
    let call_is = called ∙ ap (λ (es : List Entry). length (entries_of_seat seat es))
    (read_is ∙ before_is) in
    subst (λ (b : State). IsInOrder (record {
      base = b;
      zone = after;
      entries = entries;
      workers = x.workers;
      capacity = x.capacity;
    })) (sym base_is)
    (subst (λ (es : List Entry). IsInOrder (record {
      base = x.base;
      zone = after;
      entries = es;
      workers = x.workers;
      capacity = x.capacity;
    })) (sym all) (order_beside x e after order seat_is call_is step))
