-- Each step of a world keeps its order.
use Rattle.std.proofs.Common.{◌≡◌, ◌≢◌, ◌≤◌, ◌+◌, ◌==◌, ◌⊎◌, inl, inr, ℕ, zero, suc, Bool, true}
use Rattle.std.proofs.Common.{false, List, [], ◌∷◌, ◌++◌, length, refl, sym, ◌∙◌, ap, subst, cond}
use Rattle.std.proofs.Common.{arith, append_assoc, Some, None}
use Rattle.std.specs.Prelude.{Option, slice_get, slice_set, nat_lt}
use Rattle.std.proofs.lemmas.List.{length-append, append-nil}
use Rattle.std.proofs.lemmas.Option.{slice_get_within}
use Rattle.zone_events.specs.declared.event.Event.{Event}
use Rattle.zone_events.specs.declared.outcome.Datagram.{Datagram}
use Rattle.ras_core.specs.Running.{Running}
use Rattle.ras_core.proofs.Changing.{sound_after, step_of}
use Rattle.ras_core.specs.Runs.{RunningChange}
use Rattle.books.specs.declared.book.Entry.{Entry}
use Rattle.books.specs.Books.{entries_of_seat}
use Rattle.books.proofs.Entries.{run_more, counted_more, of_seat_more, of_own_seat, of_other_seat}
use Rattle.history.specs.declared.worker.Hand.{Hand}
use Rattle.history.specs.declared.worker.Hand.TheVariants.{Idle, Holding, Done}
use Rattle.history.specs.declared.worker.Mark.{Mark}
use Rattle.history.specs.declared.worker.Mark.TheVariants.{Posted, Dropped, Silent}
use Rattle.history.specs.Workers.{WorkerState, IsServed, IsInHand, kept_outputs, unless_dropped}
use Rattle.history.specs.Workers.{listed, mark_of, ring_after, posted}
use Rattle.history.specs.Worlds.{Scene, IsInOrder, with_worker}

set_get : (ws : List WorkerState) (w : ℕ) (k : WorkerState) (v : ℕ) (j : WorkerState)
    → slice_get (slice_set ws w k) v ≡ Some j → ((v ≡ w) × (j ≡ k)) ⊎ ((slice_get ws v ≡ Some j)
    × (v ≢ w))
set_get [] w k v j h = absurd (cc h)
set_get (x ∷ xs) zero k zero j h = inl (refl, sym (cc h))
set_get (x ∷ xs) zero k (suc v) j h = inr (h, λ e. omega arith)
set_get (x ∷ xs) (suc w) k zero j h = inr (h, λ e. omega arith)
set_get (x ∷ xs) (suc w) k (suc v) j h =
    elim (set_get xs w k v j h) [
      | inl here ↦ inl (ap suc here.0, here.1)
      | inr there ↦ inr (there.0, λ e. there.1 (omega arith))
    ]

pub order_with : (x : Scene) (w : ℕ) (k : WorkerState) → IsInOrder x → IsServed x.entries w k
    → IsInOrder (with_worker x w k)
order_with x w k order served = record {
  run = order.run;
  counted = order.counted;
  sound = order.sound;
  served = λ v j h. elim (set_get x.workers w k v j h) [
    | inl here ↦ subst (λ (u : ℕ). IsServed x.entries u j) (sym here.0)
        (subst (IsServed x.entries w) (sym here.1) served)
    | inr there ↦ order.served v j there.0
  ];
}

pub served_receive : (es : List Entry) (w : ℕ) (k : WorkerState) (event : Event) → IsServed es w k
    → k.hand ≡ Idle → IsServed es w (record k { hand = Holding event })
served_receive es w k event s idle = record {
  past = s.past;
  waiting = s.waiting;
  took = s.took;
  split = s.split;
  hand = subst (λ (h : Hand). IsInHand h es s.waiting) idle s.hand;
  marked = s.marked;
  count = s.count;
  order = s.order;
}

pub served_take : (es : List Entry) (w : ℕ) (k : WorkerState) (o : Datagram)
    (rest : List Datagram) → IsServed es w k → k.ring ≡ o ∷ rest
    → IsServed es w (record k { ring = rest; taken = k.taken + 1 })
served_take es w k o rest s is = record {
  past = s.past;
  waiting = s.waiting;
  took = s.took ++ o ∷ [];
  split = s.split;
  hand = s.hand;
  marked = s.marked;
  count = (let count = s.count in omega (arith, length-append s.took (o ∷ [])));
  order = append_assoc s.took (o ∷ []) rest ∙ (ap (λ r. s.took ++ r) (sym is) ∙ s.order);
}

kept_push : (es : List Entry) (ms : List Mark) (e : Entry) (m : Mark) → length es ≡ length ms
    → kept_outputs (es ++ e ∷ []) (ms ++ m ∷ [])
    ≡ kept_outputs es ms ++ unless_dropped m (listed e.outcome.output)
kept_push [] [] e m same = append-nil (unless_dropped m (listed e.outcome.output))
kept_push [] (x ∷ ms) e m same = absurd (omega arith)
kept_push (y ∷ es) [] e m same = absurd (omega arith)
kept_push (y ∷ es) (x ∷ ms) e m same =
    ap (λ os. unless_dropped x (listed y.outcome.output) ++ os) (kept_push es ms e m (omega arith))
    ∙ sym (append_assoc (unless_dropped x (listed y.outcome.output)) (kept_outputs es ms)
    (unless_dropped m (listed e.outcome.output)))

marked_ring : (ring : List Datagram) (capacity n : ℕ) (o : Option Datagram) (m : Mark) → m
    ≡ mark_of capacity n o → ring_after ring m o ≡ ring ++ unless_dropped m (listed o)
marked_ring ring capacity n None m is = subst (λ (x : Mark). ring_after ring x None
    ≡ ring ++ unless_dropped x []) (sym is) (sym (append-nil ring))
marked_ring ring capacity n (Some o) m is =
    subst (λ (x : Mark). ring_after ring x (Some o) ≡ ring ++ unless_dropped x (o ∷ [])) (sym is) (
    elim (nat_lt n capacity) as (λ b. ring_after ring (cond b Posted Dropped) (Some o)
    ≡ ring ++ unless_dropped (cond b Posted Dropped) (o ∷ [])) [
      | true ↦ refl
      | false ↦ sym (append-nil ring)
    ])

pub served_post : (es : List Entry) (w : ℕ) (k : WorkerState) (place : ℕ) (e : Entry)
    (capacity n : ℕ) (m : Mark) → IsServed es w k → k.hand ≡ Done place → slice_get es place
    ≡ Some e → m ≡ mark_of capacity n (e.outcome.output)
    → IsServed es w (posted k m (e.outcome.output))
served_post es w k place e capacity n m s done at is =
    let hand : IsInHand (Done place) es s.waiting = subst (λ (h : Hand). IsInHand h es s.waiting)
    done s.hand in
    let same : hand.0 ≡ e = (let both : Some hand.0 ≡ Some e = sym hand.2 ∙ at in cc both) in
    record {
      past = s.past ++ e ∷ [];
      waiting = [];
      took = s.took;
      split = s.split ∙ (ap (λ xs. s.past ++ xs) (hand.1 ∙ ap (λ (x : Entry). x ∷ []) same)
          ∙ sym (append-nil (s.past ++ e ∷ [])));
      hand = refl;
      marked = (let marked = s.marked in omega
          (arith, length-append s.past (e ∷ []), length-append k.settled (m ∷ [])));
      count = s.count;
      order = ap (λ r. s.took ++ r) (marked_ring k.ring capacity n (e.outcome.output) m is)
          ∙ (sym (append_assoc s.took k.ring (unless_dropped m (listed e.outcome.output)))
          ∙ (ap (λ os. os ++ unless_dropped m (listed e.outcome.output)) s.order
          ∙ sym (kept_push s.past k.settled e m s.marked)));
    }

get_push : (es : List Entry) (e : Entry) (i : ℕ) (x : Entry) → slice_get es i ≡ Some x
    → slice_get (es ++ e ∷ []) i ≡ Some x
get_push [] e i x h = absurd (cc h)
get_push (y ∷ es) e zero x h = h
get_push (y ∷ es) e (suc i) x h = get_push es e i x h

get_last : (es : List Entry) (e : Entry) → slice_get (es ++ e ∷ []) (length es) ≡ Some e
get_last [] e = refl
get_last (y ∷ es) e = get_last es e

hand_push : (h : Hand) (es : List Entry) (e : Entry) (waiting : List Entry)
    → IsInHand h es waiting → IsInHand h (es ++ e ∷ []) waiting
hand_push Idle es e waiting h = h
hand_push (Holding event) es e waiting h = h
hand_push (Done place) es e waiting h = (h.0, h.1, get_push es e place h.0 h.2)

served_other : (es : List Entry) (v : ℕ) (j : WorkerState) (e : Entry) → e.seat ≢ v
    → IsServed es v j → IsServed (es ++ e ∷ []) v j
served_other es v j e differ s = record {
  past = s.past;
  waiting = s.waiting;
  took = s.took;
  split = of_seat_more v es e ∙ (ap (λ xs. entries_of_seat v es ++ xs) (of_other_seat v e differ)
      ∙ (append-nil (entries_of_seat v es) ∙ s.split));
  hand = hand_push j.hand es e s.waiting s.hand;
  marked = s.marked;
  count = s.count;
  order = s.order;
}

served_own : (es : List Entry) (w : ℕ) (k : WorkerState) (event : Event) (e : Entry) → e.seat ≡ w
    → k.hand ≡ Holding event → IsServed es w k
    → IsServed (es ++ e ∷ []) w (record k { hand = Done (length es) })
served_own es w k event e own holding s =
    let none : s.waiting ≡ [] = subst (λ (h : Hand). IsInHand h es s.waiting) holding s.hand in
    record {
      past = s.past;
      waiting = e ∷ [];
      took = s.took;
      split = of_seat_more w es e
          ∙ (ap (λ xs. xs ++ entries_of_seat w (e ∷ [])) (s.split
          ∙ (ap (λ xs. s.past ++ xs) none ∙ append-nil s.past))
          ∙ ap (λ xs. s.past ++ xs) (of_own_seat w e own));
      hand = (e, refl, get_last es e);
      marked = s.marked;
      count = s.count;
      order = s.order;
    }

-- all entries of a worker that holds an event are settled
settled_all : (es : List Entry) (w : ℕ) (k : WorkerState) (event : Event) → IsServed es w k
    → k.hand ≡ Holding event → length k.settled ≡ length (entries_of_seat w es)
settled_all es w k event s holding =
    let none : s.waiting ≡ [] = subst (λ (h : Hand). IsInHand h es s.waiting) holding s.hand in
    let split : entries_of_seat w es ≡ s.past = s.split
    ∙ (ap (λ xs. s.past ++ xs) none ∙ append-nil s.past) in
    sym s.marked ∙ ap length (sym split)

pub order_apply : (x : Scene) (w : ℕ) (k : WorkerState) (event : Event) (e : Entry)
    (after : Running) → IsInOrder x → slice_get x.workers w ≡ Some k → e.seat ≡ w → e.call
    ≡ length k.settled → k.hand ≡ Holding event → RunningChange x.zone e.event e.outcome after
    → IsInOrder (record {
      base = x.base;
      zone = after;
      entries = x.entries ++ e ∷ [];
      workers = slice_set x.workers w (record k { hand = Done (length x.entries) });
      capacity = x.capacity;
    })
order_apply x w k event e after order there own call holding step =
    let new : WorkerState = record k { hand = Done (length x.entries) } in
    record {
      run = run_more x.base x.zone.state after.state x.entries e order.run
          (step_of x.zone e.event e.outcome after step);
      counted = counted_more x.entries e order.counted (call
          ∙ (settled_all x.entries w k event (order.served w k there) holding
          ∙ ap (λ s. length (entries_of_seat s x.entries)) (sym own)));
      sound = sound_after x.zone e.event e.outcome after step;
      served = λ v j h. elim (set_get x.workers w new v j h) [
        | inl here ↦ subst (λ (u : ℕ). IsServed (x.entries ++ e ∷ []) u j) (sym here.0)
            (subst (IsServed (x.entries ++ e ∷ []) w) (sym here.1)
            (served_own x.entries w k event e own holding (order.served w k there)))
        | inr old ↦ served_other x.entries v j e (λ same. old.1 (sym (sym own ∙ same)))
            (order.served v j old.0)
      ];
    }

-- an entry that no worker has made leaves the workers in order
pub order_beside : (x : Scene) (e : Entry) (after : Running) → IsInOrder x
    → e.seat ≡ length x.workers → e.call ≡ length (entries_of_seat e.seat x.entries)
    → RunningChange x.zone e.event e.outcome after
    → IsInOrder (record {
      base = x.base;
      zone = after;
      entries = x.entries ++ e ∷ [];
      workers = x.workers;
      capacity = x.capacity;
    })
order_beside x e after order beside call step = record {
  run = run_more x.base x.zone.state after.state x.entries e order.run
      (step_of x.zone e.event e.outcome after step);
  counted = counted_more x.entries e order.counted call;
  sound = sound_after x.zone e.event e.outcome after step;
  served = λ v j h. (let within = slice_get_within x.workers v j h in
      served_other x.entries v j e (λ same. omega (arith, within, beside, same))
      (order.served v j h));
}

-- no more were taken than there are entries
kept_few : (es : List Entry) (ms : List Mark) → length (kept_outputs es ms) ≤ length es
kept_few [] ms = omega arith
kept_few (e ∷ es) [] = omega arith
kept_few (e ∷ es) (m ∷ ms) = omega (
  arith,
  length-append (unless_dropped m (listed e.outcome.output))
      (kept_outputs es ms),
  at_most_one m e.outcome.output,
  kept_few es ms,
) where
  one_or_none : (o : Option Datagram) → length (listed o) ≤ 1
  one_or_none None = omega arith
  one_or_none (Some o) = omega arith

  at_most_one : (m : Mark) (o : Option Datagram) → length (unless_dropped m (listed o)) ≤ 1
  at_most_one Posted o = one_or_none o
  at_most_one Dropped o = omega arith
  at_most_one Silent o = one_or_none o

seat_few : (w : ℕ) (es : List Entry) → length (entries_of_seat w es) ≤ length es
seat_few w [] = omega arith
seat_few w (e ∷ es) = counted (e.seat == w) e (entries_of_seat w es) (length es) (seat_few w es)
  where
    counted : (b : Bool) (e : Entry) (xs : List Entry) (n : ℕ) → length xs ≤ n
        → length (cond b (e ∷ xs) xs) ≤ suc n
    counted true e xs n h = omega arith
    counted false e xs n h = omega arith

pub few_taken : (es : List Entry) (w : ℕ) (k : WorkerState) (o : Datagram) (rest : List Datagram)
    → IsServed es w k → k.ring ≡ o ∷ rest → k.taken + 1 ≤ length es
few_taken es w k o rest s is =
    let count = s.count in
    let all = ap length s.order in
    let ring = ap length is in
    let split = ap length s.split in
    omega (
      arith,
      length-append s.took k.ring,
      kept_few s.past k.settled,
      length-append s.past
          s.waiting,
      seat_few w es,
    )
