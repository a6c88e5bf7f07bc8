-- Worlds in every order of their steps.
use Rattle.std.proofs.Common.{◌≡◌, ◌≤◌, ◌+◌, ℕ, Bool, true, false, List, [], ◌∷◌}
use Rattle.std.proofs.Common.{◌++◌, length, refl, sym, ◌∙◌, ap, subst, cond, arith, append_assoc}
use Rattle.std.proofs.Common.{Some, None}
use Rattle.std.specs.Prelude.{Option, slice_get, nat_lt}
use Rattle.std.proofs.lemmas.List.{append-nil}
use Rattle.std.proofs.lemmas.Bool.{ltb-false}
use Rattle.zone_events.specs.declared.change.Change.TheVariants as change
use Rattle.zone_events.specs.declared.change.PoolChange.{PoolChange}
use Rattle.zone_events.specs.declared.event.Event.{Event}
use Rattle.zone_events.specs.declared.outcome.Datagram.{Datagram}
use Rattle.zone_events.specs.declared.outcome.Outcome.{Outcome}
use Rattle.books.specs.declared.book.Entry.{Entry}
use Rattle.books.specs.Books.{entries_of_seat}
use Rattle.history.specs.declared.worker.Hand.{Hand}
use Rattle.history.specs.declared.worker.Hand.TheVariants.{Idle, Holding, Done}
use Rattle.history.specs.declared.worker.Mark.{Mark}
use Rattle.history.specs.declared.worker.Mark.TheVariants as mark
use Rattle.history.specs.declared.world.Acted.{Acted}
use Rattle.history.specs.declared.world.Acted.TheVariants as acted
use Rattle.history.specs.declared.world.WorldStep.{WorldStep}
use Rattle.history.specs.declared.world.WorldStep.TheVariants.{Receive, Apply, Post, Take}
use Rattle.history.specs.Workers.{WorkerState, IsInHand, kept_outputs, unless_dropped}
use Rattle.history.specs.Workers.{listed, mark_of, posted}
use Rattle.history.specs.Worlds.{Scene, IsInOrder, entry_by, Receives, Applies, Posts}
use Rattle.history.specs.Worlds.{Takes, Happens, ReplacesPool}
use Rattle.history.specs.Orders.{Deed, Acting, Replacing, IsDone, Interleaving, outputs_so_far}
use Rattle.history.specs.Orders.{outputs_of_worker, output_held}
use Rattle.history.specs.Orders.{output_in, AreServedInOrder}
use Rattle.history.proofs.Scenes.{order_with, served_receive, served_take, served_post, order_apply}
use Rattle.history.proofs.Scenes.{order_beside}

received_in_order : (x y : Scene) (w : ℕ) (event : Event) → IsInOrder x → Receives x w event y
    → IsInOrder y × (y.base ≡ x.base)
received_in_order x y w event order h =
    let served = served_receive x.entries w h.worker event (order.served w h.worker h.there)
    h.idle in (
      subst IsInOrder (sym h.after)
          (order_with x w (record h.worker { hand = Holding event }) order served),
      ap (λ (s : Scene). s.base) h.after,
    )

applied_in_order : (x y : Scene) (w : ℕ) (outcome : Outcome) → IsInOrder x → Applies x w outcome y
    → IsInOrder y × (y.base ≡ x.base)
applied_in_order x y w outcome order h =
    let e : Entry = entry_by w (length h.worker.settled) (change.Event h.event) outcome in (
      subst IsInOrder (sym h.after)
          (order_apply x w h.worker h.event e y.zone order h.there refl refl h.holding h.step),
      ap (λ (s : Scene). s.base) h.after,
    )

posted_in_order : (x y : Scene) (w : ℕ) (m : Mark) → IsInOrder x → Posts x w m y
    → IsInOrder y × (y.base ≡ x.base)
posted_in_order x y w m order h =
    let k = h.worker in
    let served = served_post x.entries w k h.place h.entry x.capacity (length k.ring) m
    (order.served w k h.there) h.done h.at h.marked in (
      subst IsInOrder (sym h.after)
          (order_with x w (posted k m h.entry.outcome.output) order served),
      ap (λ (s : Scene). s.base) h.after,
    )

taken_in_order : (x y : Scene) (w : ℕ) (output : Datagram) → IsInOrder x → Takes x w output y
    → IsInOrder y × (y.base ≡ x.base)
taken_in_order x y w output order h =
    let k = h.worker in
    let served = served_take x.entries w k output h.rest (order.served w k h.there) h.ring in (
      subst IsInOrder (sym h.after)
          (order_with x w (record k { ring = h.rest; taken = k.taken + 1 }) order served),
      ap (λ (s : Scene). s.base) h.after,
    )

happens_in_order : (x y : Scene) (s : WorldStep) (told : Acted) → IsInOrder x → Happens x s told y
    → IsInOrder y × (y.base ≡ x.base)
happens_in_order x y (Receive w event) acted.Received order h = received_in_order x y w event
    order h
happens_in_order x y (Receive w event) (acted.Applied outcome) order h = absurd h
happens_in_order x y (Receive w event) acted.Posted order h = absurd h
happens_in_order x y (Receive w event) acted.Dropped order h = absurd h
happens_in_order x y (Receive w event) acted.Nothing order h = absurd h
happens_in_order x y (Receive w event) (acted.Took output) order h = absurd h
happens_in_order x y (Apply w) acted.Received order h = absurd h
happens_in_order x y (Apply w) (acted.Applied outcome) order h = applied_in_order x y w outcome
    order h
happens_in_order x y (Apply w) acted.Posted order h = absurd h
happens_in_order x y (Apply w) acted.Dropped order h = absurd h
happens_in_order x y (Apply w) acted.Nothing order h = absurd h
happens_in_order x y (Apply w) (acted.Took output) order h = absurd h
happens_in_order x y (Post w) acted.Received order h = absurd h
happens_in_order x y (Post w) (acted.Applied outcome) order h = absurd h
happens_in_order x y (Post w) acted.Posted order h = posted_in_order x y w mark.Posted order h
happens_in_order x y (Post w) acted.Dropped order h = posted_in_order x y w mark.Dropped order h
happens_in_order x y (Post w) acted.Nothing order h = posted_in_order x y w mark.Silent order h
happens_in_order x y (Post w) (acted.Took output) order h = absurd h
happens_in_order x y (Take w) acted.Received order h = absurd h
happens_in_order x y (Take w) (acted.Applied outcome) order h = absurd h
happens_in_order x y (Take w) acted.Posted order h = absurd h
happens_in_order x y (Take w) acted.Dropped order h = absurd h
happens_in_order x y (Take w) acted.Nothing order h = absurd h
happens_in_order x y (Take w) (acted.Took output) order h = taken_in_order x y w output order h

replaced_in_order : (x y : Scene) (replacement : PoolChange) (outcome : Outcome) → IsInOrder x
    → ReplacesPool x replacement outcome y → IsInOrder y × (y.base ≡ x.base)
replaced_in_order x y replacement outcome order h =
    let seat = length x.workers in
    let e : Entry = entry_by seat (length (entries_of_seat seat x.entries))
    (change.PoolChange replacement) outcome in (
      subst IsInOrder (sym h.after) (order_beside x e y.zone order refl refl h.step),
      ap (λ (s : Scene). s.base) h.after,
    )

done_in_order : (x y : Scene) (deed : Deed) → IsInOrder x → IsDone x deed y
    → IsInOrder y × (y.base ≡ x.base)
done_in_order x y (Acting step told) order h = happens_in_order x y step told order h
done_in_order x y (Replacing replacement outcome) order h =
    replaced_in_order x y replacement outcome order h

pub interleaved_in_order : (x y : Scene) (deeds : List Deed) → IsInOrder x
    → Interleaving x deeds y → IsInOrder y × (y.base ≡ x.base)
interleaved_in_order x y [] order h = (subst IsInOrder (sym h) order, ap (λ (s : Scene). s.base) h)
interleaved_in_order x y (deed ∷ deeds) order h =
    let one = done_in_order x h.0 deed order h.1 in
    let all = interleaved_in_order h.0 y deeds one.0 h.2 in
    (all.0, all.1 ∙ one.1)

-- what is not settled is behind what is
outputs_behind : (past waiting : List Entry) (marks : List Mark) → length past ≡ length marks
    → outputs_so_far (past ++ waiting) marks
    ≡ kept_outputs past marks ++ outputs_so_far waiting []
outputs_behind [] waiting [] same = refl
outputs_behind [] waiting (m ∷ marks) same = absurd (omega (arith, same))
outputs_behind (e ∷ past) waiting [] same = absurd (omega (arith, same))
outputs_behind (e ∷ past) waiting (m ∷ marks) same =
    ap (λ os. unless_dropped m (listed e.outcome.output) ++ os)
    (outputs_behind past waiting marks (omega (arith, same)))
    ∙ sym (append_assoc (unless_dropped m (listed e.outcome.output)) (kept_outputs past marks)
    (outputs_so_far waiting []))

held : (hand : Hand) (entries waiting : List Entry) → IsInHand hand entries waiting
    → outputs_so_far waiting [] ≡ output_held hand entries
held Idle entries waiting h = ap (λ (es : List Entry). outputs_so_far es []) h
held (Holding event) entries waiting h = ap (λ (es : List Entry). outputs_so_far es []) h
held (Done place) entries waiting h =
    ap (λ (es : List Entry). outputs_so_far es []) h.1
    ∙ (append-nil (listed h.0.outcome.output) ∙ ap output_in (sym h.2))

pub served_in_order : (x : Scene) (w : ℕ) (k : WorkerState) → IsInOrder x
    → slice_get x.workers w ≡ Some k → AreServedInOrder x w k
served_in_order x w k order there =
    let s = order.served w k there in
    let last = output_held k.hand x.entries in
    let all : outputs_of_worker x w k ≡ kept_outputs s.past k.settled ++ last =
    ap (λ (es : List Entry). outputs_so_far es k.settled) s.split
    ∙ (outputs_behind s.past s.waiting k.settled s.marked
    ∙ ap (λ os. kept_outputs s.past k.settled ++ os) (held k.hand x.entries s.waiting s.hand))
    in
    record {
      took = s.took;
      count = s.count;
      order = sym (append_assoc s.took k.ring last) ∙ (ap (λ os. os ++ last) s.order ∙ sym all);
    }

get_behind : (before : List Datagram) (o : Datagram) (rest : List Datagram)
    → slice_get (before ++ o ∷ rest) (length before) ≡ Some o
get_behind [] o rest = refl
get_behind (b ∷ before) o rest = get_behind before o rest

pub next_taken : (x y : Scene) (w : ℕ) (k : WorkerState) (output : Datagram) → IsInOrder x
    → slice_get x.workers w ≡ Some k → Happens x (Take w) (acted.Took output) y
    → slice_get (outputs_of_worker x w k) k.taken ≡ Some output
next_taken x y w k output order there h =
    let same : h.worker ≡ k = (let both : Some h.worker ≡ Some k = sym h.there
    ∙ there in cc both) in
    let ring : k.ring ≡ output ∷ h.rest = ap (λ (j : WorkerState). j.ring) (sym same) ∙ h.ring in
    let s = served_in_order x w k order there in
    let last = output_held k.hand x.entries in
    let all : s.took ++ output ∷ (h.rest ++ last) ≡ outputs_of_worker x w k =
    sym (ap (λ os. s.took ++ (os ++ last)) ring) ∙ s.order in
    subst (λ (n : ℕ). slice_get (outputs_of_worker x w k) n ≡ Some output) s.count
    (subst (λ os. slice_get os (length s.took) ≡ Some output) all
    (get_behind s.took output (h.rest ++ last)))

full_ring : (capacity waiting : ℕ) (o : Option Datagram) → mark.Dropped ≡ mark_of capacity waiting o
    → capacity ≤ waiting
full_ring capacity waiting None is = absurd (cc is)
full_ring capacity waiting (Some o) is = by_room (nat_lt waiting capacity) refl is where
  by_room : (b : Bool) → nat_lt waiting capacity ≡ b → mark.Dropped
      ≡ cond b mark.Posted mark.Dropped
      → capacity ≤ waiting
  by_room true room told = absurd (cc told)
  by_room false room told = ltb-false waiting capacity room

pub dropped_by_full : (x y : Scene) (w : ℕ) (k : WorkerState) → slice_get x.workers w ≡ Some k
    → Happens x (Post w) acted.Dropped y → x.capacity ≤ length k.ring
dropped_by_full x y w k there h =
    let same : h.worker ≡ k = (let both : Some h.worker ≡ Some k = sym h.there
    ∙ there in cc both) in
    subst (λ (j : WorkerState). x.capacity ≤ length j.ring) same
    (full_ring x.capacity (length h.worker.ring) h.entry.outcome.output h.marked)
