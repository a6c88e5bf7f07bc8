use Rattle.std.proofs.Common.{◌≤◌, ◌∙◌, ap, length, arith, subst}
use Rattle.slab.specs.Slab.{slab_len}
use Rattle.registrations.specs.Registry.{Registry, live_of}
use Rattle.registrations.specs.inside.Stored.{leg_counts_of, order_of, room_of}
use Rattle.registrations.proofs.Room.{at_least, grew, no_less}
use Rattle.registrations.proofs.Tables.{on_ok}
use Rattle.registrations.proofs.table.Registrations.reserve.Goals as goal

pub overflow_add-places : goal.overflow_add-places
overflow_add-places c = omega (
  arith,
  c.capacity-capacity.type_inv,
  c.capacity-capacity.ensures,
  c.len.ensures.len,
  c.in_ok-reserve-2.ensures.ok,
)

pub returns-clause-stays : goal.returns-clause-stays
returns-clause-stays c =
    let i = c.self.inside in
    record {
      rows = (λ k. live_of (order_of (c.reserve.ensures.rest_kept k)
          (c.reserve-2.ensures.entries k))) ∙ ap (λ t. t.live) c.self.view_is;
      most = ap (λ t. t.most) c.self.view_is;
      order = (λ k. order_of (c.reserve.ensures.rest_kept k) (c.reserve-2.ensures.entries k))
          ∙ ap (λ t. t.order) c.self.view_is;
      room = subst (λ (t : Registry). t.room ≤ room_of c.reserve.new.self c.reserve-2.new.self
          c.reserve-3.new.self c.reserve-4.new.self c.reserve-5.new.self c.reserve-6.new.self)
          c.self.view_is
          (no_less _ _ _ _ _ _ _ _ _ _ _ _
          (omega (arith, c.reserve.ensures.capacity, ap slab_len c.reserve.ensures.rest_kept))
          (omega (
            arith,
            grew c.reserve-4.result _ _ _ c.reserve-4.ensures.ok c.reserve-4.ensures.err,
            ap length c.reserve-2.ensures.entries,
          ))
          (omega (arith, c.reserve-2.ensures.room.0)) (omega (arith, c.reserve-3.ensures.room.0))
          (omega (arith, c.reserve-5.ensures.capacity, ap length c.reserve-2.ensures.entries))
          (omega (
            arith,
            grew c.reserve-6.result _ _ _ c.reserve-6.ensures.ok c.reserve-6.ensures.err,
            ap length c.reserve-2.ensures.entries,
          )));
      legs = (λ k. leg_counts_of (c.reserve-2.ensures.entries k) (c.reserve-5.ensures.items k))
          ∙ ap (λ t. t.legs) c.self.view_is;
      times = ap (λ t. t.times) c.self.view_is;
      next = ap (λ t. t.next) c.self.view_is;
    }

pub returns-clause-ok : goal.returns-clause-ok
returns-clause-ok c =
    on_ok c.reserve-6.result _ _ c.reserve-6.ensures.ok (λ room. at_least _ _ _ _ _ _ _
    (omega (arith, c.in_ok-reserve.ensures.room))
    (omega (arith, c.in_ok-reserve-4.ensures.ok, c.len.ensures.len))
    (omega (arith, c.in_ok-reserve-2.ensures.ok))
    (omega (arith, c.in_ok-reserve-3.ensures.ok))
    (omega (
      arith,
      c.in_ok-reserve-5.ensures.ok,
      c.reserve-5.ensures.len,
      c.self.invariant.places.counted,
      ap length c.in_ok-reserve-2.ensures.entries,
    ))
    (omega (arith, room, c.len.ensures.len)))

pub returns-clause-succeeds : goal.returns-clause-succeeds
returns-clause-succeeds c few = c.reserve-6.ensures.succeeds (omega (
  arith,
  few,
  ap (λ t. t.room) c.self.view_is,
  c.len.ensures.len,
  ap length c.in_ok-reserve-2.ensures.entries,
  c.self.invariant.places.ends_reach,
))
