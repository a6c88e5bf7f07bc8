use Rattle.std.proofs.Common.{◌≡◌, ◌≤◌, ◌+◌, ap, subst, sym, ◌∙◌, ◌++◌, ◌∷◌, [], arith, None}
use Rattle.std.specs.FinMap as map
use Rattle.registrations.specs.Registry.{Registry, at_address}
use Rattle.registrations.specs.inside.Stored.{leg_counts_of, order_of, room_of}
use Rattle.registrations.proofs.Counting.{counts_put}
use Rattle.registrations.proofs.Due.{AreDue-put}
use Rattle.registrations.proofs.Ends.{AreEnds-put}
use Rattle.registrations.proofs.Order.{length_order}
use Rattle.registrations.proofs.Room.{one_less}
use Rattle.registrations.proofs.Stored.{IsStored-put, IsSound-stored, live_put, order_is}
use Rattle.registrations.proofs.Stored.{entries_put, len_stored, not_counted, unnamed}
use Rattle.registrations.proofs.Stored.{leads, length_put}
use Rattle.registrations.proofs.table.Registrations.put.Goals as goal

pub set-requires : goal.set-requires
set-requires c = omega (
  arith,
  c.len-i.ensures.len,
  c.requires.room,
  ap (λ t. t.room) c.self.view_is,
)

pub write_end-requires : goal.write_end-requires
write_end-requires c = omega (
  arith,
  c.len-i.ensures.len,
  c.requires.room,
  ap (λ t. t.room) c.self.view_is,
)

pub push_reserved-requires : goal.push_reserved-requires
push_reserved-requires c = omega (
  arith,
  c.self.invariant.places.counted,
  c.requires.room,
  ap (λ t. t.room) c.self.view_is,
)

pub invariant_of-self : goal.invariant_of-self
invariant_of-self c =
    let i = c.self.inside in
    let r = c.args.registration in
    let absent = ap (λ t. map.get t.live r.identifier) c.self.view_is ∙ c.requires.identifier in
    let entries = rw c.unwrap.ensures at c.insert.ensures.entries in
    let order = order_is i.rows i.by_identifier i.by_address i.most c.self.invariant.stored
    c.insert_reserved-place.new.self c.insert.new.self c.insert-2.new.self
    c.insert_reserved-place.result r c.insert_reserved-place.ensures.updates
    c.insert_reserved-place.ensures.was_vacant absent entries in
    let one_more = length_put i.rows i.by_identifier i.by_address i.most c.self.invariant.stored
    c.insert_reserved-place.new.self c.insert.new.self c.insert-2.new.self
    c.insert_reserved-place.result r c.insert_reserved-place.ensures.updates
    c.insert_reserved-place.ensures.was_vacant absent entries in
    let all = length_order i.rows i.by_identifier.entries
    (leads i.rows i.by_identifier i.by_address i.most c.self.invariant.stored) in
    record {
      stored = IsStored-put i.rows i.by_identifier i.by_address i.most c.self.invariant.stored
          c.insert_reserved-place.new.self c.insert.new.self c.insert-2.new.self
          c.insert_reserved-place.result r c.insert_reserved-place.ensures.updates
          c.insert_reserved-place.ensures.was_vacant absent
          (rw c.unwrap.ensures at c.insert.ensures.updates)
          (rw c.unwrap-2.ensures at c.insert-2.ensures.updates) c.insert.ensures.unique entries
          (ap (λ t. at_address t.live r.call_signal) c.self.view_is ∙ c.requires.address)
          (omega (
            arith,
            c.requires.few,
            len_stored i.rows i.by_identifier i.by_address i.most c.self.invariant.stored,
            ap (λ t. map.len t.live) c.self.view_is,
            ap (λ t. t.most) c.self.view_is,
          ))
          (omega (
            arith,
            c.requires.room,
            ap (λ t. t.room) c.self.view_is,
            c.insert_reserved-place.ensures.len,
            c.insert_reserved-place.ensures.capacity,
          ));
      places = record {
        reach = omega (
          arith,
          c.requires.room,
          ap (λ t. t.room) c.self.view_is,
          c.set.ensures.room,
          one_more,
        );
        counted = omega (
          arith,
          c.self.invariant.places.counted,
          c.push_reserved.ensures.len,
          one_more,
        );
        ends_reach = omega (
          arith,
          c.requires.room,
          ap (λ t. t.room) c.self.view_is,
          c.write_end.ensures.room,
          one_more,
        );
      };
      due = AreDue-put (order_of i.rows i.by_identifier.entries)
          (order_of c.insert_reserved-place.new.self c.insert.new.self.entries)
          i.deadlines.moments c.set.new.self.moments c.self.invariant.due r c.len-i.result
          (c.len-i.ensures.len ∙ sym all) order c.set.ensures.moments;
      silences = AreEnds-put i.times (order_of i.rows i.by_identifier.entries)
          (order_of c.insert_reserved-place.new.self c.insert.new.self.entries) i.legs.items
          c.push_reserved.new.self.items i.ends.moments c.write_end.new.ends.moments
          c.self.invariant.silences r c.args.legs c.len-i.result
          (c.len-i.ensures.len ∙ sym all) (c.self.invariant.places.counted ∙ sym all) order
          c.push_reserved.ensures.items c.end_of.result c.end_of.ensures
          c.write_end.ensures.moments;
    }

pub returns-clause-adds : goal.returns-clause-adds
returns-clause-adds c =
    let i = c.self.inside in
    let r = c.args.registration in
    let absent = ap (λ t. map.get t.live r.identifier) c.self.view_is ∙ c.requires.identifier in
    let one_more = length_put i.rows i.by_identifier i.by_address i.most c.self.invariant.stored
    c.insert_reserved-place.new.self c.insert.new.self c.insert-2.new.self
    c.insert_reserved-place.result r c.insert_reserved-place.ensures.updates
    c.insert_reserved-place.ensures.was_vacant absent
    (rw c.unwrap.ensures at c.insert.ensures.entries) in
    record {
      rows = live_put i.rows i.by_identifier i.by_address i.most c.self.invariant.stored
          c.insert_reserved-place.new.self c.insert.new.self c.insert-2.new.self
          c.insert_reserved-place.result r c.insert_reserved-place.ensures.updates
          c.insert_reserved-place.ensures.was_vacant absent
          (rw c.unwrap.ensures at c.insert.ensures.entries)
          ∙ ap (λ t. map.insert t.live r.identifier r) c.self.view_is;
      most = ap (λ t. t.most) c.self.view_is;
      room = subst (λ (t : Registry). t.room ≤ room_of c.insert_reserved-place.new.self
          c.insert.new.self c.insert-2.new.self c.set.new.self c.push_reserved.new.self
          c.write_end.new.ends + 1) c.self.view_is
          (one_less _ _ _ _ _ _ _ _ _ _ _ _
          (omega (
            arith,
            c.insert_reserved-place.ensures.len,
            c.insert_reserved-place.ensures.capacity,
          ))
          (omega (arith, c.set.ensures.room, one_more)) (omega (arith, c.insert.ensures.spare))
          (omega (arith, c.insert-2.ensures.spare))
          (omega (arith, c.push_reserved.ensures.capacity, one_more))
          (omega (arith, c.write_end.ensures.room, one_more)));
      sound = IsSound-stored c.insert_reserved-place.new.self c.insert.new.self
          c.insert-2.new.self i.most (invariant_of-self c).stored c.set.new.self
          c.push_reserved.new.self c.write_end.new.ends i.times c.raised-self-inside.result;
      times = ap (λ t. t.times) c.self.view_is;
    }

pub returns-clause-order : goal.returns-clause-order
returns-clause-order c =
    let i = c.self.inside in
    let r = c.args.registration in
    order_is i.rows i.by_identifier i.by_address i.most c.self.invariant.stored
    c.insert_reserved-place.new.self c.insert.new.self c.insert-2.new.self
    c.insert_reserved-place.result r c.insert_reserved-place.ensures.updates
    c.insert_reserved-place.ensures.was_vacant
    (ap (λ t. map.get t.live r.identifier) c.self.view_is ∙ c.requires.identifier)
    (rw c.unwrap.ensures at c.insert.ensures.entries) ∙ ap (λ t. t.order ++ r ∷ []) c.self.view_is

pub returns-clause-legs : goal.returns-clause-legs
returns-clause-legs c =
    let i = c.self.inside in
    let r = c.args.registration in
    let place = c.insert_reserved-place.result in
    let absent = ap (λ t. map.get t.live r.identifier) c.self.view_is ∙ c.requires.identifier in
    let none = unnamed i.rows i.by_identifier i.by_address i.most c.self.invariant.stored
    c.insert_reserved-place.new.self c.insert.new.self c.insert-2.new.self place r
    c.insert_reserved-place.ensures.updates c.insert_reserved-place.ensures.was_vacant absent in
    let entries = entries_put i.rows i.by_identifier i.by_address i.most c.self.invariant.stored
    c.insert_reserved-place.new.self c.insert.new.self c.insert-2.new.self place r
    c.insert_reserved-place.ensures.updates c.insert_reserved-place.ensures.was_vacant absent
    (rw c.unwrap.ensures at c.insert.ensures.entries) in
    let new : map.get (leg_counts_of i.by_identifier.entries i.legs.items) r.identifier ≡ None =
    ap (λ t. map.get t.legs r.identifier) c.self.view_is
    ∙ not_counted i.rows i.by_identifier i.by_address i.deadlines i.legs i.ends i.times i.most
    c.self.invariant.stored _ c.self.view_is r.identifier none in
    (λ k. leg_counts_of (entries k) (c.push_reserved.ensures.items k))
    ∙ (counts_put i.by_identifier.entries i.legs.items c.self.invariant.stored.apart
    c.self.invariant.places.counted (r.identifier, place) c.args.legs new
    ∙ ap (λ t. map.insert t.legs r.identifier c.args.legs) c.self.view_is)
