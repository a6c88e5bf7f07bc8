use Rattle.std.proofs.Common.{◌≡◌, Some, ap, sym, ◌∙◌, take, take_all, arith, length, refl}
use Rattle.std.specs.Prelude.{slice_get}
use Rattle.std.specs.Option.{option_and_then, option_copied}
use Rattle.std.proofs.lemmas.Option.{slice_get_read}
use Rattle.std.specs.FinMap as map
use Rattle.std.proofs.lemmas.Cmp.{nat_list_cmp_total}
use Rattle.std.proofs.lemmas.Map.Lookups.{exact_bytes}
use Rattle.keyed.proofs.Rows.{map_push}
use Rattle.registrations.specs.Registry.{at_address, identifier_of, live_of}
use Rattle.registrations.proofs.Rows.{len_numbered, len_taken, next_taken, next_copied}
use Rattle.registrations.proofs.Rows.{no_address_before, none_before}
use Rattle.registrations.proofs.Legs.{HaveLegs-put, legs_nth, same_legs, uncounted}
use Rattle.registrations.proofs.Stored.{len_stored, rows_apart}
use Rattle.registrations.proofs.table.Registrations.copy.Goals as goal

pub loop-i-init : goal.loop-i-init
loop-i-init c = (
  c.in_ok-copy.ensures.order,
  c.in_ok-copy.ensures.live,
  c.in_ok-copy.ensures.most ∙ ap (λ t. t.most) c.self.view_is,
  omega (
    arith,
    c.in_ok-copy.ensures.room,
    c.len.ensures.len,
    len_numbered c.args.self.now c.len.ensures.numbered,
  ),
  c.in_ok-copy.ensures.times ∙ ap (λ t. t.times) c.self.view_is,
  λ id. ap (λ m. map.get m id) c.in_ok-copy.ensures.legs ∙ (map.get-empty _ id
      ∙ sym (ap (λ m. option_and_then (λ r. map.get c.args.self.now.legs id) (map.get m id))
      c.in_ok-copy.ensures.live
      ∙ ap (option_and_then (λ r. map.get c.args.self.now.legs id)) (map.get-empty _ id))),
)

pub index-requires : goal.index-requires
index-requires c =
    let i = c.self.inside in
    omega (
      arith,
      c.loop-i-test.true,
      c.len-i-end.ensures.len,
      len_stored i.rows i.by_identifier i.by_address i.most c.self.invariant.stored,
      ap (λ t. map.len t.live) c.self.view_is,
      c.self.invariant.places.counted,
    )

pub put-requires-clause-few : goal.put-requires-clause-few
put-requires-clause-few c =
    let i = c.self.inside in
    let are = rows_apart i.rows i.by_identifier i.by_address i.deadlines i.legs i.ends i.times
    i.most
    c.self.invariant.stored _
    c.self.view_is in
    omega (
      arith,
      ap (λ m. map.len m) c.loop-i.invariant.1,
      len_taken c.args.self.now.order are c.loop-i.i,
      c.loop-i-test.true,
      c.len-i-end.ensures.len,
      c.len-i-end.ensures.few,
      c.loop-i.invariant.2,
    )

pub put-requires-clause-room : goal.put-requires-clause-room
put-requires-clause-room c = omega (
  arith,
  c.loop-i.invariant.3,
  c.loop-i-test.true,
  c.len-i-end.ensures.len,
  len_numbered c.args.self.now c.len-i-end.ensures.numbered,
)

pub put-requires-clause-identifier : goal.put-requires-clause-identifier
put-requires-clause-identifier c =
    let i = c.self.inside in
    let row = c.in_ok-copy-2.field-0 in
    let are = rows_apart i.rows i.by_identifier i.by_address i.deadlines i.legs i.ends i.times
    i.most
    c.self.invariant.stored _
    c.self.view_is in
    let there : slice_get c.args.self.now.order c.loop-i.i ≡ Some row = sym c.nth.ensures.nth
    ∙ (ap option_copied c.unwrap.ensures ∙ sym (ap Some c.in_ok-copy-2.ensures)) in
    ap (λ m. map.get m row.identifier) c.loop-i.invariant.1
    ∙ none_before c.args.self.now.order are c.loop-i.i row there

pub put-requires-clause-address : goal.put-requires-clause-address
put-requires-clause-address c =
    let i = c.self.inside in
    let row = c.in_ok-copy-2.field-0 in
    let are = rows_apart i.rows i.by_identifier i.by_address i.deadlines i.legs i.ends i.times
    i.most
    c.self.invariant.stored _
    c.self.view_is in
    let there : slice_get c.args.self.now.order c.loop-i.i ≡ Some row = sym c.nth.ensures.nth
    ∙ (ap option_copied c.unwrap.ensures ∙ sym (ap Some c.in_ok-copy-2.ensures)) in
    ap (λ m. at_address m row.call_signal) c.loop-i.invariant.1
    ∙ no_address_before c.args.self.now.order are c.loop-i.i row there

pub loop-i-preserved : goal.loop-i-preserved
loop-i-preserved c =
    let i = c.self.inside in
    let row = c.in_ok-copy-2.field-0 in
    let are = rows_apart i.rows i.by_identifier i.by_address i.deadlines i.legs i.ends i.times
    i.most
    c.self.invariant.stored _
    c.self.view_is in
    let there : slice_get c.args.self.now.order c.loop-i.i ≡ Some row = sym c.nth.ensures.nth
    ∙ (ap option_copied c.unwrap.ensures ∙ sym (ap Some c.in_ok-copy-2.ensures)) in
    let next = next_taken c.args.self.now.order c.loop-i.i row there in (
      next_copied c.args.self.now.order c.loop-i.copy.order c.put.new.self.order c.loop-i.i row
          there
          c.loop-i.invariant.0 c.put.ensures.order,
      c.put.ensures.adds.rows ∙ (ap (λ m. map.insert m row.identifier row) c.loop-i.invariant.1
          ∙ (sym (map_push nat_list_cmp_total exact_bytes identifier_of (λ r. r)
          (take c.loop-i.i c.args.self.now.order) row
          (none_before c.args.self.now.order are c.loop-i.i row there)) ∙ ap live_of next)),
      c.put.ensures.adds.most ∙ c.loop-i.invariant.2,
      omega (arith, c.put.ensures.adds.room, c.loop-i.invariant.3),
      c.put.ensures.adds.times ∙ c.loop-i.invariant.4,
      HaveLegs-put c.args.self.now.legs c.loop-i.copy.live c.put.new.self.live c.loop-i.copy.legs
          c.put.new.self.legs row c.index.result.now c.loop-i.invariant.5
          c.put.ensures.adds.rows c.put.ensures.legs
          (legs_nth i.rows i.by_identifier i.by_address i.deadlines i.legs i.ends i.times i.most
          i.next_number c.self.invariant _ c.self.view_is c.loop-i.i row there
          ∙ slice_get_read i.legs.items (length i.legs.items) c.loop-i.i c.index.result.now refl
          (omega (
            arith,
            c.loop-i-test.true,
            c.len-i-end.ensures.len,
            len_stored i.rows i.by_identifier i.by_address i.most c.self.invariant.stored,
            ap (λ t. map.len t.live) c.self.view_is,
            c.self.invariant.places.counted,
          )) c.index.ensures),
    )

pub returns-clause-live : goal.returns-clause-live
returns-clause-live c =
    let numbered = c.len-i-end.ensures.numbered in
    let all = take_all c.loop-i.i c.args.self.now.order (omega (
      arith,
      c.loop-i-test.false,
      c.len-i-end.ensures.len,
      len_numbered c.args.self.now numbered,
    )) in
    ap (λ t. t.live) c.copy-2.view_is
    ∙ (c.loop-i.invariant.1 ∙ (ap live_of all ∙ numbered.all))

pub returns-clause-order : goal.returns-clause-order
returns-clause-order c =
    let all = take_all c.loop-i.i c.args.self.now.order (omega (
      arith,
      c.loop-i-test.false,
      c.len-i-end.ensures.len,
      len_numbered c.args.self.now c.len-i-end.ensures.numbered,
    )) in
    ap (λ t. t.order) c.copy-2.view_is ∙ (c.loop-i.invariant.0 ∙ all)

pub returns-clause-times : goal.returns-clause-times
returns-clause-times c = ap (λ t. t.times) c.copy-2.view_is ∙ c.loop-i.invariant.4

pub returns-clause-legs : goal.returns-clause-legs
returns-clause-legs c =
    let i = c.self.inside in
    let numbered = c.len-i-end.ensures.numbered in
    let all = take_all c.loop-i.i c.args.self.now.order (omega (
      arith,
      c.loop-i-test.false,
      c.len-i-end.ensures.len,
      len_numbered c.args.self.now numbered,
    )) in
    let live = c.loop-i.invariant.1 ∙ (ap live_of all ∙ numbered.all) in
    ap (λ t. t.legs) c.copy-2.view_is
    ∙ same_legs c.args.self.now.legs c.loop-i.copy.live c.loop-i.copy.legs c.loop-i.invariant.5
    (λ id none. uncounted i.rows i.by_identifier i.by_address i.deadlines i.legs i.ends i.times
    i.most i.next_number c.self.invariant _ c.self.view_is id
    (ap (λ m. map.get m id) (sym live) ∙ none))
