use Rattle.std.proofs.Common.{rules, arith, ◌≡◌, ◌∙◌, ◌+◌, ◌-◌, ◌++◌, ◌∷◌, All, [], ap, subst, sym}
use Rattle.std.specs.Prelude.{IfSome, List, Some, slice_get}
use Rattle.std.specs.Option.{option_copied}
use Rattle.std.specs.FinMap as fin
use Rattle.std.proofs.lemmas.List.Elements.{All-push}
use Rattle.registrations.specs.Registry.{Live}
use Rattle.zone_view.specs.declared.rows.EndpointRow.{EndpointRow}
use Rattle.zone_lock.specs.Views.{IsEndpointRow, row_in, rows_below}
use Rattle.zone_lock.proofs.Numbered.{next_row, row_of_live}
use Rattle.zone_lock.proofs.looking.put_endpoints.Goals as goal

-- The row of the next number is put behind the others.
pub loop-left-preserved : goal.loop-left-preserved
loop-left-preserved c =
    let tables = c.args.tables.now in
    let table = c.registrations-registrations.result.now in
    let r = c.unwrap-registration.result.now in
    let row = c.endpoint_row_of.result in
    let left = c.loop-left.left in
    let held = c.loop-left.invariant in
    let pushed = c.push_reserved.ensures in
    let next : left - 1 + 1 ≡ left = omega (arith, c.loop-left-test.true) in
    let there : slice_get table.order (left - 1) ≡ Some r =
    sym c.nth.ensures.nth ∙ ap option_copied c.unwrap-registration.ensures in
    let in_table : fin.get table.live r.identifier ≡ Some r =
    subst (λ o. IfSome o (λ s. fin.get table.live s.now.identifier ≡ Some s.now))
    c.unwrap-registration.ensures c.nth.ensures.live in
    let live : fin.get tables.live r.identifier ≡ Some r =
    subst (λ (rows : Live). fin.get rows r.identifier ≡ Some r)
    c.registrations-registrations.ensures.live in_table in
    let is_row : IsEndpointRow tables row =
    row_of_live tables r row live c.endpoint_row_of.ensures in
    record {
      rows = subst (All (IsEndpointRow tables)) (sym pushed.items)
          (All-push (IsEndpointRow tables) c.loop-left.rows.items row held.rows is_row);
      by_place = pushed.items
          ∙ ap (λ (rows : List EndpointRow). rows ++ row ∷ []) held.by_place
          ∙ ap (λ (x : EndpointRow). rows_below (row_in tables) table.order c.args.place left
          ++ x ∷ []) c.endpoint_row_of.ensures
          ∙ sym (next_row (row_in tables) table.order c.args.place (left - 1) left r next
          held.below there);
      count = search rules;
      below = omega (arith, held.below);
      within = omega (arith, held.within);
      room = pushed.capacity ∙ held.room;
    }
