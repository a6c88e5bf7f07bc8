use Rattle.std.proofs.Common.{arith, rules, ◌≡◌, ◌∙◌, ◌+◌, ◌-◌, ◌++◌, ◌∷◌, All, ℕ, [], ap, subst, sym}
use Rattle.std.specs.Prelude.{IfSome, List, Option, Some, slice_get}
use Rattle.std.specs.Option.{option_map}
use Rattle.std.specs.FinMap as fin
use Rattle.std.proofs.lemmas.List.Elements.{All-push}
use Rattle.admission.specs.Calls.{OpenCalls}
use Rattle.zone_view.specs.declared.rows.CallRow.{CallRow}
use Rattle.zone_lock.specs.Views.{IsCallRow, call_row, call_row_of, first_of, rows_below}
use Rattle.zone_lock.proofs.Numbered.{next_row, row_of_call}
use Rattle.zone_lock.proofs.looking.put_calls.Goals as goal

-- The row of the next number is put behind the others.
pub loop-left-preserved : goal.loop-left-preserved
loop-left-preserved c =
    let tables = c.args.tables.now in
    let calls = c.calls-calls.result.now in
    let key = c.unwrap.result.0.now in
    let call = c.unwrap.result.1.now in
    let row_with : List ℕ → Option (List ℕ) → CallRow =
    λ first second. record {
      key = key;
      pool = call.pool;
      units = call.units;
      first = first;
      second = second;
    } in
    let row = row_with c.first_of-first.result c.second_of-second.result in
    let left = c.loop-left.left in
    let held = c.loop-left.invariant in
    let pushed = c.push_reserved.ensures in
    let next : left - 1 + 1 ≡ left = omega (arith, c.loop-left-test.true) in
    let there : slice_get calls.order (left - 1) ≡ Some (key, call) =
    sym c.nth.ensures.nth ∙ ap (option_map (λ it. (it.0.now, it.1.now))) c.unwrap.ensures in
    let in_table : fin.get calls.calls key ≡ Some call =
    subst (λ o. IfSome o (λ it. fin.get calls.calls it.0.now ≡ Some it.1.now)) c.unwrap.ensures
    c.nth.ensures.call in
    let is_open : fin.get tables.calls key ≡ Some call =
    subst (λ (m : OpenCalls). fin.get m key ≡ Some call) c.calls-calls.ensures in_table in
    let row_is : row ≡ call_row_of (key, call) =
    ap (λ (first : List ℕ). row_with first c.second_of-second.result) c.first_of-first.ensures
    ∙ ap (row_with (first_of call.legs)) c.second_of-second.ensures in
    record {
      rows = subst (All (IsCallRow tables)) (sym pushed.items)
          (All-push (IsCallRow tables) c.loop-left.rows.items row held.rows
          (row_of_call tables key call row is_open row_is));
      by_place = pushed.items
          ∙ ap (λ (rows : List CallRow). rows ++ row ∷ []) held.by_place
          ∙ ap (λ (x : CallRow). rows_below call_row_of calls.order c.args.place left ++ x ∷ [])
          row_is
          ∙ sym (next_row call_row_of calls.order c.args.place (left - 1) left (key, call) next
          held.below there);
      count = search rules;
      below = omega (arith, held.below);
      within = omega (arith, held.within);
      room = pushed.capacity ∙ held.room;
    }
