use Rattle.std.proofs.Common.{◌≡◌, ◌≤◌, ◌+◌, All, length, min, vec_capacity}
use Rattle.std.specs.FinMap as fin
use Rattle.zone_lock.specs.Views.{IsEndpointRow, row_in, rows_below}
use Rattle.zone_lock.proofs.looking.put_endpoints.Given as goal

-- the rows of the places above those that are left
abbrev pub invariant-loop-left : goal.invariant-loop-left
invariant-loop-left l = record {
  rows : All (IsEndpointRow l.tables) l.rows.items;
  by_place : l.rows.items
      ≡ rows_below (row_in l.tables) l.registrations.order l.place l.left;
  count : length l.rows.items + l.left ≡ min l.place (fin.len l.tables.live);
  below : l.left ≤ l.place;
  within : l.left ≤ fin.len l.tables.live;
  room : vec_capacity l.rows ≡ vec_capacity l.initial.rows;
}

abbrev pub decreases-loop-left : goal.decreases-loop-left
decreases-loop-left l = l.left
