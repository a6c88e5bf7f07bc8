use Rattle.std.proofs.Common.{◌≡◌, ◌<◌, ◌≤◌, ◌+◌, ◌*◌, ◌^◌, [], vec_capacity, vec_len, length, take, All, List}
use Rattle.std.specs.BTreeMap.{btree_map_len, IsOrdered}
use Rattle.std.specs.Cmp.Lexicographic.{slice_cmp}
use Rattle.std.specs.List.{fold}
use Rattle.std.specs.Ordering.{nat_cmp}
use Rattle.std.specs.Prelude.{nat_lt}
use Rattle.zone_view.specs.declared.rows.EndpointRow.{EndpointRow}
use Rattle.status_page.specs.Lists.{IsEndpointEntry, with_endpoint}
use Rattle.status_page.proofs.Gathered.{unboxed}
use Rattle.status_page.proofs.Readings.{AreTaken}
use Rattle.status_page.proofs.lists.endpoints_after.Given as goal

-- Each entry's row was told, stands behind the given one, and is under its own key. The entries are
-- the first of those of all rows that were taken, and it is known whether there are more. The rows
-- that were taken and those in `told` are all that were read so far.
abbrev pub invariant-loop-row : goal.invariant-loop-row
invariant-loop-row g l = record {
  entries : All (IsEndpointEntry l.after (g.Z.RunningZone.has_endpoint l.zone)) l.entries.entries;
  ordered : IsOrdered (slice_cmp nat_cmp) l.entries;
  few : btree_map_len l.entries ≤ l.most;
  told : All (g.Z.RunningZone.has_endpoint l.zone) l.told.items;
  room : 0 < vec_capacity l.told;
  first : (rows : List EndpointRow) × All (g.Z.RunningZone.has_endpoint l.zone) rows
      × AreTaken (g.Z.RunningZone.has_endpoints_below l.zone) l.place l.told.items rows
      × (unboxed l.entries.entries ≡ take l.most (fold (with_endpoint l.after) [] rows))
      × (l.is_more ≡ nat_lt l.most (length (fold (with_endpoint l.after) [] rows)));
}

abbrev pub decreases-loop-row : goal.decreases-loop-row
decreases-loop-row g l = l.place * 2 ^ 64 + vec_len l.told
