-- Rows with the moments at which they are due.
use Rattle.std.specs.Prelude.{◌≤◌, ◌-◌, length, min}
use Rattle.indexmap.specs.IndexMap.{IndexMap, spare}
use Rattle.indexmap.specs.Layout.{hash_map}
use Rattle.kept_replies.specs.inside.Due.{DueTable, AreTimed}
use Rattle.kept_replies.specs.declared.key.KeptKey.{KeptKey}
use Rattle.kept_replies.specs.declared.entry.KeptEntry.{KeptEntry}

module _ {S : Type 0} where
  -- what contracts see: the room is the least that any part has
  abbrev pub rows_seen : IndexMap KeptKey KeptEntry S → DueTable
      → IndexMap KeptKey KeptEntry (Unit {0})
  rows_seen rows due =
      hash_map rows.entries tt (min (spare rows) (due.room - length rows.entries))

-- each row has its moments
pub record AreRows {S : Type 0} (rows : IndexMap KeptKey KeptEntry S) (due : DueTable) : Type 0
  where
    pub timed : AreTimed rows.entries due
    pub fit : length rows.entries ≤ due.room
