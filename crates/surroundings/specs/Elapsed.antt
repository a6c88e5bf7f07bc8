-- How much time has passed.
use Rattle.std.specs.Prelude.{ℕ, ◌-◌, ◌/◌, ◌^◌, min, Option, Some, None}
use Rattle.std.specs.declared.time.Instant.{Instant}
use Rattle.std.specs.Time.{instant_nanos}

-- the whole milliseconds of these nanoseconds, or the greatest u64 if they are more
abbrev pub milliseconds_of : ℕ → ℕ
milliseconds_of nanoseconds = min (nanoseconds / 1000000) (2 ^ 64 - 1)

-- the milliseconds from a moment to a later one, if the system's clock could be read at both; 0 if
-- the later one is before it
abbrev pub milliseconds_between : Option Instant → Option Instant → Option ℕ
milliseconds_between (Some start) (Some now) =
    Some (milliseconds_of (instant_nanos now - instant_nanos start))
milliseconds_between start now = None
