-- What a server's clock tells.
use Rattle.std.specs.Prelude.{ℕ, ◌^◌, Option, Some, None, nat_lt, if◌then◌else◌}
use Rattle.std.specs.declared.time.Instant.{Instant}
use Rattle.gatekeeper.specs.declared.stopwatch.Stopwatch.{Stopwatch}

-- what a clock tells that told the last moment before: the moment of these milliseconds, if they
-- are known and are a moment; else the last one again
abbrev pub moment_told : ℕ → Option ℕ → ℕ
moment_told last None = last
moment_told last (Some milliseconds) =
    if nat_lt milliseconds (2 ^ 53) then milliseconds else last

-- when a clock began, if the system's clock could be read then
abbrev pub beginning : {R : Type 0} → Stopwatch R → Option Instant
beginning clock = clock.start

-- the moment that a clock told last; 0 if it told none yet
abbrev pub last_moment : {R : Type 0} → Stopwatch R → ℕ
last_moment clock = clock.last
