-- The exit status of a server that ended with a report.
use Rattle.std.specs.Prelude.{ℕ, Bool, true, false, Option, Some, None}

-- 4 if and only if the server wasn't asked to end: it had no number of receives to stop after, and
-- isn't told to stop
abbrev pub end_status : Option ℕ → Bool → ℕ
end_status (Some receives) is_over = 0
end_status None true = 0
end_status None false = 4
