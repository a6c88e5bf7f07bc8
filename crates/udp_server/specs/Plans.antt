-- What a server may be told of how it runs, and what follows for its history.
use Rattle.std.specs.Prelude.{◌≤◌, ◌==◌, ◌||◌, Bool, if◌then◌else◌, nat_lt}
use Rattle.udp_server.specs.declared.plan.Plan.{Plan}
use Rattle.udp_server.specs.declared.server.Beginning.{Beginning}
use Rattle.udp_server.specs.declared.server.Beginning.TheVariants.{HandedOut, Kept, LetGo}

pub record IsPlan (p : Plan) : Type 0 where
  pub ring : (1 ≤ p.ring) × (p.ring ≤ 4096)
  pub faults : (1 ≤ p.faults) × (p.faults ≤ 1000)
  pub tick : (1 ≤ p.tick) × (p.tick ≤ 60000)

-- the report has a part of the history: receipts, chapters, or the whole, which isn't parted
abbrev pub has_history : Plan → Bool
has_history p = p.receipts || p.chapter == 0 || nat_lt 0 p.latest

-- what becomes of the history that stands behind the lock before any step is made
abbrev pub beginning_of : Plan → Beginning
beginning_of p = if has_history p then Kept else if p.hands_out then HandedOut else LetGo
