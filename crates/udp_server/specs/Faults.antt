-- The numbers of the faults, and when the counts of what is handed in are wrong.
use Rattle.std.specs.Prelude.{◌≡◌, ◌≤◌, ◌+◌, ℕ}
use Rattle.udp_server.specs.declared.report.ServeFault.{ServeFault}
use Rattle.udp_server.specs.declared.report.ServeFault.TheVariants.{WrongCounts, Memory}
use Rattle.udp_server.specs.declared.report.ServeFault.TheVariants.{NotFinished}

abbrev pub serve_fault_number : ServeFault → ℕ
serve_fault_number WrongCounts = 1
serve_fault_number Memory = 2
serve_fault_number NotFinished = 3

-- one seat more than receiving ends, and a clock for each seat
pub record AreCounts (seats receivers clocks : ℕ) : Type 0 where
  pub one_more : seats ≡ receivers + 1
  pub clock_each : clocks ≡ seats

-- no more receiving ends than a lock has seats for, beside one for the turns; and a clock for each
-- seat
pub record AreCountsOfEnds (receivers clocks : ℕ) : Type 0 where
  pub few : receivers ≤ 15
  pub clock_each : clocks ≡ receivers + 1
