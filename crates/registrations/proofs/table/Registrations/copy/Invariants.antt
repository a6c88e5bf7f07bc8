use Rattle.std.proofs.Common.{◌≡◌, ◌≤◌, ◌+◌, take, length}
use Rattle.registrations.specs.Registry.{live_of}
use Rattle.registrations.proofs.Legs.{HaveLegs}
use Rattle.registrations.proofs.table.Registrations.copy.Given as goal

abbrev pub invariant-loop-i : goal.invariant-loop-i
invariant-loop-i l = (l.copy.order ≡ take l.i l.self.order)
    × (l.copy.live ≡ live_of (take l.i l.self.order)) × (l.copy.most ≡ l.self.most)
    × (length l.self.order ≤ l.i + l.copy.room) × (l.copy.times ≡ l.self.times)
    × HaveLegs l.self.legs l.copy.live l.copy.legs
