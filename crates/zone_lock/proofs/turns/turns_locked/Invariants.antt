use Rattle.std.proofs.Common.{◌≡◌, ◌≤◌, List, length, vec_len, vec_capacity}
use Rattle.zone_events.specs.declared.outcome.Outcome.{Outcome}
use Rattle.zone_lock.specs.Held.{IsKept}
use Rattle.zone_lock.specs.Turns.{AreBusy, AreTurns, counts_after, seated_after_turns, sent_of}
use Rattle.zone_lock.proofs.turns.turns_locked.Given as goal

-- as many turns as there were passes, with these outcomes, and something was due in each
abbrev pub invariant-loop-turn : goal.invariant-loop-turn
invariant-loop-turn g l = (outcomes : List Outcome)
    × AreTurns g.D.Hall.opened l.fn.seat l.fn.moment l.fn.locked outcomes l.locked
    × (l.replies.items ≡ sent_of outcomes) × (length outcomes ≡ l._turn) × AreBusy outcomes
    × (l.seat ≡ seated_after_turns l.fn.seat l.fn.moment outcomes)
    × (vec_len l.replies ≤ l._turn) × (l.fn.most ≤ vec_capacity l.replies)
    × IsKept g.D.Hall.opened l.locked × (l.counts ≡ counts_after l.fn.counts outcomes)
