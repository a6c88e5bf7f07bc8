-- A send counts once; and which rings a reply was taken out of.
use Rattle.std.proofs.Common.{◌≡◌, ◌≤◌, ◌<◌, ◌+◌, ◌⊎◌, ◌∙◌, ◌++◌, ◌∷◌, [], ℕ, List, length}
use Rattle.std.proofs.Common.{arith, ap, get_or, inl, inr, set, subst, sym}
use Rattle.std.proofs.Math.Nat.{eq-or-lt_of_le, min-le_left}
use Rattle.std.proofs.lemmas.List.{get_or-set_other, get_or-set_same, get_or_default}
use Rattle.reply_queues.specs.Rings.{datagrams_taken}
use Rattle.reply_queues.specs.declared.inlet.Inlet.{Inlet}
use Rattle.zone_events.specs.declared.outcome.Datagram.{Datagram}
use Rattle.udp_server.specs.declared.sender.SendCounts.{SendCounts}
use Rattle.udp_server.specs.Ends.{most_count}
use Rattle.udp_server.specs.Sending.{IsLookedAt, IsNextSent, IsSendCounted, IsTaken, Sends}
use Rattle.udp_server.specs.Sending.{all_counted}

-- what is counted after one send, if one was counted at all
counted_at_most : (sends : Sends) (reply : Datagram) (failures failures_then : ℕ)
    (old new : SendCounts) → IsSendCounted sends reply failures failures_then old new
    → all_counted new ≤ all_counted old + 1
counted_at_most sends reply failures failures_then old new (inl sent) =
    omega (
      arith,
      min-le_left (old.replies + 1) most_count,
      ap (λ (c : SendCounts). c.replies) sent.counted,
      ap (λ (c : SendCounts). c.faults) sent.counted,
    )
counted_at_most sends reply failures failures_then old new (inr failed) =
    omega (
      arith,
      min-le_left (old.faults + 1) most_count,
      ap (λ (c : SendCounts). c.replies) failed.counted,
      ap (λ (c : SendCounts). c.faults) failed.counted,
    )

-- the same of the reply that is next in a ring
pub one_more_at_most : (sends : Sends) (taken taken_then : List Datagram)
    (failures failures_then : ℕ) (old new : SendCounts)
    → IsNextSent sends taken taken_then failures failures_then old new
    → all_counted new ≤ all_counted old + 1
one_more_at_most sends taken taken_then failures failures_then old new next =
    counted_at_most sends next.reply failures failures_then old new next.counted

-- the next reply was taken out of one of the first rings
abbrev pub IsTakenBelow : ℕ → List Inlet → List Inlet → Type 0
IsTakenBelow n old new =
    (k : ℕ) × (k < n) × ((none : Inlet) → IsTaken (get_or old k none) (get_or new k none))

-- it was taken out of the ring that was looked at last
pub taken_here : (old so_far : List Inlet) (i : ℕ) (before after : Inlet) → i < length so_far
    → ((k : ℕ) (none : Inlet) → i ≤ k → get_or so_far k none ≡ get_or old k none)
    → IsTaken (get_or so_far i before) after → IsTakenBelow (i + 1) old (set so_far i after)
taken_here old so_far i before after within rest taken = (
  i,
  omega arith,
  λ none.
      let now = get_or-set_same so_far i after none within in
      let then = get_or_default so_far i before none within ∙ rest i none (omega arith) in (
        taken.0,
        ap datagrams_taken now ∙ taken.1
            ∙ ap (λ inlet. datagrams_taken inlet ++ taken.0 ∷ []) then,
      ),
)

-- or out of one before
pub taken_before : (old so_far : List Inlet) (i : ℕ) (after : Inlet)
    → IsTakenBelow i old so_far → IsTakenBelow (i + 1) old (set so_far i after)
taken_before old so_far i after (k, below, taken) = (
  k,
  omega arith,
  λ none.
      let same = get_or-set_other so_far i k after none (omega arith) in
      ((taken none).0, ap datagrams_taken same ∙ (taken none).1),
)

at_last : (k i : ℕ) → k < i + 1 → (k ≡ i) ⊎ (k < i)
at_last k i below = eq-or-lt_of_le (omega arith)

-- each of the first rings was looked at, and the one that comes next
pub looked_at_more : (old so_far : List Inlet) (i : ℕ) (before after : Inlet)
    → i < length so_far
    → ((k : ℕ) (none : Inlet) → i ≤ k → get_or so_far k none ≡ get_or old k none)
    → ((k : ℕ) (none : Inlet) → k < i → IsLookedAt (get_or old k none) (get_or so_far k none))
    → IsLookedAt (get_or so_far i before) after → (k : ℕ) (none : Inlet) → k < i + 1
    → IsLookedAt (get_or old k none) (get_or (set so_far i after) k none)
looked_at_more old so_far i before after within rest each last k none below =
    let now = get_or-set_same so_far i after none within in
    let then = get_or_default so_far i before none within ∙ rest i none (omega arith) in
    let here : IsLookedAt (get_or old i none) (get_or (set so_far i after) i none) =
    subst (λ o. IsLookedAt o (get_or (set so_far i after) i none)) then
    (subst (λ n. IsLookedAt (get_or so_far i before) n) (sym now) last) in
    elim (at_last k i below) [
      | inl e ↦ subst
          (λ j. IsLookedAt (get_or old j none) (get_or (set so_far i after) j none)) (sym e) here
      | inr lower ↦ subst (λ n. IsLookedAt (get_or old k none) n)
          (sym (get_or-set_other so_far i k after none (omega arith))) (each k none lower)
    ]
