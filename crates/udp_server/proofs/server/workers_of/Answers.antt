use Rattle.std.proofs.Common.{◌≡◌, ◌++◌, ◌∷◌, ◌+◌, ◌∙◌, ℕ, List, [], map, vec_len}
use Rattle.std.proofs.Common.{add-one, ap, arith, sym}
use Rattle.std.proofs.lemmas.Grind.{common_steps}
use Rattle.std.proofs.lemmas.List.{map-append}
use Rattle.udp_server.specs.WorkerNumbers.{numbers_below}
use Rattle.udp_server.specs.declared.worker.Worker.{Worker}
use Rattle.udp_server.specs.declared.worker.TheConstants.Counts as worker_counts
use Rattle.udp_server.proofs.server.workers_of.Goals as goal

-- one more, whose number is how many there were before
numbered_more : {X : Type 0} (number : X → ℕ) (old new : List X) (x : X) (n m : ℕ)
    → new ≡ old ++ x ∷ [] → m ≡ n + 1 → number x ≡ n → map number old ≡ numbers_below n
    → map number new ≡ numbers_below m
numbered_more number old new x n m is more last so_far =
    ap (map number) is ∙ map-append number old (x ∷ []) ∙ ap (λ ns. ns ++ number x ∷ []) so_far
    ∙ ap (λ k. numbers_below n ++ k ∷ []) last ∙ ap numbers_below (sym (more ∙ add-one n))

pub loop-seat-preserved : goal.loop-seat-preserved
loop-seat-preserved g c =
    let so_far = c.loop-seat.workers in
    let added : Worker g.row.D.Denot g.row.T.Denot g.row.U.Denot g.row.V.Denot g.row.C.Denot =
    record {
      number = c.len-in-loop-seat.result;
      seat = c.in-Some.seat;
      clock = c.in_ok-clock.clock;
      outlet = c.in_ok-outlet.outlet;
      outcome = c.noted.result;
      receipts = c.new.result;
      counts = worker_counts.NONE;
    } in
    let pushed : c.push.new.self.items ≡ so_far.items ++ added ∷ [] =
    grind (arith, common_steps) in
    let one_more : vec_len c.push.new.self ≡ vec_len so_far + 1 = grind (arith, common_steps) in
    record {
      seats = grind (arith, common_steps);
      numbers = numbered_more (λ w. w.number) so_far.items c.push.new.self.items added
          (vec_len so_far) (vec_len c.push.new.self) pushed one_more c.len-in-loop-seat.ensures
          c.loop-seat.invariant.numbers;
    }
