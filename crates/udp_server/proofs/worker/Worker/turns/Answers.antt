use Rattle.std.proofs.Common.{List, ℕ, inl, subst}
use Rattle.zone_lock.specs.Turns.{AreTurnsUnderLock}
use Rattle.udp_server.specs.Working.{AreHandedOn, Standing, standing}
use Rattle.udp_server.proofs.Steps.{refusals_counted}
use Rattle.udp_server.proofs.worker.Worker.turns.Goals as goal

pub returns-clause-came : goal.returns-clause-came
returns-clause-came g c =
    let old = c.args.self.now in
    let new = c.post_all.new.self in
    let then = standing new.seat new.outlet new.counts in
    let sent = c.turns-end.new.replies.items in
    let counted = c.count_end.ensures in
    inl (record {
      moment = c.now-moment.result;
      sent = sent;
      seat_then = c.turns-end.new.seat;
      counts = c.turns-end.new.counts;
      told = (c.now-moment.new.self, c.now-moment.ensures);
      turns = subst (λ (ns : List ℕ). AreTurnsUnderLock g.D.Hall.opened old.seat c.now-moment.result
          50 sent c.turns-end.result c.turns-end.new.seat ns c.turns-end.new.counts)
          c.none-counts.ensures c.turns-end.ensures.made;
      handed_on = subst (λ (b : Standing). AreHandedOn sent b then)
          (refusals_counted old.seat c.turns-end.new.seat old.outlet old.counts
          c.count_end.new.self _ counted.refused counted.dropped counted.faults)
          c.post_all.ensures;
    })
