use Rattle.std.proofs.Common.{◌∙◌, ap, subst}
use Rattle.std.specs.Prelude.{Option}
use Rattle.zone_events.specs.declared.change.Change.TheVariants as change
use Rattle.zone_events.specs.declared.outcome.Datagram.{Datagram}
use Rattle.zone_lock.specs.Seats.{Seated, seated_after}
use Rattle.udp_server.specs.Working.{IsHandedOn, Standing, standing}
use Rattle.udp_server.proofs.worker.Worker.apply.Goals as goal

pub returns-in-Err-Closed-clause-came : goal.returns-in-Err-Closed-clause-came
returns-in-Err-Closed-clause-came g c = (
  ap (λ (s : Seated). standing s c.args.self.now.outlet c.args.self.now.counts)
      c.in-Err-Closed.ensures.err,
  c.apply.ensures.closed (cc (c.in-Err-Closed.is, c.in-Err-Closed.field-0-is)),
)

pub returns-clause-came : goal.returns-clause-came
returns-clause-came g c =
    let old = c.args.self.now in
    let outcome = c.in-Ok.receipt.outcome in
    let new = c.hand_on.new.self in
    let then = standing new.seat new.outlet new.counts in
    let made = standing (seated_after old.seat (change.Event c.args.prepared) outcome) old.outlet
    old.counts in
    record {
      outcome = outcome;
      step = c.in-Ok.ensures.step;
      idle = c.was_idle-is_idle.ensures;
      handed_on = subst (λ (o : Option Datagram). IsHandedOn o made then)
          c.reply_of-reply.ensures.output
          (subst (λ (b : Standing). IsHandedOn c.reply_of-reply.result b then)
          (c.reply_of-reply.ensures.same
          ∙ ap (λ (s : Seated). standing s old.outlet old.counts) c.in-Ok.ensures.seat)
          c.hand_on.ensures);
    }
