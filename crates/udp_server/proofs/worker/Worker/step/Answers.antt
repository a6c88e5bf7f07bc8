use Rattle.std.proofs.Common.{◌∙◌, ap, subst}
use Rattle.std.specs.Prelude.{None, Option}
use Rattle.zone_events.specs.declared.change.Change.TheVariants as change
use Rattle.zone_events.specs.declared.event.Event.{Event}
use Rattle.zone_events.specs.declared.outcome.Datagram.{Datagram}
use Rattle.zone_lock.specs.Seats.{Seated, seated_after}
use Rattle.udp_server.specs.Working.{IsHandedOn, IsServedEvent, Standing, standing}
use Rattle.udp_server.proofs.worker.Worker.step.Goals as goal

pub returns-clause-came : goal.returns-clause-came
returns-clause-came g c =
    let old = c.args.self.now in
    let prepared = c.in-Ok.prepared in
    let outcome = c.step.new.outcome in
    let new = c.hand_on.new.self in
    let before = standing old.seat old.outlet old.counts in
    let then = standing new.seat new.outlet new.counts in
    let made = standing (seated_after old.seat (change.Event prepared) outcome) old.outlet
    old.counts in
    let is_idle = c.was_idle-is_idle.result in
    subst (λ (e : Event). IsServedEvent g.D.Hall.opened e None is_idle before then) c.in-Ok.ensures (record {
      outcome = outcome;
      step = c.in-Ok-step.ensures.step;
      idle = c.was_idle-is_idle.ensures;
      handed_on = subst (λ (o : Option Datagram). IsHandedOn o made then)
          c.take_reply-reply.ensures.output
          (subst (λ (b : Standing). IsHandedOn c.take_reply-reply.result b then)
          (c.take_reply-reply.ensures.same
          ∙ ap (λ (s : Seated). standing s old.outlet old.counts) c.in-Ok-step.ensures.seat)
          c.hand_on.ensures);
    })
