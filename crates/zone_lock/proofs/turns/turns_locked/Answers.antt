use Rattle.std.proofs.Common.{ap, arith, ◌≢◌, ◌++◌, ◌∷◌, [], length-append, refl, sym, ◌∙◌}
use Rattle.std.proofs.lemmas.List.Elements.{All-push}
use Rattle.zone_events.specs.declared.outcome.Note.TheVariants as note
use Rattle.zone_events.specs.declared.outcome.Outcome.{Outcome}
use Rattle.zone_view.specs.Counts.{with_step}
use Rattle.zone_lock.proofs.TurnByTurn.{counts_one_more, one_more, seat_one_more}
use Rattle.zone_lock.proofs.TurnByTurn.{sent_one_more}
use Rattle.zone_lock.proofs.turns.turns_locked.Goals as goal

pub returns-then-is_idle-clause-made : goal.returns-then-is_idle-clause-made
returns-then-is_idle-clause-made g c =
    let inv = c.loop-turn.invariant in
    let os = inv.0 in
    let o = c.turn_locked.new.outcome in
    let mid = c.loop-turn.locked in
    let new = c.turn_locked.new.locked in
    let was = c.in_default.ensures in
    record {
      outcomes = os ++ o ∷ [];
      turns = one_more g.D.Hall.opened c.args.seat.now c.args.moment c.args.locked.now mid new os o
          c.loop-turn.seat c.turn_locked.new.seat inv.5 inv.1 was.step was.entered;
      sent_are = sent_one_more c.loop-turn.replies.items c.put_reply.new.replies.items os o inv.2
          c.put_reply.ensures.put;
      few = omega (arith, inv.3, length-append os (o ∷ []), c.loop-turn-test.true);
      ended = (
        os,
        o,
        refl,
        inv.4,
        sym c.put_reply.ensures.note ∙ c.is_idle.ensures.0 c.if-is_idle.true,
      );
      seat_is = seat_one_more g.D.Hall.opened c.args.seat.now c.args.moment c.args.locked.now mid
          new os o c.loop-turn.seat c.turn_locked.new.seat inv.5 was.seat;
      counted = counts_one_more c.args.counts.now c.loop-turn.counts c.add_step.new.self os o
          inv.9 (c.add_step.ensures ∙ ap (λ s. with_step s c.loop-turn.counts) c.of.ensures);
    }

pub loop-turn-preserved : goal.loop-turn-preserved
loop-turn-preserved g c =
    let inv = c.loop-turn.invariant in
    let os = inv.0 in
    let o = c.turn_locked.new.outcome in
    let mid = c.loop-turn.locked in
    let new = c.turn_locked.new.locked in
    let was = c.in_default.ensures in
    let busy : o.note ≢ note.Idle = λ idle. cc (
      c.is_idle.ensures.1 (c.put_reply.ensures.note ∙ idle),
      c.if-is_idle.false,
    ) in (
      os ++ o ∷ [],
      one_more g.D.Hall.opened c.args.seat.now c.args.moment c.args.locked.now mid new os o
          c.loop-turn.seat c.turn_locked.new.seat inv.5 inv.1 was.step was.entered,
      sent_one_more c.loop-turn.replies.items c.put_reply.new.replies.items os o inv.2
          c.put_reply.ensures.put,
      omega (arith, inv.3, length-append os (o ∷ [])),
      All-push (λ (x : Outcome). x.note ≢ note.Idle) os o inv.4 busy,
      seat_one_more g.D.Hall.opened c.args.seat.now c.args.moment c.args.locked.now mid new os o
          c.loop-turn.seat c.turn_locked.new.seat inv.5 was.seat,
      omega (arith, inv.6, c.put_reply.ensures.len),
      omega (arith, inv.7, c.put_reply.ensures.room),
      c.turn_locked.ensures.kept,
      counts_one_more c.args.counts.now c.loop-turn.counts c.add_step.new.self os o inv.9
          (c.add_step.ensures ∙ ap (λ s. with_step s c.loop-turn.counts) c.of.ensures),
    )
