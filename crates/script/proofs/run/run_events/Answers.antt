use Rattle.std.proofs.Common.{rules, ◌≡◌, ◌+◌, ◌∷◌, ℕ, List, length, map, sym, ap}
use Rattle.std.proofs.Common.{◌∙◌, arith, refl}
use Rattle.std.proofs.lemmas.List.{length_push}
use Rattle.std.specs.Vec.Iter.{into_iter_items}
use Rattle.script.specs.Deeds.{Handle, Offer}
use Rattle.script.specs.Events.{fresh_pools}
use Rattle.script.specs.Streams.{OutputState}
use Rattle.script.specs.declared.event.ScriptEvent.{ScriptEvent}
use Rattle.script.proofs.Offers.{event_next, offer_next, none_left_less, one_left_less}
use Rattle.script.proofs.Running.{Answered, answer_joined, ran_none, ran_all, ran_more}
use Rattle.script.proofs.Running.{ran_until, moved_on, nothing_left}
use Rattle.script.proofs.run.run_events.Given.{Over}
use Rattle.script.proofs.run.run_events.Goals as goal
use Rattle.script.proofs.run.run_events.Goals.{Joined-event}

answered : (g : Over) (c : Joined-event g)
    → Answered c.loop-event.number (into_iter_items c.loop-event.event-iterator)
    (into_iter_items c.next.new.self) (map g.P.Pool.account (into_iter_items c.loop-event.fresh))
    (map g.P.Pool.account (into_iter_items c.match-event.fresh)) c.loop-event.zone
    c.match-event.zone c.loop-event.out.contents c.match-event.out.contents c.match-event.ran
answered g c =
    let left = into_iter_items c.loop-event.event-iterator in
    let after = into_iter_items c.next.new.self in
    let step = c.in-Some.ensures.steps.0 in
    let rest = map g.P.Pool.account (into_iter_items c.loop-event.fresh) in
    let after_rest = map g.P.Pool.account (into_iter_items c.match-event.fresh) in
    elim c.match-event.branch [
      | goal.in-Event w ↦ record {
        deed = Handle w.in-Event.event;
        next = event_next left after c.in-Some.event step rest after_rest w.in-Event.event
            w.in-Event.is (search (rules, w.fresh-is));
        answered = answer_joined (c.loop-event.number + 1) c.loop-event.zone
            w.run_event-ran.new.zone c.match-event.zone (Handle w.in-Event.event)
            c.loop-event.out.contents w.run_event-ran.new.out.contents c.match-event.out.contents
            w.run_event-ran.result c.match-event.ran w.zone-is
            (ap (λ (o : OutputState). o.contents) w.out-is) w.ran-is w.run_event-ran.ensures;
      }
      | goal.in-Replace+in-Some-next w ↦
          let account = g.P.Pool.account w.in-Some-next.pool in
          let first : rest ≡ account ∷ after_rest =
          search (rules, w.in-Some-next.ensures.items, w.fresh-is) in
          record {
            deed = Offer w.in-Replace.replacement account;
            next = offer_next left after c.in-Some.event step rest after_rest account
                w.in-Replace.replacement w.in-Replace.is first;
            answered = answer_joined (c.loop-event.number + 1) c.loop-event.zone
                w.run_replacement.new.zone c.match-event.zone
                (Offer w.in-Replace.replacement account) c.loop-event.out.contents
                w.run_replacement.new.out.contents c.match-event.out.contents
                w.run_replacement.result c.match-event.ran w.zone-is
                (ap (λ (o : OutputState). o.contents) w.out-is) w.ran-is w.run_replacement.ensures;
          }
    ]

enough : (g : Over) (c : Joined-event g)
    → length (into_iter_items c.match-event.fresh)
    ≡ length (fresh_pools (into_iter_items c.next.new.self))
enough g c =
    let left = into_iter_items c.loop-event.event-iterator in
    let after = into_iter_items c.next.new.self in
    let step = c.in-Some.ensures.steps.0 in
    let before : length (into_iter_items c.loop-event.fresh) ≡ length (fresh_pools left) =
    c.loop-event.invariant.enough in
    elim c.match-event.branch [
      | goal.in-Event w ↦
          let same : length (into_iter_items c.match-event.fresh)
          ≡ length (into_iter_items c.loop-event.fresh) = search (rules, w.fresh-is) in
          same ∙ before
          ∙ ap length (none_left_less left after c.in-Some.event step w.in-Event.event
          w.in-Event.is)
      | goal.in-Replace+in-Some-next w ↦
          let first : length (into_iter_items c.loop-event.fresh)
          ≡ length (into_iter_items c.match-event.fresh) + 1 =
          search (rules, w.in-Some-next.ensures.items, w.fresh-is) in
          let less = ap length (one_left_less left after c.in-Some.event step
          w.in-Replace.replacement w.in-Replace.is) in
          omega (arith, before, first, less)
    ]

pub loop-event-init : goal.loop-event-init
loop-event-init g c =
    let gives = c.into_iter-event-iterator.ensures.into_iter_gives in
    let pools = c.into_iter-fresh.ensures.rest in
    record {
      split = gives.0;
      left = search (rules, gives.0, gives.1);
      count = refl;
      enough = ap length pools ∙ c.requires
          ∙ ap (λ (es : List ScriptEvent). length (fresh_pools es)) (sym gives.0);
      ran = ran_none c.args.zone.now c.args.events.items
          (map g.P.Pool.account c.args.fresh.items)
          (into_iter_items c.into_iter-event-iterator.result)
          (map g.P.Pool.account (into_iter_items c.into_iter-fresh.result))
          c.args.out.now.contents gives.0 (ap (map g.P.Pool.account) pools);
    }

pub loop-event-preserved : goal.loop-event-preserved
loop-event-preserved g c =
    let at = c.loop-event in
    let event = c.in-Some.event in
    let joined = (goal.at.loop-event-preserved g c).Joined-event in
    record {
      split = moved_on at.yielded event (into_iter_items at.event-iterator)
          (into_iter_items c.next.new.self) c.args.events.items c.in-Some.ensures.steps.0
          at.invariant.split;
      left = omega (
        arith,
        at.invariant.left,
        c.in-Some.ensures.steps.1,
        ap length c.in-Some.ensures.steps.0,
      );
      count = ap (λ (n : ℕ). n + 1) at.invariant.count ∙ sym (length_push at.yielded event);
      enough = enough g joined;
      ran = ran_more c.args.zone.now c.args.events.items
          (map g.P.Pool.account c.args.fresh.items) at.number
          (into_iter_items at.event-iterator) (into_iter_items c.next.new.self)
          (map g.P.Pool.account (into_iter_items at.fresh))
          (map g.P.Pool.account (into_iter_items c.match-event.fresh)) at.zone c.match-event.zone
          c.args.out.now.contents at.out.contents c.match-event.out.contents c.match-event.ran
          c.in-Ok.field-0 c.in-Ok.is at.invariant.ran (answered g joined);
    }

pub returns-in-Err-clause-answer : goal.returns-in-Err-clause-answer
returns-in-Err-clause-answer g c =
    let at = c.loop-event in
    let joined = (goal.at.returns-in-Err-clause-answer g c).Joined-event in
    ran_until c.args.zone.now c.args.events.items
    (map g.P.Pool.account c.args.fresh.items) at.number
    (into_iter_items at.event-iterator) (into_iter_items c.next.new.self)
    (map g.P.Pool.account (into_iter_items at.fresh))
    (map g.P.Pool.account (into_iter_items c.match-event.fresh)) at.zone c.match-event.zone
    c.args.out.now.contents at.out.contents c.match-event.out.contents c.match-event.ran
    c.in-Err.fault c.in-Err.is at.invariant.ran (answered g joined)

pub returns-clause-answer : goal.returns-clause-answer
returns-clause-answer g c =
    let at = c.loop-event in
    let none = nothing_left (into_iter_items at.event-iterator)
    (sym at.invariant.left ∙ c.in-None.ensures.steps.0) in (
      at.zone,
      ran_all c.args.zone.now c.args.events.items (map g.P.Pool.account c.args.fresh.items)
          at.number (into_iter_items at.event-iterator)
          (map g.P.Pool.account (into_iter_items at.fresh)) at.zone c.args.out.now.contents
          at.out.contents none at.invariant.ran,
    )
