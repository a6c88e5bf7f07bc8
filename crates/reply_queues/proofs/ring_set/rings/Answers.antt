use Rattle.std.proofs.Common.{rules, arith, ◌≡◌, length}
use Rattle.reply_queues.proofs.NewRings.{EachIsNewRing-push}
use Rattle.reply_queues.proofs.ring_set.rings.Goals as goal

pub loop-ring-preserved : goal.loop-ring-preserved
loop-ring-preserved c =
    let made = c.in_ok-producer.ensures in
    let before = c.loop-ring.invariant in
    let same : length c.loop-ring.outlets.items ≡ length c.loop-ring.inlets.items =
    omega (arith, before.outlets.0, before.inlets.0) in
    record {
      outlets = search rules;
      inlets = search rules;
      rings = rw (c.push_reserved.ensures.items, c.push_reserved-in-loop-ring.ensures.items)
          (EachIsNewRing-push _ _ _ _ _ same before.rings (record {
            ring = made.pair;
            nothing_put = made.producer.0;
            nothing_seen = made.consumer.1;
            nothing_taken = made.consumer.0;
            all_free = made.producer.1;
          }));
    }
