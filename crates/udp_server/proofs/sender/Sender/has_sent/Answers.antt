use Rattle.std.proofs.Common.{◌∙◌, sym, arith, rules}
use Rattle.std.proofs.lemmas.Grind.{common_steps}
use Rattle.udp_server.proofs.Sent.{with_next}
use Rattle.udp_server.proofs.Sends.{looked_at_more, one_more_at_most, taken_before, taken_here}
use Rattle.udp_server.proofs.sender.Sender.has_sent.Goals as goal
use Rattle.udp_server.proofs.sender.Sender.has_sent.Goals.{else-has_sent_next, then-has_sent_next}

pub loop-inlet-preserved : goal.loop-inlet-preserved
loop-inlet-preserved g c =
    let rings = c.args.inlets.now in
    let so_far = c.loop-inlet in record {
      looked = search rules;
      taken = elim c.if-has_sent_next.branch [
        | then-has_sent_next w ↦ λ yes.
            let next = c.has_sent_next.ensures.next w.if-has_sent_next.true in
            taken_here rings so_far.inlets so_far.inlet-index c.inlet-item.result
            c.has_sent_next.new.inlet (omega arith) so_far.invariant.rest (next.reply, next.next)
        | else-has_sent_next w ↦ λ yes.
            taken_before rings so_far.inlets so_far.inlet-index c.has_sent_next.new.inlet
            (so_far.invariant.taken (sym w.is_any-is ∙ yes))
      ];
      same = search rules;
      each = looked_at_more rings so_far.inlets so_far.inlet-index c.inlet-item.result
          c.has_sent_next.new.inlet (omega arith) so_far.invariant.rest so_far.invariant.each
          c.has_sent_next.ensures.ring;
      rest = grind (arith, common_steps);
      once = search (rules, one_more_at_most);
      counted = search (rules, with_next);
    }
