use Rattle.std.proofs.Common.{rules, length}
use Rattle.std.proofs.lemmas.Iterator.Consumers.{YieldsList-turn, YieldsList-end}
use Rattle.std.proofs.lemmas.Iterator.Splits.{YieldsList-from_lines}
use Rattle.std.proofs.lemmas.List.{length_push}
use Rattle.surroundings.proofs.Waiting.{told_here, told_later, told_nowhere}
use Rattle.surroundings.proofs.stop_signal.waiting.Goals as goal

pub returns-in-Some-waiting_in : goal.returns-in-Some-waiting_in
returns-in-Some-waiting_in c =
    let t = YieldsList-turn (YieldsList-from_lines c.args.status.now (search rules))
    c.loop-line.yielded _ c.loop-line.yielded_by _ _ _ c.in-Some.is c.next.ensures.steps in
    told_here c.args.status.now (length c.loop-line.yielded) c.in-Some.line.now
    c.in-Some-waiting_in.digits.now _ t.0 t.1 c.in-Some-waiting_in.ensures
    c.loop-line.invariant.tells

pub loop-line-preserved : goal.loop-line-preserved
loop-line-preserved c =
    let t = YieldsList-turn (YieldsList-from_lines c.args.status.now (search rules))
    c.loop-line.yielded _ c.loop-line.yielded_by _ _ _ c.in-Some.is c.next.ensures.steps in
    record {
      can = search rules;
      ends = search rules;
      tells = told_later c.args.status.now (length c.loop-line.yielded) _ c.in-Some.line.now _ t.0
          t.1 c.in_default.ensures (length_push c.loop-line.yielded _)
          c.loop-line.invariant.tells;
    }

pub returns : goal.returns
returns c =
    let t = YieldsList-end (YieldsList-from_lines c.args.status.now (search rules))
    c.loop-line.yielded _ c.loop-line.yielded_by _ _ c.in-None.is c.next.ensures.steps in
    told_nowhere c.args.status.now (length c.loop-line.yielded) _ t.1 c.loop-line.invariant.tells
