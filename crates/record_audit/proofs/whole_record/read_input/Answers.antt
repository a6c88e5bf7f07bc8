use Rattle.std.proofs.Common.{◌<◌, ◌≤◌, arith, length, rules, take}
use Rattle.std.proofs.lemmas.Grind.{common_steps}
use Rattle.record_audit.proofs.Whole.{more_read, stopped_input}
use Rattle.record_audit.proofs.whole_record.read_input.Goals as goal

pub returns-in-Err-read-clause-stops : goal.returns-in-Err-read-clause-stops
returns-in-Err-read-clause-stops g c =
    stopped_input c.args.input.now.left c.loop.input.left c.read.new.self.left c.loop.counter
    c.loop.audit (take c.in-Ok.count c.read.new.buf) c.in-Err-read.fault c.loop.invariant.read
    c.in-Ok.ensures.bytes.0 c.in-Err-read.ensures.stops

pub loop-preserved : goal.loop-preserved
loop-preserved g c =
    let some : 0 < length (take c.in-Ok.count c.read.new.buf) = grind (arith, common_steps) in
    let most : length (take c.in-Ok.count c.read.new.buf) ≤ 4096 = grind (arith, common_steps) in
    record {
      read = more_read c.args.input.now.left c.loop.input.left c.read.new.self.left
          c.loop.counter c.loop.audit c.read-in-Ok.new.self (take c.in-Ok.count c.read.new.buf)
          c.loop.invariant.read c.in-Ok.ensures.bytes.0 c.in-Ok-read.ensures.follows
          c.in-Ok-read.ensures.few some most c.in-Ok-read.ensures.lines;
      sound = λ some. search rules;
    }
