use Rattle.std.proofs.Common.{rules, map, IsTrue}
use Rattle.script.specs.Deeds.{deeds_of}
use Rattle.script.proofs.Running.{IsRunOf-kept, flushed_after}
use Rattle.script.proofs.run.run_zone.Goals as goal

pub returns-clause-answer : goal.returns-clause-answer
returns-clause-answer g c =
    IsRunOf-kept c.args.zone.now
    (deeds_of c.args.events.items (map g.P.Pool.account c.args.fresh.items))
    c.args.out.now.contents c.run_events-ran.new.out.contents c.flush.new.self.contents c.run_events-ran.result
    c.flush.ensures.bytes c.run_events-ran.ensures.answer

pub returns-clause-flushed : goal.returns-clause-flushed
returns-clause-flushed g c =
    let flushed : IsTrue c.flush.new.self.flushed =
    search (rules, c.flush.ensures.flushed, c.is_err.ensures.value, c.if-is_err.false) in
    flushed_after c.run_events-ran.result c.flush.new.self.flushed flushed
