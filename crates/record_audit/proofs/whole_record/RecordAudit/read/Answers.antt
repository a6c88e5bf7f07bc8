use Rattle.std.proofs.Common.{◌≡◌, ◌+◌, ◌++◌, ◌∷◌, List, ℕ, length, ap, arith, rules, length-append}
use Rattle.record_audit.specs.Audits.{Reading}
use Rattle.record_audit.specs.inside.{HasNoEnd, IsParted}
use Rattle.record_audit.proofs.Reaching.{reached_end, reached_line, stopped_end, stopped_line}
use Rattle.record_audit.proofs.whole_record.RecordAudit.read.Goals as goal

pub loop-front-preserved : goal.loop-front-preserved
loop-front-preserved c =
    let parts : IsParted c.loop-front.rest.now c.in-Some.front.now c.in-Some.behind.now =
    search rules in
    let whole : length c.loop-front.rest.now
    ≡ length (c.in-Some.front.now ++ 10 ∷ c.in-Some.behind.now) =
    ap (λ (octets : List ℕ). length octets) parts.whole in
    record {
      reached = reached_line c.args.self.now c.loop-front.self c.args.octets.now
          c.loop-front.rest.now c.loop-front.invariant.reached c.in-Some.front.now
          c.in-Some.behind.now parts c.read_line.new.self c.in-Ok.ensures.goes
          c.in-Ok.ensures.begun c.in-Ok.ensures.lines;
      lines = omega (
        arith,
        whole,
        length-append c.in-Some.front.now (10 ∷ c.in-Some.behind.now),
        c.in-Ok.ensures.lines,
        c.loop-front.invariant.lines,
      );
    }

pub returns-in-Err-clause-stops : goal.returns-in-Err-clause-stops
returns-in-Err-clause-stops c = λ other.
    (let parts : IsParted c.loop-front.rest.now c.in-Some.front.now c.in-Some.behind.now =
    search rules in
    let next : c.self.inside.lines + 1 ≡ c.loop-front.self.lines + 1 =
    omega (arith, ap (λ (r : Reading). r.lines) c.self.view_is, c.in-Err.ensures.same) in
    stopped_line c.args.self.now c.loop-front.self c.args.octets.now c.loop-front.rest.now
    c.loop-front.invariant.reached c.in-Some.front.now c.in-Some.behind.now parts
    (c.self.inside.lines + 1) c.in-Err.fault next (c.in-Err.ensures.stops other)
    (c.in-Err.ensures.why other))

pub returns-clause-follows : goal.returns-clause-follows
returns-clause-follows c =
    let none : HasNoEnd c.loop-front.rest.now = search rules in
    elim c.match-begin.branch [
      | goal.in-Ok-begin w ↦ rw w.result-is (reached_end c.args.self.now c.loop-front.self
          c.args.octets.now c.loop-front.rest.now c.loop-front.invariant.reached c.begin.new.self
          none w.in-Ok-begin.ensures.begun)
      | goal.in-Err-begin w ↦ rw w.result-is tt
    ]

pub returns-clause-stops : goal.returns-clause-stops
returns-clause-stops c =
    let none : HasNoEnd c.loop-front.rest.now = search rules in
    let next : c.self-2.inside.lines + 1 ≡ c.loop-front.self.lines + 1 =
    omega (arith, ap (λ (r : Reading). r.lines) c.self-2.view_is, c.begin.ensures.lines) in
    elim c.match-begin.branch [
      | goal.in-Ok-begin w ↦ rw w.result-is tt
      | goal.in-Err-begin w ↦ rw w.result-is (λ other. stopped_end c.args.self.now
          c.loop-front.self c.args.octets.now c.loop-front.rest.now
          c.loop-front.invariant.reached (c.self-2.inside.lines + 1) w.in-Err-begin.fault next none
          (w.in-Err-begin.ensures.long other).1 (w.in-Err-begin.ensures.long other).0)
    ]
