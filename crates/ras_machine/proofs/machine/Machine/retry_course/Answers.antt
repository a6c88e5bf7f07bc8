use Rattle.std.proofs.Common.{subst, sym}
use Rattle.zone_tables.proofs.Answered.{if_ok_with}
use Rattle.ras_machine.specs.Courses.{CallsFor, IsWaitingRequest}
use Rattle.ras_machine.proofs.Retrying.{plan_there}
use Rattle.ras_machine.proofs.machine.Machine.retry_course.Goals as goal

pub serving-requires-clause-served : goal.serving-requires-clause-served
serving-requires-clause-served c =
    (subst (IsWaitingRequest c.args.self.now c.args.now c.args.born) c.in-Some.is
    (c.in_ok-job.ensures c.args.now)).served

pub serving-requires-clause-placed : goal.serving-requires-clause-placed
serving-requires-clause-placed c =
    (subst (IsWaitingRequest c.args.self.now c.args.now c.args.born) c.in-Some.is
    (c.in_ok-job.ensures c.args.now)).placed

pub returns-in-Some : goal.returns-in-Some
returns-in-Some c =
    let s = c.args.self.now in
    let again = subst (IsWaitingRequest s c.args.now c.args.born) c.in-Some.is
    (c.in_ok-job.ensures c.args.now) in
    let there = plan_there s.tables c.args.now c.in-Some.request again.served in
    if_ok_with _ _ c.serving.result c.serving.ensures
    (λ called calls. subst (λ k. CallsFor s c.args.now k called)
    (sym (again.course there.0 there.1)) (calls there.0 there.1))

pub returns-in-None : goal.returns-in-None
returns-in-None c = record {
  is = sym (subst (IsWaitingRequest c.args.self.now c.args.now c.args.born) c.in-None.is
      (c.in_ok-job.ensures c.args.now));
  stands = tt;
}
