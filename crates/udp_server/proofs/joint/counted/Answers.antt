use Rattle.std.proofs.Common.{arith}
use Rattle.udp_server.proofs.Counts.{few_counted}
use Rattle.udp_server.proofs.joint.counted.Goals as goal

pub overflow_add-result : goal.overflow_add-result
overflow_add-result g c =
    let few = few_counted c.args.finished.now _ _ _ c.requires.first c.requires.few
    c.carried-carried.ensures c.entries.ensures.entries c.totals_of-since.ensures.totals in
    omega (arith, few.0)

pub overflow_add-result-2 : goal.overflow_add-result-2
overflow_add-result-2 g c =
    let few = few_counted c.args.finished.now _ _ _ c.requires.first c.requires.few
    c.carried-carried.ensures c.entries.ensures.entries c.totals_of-since.ensures.totals in
    omega (arith, few.1)

pub overflow_add-result-3 : goal.overflow_add-result-3
overflow_add-result-3 g c =
    let few = few_counted c.args.finished.now _ _ _ c.requires.first c.requires.few
    c.carried-carried.ensures c.entries.ensures.entries c.totals_of-since.ensures.totals in
    omega (arith, few.2)
