use Rattle.registrations.proofs.Stored.{IsSound-stored}
use Rattle.registrations.proofs.Tables.{IsTable-empty}
use Rattle.registrations.proofs.table.Registrations.with_times.Goals as goal

pub invariant_of-result : goal.invariant_of-result
invariant_of-result c =
    IsTable-empty c.new.result c.new-2.result c.new-3.result c.new-4.result c.new-5.result
    c.new-6.result c.args.times c.args.most c.new.ensures.empty c.new-2.ensures.empty
    c.new-3.ensures.empty c.new-4.ensures.moments c.new-5.ensures.items c.new-6.ensures.moments
    c.requires

pub returns-clause-sound : goal.returns-clause-sound
returns-clause-sound c =
    IsSound-stored c.new.result c.new-2.result c.new-3.result c.args.most
    (invariant_of-result c).stored c.new-4.result c.new-5.result c.new-6.result c.args.times 1
