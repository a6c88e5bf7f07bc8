use Rattle.std.proofs.Common.{subst, sym, ℕ, Some, None, Option}
use Rattle.std.specs.FinMap as map
use Rattle.std.specs.FinMap.{nat_cmp-IsAntisymmetric}
use Rattle.std.specs.Cmp.{nat_cmp_total}
use Rattle.keyed.specs.Maps.{Changed}
use Rattle.keyed.proofs.Maps.{Changed-insert, Changed-remove}
use Rattle.deadlines.specs.Deadlines.{Moments}
use Rattle.registrations.proofs.silence.write_end.Goals as goal

pub returns-in-Some-clause-moments : goal.returns-in-Some-clause-moments
returns-in-Some-clause-moments c =
    let old = c.args.ends.now.moments in
    let place = c.args.place in
    subst (λ (w : Option ℕ). Changed (map.get old) (map.get c.set.new.self.moments) place w)
    (sym c.in-Some.is)
    (subst (λ (m : Moments). Changed (map.get old) (map.get m) place (Some c.in-Some.moment))
    (sym c.set.ensures.moments)
    (Changed-insert nat_cmp_total nat_cmp-IsAntisymmetric old place c.in-Some.moment))

pub returns-in-None-clause-moments : goal.returns-in-None-clause-moments
returns-in-None-clause-moments c =
    let old = c.args.ends.now.moments in
    let place = c.args.place in
    subst (λ (w : Option ℕ). Changed (map.get old) (map.get c.clear.new.self.moments) place w)
    (sym c.in-None.is)
    (subst (λ (m : Moments). Changed (map.get old) (map.get m) place None)
    (sym c.clear.ensures.moments)
    (Changed-remove nat_cmp_total nat_cmp-IsAntisymmetric old place))
