use Rattle.std.proofs.Common.{◌≡◌, None, ap, ◌∙◌}
use Rattle.zone_lock.specs.Held.{Held}
use Rattle.zone_lock.proofs.Histories.{cut_so, inside_flagged}
use Rattle.zone_lock.proofs.handing.hand_out_locked.Goals as goal

pub invariant_of-locked : goal.invariant_of-locked
invariant_of-locked g c =
    let l = c.locked-2.inside in
    let none : l.base ≡ None = ap (λ (h : Held). h.base) c.locked-2.view_is
    ∙ c.discard_locked-entries.ensures.base in (
      inside_flagged g.D.Hall.opened
          (cut_so l.first l.carried l.base l.is_recorded l.entries.items l.zone) l.so_far
          l.opened_units _ _ _ _ c.locked.inside.is_recorded c.locked-2.invariant.0 none,
      c.locked-2.invariant.1,
    )

pub returns-clause-kept : goal.returns-clause-kept
returns-clause-kept g c = (invariant_of-locked g c).0.kept
