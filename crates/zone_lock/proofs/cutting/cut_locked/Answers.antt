use Rattle.std.proofs.Common.{◌≡◌, [], Some, ap, sym, ◌∙◌}
use Rattle.ras_core.specs.Running.{Running}
use Rattle.zone_lock.specs.Held.{Held}
use Rattle.zone_lock.proofs.Histories.{cut_so, inside_based}
use Rattle.zone_lock.proofs.cutting.cut_locked.Goals as goal

pub invariant_of-locked : goal.invariant_of-locked
invariant_of-locked g c =
    let l = c.locked-2.inside in
    let gone = c.discard_locked-entries.ensures in
    let none : l.entries.items ≡ [] = ap (λ (h : Held). h.entries) c.locked-2.view_is
    ∙ gone.entries in
    let zone : l.zone ≡ c.locked.inside.zone =
    ap (λ (h : Held). h.zone) c.locked-2.view_is
    ∙ (gone.zone ∙ sym (ap (λ (h : Held). h.zone) c.locked.view_is)) in
    let next : c.in_ok-end.next ≡ l.zone.state =
    c.in_ok-end.ensures.both.1 ∙ sym (ap (λ (z : Running). z.state) zone) in (
      inside_based g.D.Hall.opened (cut_so l.first l.carried l.base l.is_recorded l.entries.items l.zone) l.so_far
          l.opened_units _ _ _ _ (Some c.in_ok-end.next) c.locked-2.invariant.0 none (ap Some next),
      c.locked-2.invariant.1,
    )

pub returns-clause-kept : goal.returns-clause-kept
returns-clause-kept g c = (invariant_of-locked g c).0.kept
