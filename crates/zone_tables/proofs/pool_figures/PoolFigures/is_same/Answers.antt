use Rattle.std.proofs.Common.{sym, ◌∙◌}
use Rattle.std.proofs.lemmas.Bool.Decides.{Decides-at}
use Rattle.zone_tables.proofs.Deciding.{lists_decide}
use Rattle.zone_tables.proofs.pool_figures.PoolFigures.is_same.Goals as goal

pub returns : goal.returns
returns c =
    let mine = c.as_slice.result.now in
    let theirs = c.as_slice-2.result.now in
    let decides = Decides-at _ _ c.eq.ensures (lists_decide mine theirs) in
    let own = c.as_slice.ensures.value ∙ c.self.view_is in
    let own' = c.as_slice-2.ensures.value ∙ c.other.view_is in (
      λ h. sym own ∙ (decides.0 h ∙ own'),
      λ e. decides.1 (own ∙ (e ∙ sym own')),
    )
