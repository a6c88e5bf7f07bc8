use Rattle.std.proofs.Common.{sym, ◌∙◌}
use Rattle.std.proofs.lemmas.Bool.Decides.{Decides-at}
use Rattle.zone_config.proofs.Deciding.{parts_decide}
use Rattle.zone_config.proofs.config.Config.is_same.Goals as goal

pub returns : goal.returns
returns c =
    let decides =
    Decides-at _ _ c.eq.ensures (parts_decide c.self.inside.parts c.other.inside.parts) in (
      λ h. sym c.self.view_is ∙ (decides.0 h ∙ c.other.view_is),
      λ e. decides.1 (c.self.view_is ∙ (e ∙ sym c.other.view_is)),
    )
