use Rattle.std.proofs.Common.{Some, ap, ◌∙◌}
use Rattle.std.specs.Option.{option_copied, option_map}
use Rattle.aliases.specs.Held.{Holding}
use Rattle.aliases.proofs.StoredAliases.{held_get}
use Rattle.aliases.proofs.table.AliasTable.holder.Goals as goal

pub returns-in_err-row : goal.returns-in_err-row
returns-in_err-row c =
    ap option_copied c.from_residual.ensures
    ∙ ap (option_map (λ (h : Holding). h.holder))
    (c.in_err-row.ensures.value
    ∙ held_get c.self.inside.rows _ _ c.args.alias.now c.self.view_is)

pub returns : goal.returns
returns c =
    ap (λ (h : Holding). Some h.holder) c.row.view_is
    ∙ ap (option_map (λ (h : Holding). h.holder))
    (c.in_ok-row.ensures.value
    ∙ held_get c.self.inside.rows _ _ c.args.alias.now c.self.view_is)
