use Rattle.std.proofs.Common.{ap, ◌∙◌}
use Rattle.std.specs.Prelude.{not}
use Rattle.ras_module.specs.Addresses.{same_address}
use Rattle.aliases.specs.Held.{Holding, is_elsewhere}
use Rattle.aliases.proofs.StoredAliases.{held_get}
use Rattle.aliases.proofs.table.AliasTable.is_elsewhere.Goals as goal

pub returns-in-None : goal.returns-in-None
returns-in-None c =
    ap (is_elsewhere c.args.address)
    (c.in-None.ensures.value
    ∙ held_get c.self.inside.rows _ _ c.args.alias.now c.self.view_is)

pub returns-in-Some : goal.returns-in-Some
returns-in-Some c =
    c.ne.ensures
    ∙ ap (λ (h : Holding). not (same_address h.address c.args.address)) c.row.view_is
    ∙ ap (is_elsewhere c.args.address)
    (c.in-Some.ensures.value
    ∙ held_get c.self.inside.rows _ _ c.args.alias.now c.self.view_is)
