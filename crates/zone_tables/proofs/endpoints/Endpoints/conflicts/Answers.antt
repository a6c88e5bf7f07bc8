use Rattle.std.proofs.Common.{◌≡◌, ◌∙◌, ap, subst, List}
use Rattle.std.specs.Prelude.{IfOk}
use Rattle.ras_module.specs.declared.alias.Alias.{Alias}
use Rattle.registrations.specs.Agreement.{registered_elsewhere}
use Rattle.registrations.proofs.Agreement.{conflicts_are}
use Rattle.zone_tables.proofs.endpoints.Endpoints.conflicts.Goals as goal

pub returns : goal.returns
returns c =
    let i = c.self.inside in
    subst (λ (held : List Alias). IfOk c.conflicts.result (λ list. list ≡ held))
    (conflicts_are i.registrations.live i.aliases.held c.self.invariant.agree
    c.args.address c.args.aliases.now
    ∙ ap (λ t. registered_elsewhere t.roll.live c.args.address c.args.aliases.now) c.self.view_is)
    c.conflicts.ensures
