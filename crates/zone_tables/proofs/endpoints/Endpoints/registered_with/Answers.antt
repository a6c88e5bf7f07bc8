use Rattle.std.proofs.Common.{◌∙◌, sym, ap}
use Rattle.std.specs.Option.{option_copied}
use Rattle.zone_tables.specs.Translation.{registered_with}
use Rattle.zone_tables.specs.Parts.{Roster}
use Rattle.zone_tables.proofs.Translating.{holder_registered, none_registered}
use Rattle.zone_tables.proofs.endpoints.Endpoints.registered_with.Goals as goal

pub returns-in_err-holder : goal.returns-in_err-holder
returns-in_err-holder c =
    let i = c.self.inside in
    let none = sym c.holder.ensures ∙ ap option_copied (c.in_err-holder.was) in
    ap option_copied c.from_residual.ensures
    ∙ (sym
    (none_registered i.registrations.live i.aliases.held c.self.invariant.agree
    c.args.alias.now none)
    ∙ ap (λ (e : Roster). registered_with e.roll.live c.args.alias.now) c.self.view_is)

pub returns : goal.returns
returns c =
    let i = c.self.inside in
    let some = sym c.holder.ensures ∙ ap option_copied (c.in_ok-holder.was) in
    c.get.ensures.found
    ∙ (sym (holder_registered i.registrations.live i.aliases.held c.self.invariant.agree
    c.args.alias.now
    c.in_ok-holder.field-0.now some)
    ∙ ap (λ (e : Roster). registered_with e.roll.live c.args.alias.now) c.self.view_is)
