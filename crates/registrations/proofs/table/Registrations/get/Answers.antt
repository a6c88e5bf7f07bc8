use Rattle.std.proofs.Common.{ap, sym, ◌∙◌}
use Rattle.std.specs.Option.{option_copied}
use Rattle.registrations.proofs.Stored.{consistent, found_at, not_found}
use Rattle.registrations.proofs.table.Registrations.get.Goals as goal

pub returns-in_err-place-clause-found : goal.returns-in_err-place-clause-found
returns-in_err-place-clause-found c =
    let i = c.self.inside in
    ap option_copied c.from_residual.ensures
    ∙ not_found i.rows i.by_identifier i.by_address i.deadlines i.legs i.ends i.times i.most
    c.self.invariant.stored _
    c.self.view_is
    c.args.id.now (sym c.in_err-place.ensures.value)

pub returns-in_err-place-clause-sound : goal.returns-in_err-place-clause-sound
returns-in_err-place-clause-sound c =
    let i = c.self.inside in
    consistent i.rows i.by_identifier i.by_address i.deadlines i.legs i.ends i.times i.most
    c.self.invariant.stored _
    c.self.view_is

pub returns-clause-found : goal.returns-clause-found
returns-clause-found c =
    let i = c.self.inside in
    c.get-2.ensures
    ∙ found_at i.rows i.by_identifier i.by_address i.deadlines i.legs i.ends i.times i.most
    c.self.invariant.stored _
    c.self.view_is
    c.args.id.now c.in_ok-place.place.now (sym c.in_ok-place.ensures.value)

pub returns-clause-sound : goal.returns-clause-sound
returns-clause-sound c =
    let i = c.self.inside in
    consistent i.rows i.by_identifier i.by_address i.deadlines i.legs i.ends i.times i.most
    c.self.invariant.stored _
    c.self.view_is
