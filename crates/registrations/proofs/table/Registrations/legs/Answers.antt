use Rattle.std.proofs.Common.{◌∙◌, refl, sym, length, subst, Option}
use Rattle.std.proofs.lemmas.Option.{slice_get_read}
use Rattle.std.specs.Option.{IsSomeAnd}
use Rattle.registrations.specs.declared.registration.Registration.{Registration}
use Rattle.registrations.proofs.Stored.{is_there, legs_at, not_counted, registered, row_at}
use Rattle.registrations.proofs.Tables.{legs_reach, legs_within}
use Rattle.registrations.proofs.table.Registrations.legs.Goals as goal

pub returns-in_err-i-clause-legs : goal.returns-in_err-i-clause-legs
returns-in_err-i-clause-legs c =
    let i = c.self.inside in
    c.from_residual.ensures
    ∙ sym (not_counted i.rows i.by_identifier i.by_address i.deadlines i.legs i.ends i.times i.most
    c.self.invariant.stored _ c.self.view_is c.args.id.now (sym c.in_err-i.ensures.place))

pub index-requires : goal.index-requires
index-requires c =
    let i = c.self.inside in
    legs_within i.rows i.by_identifier i.by_address i.deadlines i.legs i.ends i.times i.most
    c.self.invariant c.in_ok-i.i _ c.in_ok-i.ensures.entry

pub returns-clause-legs : goal.returns-clause-legs
returns-clause-legs c =
    let i = c.self.inside in
    let within = legs_reach i.rows i.by_identifier i.by_address i.deadlines i.legs i.ends i.times
    i.most c.self.invariant c.in_ok-i.i _ c.in_ok-i.ensures.entry in
    sym (slice_get_read i.legs.items (length i.legs.items) c.in_ok-i.i c.index.result.now refl
    within c.index.ensures)
    ∙ sym (legs_at i.rows i.by_identifier i.by_address i.deadlines i.legs i.ends i.times i.most
    c.self.invariant.stored _ c.self.view_is c.self.invariant.places.counted c.args.id.now
    c.in_ok-i._place c.in_ok-i.i (sym c.in_ok-i.ensures.place) c.in_ok-i.ensures.entry)

pub returns-clause-live : goal.returns-clause-live
returns-clause-live c some =
    let i = c.self.inside in
    let named = sym c.in_ok-i.ensures.place in
    let row = row_at i.rows i.by_identifier i.by_address i.most c.self.invariant.stored
    c.args.id.now c.in_ok-i._place named in
    is_there _ (λ r. Unit {0}) (subst (λ (w : Option Registration). IsSomeAnd w (λ r. Unit {0}))
    (sym (registered i.rows i.by_identifier i.by_address i.deadlines i.legs i.ends i.times i.most
    c.self.invariant.stored _ c.self.view_is c.args.id.now c.in_ok-i._place named row.0 row.1).1)
    tt)
