use Rattle.std.proofs.Common.{◌≡◌, Some, refl, ap, sym, ◌∙◌, arith}
use Rattle.std.specs.Prelude.{slice_get}
use Rattle.std.specs.Option.{option_copied}
use Rattle.std.specs.FinMap as map
use Rattle.registrations.specs.declared.registration.Registration.{Registration}
use Rattle.registrations.proofs.Order.{order_at, order_none}
use Rattle.registrations.proofs.Stored.{leads, len_stored, live_map, copied_is, copied_some}
use Rattle.registrations.proofs.table.Registrations.nth.Goals as goal

pub returns-in_err-_identifier-clause-nth : goal.returns-in_err-_identifier-clause-nth
returns-in_err-_identifier-clause-nth c =
    let i = c.self.inside in
    let none = order_none i.rows i.by_identifier.entries
    (leads i.rows i.by_identifier i.by_address i.most c.self.invariant.stored) c.args.i
    (sym c.in_err-_identifier.ensures.entry) in
    ap option_copied c.from_residual.ensures
    ∙ (sym none ∙ ap (λ t. slice_get t.order c.args.i) c.self.view_is)

pub returns-in_err-_identifier-clause-some : goal.returns-in_err-_identifier-clause-some
returns-in_err-_identifier-clause-some c =
    let i = c.self.inside in (
      λ some. absurd (cc (rw c.from_residual.ensures at some)),
      λ below. absurd (cc (c.in_err-_identifier.ensures.found.1 (omega (
        arith,
        below,
        len_stored i.rows i.by_identifier i.by_address i.most c.self.invariant.stored,
        ap (λ t. map.len t.live) c.self.view_is,
      )))),
    )

pub returns-clause-nth : goal.returns-clause-nth
returns-clause-nth c =
    let i = c.self.inside in
    let at = order_at i.rows i.by_identifier.entries
    (leads i.rows i.by_identifier i.by_address i.most c.self.invariant.stored) c.args.i
    (c.in_ok-_identifier._identifier.now, c.in_ok-_identifier.place.now)
    (sym c.in_ok-_identifier.ensures.entry) in
    c.get.ensures ∙ (sym at ∙ ap (λ t. slice_get t.order c.args.i) c.self.view_is)

pub returns-clause-some : goal.returns-clause-some
returns-clause-some c =
    let i = c.self.inside in
    let row = leads i.rows i.by_identifier i.by_address i.most c.self.invariant.stored c.args.i
    (c.in_ok-_identifier._identifier.now, c.in_ok-_identifier.place.now)
    (sym c.in_ok-_identifier.ensures.entry) in (
      λ some. omega (
        arith,
        c.in_ok-_identifier.ensures.found.0 refl,
        len_stored i.rows i.by_identifier i.by_address i.most c.self.invariant.stored,
        ap (λ t. map.len t.live) c.self.view_is,
      ),
      λ below. copied_some c.get.result row.0 (c.get.ensures ∙ row.1),
    )

pub returns-clause-live : goal.returns-clause-live
returns-clause-live c =
    let i = c.self.inside in
    let row = leads i.rows i.by_identifier i.by_address i.most c.self.invariant.stored c.args.i
    (c.in_ok-_identifier._identifier.now, c.in_ok-_identifier.place.now)
    (sym c.in_ok-_identifier.ensures.entry) in
    copied_is c.get.result row.0
    (λ (r : Registration). map.get c.args.self.now.live r.identifier ≡ Some r)
    (c.get.ensures ∙ row.1)
    ((live_map i.rows i.by_identifier i.by_address i.deadlines i.legs i.ends i.times i.most
    c.self.invariant.stored _
    c.self.view_is).has
    c.in_ok-_identifier.place.now row.0 row.1)
