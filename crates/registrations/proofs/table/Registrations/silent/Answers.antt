use Rattle.std.proofs.Common.{◌≡◌, ◌≤◌, ap, sym, subst, ◌∙◌, refl, arith, Some, None, ℕ, Bor}
use Rattle.std.specs.Prelude.{IfSome, Option, slice_get}
use Rattle.std.specs.Option.{IsSomeAnd, option_copied}
use Rattle.std.specs.Ordering.{nat_cmp}
use Rattle.std.specs.FinMap as map
use Rattle.keyed.proofs.Decide.{some_none}
use Rattle.registrations.specs.declared.registration.Registration.{Registration}
use Rattle.registrations.specs.Silence.{end_at}
use Rattle.registrations.proofs.Legs.{end_none, end_nth, ended_place}
use Rattle.registrations.proofs.table.Registrations.silent.Goals as goal

pub returns-in_err-end-clause-none : goal.returns-in_err-end-clause-none
returns-in_err-end-clause-none c none id ended =
    let i = c.self.inside in
    let place = ended_place i.rows i.by_identifier i.by_address i.deadlines i.legs i.ends i.times
    i.most i.next_number
    c.self.invariant _ c.self.view_is c.args.now id ended in
    some_none (sym place.2 ∙ (ap (λ m. map.get m place.0) (c.in_err-end.ensures.none.0 refl)
    ∙ map.get-empty nat_cmp place.0))

pub returns-then-end-now-clause-none : goal.returns-then-end-now-clause-none
returns-then-end-now-clause-none c none id ended =
    let i = c.self.inside in
    let place = ended_place i.rows i.by_identifier i.by_address i.deadlines i.legs i.ends i.times
    i.most i.next_number
    c.self.invariant _ c.self.view_is c.args.now id ended in
    absurd (omega (
      arith,
      c.if-end-now.true,
      c.in_ok-end.ensures.least place.0 place.1 place.2,
      place.3,
    ))

pub returns-clause-ended : goal.returns-clause-ended
returns-clause-ended c = cases c.nth.result c.nth.ensures.nth where
  cases : (w : Option (Bor Registration))
      → option_copied w ≡ slice_get c.args.self.now.order c.in_ok-end.i
      → IfSome w (λ r. IsSomeAnd (end_at c.args.self.now.times c.args.self.now.live
      c.args.self.now.legs r.now.identifier)
      (λ moment. moment ≤ c.args.now))
  cases None is = tt
  cases (Some r) is =
      let i = c.self.inside in
      let end = end_nth i.rows i.by_identifier i.by_address i.deadlines i.legs i.ends i.times i.most
      i.next_number c.self.invariant _ c.self.view_is c.in_ok-end.i r.now (sym is) in
      subst (λ (w : Option ℕ). IsSomeAnd w (λ moment. moment ≤ c.args.now))
      (sym c.in_ok-end.ensures.there ∙ end) (omega (arith, c.if-end-now.false))

pub returns-clause-none : goal.returns-clause-none
returns-clause-none c none id ended =
    let i = c.self.inside in
    let empty : slice_get c.args.self.now.order c.in_ok-end.i ≡ None =
    sym c.nth.ensures.nth ∙ ap option_copied none in
    some_none (sym c.in_ok-end.ensures.there
    ∙ end_none i.rows i.by_identifier i.by_address i.deadlines i.legs i.ends i.times i.most
    i.next_number c.self.invariant _ c.self.view_is c.in_ok-end.i empty)
