use Rattle.std.proofs.Common.{◌≡◌, ◌∙◌, None, Some, ap, sym}
use Rattle.std.specs.FinMap as fin
use Rattle.registrations.specs.Registry.{Live, at_address}
use Rattle.ras_requests.proofs.Planned.{leaving_at, some_lent}
use Rattle.ras_requests.proofs.urq.leaving.Goals as goal

pub returns-in-Some-clause-at : goal.returns-in-Some-clause-at
returns-in-Some-clause-at c =
    let z = c.args.tables.now in
    let here = sym c.registrations.ensures.live in
    some_lent c.get.result _ (λ r. at_address z.live r.call_signal ≡ Some r) c.get.ensures.found
    (λ r is. leaving_at z c.registrations.ensures.sound.endpoints (Some c.in-Some.id) None r
    (ap (λ (live : Live). fin.get live c.in-Some.id) here ∙ is))

pub returns-in_ok-q-in-None-clause-at : goal.returns-in_ok-q-in-None-clause-at
returns-in_ok-q-in-None-clause-at c =
    let z = c.args.tables.now in
    let address = c.in_ok-q-in-None.field-0 in
    let here = sym c.registrations-in-None.ensures.live in
    some_lent c.by_address.result _ (λ r. at_address z.live r.call_signal ≡ Some r)
    c.by_address.ensures.found
    (λ r is. leaving_at z c.registrations-in-None.ensures.sound.endpoints None (Some address) r
    (ap (λ (live : Live). at_address live address) here ∙ is))
