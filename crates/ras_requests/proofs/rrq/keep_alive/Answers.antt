use Rattle.std.proofs.Common.{◌∙◌, sym, ap, refl}
use Rattle.std.specs.FinMap as fin
use Rattle.registrations.specs.Registry.{Live}
use Rattle.ras_requests.proofs.Planned.{Renews-known}
use Rattle.ras_requests.proofs.rrq.keep_alive.Goals as goal

pub returns : goal.returns
returns c =
    let z = c.args.tables.now in
    let q = c.args.q.now in
    let r = c.in-Some-get.r.now in
    Renews-known z c.args.now q c.in-Some.id r (record {
      seq = q.seq;
      granted = c.granted.result;
      deadline = c.deadline.result;
    })
    c.registrations.ensures.sound.endpoints
    c.in-Some.is
    (ap (λ (live : Live). fin.get live c.in-Some.id) (sym c.registrations.ensures.live)
    ∙ sym c.in-Some-get.ensures.found) (sym c.if-has_moved.ensures)
    refl c.granted.ensures c.deadline.ensures
