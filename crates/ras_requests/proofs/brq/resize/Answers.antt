use Rattle.std.proofs.Common.{◌<◌, ◌-◌, ◌∙◌, ap, min, arith}
use Rattle.ras_requests.proofs.Resizing.{RequestsUnits-resizing}
use Rattle.ras_requests.proofs.brq.resize.Goals as goal

pub returns : goal.returns
returns c =
    let z = c.args.tables.now in
    let sound = c.units_left-left.ensures.sound in
    let more : c.args.call.now.units < c.wanted-wanted.result =
    omega (arith, c.if-wanted-call.false) in
    let some : 0 < c.units_left-left.result = omega (arith, c.if-left-eq0.false) in
    record {
      plans = RequestsUnits-resizing z c.args.q.now c.args.call.now c.wanted-wanted.result
          c.units_left-left.result c.min.result c.saturating_sub.result
          c.requires.call (sound.call_pools c.args.q.now.call c.args.call.now c.requires.call)
          sound.limit c.wanted-wanted.ensures more c.units_left-left.ensures.left some
          (c.min.ensures ∙ ap (λ x. min x c.units_left-left.result) c.from.ensures)
          (c.saturating_sub.ensures ∙ ap (λ x. x - c.args.call.now.units) c.least_units.ensures);
    }
