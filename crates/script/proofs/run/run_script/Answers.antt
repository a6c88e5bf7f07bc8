use Rattle.std.proofs.Common.{rules, ◌≡◌, ◌∙◌, length, map, true}
use Rattle.std.proofs.lemmas.List.{length-map}
use Rattle.script.specs.Events.{fresh_pools}
use Rattle.script.specs.Runs.{are_boxes_of}
use Rattle.script.proofs.Starting.{are_boxes}
use Rattle.script.proofs.run.run_script.Goals as goal

pub returns-clause-wrong : goal.returns-clause-wrong
returns-clause-wrong g c =
    let pools = map g.P.Pool.account c.args.pools.items in
    let fresh = map g.P.Pool.account c.args.fresh.items in
    let named : length c.args.fresh.items ≡ length (fresh_pools c.args.script.events) =
    search rules in
    let right : are_boxes_of c.args.script pools fresh ≡ true =
    are_boxes c.args.script pools fresh c.in-Ok.ensures.pools
    (length-map c.args.fresh.items g.P.Pool.account ∙ named) in
    (λ e. absurd (c.run_zone.ensures.pools e), λ wrong. absurd (cc (right, wrong)))
