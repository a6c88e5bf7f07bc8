use Rattle.std.proofs.Common.{◌∙◌, List, ℕ, ap, subst, sym}
use Rattle.std.specs.Prelude.{IsSome, Option, []}
use Rattle.std.specs.Option.{option_copied, unwrap_or}
use Rattle.std.specs.FinMap.{get}
use Rattle.ras_requests.specs.Requests.{endpoint_of}
use Rattle.ras_machine.proofs.Renewing.{possible_renewal}
use Rattle.ras_machine.proofs.machine.Machine.renew.Goals as goal

pub complete-requires-clause-possible : goal.complete-requires-clause-possible
complete-requires-clause-possible c =
    let z = c.args.self.now.tables in
    let names = sym c.endpoint_of.ensures ∙ ap option_copied c.unwrap-endpoint.ensures in
    possible_renewal z (endpoint_of c.args.request.now) c.unwrap-endpoint.result.now names
    c.args.time c.in_ok-change.change c.in_ok-change.written
    c.in_ok-change.ensures.renewal
    (subst (λ (who : Option (List ℕ)). IsSome (get z.live (unwrap_or who []))) names
    c.requires.registered)
