use Rattle.std.proofs.Common.{◌∙◌, ℕ, List, ap, sym, codes, subst}
use Rattle.std.specs.Fmt.{decimal}
use Rattle.std.specs.Prelude.{OnOk}
use Rattle.std.specs.Io.KnownBytes.{Appends}
use Rattle.pools.specs.declared.pool_spec.PoolSpec.TheVariants.{Step, Paced}
use Rattle.settings.specs.Listing.{kind_lines}
use Rattle.settings.proofs.Listed.{two_flat}
use Rattle.settings.proofs.listing.write_kind.Goals as goal

pub returns-in-Step : goal.returns-in-Step
returns-in-Step g c =
    let start = g.W.Write.contents c.args.out.now in
    let end = g.W.Write.contents c.writeln-in-Step.new.self in
    let limit = c.in-Step.limit in
    subst (λ (t : List ℕ). OnOk c.writeln-in-Step.result (Appends start end t))
    (two_flat (codes "kind = \"step\"\nlimit = ") (decimal limit) (codes "\nstep = ") (decimal c.get-step.result) (codes "\n")
    ∙ ap (λ (n : ℕ). kind_lines (Step limit n)) c.get-step.ensures.same ∙ ap kind_lines (sym c.in-Step.is))
    c.writeln-in-Step.ensures.bytes

pub returns-in-Paced : goal.returns-in-Paced
returns-in-Paced g c =
    let start = g.W.Write.contents c.args.out.now in
    let end = g.W.Write.contents c.writeln-in-Paced.new.self in
    let limit = c.in-Paced.limit in
    subst (λ (t : List ℕ). OnOk c.writeln-in-Paced.result (Appends start end t))
    (two_flat (codes "kind = \"paced\"\nlimit = ") (decimal limit) (codes "\nburst = ") (decimal c.get-burst.result) (codes "\n")
    ∙ ap (λ (n : ℕ). kind_lines (Paced limit n)) c.get-burst.ensures.same ∙ ap kind_lines (sym c.in-Paced.is))
    c.writeln-in-Paced.ensures.bytes
