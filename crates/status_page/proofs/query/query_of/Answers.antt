use Rattle.std.proofs.Common.{◌≡◌, ◌∙◌, sym, ap, None, Some, option_and_then}
use Rattle.value_texts.specs.Parts.{front_part, rest_part}
use Rattle.status_page.specs.Queries.{parts_of, with_part, with_parts}
use Rattle.status_page.proofs.Parted.{first_part_first}
use Rattle.status_page.proofs.query.query_of.Goals as goal

pub returns-in-None : goal.returns-in-None
returns-in-None c =
    let found : with_part c.args.table c.loop-rest.query (front_part 38 c.loop-rest.rest.now) ≡ None =
    ap (with_part c.args.table c.loop-rest.query) (sym c.parted.ensures.front)
    ∙ (sym c.in_ok-changed.ensures ∙ c.in-None.is) in
    sym (sym c.loop-rest.invariant
    ∙ (first_part_first c.args.table c.loop-rest.query 38 c.loop-rest.rest.now
    ∙ ap (option_and_then (λ changed. with_parts c.args.table changed (parts_of 38 (rest_part 38 c.loop-rest.rest.now)))) found))

pub loop-rest-preserved : goal.loop-rest-preserved
loop-rest-preserved c =
    let found : with_part c.args.table c.loop-rest.query (front_part 38 c.loop-rest.rest.now) ≡ Some c.in-Some.changed =
    ap (with_part c.args.table c.loop-rest.query) (sym c.parted.ensures.front)
    ∙ (sym c.in_ok-changed.ensures ∙ c.in-Some.is) in
    ap (λ text. with_parts c.args.table c.in-Some.changed (parts_of 38 text)) c.parted.ensures.rest
    ∙ (sym (first_part_first c.args.table c.loop-rest.query 38 c.loop-rest.rest.now
    ∙ ap (option_and_then (λ changed. with_parts c.args.table changed (parts_of 38 (rest_part 38 c.loop-rest.rest.now)))) found)
    ∙ c.loop-rest.invariant)
