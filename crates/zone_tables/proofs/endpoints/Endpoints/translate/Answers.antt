use Rattle.std.proofs.Common.{◌∙◌, sym, ap, ◌+◌, drop}
use Rattle.std.specs.Option.{option_copied}
use Rattle.std.proofs.Math.ListN.{drop_of_length-le}
use Rattle.zone_tables.specs.Translation.{address_or, translation}
use Rattle.zone_tables.proofs.Translating.{translation-next}
use Rattle.zone_tables.proofs.endpoints.Endpoints.translate.Goals as goal

pub returns-in-Some : goal.returns-in-Some
returns-in-Some c =
    let live = c.args.self.now.roll.live in
    let aliases = c.args.aliases.now in
    let i = c.loop-alias.alias-index in
    let some = sym c.registered_with.ensures ∙ ap option_copied c.in-Some.is in
    sym (c.loop-alias.invariant
    ∙ (translation-next live aliases c.args.other i c.alias-item.result
    c.loop-alias-test.true c.alias-item.is
    ∙ ap (address_or (translation live (drop (i + 1) aliases) c.args.other)) some))

pub loop-alias-preserved : goal.loop-alias-preserved
loop-alias-preserved c =
    let live = c.args.self.now.roll.live in
    let aliases = c.args.aliases.now in
    let i = c.loop-alias.alias-index in
    let none = sym c.registered_with.ensures ∙ ap option_copied c.in_default.is in
    c.loop-alias.invariant
    ∙ (translation-next live aliases c.args.other i c.alias-item.result
    c.loop-alias-test.true c.alias-item.is
    ∙ ap (address_or (translation live (drop (i + 1) aliases) c.args.other)) none)

pub returns : goal.returns
returns c =
    sym (c.loop-alias.invariant
    ∙ ap (λ xs. translation c.args.self.now.roll.live xs c.args.other)
    (drop_of_length-le c.args.aliases.now c.loop-alias-test.false))
