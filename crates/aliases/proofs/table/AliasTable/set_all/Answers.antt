use Rattle.std.proofs.Common.{◌≡◌, ◌+◌, take, ◌++◌, ◌∷◌, [], ap, sym, subst, ◌∙◌, arith}
use Rattle.std.specs.Prelude.{Contains}
use Rattle.std.proofs.lemmas.List.{take_more}
use Rattle.aliases.specs.Held.{Held, IsHeldByAnother, with_alias, with_aliases}
use Rattle.aliases.proofs.Entering.{set_succeeds, free_with_aliases, with_aliases-push}
use Rattle.aliases.proofs.table.AliasTable.set_all.Goals as goal

pub unwrap-requires : goal.unwrap-requires
unwrap-requires c =
    let i = c.loop-alias.alias-index in
    let alias = c.alias-item.result in
    let has : Contains c.args.aliases.now alias =
    (i, c.loop-alias-test.true, sym c.alias-item.is) in
    set_succeeds c.set.result c.loop-alias.self.held alias c.args.holder c.set.ensures.duplicate.0
    (c.set.ensures.reserved (omega (arith, c.loop-alias.invariant.1, c.requires.room)))
    c.set.ensures.alias
    (λ other. free_with_aliases c.args.self.now.held
    (take i c.args.aliases.now) alias c.args.holder c.args.address (c.requires.free alias has)
    (subst (λ (h : Held). IsHeldByAnother h alias c.args.holder) c.loop-alias.invariant.0 other))

pub loop-alias-preserved : goal.loop-alias-preserved
loop-alias-preserved c =
    let i = c.loop-alias.alias-index in
    let alias = c.alias-item.result in
    let list = c.args.aliases.now in
    let more : take (i + 1) list ≡ take i list ++ alias ∷ [] = take_more list i alias
    c.loop-alias-test.true ∙ ap (λ a. take i list ++ a ∷ []) (sym c.alias-item.is) in
    let ok = rw c.unwrap.ensures at c.set.ensures.ok in
    let room = rw c.unwrap.ensures at c.set.ensures.room in
    let held =
    ok ∙ (ap (λ h. with_alias h alias c.args.holder c.args.address) c.loop-alias.invariant.0
    ∙ (sym (with_aliases-push c.args.self.now.held (take i list) alias c.args.holder c.args.address)
    ∙ ap (λ l. with_aliases c.args.self.now.held l c.args.holder c.args.address) (sym more))) in
    (held, omega (arith, room, c.loop-alias.invariant.1))
