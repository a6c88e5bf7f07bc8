use Rattle.std.proofs.Common.{◌≡◌, ◌+◌, take, ◌++◌, ◌∷◌, [], ap, sym, ◌∙◌, arith}
use Rattle.std.proofs.lemmas.List.{take_more}
use Rattle.aliases.specs.Held.{without_alias, without_aliases}
use Rattle.aliases.proofs.Leaving.{without_aliases-push}
use Rattle.aliases.proofs.table.AliasTable.drop_all.Goals as goal

pub loop-alias-preserved : goal.loop-alias-preserved
loop-alias-preserved c =
    let i = c.loop-alias.alias-index in
    let alias = c.alias-item.result in
    let id = c.args.holder.now in
    let list = c.args.aliases.now in
    let more : take (i + 1) list ≡ take i list ++ alias ∷ [] = take_more list i alias
    c.loop-alias-test.true ∙ ap (λ a. take i list ++ a ∷ []) (sym c.alias-item.is) in
    record {
      rows = c.drop_one.ensures.rows
          ∙ (ap (λ h. without_alias h alias id) c.loop-alias.invariant.rows
          ∙ (sym (without_aliases-push c.args.self.now.held (take i list) alias id)
          ∙ ap (λ l. without_aliases c.args.self.now.held l id) (sym more)));
      room = omega (arith, c.drop_one.ensures.room, c.loop-alias.invariant.room);
    }
