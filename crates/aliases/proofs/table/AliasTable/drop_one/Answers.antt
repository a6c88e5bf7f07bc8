use Rattle.std.proofs.Common.{arith, ap, sym, ◌∙◌, cond}
use Rattle.std.specs.FinMap as map
use Rattle.aliases.proofs.StoredAliases.{AreApart-stored, held_remove}
use Rattle.aliases.proofs.table.AliasTable.drop_one.Goals as goal

pub invariant_of-self : goal.invariant_of-self
invariant_of-self c = AreApart-stored c.swap_remove.new.self c.swap_remove.ensures.unique

pub returns-then-is_held_by : goal.returns-then-is_held_by
returns-then-is_held_by c =
    let held = c.args.self.now.held in
    let alias = c.args.alias.now in
    record {
      rows = held_remove c.self.inside.rows c.swap_remove.new.self alias
          c.swap_remove.ensures.updates
          ∙ (ap (λ t. map.remove t.held alias) c.self.view_is
          ∙ sym (ap (λ b. cond b (map.remove held alias) held)
          (sym c.is_held_by.ensures ∙ c.if-is_held_by.true)));
      room = omega (arith, c.swap_remove.ensures.room.0, ap (λ t. t.room) c.self.view_is);
    }
