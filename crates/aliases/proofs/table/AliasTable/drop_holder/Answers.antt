use Rattle.std.proofs.Common.{arith, ap, ◌∙◌}
use Rattle.aliases.specs.Held.{without_holder}
use Rattle.aliases.specs.inside.Stored.{held_of}
use Rattle.aliases.proofs.StoredAliases.{AreApart-stored, held_retained}
use Rattle.aliases.proofs.table.AliasTable.drop_holder.Goals as goal

pub invariant_of-self : goal.invariant_of-self
invariant_of-self c = AreApart-stored c.retain_others.new.rows c.retain_others.ensures.unique

pub returns : goal.returns
returns c = record {
  rows = ap held_of c.retain_others.ensures.entries
      ∙ (held_retained c.self.inside.rows.entries c.args.holder.now c.self.invariant
      ∙ ap (λ t. without_holder t.held c.args.holder.now) c.self.view_is);
  room = omega (arith, c.retain_others.ensures.room.0, ap (λ t. t.room) c.self.view_is);
}
