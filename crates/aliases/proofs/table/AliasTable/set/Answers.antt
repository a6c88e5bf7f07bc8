use Rattle.std.proofs.Common.{ap, sym, ◌∙◌, refl}
use Rattle.std.specs.Option.{option_map}
use Rattle.std.specs.FinMap as map
use Rattle.keyed.proofs.Decide.{some_none}
use Rattle.aliases.specs.Held.{HeldAliases, Holding, holding_by, with_alias}
use Rattle.aliases.proofs.StoredAliases.{AreApart-stored, held_insert, get_alias}
use Rattle.aliases.proofs.table.AliasTable.set.Goals as goal
use Rattle.aliases.proofs.table.AliasTable.set.Goals.{in-Ok, in-Err}

pub invariant_of-self : goal.invariant_of-self
invariant_of-self c = AreApart-stored c.insert.new.self c.insert.ensures.unique

pub returns-clause-ok : goal.returns-clause-ok
returns-clause-ok c =
    elim c.match-insert.branch [
      | in-Ok w ↦ rw w.result-is
          (held_insert c.self.inside.rows c.insert.new.self c.args.alias
          (holding_by c.args.holder c.args.address) w.in-Ok.ensures.updates
          ∙ ap (λ (t : HeldAliases).
          with_alias t.held c.args.alias c.args.holder c.args.address) c.self.view_is)
      | in-Err w ↦ rw w.result-is tt
    ]

pub returns-clause-replaces : goal.returns-clause-replaces
returns-clause-replaces c own =
    elim c.match-insert.branch [
      | in-Ok w ↦ rw w.result-is refl
      | in-Err w ↦
          let none = ap (λ t. map.get t.held c.args.alias) (sym c.self.view_is)
          ∙ (sym (get_alias c.self.inside.rows c.args.alias)
          ∙ w.in-Err.ensures.absent) in
          some_none (sym own ∙ ap (option_map (λ (h : Holding). h.holder)) none)
    ]
