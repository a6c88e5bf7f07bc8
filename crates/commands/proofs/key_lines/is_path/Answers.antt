use Rattle.std.proofs.Common.{sym, ◌∙◌}
use Rattle.commands.proofs.Beginnings.{other_table, other_mark, same_table}
use Rattle.commands.proofs.key_lines.is_path.Goals as goal

pub returns-in_default : goal.returns-in_default
returns-in_default c = other_table c.args.path.now c.args.table.now c.args.key.now
    (sym c.is_empty.ensures ∙ c.if-is_empty.false) (sym c.in_default.ensures)

pub returns-in-Some-behind : goal.returns-in-Some-behind
returns-in-Some-behind c = c.eq-in-Some-behind.ensures ∙
    same_table c.args.path.now c.args.table.now c.args.key.now c.in-Some.rest.now
    c.in-Some-behind.name.now (sym c.is_empty.ensures ∙ c.if-is_empty.false)
    (sym c.in-Some.ensures) (sym c.in-Some-behind.ensures)

pub returns-in-None : goal.returns-in-None
returns-in-None c = other_mark c.args.path.now c.args.table.now c.args.key.now
    c.in-Some.rest.now (sym c.is_empty.ensures ∙ c.if-is_empty.false) (sym c.in-Some.ensures)
    (sym c.in-None.ensures)
