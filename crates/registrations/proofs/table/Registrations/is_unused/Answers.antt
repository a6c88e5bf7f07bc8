use Rattle.std.proofs.Common.{sym, ◌∙◌, ap, not}
use Rattle.registrations.proofs.Unused.{unused_if, none_copied}
use Rattle.registrations.proofs.table.Registrations.is_unused.Goals as goal

pub returns-then-is_none : goal.returns-then-is_none
returns-then-is_none c =
    unused_if c.args.self.now.live c.args.taken.now c.args.id.now c.is_taken.result
    (sym c.get.ensures.found
    ∙ none_copied c.get.result (c.is_none.ensures ∙ ap not c.if-is_none.true))
    c.is_taken.ensures.taken c.is_taken.ensures.text
