use Rattle.std.proofs.Common.{◌∙◌, sym, ap, take, arith}
use Rattle.std.proofs.lemmas.List.{take_all}
use Rattle.status_page.proofs.Entries.{popped, few_more}
use Rattle.status_page.proofs.keeping.keep.Goals as goal

pub returns-then-len-most-clause-kept : goal.returns-then-len-most-clause-kept
returns-then-len-most-clause-kept g c = (
  c.in_ok-kept.kept,
  c.in_ok-kept.ensures.ok,
  sym (take_all c.args.most c.insert.new.self.entries (omega (arith, c.if-len-most.true, c.len.ensures.len)))
      ∙ ap (take c.args.most) c.in_ok-insert.ensures.entries,
  grind (arith, c.if-len-most.true, c.len.ensures.len, c.in_ok-insert.ensures.entries),
)

pub returns-clause-kept : goal.returns-clause-kept
returns-clause-kept g c = (
  c.in_ok-kept.kept,
  c.in_ok-kept.ensures.ok,
  popped c.pop_last-last.result c.insert.new.self.entries c.pop_last-last.new.self.entries c.args.most
      c.pop_last-last.ensures.removal c.pop_last-last.ensures.variant
      (omega (arith, c.if-len-most.false, c.len.ensures.len))
      (few_more c.in_ok-insert.field-0 _ _ c.args.most c.in_ok-insert.ensures.len c.requires.few)
      ∙ ap (take c.args.most) c.in_ok-insert.ensures.entries,
  grind (arith, c.if-len-most.false, c.len.ensures.len, c.in_ok-insert.ensures.entries),
)
