use Rattle.std.proofs.Common.{◌≡◌, Some, ap, sym, ◌∙◌, take_all, arith}
use Rattle.std.specs.Prelude.{slice_get}
use Rattle.std.specs.Option.{option_copied}
use Rattle.registrations.proofs.Rows.{len_numbered, next_copied}
use Rattle.registrations.proofs.table.Registrations.copies.Goals as goal

pub loop-i-preserved : goal.loop-i-preserved
loop-i-preserved c =
    let row = c.in_ok-copy.field-0 in
    let there : slice_get c.args.self.now.order c.loop-i.i ≡ Some row = sym c.nth.ensures.nth
    ∙ (ap option_copied c.unwrap.ensures ∙ sym (ap Some c.in_ok-copy.ensures)) in
    next_copied c.args.self.now.order c.loop-i.copies.items c.push.new.self.items c.loop-i.i row
    there
    c.loop-i.invariant c.in_ok-push.ensures.items

pub returns-clause-copies : goal.returns-clause-copies
returns-clause-copies c =
    c.loop-i.invariant
    ∙ take_all c.loop-i.i c.args.self.now.order (omega (
      arith,
      c.loop-i-test.false,
      c.len-i-end.ensures.len,
      len_numbered c.args.self.now c.len-i-end.ensures.numbered,
    ))
