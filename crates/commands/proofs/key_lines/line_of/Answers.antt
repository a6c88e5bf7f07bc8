use Rattle.std.proofs.Common.{◌≡◌, ◌+◌, ◌∙◌, sym, ap, arith, rules, length, true, Some}
use Rattle.std.proofs.lemmas.Iterator.Consumers.{YieldsList-turn, YieldsList-end}
use Rattle.std.proofs.lemmas.Iterator.Consumers.{YieldsList-from_enumerate}
use Rattle.std.proofs.lemmas.Iterator.Splits.{YieldsList-from_lines}
use Rattle.std.proofs.lemmas.List.{length_push}
use Rattle.std.proofs.lemmas.List.FromFn.{length-enumerate_from}
use Rattle.std.specs.Str.Lines.{lines}
use Rattle.commands.specs.KeyLines.{is_named}
use Rattle.commands.proofs.Naming.{few_lines, finds_here, finds_behind, finds_later, finds_none}
use Rattle.commands.proofs.Naming.{placed}
use Rattle.commands.proofs.key_lines.line_of.Goals as goal
use Rattle.commands.proofs.key_lines.line_of.Goals.{then-is_named+else-left-eq0, else-is_named}

pub returns-then-left-eq0 : goal.returns-then-left-eq0
returns-then-left-eq0 c =
    let text = c.args.text.now in
    let t = YieldsList-turn
    (YieldsList-from_enumerate (YieldsList-from_lines text (search rules)) (search rules))
    c.loop-i.yielded _ c.loop-i.yielded_by _ _ _ c.in-Some.is c.next.ensures.steps in
    let at = placed (lines text) (length c.loop-i.yielded) c.in-Some.i c.in-Some.line.now t.0 t.1 in
    let named : is_named c.args.path.now c.loop-i.table.now c.trim-line.result.now ≡ true =
    sym c.is_named.ensures ∙ c.if-is_named.true in
    let number : c.saturating_add.result ≡ length c.loop-i.yielded + 1 =
    omega (arith, c.saturating_add.ensures, at.0, at.1, few_lines text) in
    ap Some number ∙ finds_here text c.args.path.now c.loop-i.table.now (length c.loop-i.yielded)
    c.loop-i.left _ c.in-Some.line.now c.trim-line.result.now at.0 at.2 c.trim-line.ensures.trim
    named c.if-left-eq0.true c.loop-i.invariant.finds

pub loop-i-preserved : goal.loop-i-preserved
loop-i-preserved c =
    let text = c.args.text.now in
    let t = YieldsList-turn
    (YieldsList-from_enumerate (YieldsList-from_lines text (search rules)) (search rules))
    c.loop-i.yielded _ c.loop-i.yielded_by _ _ _ c.in-Some.is c.next.ensures.steps in
    let at = placed (lines text) (length c.loop-i.yielded) c.in-Some.i c.in-Some.line.now t.0 t.1 in
    record {
      can = search rules;
      ends = search rules;
      table = search rules;
      finds = rw c.table_behind-table.ensures (elim c.if-is_named.branch [
        | then-is_named+else-left-eq0 w ↦ rw w.left-is (
            finds_behind text c.args.path.now c.loop-i.table.now (length c.loop-i.yielded) _
            c.loop-i.left _ c.in-Some.line.now c.trim-line.result.now at.0 at.2
            c.trim-line.ensures.trim (sym c.is_named.ensures ∙ w.if-is_named.true)
            (omega (arith, w.if-left-eq0.false)) (length_push c.loop-i.yielded _)
            c.loop-i.invariant.finds)
        | else-is_named w ↦ rw w.left-is (
            finds_later text c.args.path.now c.loop-i.table.now (length c.loop-i.yielded) _
            c.loop-i.left _ c.in-Some.line.now c.trim-line.result.now at.0 at.2
            c.trim-line.ensures.trim (sym c.is_named.ensures ∙ w.if-is_named.false)
            (length_push c.loop-i.yielded _) c.loop-i.invariant.finds)
      ]);
    }

pub returns : goal.returns
returns c =
    let text = c.args.text.now in
    let t = YieldsList-end
    (YieldsList-from_enumerate (YieldsList-from_lines text (search rules)) (search rules))
    c.loop-i.yielded _ c.loop-i.yielded_by _ _ c.in-None.is c.next.ensures.steps in
    finds_none text c.args.path.now c.loop-i.table.now (length c.loop-i.yielded) c.loop-i.left _
    (t.1 ∙ length-enumerate_from 0 (lines text)) c.loop-i.invariant.finds
