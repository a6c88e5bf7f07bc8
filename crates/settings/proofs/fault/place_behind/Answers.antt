use Rattle.std.proofs.Common.{◌∙◌, arith, refl, sym}
use Rattle.settings.proofs.Places.{next_character, next_line, same_character}
use Rattle.settings.proofs.fault.place_behind.Goals as goal
use Rattle.settings.proofs.fault.place_behind.Goals.{then-octet-eq10}
use Rattle.settings.proofs.fault.place_behind.Goals.{else-octet-eq10+then-begins_character}
use Rattle.settings.proofs.fault.place_behind.Goals.{else-octet-eq10+else-begins_character}

pub loop-octet-init : goal.loop-octet-init
loop-octet-init c = record { line = refl; column = refl; few = omega arith }

-- an octet ends the line, or begins a character, or goes on with one
pub loop-octet-preserved : goal.loop-octet-preserved
loop-octet-preserved c =
    let text = c.args.before.now in
    let so_far = c.loop-octet.invariant in
    let within = c.loop-octet-test.true in
    elim c.if-octet-eq10.branch [
      | then-octet-eq10 w ↦
          let next = next_line text c.loop-octet.octet-index within w.if-octet-eq10.true in record {
            line = omega (arith, w.line-is, so_far.line, next.line);
            column = omega (arith, w.column-is, next.column);
            few = omega (arith, w.column-is);
          }
      | else-octet-eq10+then-begins_character w ↦
          let next = next_character text c.loop-octet.octet-index within w.if-octet-eq10.false
          (sym w.begins_character.ensures ∙ w.if-begins_character.true) in record {
            line = omega (arith, w.line-is, so_far.line, next.line);
            column = omega (arith, w.column-is, so_far.column, next.column);
            few = omega (arith, w.column-is, so_far.few);
          }
      | else-octet-eq10+else-begins_character w ↦
          let next = same_character text c.loop-octet.octet-index within w.if-octet-eq10.false
          (sym w.begins_character.ensures ∙ w.if-begins_character.false) in record {
            line = omega (arith, w.line-is, so_far.line, next.line);
            column = omega (arith, w.column-is, so_far.column, next.column);
            few = omega (arith, w.column-is, so_far.few);
          }
    ]
