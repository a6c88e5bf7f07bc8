use Rattle.std.proofs.Common.{◌<◌, ◌+◌, ◌∙◌, length, arith, ap, sym, List, ℕ}
use Rattle.std.proofs.lemmas.Bool.Decides.{nat_tests}
use Rattle.std.specs.String.{string_bytes}
use Rattle.value_texts.specs.Parts.{front_part}
use Rattle.value_texts.proofs.Parting.{rest_shorter}
use Rattle.explaining.specs.Lines.{lines_of, with_line, with_lines}
use Rattle.explaining.proofs.Parting.{lines_more}
use Rattle.explaining.proofs.lines.explained.Goals as goal

pub loop-rest-preserved : goal.loop-rest-preserved
loop-rest-preserved c =
    let number = c.loop-rest.number + 1 in
    let some : 0 < length c.loop-rest.rest.now = grind (arith, nat_tests) in
    let shorter : length c.parted.result.1.now < length c.loop-rest.rest.now =
    rw c.parted.ensures.rest (rest_shorter 10 c.loop-rest.rest.now some) in
    record {
      few = omega (arith, c.loop-rest.invariant.few, shorter);
      told = ap (λ (text : List ℕ). with_lines text (number + 1) (lines_of c.parted.result.1.now))
          c.in_ok-push_line.ensures
          ∙ ap (λ (line : List ℕ). with_lines (with_line (string_bytes c.loop-rest.out) number line)
          (number + 1) (lines_of c.parted.result.1.now)) c.parted.ensures.front
          ∙ ap (λ (behind : List ℕ). with_lines (with_line (string_bytes c.loop-rest.out) number
          (front_part 10 c.loop-rest.rest.now)) (number + 1) (lines_of behind)) c.parted.ensures.rest
          ∙ sym (lines_more (string_bytes c.loop-rest.out) number c.loop-rest.rest.now)
          ∙ c.loop-rest.invariant.told;
    }
