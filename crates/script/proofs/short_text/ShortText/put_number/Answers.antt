use Rattle.std.proofs.Common.{rules, arith, length, ◌≤◌}
use Rattle.std.specs.Fmt.{decimal}
use Rattle.std.proofs.lemmas.Fmt.{length-decimal-le}
use Rattle.std.proofs.lemmas.Grind.{common_steps}
use Rattle.script.proofs.short_text.ShortText.put_number.Goals as goal

pub write_digits-self-inside-requires : goal.write_digits-self-inside-requires
write_digits-self-inside-requires c =
    let long : length (decimal c.args.number) ≤ 20 =
    length-decimal-le 20 c.args.number (omega arith) (omega arith) c.ranges.number.fits in
    (grind (arith, common_steps), search rules)

pub returns-clause-len : goal.returns-clause-len
returns-clause-len c =
    let long : length (decimal c.args.number) ≤ 20 =
    length-decimal-le 20 c.args.number (omega arith) (omega arith) c.ranges.number.fits in
    rw c.write_digits-self-inside.ensures.written (grind (arith, common_steps))
