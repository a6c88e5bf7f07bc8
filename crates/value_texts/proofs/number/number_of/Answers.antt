use Rattle.std.proofs.Common.{◌≡◌, ◌<◌, ◌-◌, true, length, get_or, take, arith, rules, ◌+◌, ◌*◌}
use Rattle.std.specs.Char.{is_ascii_digit}
use Rattle.std.specs.Str.Parse.{digits_value}
use Rattle.value_texts.proofs.Numbers.{too_large, digit_more, digits_more}
use Rattle.value_texts.proofs.number.number_of.Goals as goal
use Rattle.value_texts.proofs.number.number_of.Goals.{After-from-digit}

value_more : (c : After-from-digit)
    → c.loop-c.number * 10 + c.from-digit.result
    ≡ digits_value 10 (take (c.loop-c.c-index + 1) c.args.word.now)
value_more c =
    let i = c.loop-c.c-index in
    let below : i < length c.args.word.now = search rules in
    let digit : is_ascii_digit (get_or c.args.word.now i 0) ≡ true = search rules in
    let more = digit_more c.args.word.now i below digit in
    let read : c.from-digit.result ≡ get_or c.args.word.now i 0 - 48 = search rules in
    omega (arith, c.loop-c.invariant.value)

pub returns-then-number-high-clause-value : goal.returns-then-number-high-clause-value
returns-then-number-high-clause-value c =
    let more = value_more (goal.at.returns-then-number-high-clause-value c).After-from-digit in
    let above : c.args.high < c.loop-c.number * 10 + c.from-digit.result =
    elim c.then-number-high.branch [
      | goal.then-number-high-via-then-number-high w ↦ omega (arith, w.if-number-high.true)
      | goal.then-number-high-via-else-number-high+then-digit-high w ↦
          omega (arith, w.if-number-high.false, w.if-digit-high.true)
    ] in
    too_large c.args.low c.args.high c.args.word.now
    (c.loop-c.c-index + 1) (omega (arith, above))

pub loop-c-preserved : goal.loop-c-preserved
loop-c-preserved c =
    let i = c.loop-c.c-index in
    let below : i < length c.args.word.now = search rules in
    let digit : is_ascii_digit (get_or c.args.word.now i 0) ≡ true = search rules in
    record {
      digits = digits_more c.args.word.now i below digit c.loop-c.invariant.digits;
      value = value_more (goal.at.loop-c-preserved c).After-from-digit;
      small = omega (arith, c.if-number-high.false, c.if-digit-high.false);
    }
