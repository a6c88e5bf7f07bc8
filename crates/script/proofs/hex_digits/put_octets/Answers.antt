use Rattle.std.proofs.Common.{◌≡◌, ◌+◌, ◌*◌, ◌%◌, ◌<◌, ℕ, length, arith, slice_index, sym, ap, ◌∙◌}
use Rattle.std.proofs.Common.{inl, inr, Ok, max}
use Rattle.std.proofs.lemmas.Bool.{cases_lt}
use Rattle.std.proofs.lemmas.Bool.Decides.{nat_tests}
use Rattle.std.proofs.lemmas.Grind.{common_steps}
use Rattle.std.specs.Result.{result_ok}
use Rattle.hex.specs.Hex.{pair_value}
use Rattle.hex.proofs.Pairs.{decode_step, decode_done, decode_err, decode_start}
use Rattle.script.proofs.Digits.{good_pair, bad_pair}
use Rattle.script.proofs.hex_digits.put_octets.Goals as goal

pub loop-i-init : goal.loop-i-init
loop-i-init c = record {
  good = λ below. decode_start c.args.digits.now c.args.octets.now;
  bad = λ above. absurd (omega (arith, above));
}

pub loop-i-preserved : goal.loop-i-preserved
loop-i-preserved c =
    let digits = c.args.digits.now in
    let i = c.loop-i.i in
    let most = c.loop-i.most in
    let high = c.value_of-high.result in
    let low = c.value_of-low.result in
    let one = slice_index digits (2 * i) in
    let two = slice_index digits (2 * i + 1) in
    let most_is : c.max-most.result ≡ max (max most high) low =
    c.max-most.ensures ∙ ap (λ (m : ℕ). max m low) c.max.ensures in
    let fits : 2 * i + 1 < length digits = omega arith in record {
      good = λ below.
          let small_high : high < 16 = grind (arith, common_steps) in
          let small_low : low < 16 = grind (arith, common_steps) in
          let small_most : most < 16 = grind (arith, common_steps) in
          let octet : (high * 16 % 256 + low) % 256 ≡ high * 16 + low =
          omega (arith, small_high, small_low) in
          let pair : pair_value one two (2 * i) ≡ Ok (high * 16 + low) =
          rw (c.value_of-high.ensures, c.value_of-low.ensures) (good_pair one two (2 * i)
          (rw (← c.value_of-high.ensures) small_high) (rw (← c.value_of-low.ensures) small_low)) in
          decode_step digits c.loop-i.octets i _ fits (omega arith)
          (pair ∙ ap Ok (sym octet)) (c.loop-i.invariant.good small_most);
      bad = λ above. elim (cases_lt most 16) [
        | inl small_most ↦
            let e = bad_pair one two (2 * i) (λ both.
            let small_high : high < 16 = rw c.value_of-high.ensures both.0 in
            let small_low : low < 16 = rw c.value_of-low.ensures both.1 in
            let small : max (max most high) low < 16 = grind (arith, common_steps) in
            absurd (omega (arith, above, most_is, small))) in
            ap result_ok (decode_err digits c.loop-i.octets i e.0 fits e.1
            (c.loop-i.invariant.good small_most))
        | inr large_most ↦ c.loop-i.invariant.bad large_most
      ];
    }

pub returns-clause-good : goal.returns-clause-good
returns-clause-good c = λ all_digits.
    let below : c.loop-i.most < 16 = grind (arith, nat_tests) in
    decode_done c.args.digits.now c.loop-i.octets c.loop-i.i (omega arith) (omega arith)
    (c.loop-i.invariant.good below)
