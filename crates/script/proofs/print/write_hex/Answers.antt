use Rattle.std.proofs.Common.{[], ◌++◌, List, ℕ, refl, sym, ap, subst, ◌∙◌, append_assoc}
use Rattle.std.specs.Io.KnownBytes.{Appends}
use Rattle.std.proofs.KnownBytes.{Appends-nil, Appends-trans}
use Rattle.hex.specs.Hex.{encode_upper, encode_with}
use Rattle.script.proofs.Printing.{encode_upper-append}
use Rattle.script.proofs.print.write_hex.Goals as goal

pub loop-rest-init : goal.loop-rest-init
unfolding encode_with
loop-rest-init g c = ([], refl, Appends-nil (g.W.Write.contents c.args.out.now))

pub loop-rest-preserved : goal.loop-rest-preserved
loop-rest-preserved g c =
    let front = c.loop-rest.invariant.0 in
    let some = c.split_at.result.0.now in
    let others = c.split_at.result.1.now in
    let start = g.W.Write.contents c.args.out.now in
    let before = g.W.Write.contents c.loop-rest.out in
    let after = g.W.Write.contents c.write_digits.new.out in (
      front ++ some,
      c.loop-rest.invariant.1
          ∙ ap (λ (t : List ℕ). front ++ t) c.split_at.ensures.by_index.0
          ∙ sym (append_assoc front some others),
      subst (λ (t : List ℕ). Appends start after t) (sym (encode_upper-append front some))
          (Appends-trans start before after (encode_upper front) (encode_upper some)
          c.loop-rest.invariant.2 c.in_ok-write_digits.ensures),
    )
