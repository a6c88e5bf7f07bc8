use Rattle.std.proofs.Common.{rules, arith, ◌≡◌, ◌+◌, ◌++◌, ◌≤◌, take, length, ap, ◌∙◌}
use Rattle.std.proofs.lemmas.List.{take-append-le}
use Rattle.std.proofs.lemmas.Grind.{common_steps}
use Rattle.std.proofs.KnownBytes.{Consumes-trans}
use Rattle.script.specs.declared.read.TheConstants.Script as script_octets
use Rattle.script.proofs.input.read_whole.Goals as goal

pub loop-preserved : goal.loop-preserved
loop-preserved g c =
    let n : c.in-Ok.n ≤ length c.read.new.buf = search rules in
    let now : c.append.new.all.items
    ≡ c.loop.all.items ++ take c.in-Ok.n c.read.new.buf =
    c.in_ok-append-in-Ok.ensures.items
    ∙ ap (λ t. c.loop.all.items ++ t) (take-append-le _ c.read.new.buf _ n) in
    record {
      len = grind (arith, common_steps);
      rounds = grind (arith, common_steps);
      bytes = rw now (Consumes-trans _ _ _ _ _ c.loop.invariant.bytes c.in-Ok.ensures.bytes.0);
      sound = λ some. search rules;
    }

pub returns-in_err-append-in-Ok-clause-most :
    goal.returns-in_err-append-in-Ok-clause-most
returns-in_err-append-in-Ok-clause-most g c =
    let within : length (c.loop.all.items ++ take c.in-Ok.n c.read.new.buf) ≤ script_octets.MOST + 1 =
    grind (arith, common_steps) in
    record {
      octets = c.loop.all.items ++ take c.in-Ok.n c.read.new.buf;
      few = within;
      taken = Consumes-trans _ _ _ _ _ c.loop.invariant.bytes c.in-Ok.ensures.bytes.0;
    }
