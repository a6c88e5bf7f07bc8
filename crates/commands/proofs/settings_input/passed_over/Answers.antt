use Rattle.std.proofs.Common.{◌≡◌, ◌++◌, ◌∷◌, [], arith}
use Rattle.std.proofs.lemmas.Grind.{common_steps}
use Rattle.std.specs.Prelude.{string_bytes}
use Rattle.commands.specs.Inputs.{count_with}
use Rattle.commands.specs.KeyLines.{line_of}
use Rattle.commands.specs.declared.settings_input.PassedOver.{PassedOver}
use Rattle.commands.proofs.Told.{one_more}
use Rattle.commands.proofs.settings_input.passed_over.Goals as goal

pub loop-key-preserved : goal.loop-key-preserved
loop-key-preserved c =
    let passed : PassedOver = record { key = c.in-Some.key; line = c.line_of-line.result } in
    let pushed : c.push.new.self.items ≡ c.loop-key.all.items ++ passed ∷ [] =
    grind (arith, common_steps) in
    let line : passed.line ≡ line_of c.args.text.now (string_bytes passed.key.path)
    (count_with (string_bytes passed.key.path) c.loop-key.all.items) = cc in
    record {
      keys = grind (arith, common_steps);
      lines = rw pushed (one_more c.args.text.now [] c.loop-key.all.items passed line
          c.loop-key.invariant.lines);
    }
