-- Keys that are told, with their lines.
use Rattle.std.proofs.Common.{ℕ, ◌≡◌, ◌++◌, List, [], ◌∷◌, append_assoc, append-nil}
use Rattle.std.specs.Prelude.{string_bytes}
use Rattle.commands.specs.Inputs.{HaveLinesBehind, count_with}
use Rattle.commands.specs.KeyLines.{line_of}
use Rattle.commands.specs.declared.settings_input.PassedOver.{PassedOver}

pub one_more : (text : List ℕ) (before told : List PassedOver) (passed : PassedOver)
    → passed.line ≡ line_of text (string_bytes passed.key.path)
    (count_with (string_bytes passed.key.path) (before ++ told))
    → HaveLinesBehind text before told → HaveLinesBehind text before (told ++ passed ∷ [])
one_more text before [] passed is have = (rw append-nil at is, tt)
one_more text before (first ∷ told) passed is have = (
  have.0,
  one_more text (before ++ first ∷ []) told passed
      (rw append_assoc is) have.1,
)
