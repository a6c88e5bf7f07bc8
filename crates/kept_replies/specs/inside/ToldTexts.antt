-- The characters of an identifier that a kept reply tells.
use Rattle.std.specs.Prelude.{ℕ, List}
use Rattle.kept_replies.specs.declared.told_id.ToldText.{ToldText}
use Rattle.kept_replies.specs.declared.told_id.ToldText.TheVariants.{InPlace, Apart}

-- wherever they stand
abbrev pub characters_of : ToldText → List ℕ
characters_of (InPlace text) = text
characters_of (Apart characters) = characters.items
