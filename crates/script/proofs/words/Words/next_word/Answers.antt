use Rattle.std.proofs.Common.{◌<◌, length, arith}
use Rattle.std.proofs.lemmas.Bool.Decides.{nat_tests}
use Rattle.script.proofs.Parting.{words_more}
use Rattle.script.proofs.words.Words.next_word.Goals as goal

pub returns-then-not-is_empty : goal.returns-then-not-is_empty
returns-then-not-is_empty c =
    let some : 0 < length c.parted.result.0.now = grind (arith, nat_tests) in
    let step = words_more c.loop-self.self-inside.rest.now _ _ c.parted.ensures.front
    c.parted.ensures.rest some in
    cc
