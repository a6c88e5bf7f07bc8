use Rattle.std.proofs.Common.{◌≡◌, length}
use Rattle.script.specs.Words.{words_of}
use Rattle.script.proofs.words.Words.next_long_word.Given as goal

abbrev pub invariant-loop-self : goal.invariant-loop-self
invariant-loop-self l = words_of l.self-inside.rest.now ≡ words_of l.initial.self-inside.rest.now

abbrev pub decreases-loop-self : goal.decreases-loop-self
decreases-loop-self l = length l.self-inside.rest.now
