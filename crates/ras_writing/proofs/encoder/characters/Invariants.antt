use Rattle.std.proofs.Common.{◌≡◌, ◌≤◌, ◌+◌, ◌*◌, drop}
use Rattle.ras_writing.specs.Encoding.{behind}
use Rattle.ras_writing.specs.Replies.{characters}
use Rattle.ras_writing.proofs.encoder.characters.Given as goal

abbrev pub invariant-loop-character : goal.invariant-loop-character
invariant-loop-character l = record {
  so_far : behind (characters (drop l.character-index l.text)) l.writer.bits ≡ behind
      (characters l.text) l.initial.writer.bits;
  room : l.initial.writer.room ≤ l.writer.room + 16 * l.character-index;
}
