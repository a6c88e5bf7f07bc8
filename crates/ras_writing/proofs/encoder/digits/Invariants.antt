use Rattle.std.proofs.Common.{◌≡◌, ◌≤◌, ◌+◌, ◌*◌, drop}
use Rattle.ras_writing.specs.Encoding.{behind}
use Rattle.ras_writing.specs.Replies.{digits}
use Rattle.ras_writing.proofs.encoder.digits.Given as goal

abbrev pub invariant-loop-character : goal.invariant-loop-character
invariant-loop-character l = record {
  so_far : behind (digits (drop l.character-index l.text)) l.writer.bits ≡ behind
      (digits l.text) l.initial.writer.bits;
  room : l.initial.writer.room ≤ l.writer.room + 4 * l.character-index;
}
