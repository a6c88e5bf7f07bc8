use Rattle.std.proofs.Common.{◌≡◌, ◌≤◌, ◌+◌, ◌*◌, drop}
use Rattle.std.specs.List.{AllWithin}
use Rattle.ras_module.specs.Rooms.{aliases_room}
use Rattle.ras_writing.specs.Encoding.{behind}
use Rattle.ras_writing.specs.Properties.{IsAlias}
use Rattle.ras_writing.specs.Replies.{alias_addresses}
use Rattle.ras_writing.proofs.encoder.alias_addresses.Given as goal

abbrev pub invariant-loop-alias : goal.invariant-loop-alias
invariant-loop-alias l = record {
  so_far : behind (alias_addresses (drop l.alias-index l.aliases)) l.writer.bits ≡ behind
      (alias_addresses l.aliases) l.initial.writer.bits;
  room : l.initial.writer.room + 8 * aliases_room (drop l.alias-index l.aliases)
      ≤ l.writer.room + 8 * aliases_room l.aliases;
  each : AllWithin IsAlias l.aliases 0 l.alias-index;
}
