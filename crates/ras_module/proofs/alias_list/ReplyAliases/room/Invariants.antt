use Rattle.std.proofs.Common.{◌≡◌, ◌≤◌, ◌+◌, ◌*◌, drop}
use Rattle.ras_module.specs.Rooms.{aliases_room}
use Rattle.ras_module.proofs.alias_list.ReplyAliases.room.Given as goal

-- the room so far, and that of the aliases that are left
abbrev pub invariant-loop-alias : goal.invariant-loop-alias
invariant-loop-alias l = record {
  so_far : l.room + aliases_room (drop l.alias-index l.self) ≡ aliases_room l.self;
  most : l.room ≤ 524 * l.alias-index;
}
