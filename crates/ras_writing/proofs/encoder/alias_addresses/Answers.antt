use Rattle.std.proofs.Common.{arith, ◌∙◌}
use Rattle.std.proofs.lemmas.List.Elements.{AllWithin-more, at_read}
use Rattle.ras_writing.specs.Properties.{IsAlias}
use Rattle.ras_writing.proofs.Behind.{aliases_more, room_left}
use Rattle.ras_writing.proofs.encoder.alias_addresses.Goals as goal

pub loop-alias-preserved : goal.loop-alias-preserved
loop-alias-preserved c = record {
  so_far = aliases_more c.args.aliases.now c.alias-item.result c.loop-alias.alias-index
      c.loop-alias.writer.bits c.alias_address.new.writer.bits c.alias-item.is
      c.loop-alias-test.true c.alias_address.ensures.writes.0 ∙ c.loop-alias.invariant.so_far;
  room = omega (
    arith,
    c.alias_address.ensures.writes.1,
    c.loop-alias.invariant.room,
    room_left c.args.aliases.now c.alias-item.result c.loop-alias.alias-index c.alias-item.is
        c.loop-alias-test.true,
  );
  each = AllWithin-more IsAlias c.args.aliases.now 0 c.loop-alias.alias-index
      c.loop-alias.invariant.each (at_read c.args.aliases.now IsAlias c.loop-alias.alias-index
      c.alias-item.result c.loop-alias-test.true c.alias-item.is c.alias_address.ensures.bounds);
}
