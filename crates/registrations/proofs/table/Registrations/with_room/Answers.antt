use Rattle.std.proofs.Common.{◌∙◌}
use Rattle.registrations.proofs.Tables.{IsTable-empty}
use Rattle.registrations.proofs.table.Registrations.with_room.Goals as goal

pub invariant_of-result : goal.invariant_of-result
invariant_of-result c =
    IsTable-empty c.in_ok-with_capacity.field-0 c.in_ok-with_capacity-2.field-0
    c.in_ok-with_capacity-3.field-0 c.reserve.new.self c.in_ok-legs.legs
    c.reserve-2.new.self c.args.times c.args.most c.in_ok-with_capacity.ensures.empty
    c.in_ok-with_capacity-2.ensures.empty c.in_ok-with_capacity-3.ensures.empty
    (c.reserve.ensures.moments ∙ c.new-deadlines.ensures.moments)
    c.in_ok-legs.ensures.items
    (c.reserve-2.ensures.moments ∙ c.new-ends.ensures.moments) c.requires
