use Rattle.std.proofs.Common.{◌∙◌, ap, refl}
use Rattle.std.specs.FinMap as map
use Rattle.std.specs.Vec.{with_item}
use Rattle.registrations.proofs.Counting.{counts_set}
use Rattle.registrations.proofs.Order.{order_at}
use Rattle.registrations.proofs.Stored.{Counts-change, entry_at, is_named, is_stored, leads}
use Rattle.registrations.proofs.Tables.{IsTable-counted, end_within, legs_reach, legs_within}
use Rattle.registrations.proofs.table.Registrations.count_legs.Goals as goal

pub live_entry-i-requires : goal.live_entry-i-requires
live_entry-i-requires c =
    let i = c.self.inside in
    is_named i.rows i.by_identifier i.by_address i.deadlines i.legs i.ends i.times i.most
    c.self.invariant.stored _ c.self.view_is c.args.id.now c.requires

pub index-requires : goal.index-requires
index-requires c =
    let i = c.self.inside in
    is_stored i.rows i.by_identifier i.by_address i.most c.self.invariant.stored c.args.id.now
    c.live_entry-i.result.1 c.live_entry-i.ensures.place

pub index_mut-requires : goal.index_mut-requires
index_mut-requires c =
    let i = c.self.inside in
    legs_within i.rows i.by_identifier i.by_address i.deadlines i.legs i.ends i.times i.most
    c.self.invariant c.live_entry-i.result.0 _ c.live_entry-i.ensures.entry

pub write_end-requires : goal.write_end-requires
write_end-requires c =
    let i = c.self.inside in
    end_within i.rows i.by_identifier i.by_address i.deadlines i.legs i.ends i.times i.most
    c.self.invariant c.live_entry-i.result.0 _ c.live_entry-i.ensures.entry

pub invariant_of-self : goal.invariant_of-self
invariant_of-self c =
    let i = c.self.inside in
    let at = entry_at i.rows i.by_identifier i.by_address i.most c.self.invariant.stored
    c.args.id.now c.live_entry-i.result.1 c.live_entry-i.result.0 c.live_entry-i.ensures.place
    c.live_entry-i.ensures.entry in
    IsTable-counted i.rows i.by_identifier i.by_address i.deadlines i.legs i.ends i.times i.most
    c.self.invariant c.live_entry-i.result.0 c.index.result.now c.args.legs
    (order_at i.rows i.by_identifier.entries
    (leads i.rows i.by_identifier i.by_address i.most c.self.invariant.stored)
    c.live_entry-i.result.0 (c.args.id.now, c.live_entry-i.result.1) at ∙ c.index.ensures)
    (legs_reach i.rows i.by_identifier i.by_address i.deadlines i.legs i.ends i.times i.most
    c.self.invariant c.live_entry-i.result.0 _ c.live_entry-i.ensures.entry)
    (with_item i.legs c.live_entry-i.result.0 c.args.legs) refl
    c.write_end.new.ends c.end_of-end.result c.end_of-end.ensures c.write_end.ensures.moments
    c.write_end.ensures.room

pub returns : goal.returns
returns c =
    let i = c.self.inside in
    let at = entry_at i.rows i.by_identifier i.by_address i.most c.self.invariant.stored
    c.args.id.now c.live_entry-i.result.1 c.live_entry-i.result.0 c.live_entry-i.ensures.place
    c.live_entry-i.ensures.entry in
    Counts-change i.rows i.by_identifier i.by_address i.deadlines i.legs i.ends i.times i.most
    c.self.invariant.stored _ c.self.view_is
    (with_item i.legs c.live_entry-i.result.0 c.args.legs) c.write_end.new.ends _ refl
    c.write_end.ensures.room
    (counts_set i.by_identifier.entries i.legs.items c.self.invariant.stored.apart
    c.self.invariant.places.counted c.live_entry-i.result.0
    (c.args.id.now, c.live_entry-i.result.1) at c.args.legs
    ∙ ap (λ t. map.insert t.legs c.args.id.now c.args.legs) c.self.view_is)
