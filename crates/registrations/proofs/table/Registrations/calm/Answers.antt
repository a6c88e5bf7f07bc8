use Rattle.std.proofs.Common.{refl}
use Rattle.registrations.specs.Registry.{after_calm}
use Rattle.registrations.proofs.Stored.{Updates-change, is_named, is_stored}
use Rattle.registrations.proofs.Tables.{IsTable-heard, end_within, legs_within}
use Rattle.registrations.proofs.table.Registrations.calm.Goals as goal

pub live_entry-i-requires : goal.live_entry-i-requires
live_entry-i-requires c =
    let i = c.self.inside in
    is_named i.rows i.by_identifier i.by_address i.deadlines i.legs i.ends i.times i.most
    c.self.invariant.stored _ c.self.view_is c.args.id.now c.requires

pub index_mut-registration-requires : goal.index_mut-registration-requires
index_mut-registration-requires c =
    let i = c.self.inside in
    is_stored i.rows i.by_identifier i.by_address i.most c.self.invariant.stored c.args.id.now
    c.live_entry-i.result.1 c.live_entry-i.ensures.place

pub index-requires : goal.index-requires
index-requires c =
    let i = c.self.inside in
    legs_within i.rows i.by_identifier i.by_address i.deadlines i.legs i.ends i.times i.most
    c.self.invariant c.live_entry-i.result.0 _ c.live_entry-i.ensures.entry

pub write_end-requires : goal.write_end-requires
write_end-requires c =
    let i = c.self.inside in
    end_within i.rows i.by_identifier i.by_address i.deadlines i.legs i.ends i.times i.most
    c.self.invariant c.live_entry-i.result.0 _ c.live_entry-i.ensures.entry

pub invariant_of-self : goal.invariant_of-self
invariant_of-self c =
    let i = c.self.inside in
    let old = c.index_mut-registration.result.now in
    IsTable-heard i.rows i.by_identifier i.by_address i.deadlines i.legs i.ends i.times i.most
    c.self.invariant c.args.id.now c.live_entry-i.result.1 c.live_entry-i.ensures.place old
    (after_calm old) c.index_mut-registration.ensures.value refl refl c.live_entry-i.result.0
    c.live_entry-i.ensures.entry refl c.index.result.now c.index.ensures c.write_end.new.ends
    c.end_of-end.result c.end_of-end.ensures c.write_end.ensures.moments c.write_end.ensures.room

pub returns : goal.returns
returns c =
    let i = c.self.inside in
    Updates-change i.rows i.by_identifier i.by_address i.deadlines i.legs i.ends i.times i.most
    c.self.invariant.stored _ c.self.view_is c.args.id.now c.live_entry-i.result.1
    c.live_entry-i.ensures.place c.index_mut-registration.result.now
    c.index_mut-registration.ensures.value
    after_calm refl refl i.deadlines c.write_end.new.ends refl c.write_end.ensures.room
