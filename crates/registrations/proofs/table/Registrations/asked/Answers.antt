use Rattle.std.proofs.Common.{◌<◌, Option, refl, subst, arith}
use Rattle.std.specs.Option.{IsSomeAnd}
use Rattle.registrations.specs.declared.registration.Registration.{Registration}
use Rattle.registrations.specs.Registry.{after_ask}
use Rattle.registrations.proofs.Stored.{Updates-change, is_named, is_stored}
use Rattle.registrations.proofs.Stored.{is_there, registered}
use Rattle.registrations.proofs.Tables.{IsTable-heard, end_within, legs_within}
use Rattle.registrations.proofs.table.Registrations.asked.Goals as goal

pub live_entry-i-requires : goal.live_entry-i-requires
live_entry-i-requires c =
    let i = c.self.inside in
    is_named i.rows i.by_identifier i.by_address i.deadlines i.legs i.ends i.times i.most
    c.self.invariant.stored _ c.self.view_is c.args.id.now (is_there _ _ c.requires)

pub index_mut-row-requires : goal.index_mut-row-requires
index_mut-row-requires c =
    let i = c.self.inside in
    is_stored i.rows i.by_identifier i.by_address i.most c.self.invariant.stored c.args.id.now
    c.live_entry-i.result.1 c.live_entry-i.ensures.place

pub overflow_add-row : goal.overflow_add-row
overflow_add-row c =
    let i = c.self.inside in
    let old = c.index_mut-row.result.now in
    let has = registered i.rows i.by_identifier i.by_address i.deadlines i.legs i.ends i.times
    i.most
    c.self.invariant.stored _ c.self.view_is c.args.id.now c.live_entry-i.result.1
    c.live_entry-i.ensures.place old c.index_mut-row.ensures.value in
    let few : old.tries < 16 = subst (λ (w : Option Registration). IsSomeAnd w (λ r. r.tries < 16))
    has.1 c.requires in
    omega arith

pub index-requires : goal.index-requires
index-requires c =
    let i = c.self.inside in
    legs_within i.rows i.by_identifier i.by_address i.deadlines i.legs i.ends i.times i.most
    c.self.invariant c.live_entry-i.result.0 _ c.live_entry-i.ensures.entry

pub write_end-requires : goal.write_end-requires
write_end-requires c =
    let i = c.self.inside in
    end_within i.rows i.by_identifier i.by_address i.deadlines i.legs i.ends i.times i.most
    c.self.invariant c.live_entry-i.result.0 _ c.live_entry-i.ensures.entry

pub invariant_of-self : goal.invariant_of-self
invariant_of-self c =
    let i = c.self.inside in
    let old = c.index_mut-row.result.now in
    IsTable-heard i.rows i.by_identifier i.by_address i.deadlines i.legs i.ends i.times i.most
    c.self.invariant c.args.id.now c.live_entry-i.result.1 c.live_entry-i.ensures.place old
    (after_ask c.args.now old) c.index_mut-row.ensures.value refl refl c.live_entry-i.result.0
    c.live_entry-i.ensures.entry refl c.index.result.now c.index.ensures c.write_end.new.ends
    c.end_of-end.result c.end_of-end.ensures c.write_end.ensures.moments c.write_end.ensures.room

pub returns : goal.returns
returns c =
    let i = c.self.inside in
    Updates-change i.rows i.by_identifier i.by_address i.deadlines i.legs i.ends i.times i.most
    c.self.invariant.stored _ c.self.view_is c.args.id.now c.live_entry-i.result.1
    c.live_entry-i.ensures.place c.index_mut-row.result.now c.index_mut-row.ensures.value
    (after_ask c.args.now) refl refl i.deadlines c.write_end.new.ends refl c.write_end.ensures.room
