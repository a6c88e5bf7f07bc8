use Rattle.std.proofs.Common.{refl, sym}
use Rattle.registrations.specs.Registry.{after_hear}
use Rattle.registrations.proofs.Stored.{Updates-change, Updates-same, is_stored}
use Rattle.registrations.proofs.Tables.{IsTable-heard, end_within, legs_within}
use Rattle.registrations.proofs.table.Registrations.hear.Goals as goal

pub returns-in_default : goal.returns-in_default
returns-in_default c =
    let i = c.self.inside in
    Updates-same i.rows i.by_identifier i.by_address i.deadlines i.legs i.ends i.times i.most
    c.self.invariant.stored _ c.self.view_is c.args.id.now
    (sym c.in_default.ensures.place) (after_hear c.args.now)

pub index_mut-row-requires : goal.index_mut-row-requires
index_mut-row-requires c =
    let i = c.self.inside in
    is_stored i.rows i.by_identifier i.by_address i.most c.self.invariant.stored c.args.id.now
    c.in-Some.place (sym c.in-Some.ensures.place)

pub index-requires : goal.index-requires
index-requires c =
    let i = c.self.inside in
    legs_within i.rows i.by_identifier i.by_address i.deadlines i.legs i.ends i.times i.most
    c.self.invariant c.in-Some.i _ c.in-Some.ensures.entry

pub write_end-requires : goal.write_end-requires
write_end-requires c =
    let i = c.self.inside in
    end_within i.rows i.by_identifier i.by_address i.deadlines i.legs i.ends i.times i.most
    c.self.invariant c.in-Some.i _ c.in-Some.ensures.entry

pub invariant_of-self : goal.invariant_of-self
invariant_of-self c =
    let i = c.self.inside in
    let old = c.index_mut-row.result.now in
    IsTable-heard i.rows i.by_identifier i.by_address i.deadlines i.legs i.ends i.times i.most
    c.self.invariant c.args.id.now c.in-Some.place (sym c.in-Some.ensures.place) old
    (after_hear c.args.now old) c.index_mut-row.ensures.value refl refl c.in-Some.i
    c.in-Some.ensures.entry refl c.index.result.now c.index.ensures c.write_end.new.ends
    c.end_of-end.result c.end_of-end.ensures c.write_end.ensures.moments c.write_end.ensures.room

pub returns : goal.returns
returns c =
    let i = c.self.inside in
    Updates-change i.rows i.by_identifier i.by_address i.deadlines i.legs i.ends i.times i.most
    c.self.invariant.stored _ c.self.view_is c.args.id.now c.in-Some.place
    (sym c.in-Some.ensures.place) c.index_mut-row.result.now c.index_mut-row.ensures.value
    (after_hear c.args.now) refl refl i.deadlines c.write_end.new.ends refl c.write_end.ensures.room
