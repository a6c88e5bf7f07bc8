use Rattle.std.proofs.Common.{refl}
use Rattle.registrations.specs.Registry.{after_rewrite}
use Rattle.registrations.proofs.Stored.{Updates-change, is_named, is_stored}
use Rattle.registrations.proofs.Tables.{IsTable-set, entry_within}
use Rattle.registrations.proofs.table.Registrations.rewrite.Goals as goal

pub live_entry-i-requires : goal.live_entry-i-requires
live_entry-i-requires c =
    let i = c.self.inside in
    is_named i.rows i.by_identifier i.by_address i.deadlines i.legs i.ends i.times i.most
    c.self.invariant.stored _
    c.self.view_is c.args.id.now c.requires

pub index_mut-row-requires : goal.index_mut-row-requires
index_mut-row-requires c =
    let i = c.self.inside in
    is_stored i.rows i.by_identifier i.by_address i.most c.self.invariant.stored c.args.id.now
    c.live_entry-i.result.1 c.live_entry-i.ensures.place

pub set-requires : goal.set-requires
set-requires c =
    let i = c.self.inside in
    entry_within i.rows i.by_identifier i.by_address i.deadlines i.legs i.ends i.times i.most
    c.self.invariant
    c.live_entry-i.result.0 _ c.live_entry-i.ensures.entry

pub invariant_of-self : goal.invariant_of-self
invariant_of-self c =
    let i = c.self.inside in
    let old = c.index_mut-row.result.now in
    IsTable-set i.rows i.by_identifier i.by_address i.deadlines i.legs i.ends i.times i.most
    c.self.invariant c.args.id.now c.live_entry-i.result.1 c.live_entry-i.ensures.place old
    (after_rewrite c.args.ras c.args.aliases c.args.deadline old) c.index_mut-row.ensures.value
    refl refl c.live_entry-i.result.0 c.live_entry-i.ensures.entry
    c.set.new.self c.set.ensures.moments c.set.ensures.room (λ n. refl)

pub returns : goal.returns
returns c =
    let i = c.self.inside in
    Updates-change i.rows i.by_identifier i.by_address i.deadlines i.legs i.ends i.times i.most
    c.self.invariant.stored _ c.self.view_is c.args.id.now c.live_entry-i.result.1
    c.live_entry-i.ensures.place c.index_mut-row.result.now c.index_mut-row.ensures.value
    (after_rewrite c.args.ras c.args.aliases c.args.deadline) refl refl c.set.new.self
    i.ends c.set.ensures.room refl
