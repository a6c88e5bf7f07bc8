use Rattle.std.proofs.Common.{◌≤◌, ◌+◌, ℕ, arith, subst, sym}
use Rattle.std.specs.Prelude.{IfSome, Option}
use Rattle.std.proofs.lemmas.Cmp.{nat_list_cmp_total}
use Rattle.std.proofs.lemmas.Map.Lookups.{exact_bytes}
use Rattle.keyed.proofs.Maps.{update_there}
use Rattle.registrations.specs.declared.table.TheConstants.Registrations as registrations_table
use Rattle.registrations.specs.Registry.{Counts, LegCounts}
use Rattle.registrations.proofs.Legs.{legs_read}
use Rattle.registrations.proofs.Stored.{is_named}
use Rattle.registrations.proofs.Tables.{legs_within}
use Rattle.registrations.proofs.table.Registrations.leg_comes.Goals as goal

pub live_entry-i-requires : goal.live_entry-i-requires
live_entry-i-requires c =
    let i = c.self.inside in
    is_named i.rows i.by_identifier i.by_address i.deadlines i.legs i.ends i.times i.most
    c.self.invariant.stored _ c.self.view_is c.args.id.now c.requires.live

pub index-requires : goal.index-requires
index-requires c =
    let i = c.self.inside in
    legs_within i.rows i.by_identifier i.by_address i.deadlines i.legs i.ends i.times i.most
    c.self.invariant c.live_entry-i.result.0 _ c.live_entry-i.ensures.entry

pub overflow_add-legs : goal.overflow_add-legs
overflow_add-legs c =
    let i = c.self.inside in
    let read = legs_read i.rows i.by_identifier i.by_address i.deadlines i.legs i.ends i.times
    i.most i.next_number
    c.self.invariant _ c.self.view_is c.args.id.now
    c.live_entry-i.result.1 c.live_entry-i.result.0 c.live_entry-i.ensures.place
    c.live_entry-i.ensures.entry c.index.result.now c.index.ensures in
    let bound = subst
    (λ (w : Option ℕ). IfSome w (λ legs. legs ≤ registrations_table.MOST_LEGS)) read
    c.requires.few in
    omega (arith, bound)

pub returns : goal.returns
returns c =
    let i = c.self.inside in
    let read = legs_read i.rows i.by_identifier i.by_address i.deadlines i.legs i.ends i.times
    i.most i.next_number
    c.self.invariant _ c.self.view_is c.args.id.now
    c.live_entry-i.result.1 c.live_entry-i.result.0 c.live_entry-i.ensures.place
    c.live_entry-i.ensures.entry c.index.result.now c.index.ensures in
    subst (λ (m : LegCounts). Counts c.args.self.now c.count_legs.new.self m)
    (sym (update_there nat_list_cmp_total exact_bytes c.args.self.now.legs c.args.id.now
    c.index.result.now (λ legs. legs + 1) read)) c.count_legs.ensures
