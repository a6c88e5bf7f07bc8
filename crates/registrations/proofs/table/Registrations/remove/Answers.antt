use Rattle.std.proofs.Common.{sym, ◌∙◌, ap, arith}
use Rattle.std.specs.FinMap as map
use Rattle.std.proofs.lemmas.Cmp.{nat_list_cmp_total}
use Rattle.std.proofs.lemmas.Map.Lookups.{exact_bytes}
use Rattle.keyed.proofs.Maps.{remove_absent}
use Rattle.deadlines.specs.Deadlines.{renamed}
use Rattle.registrations.proofs.Room.{no_less}
use Rattle.registrations.proofs.Stored.{Becomes-remove, Becomes-same, entry_at, is_stored}
use Rattle.registrations.proofs.Stored.{not_counted, not_found, registered}
use Rattle.registrations.proofs.Tables.{IsTable-remove, end_within, entry_within}
use Rattle.registrations.proofs.Tables.{legs_removed, legs_within}
use Rattle.registrations.proofs.table.Registrations.remove.Goals as goal

pub returns-in_err-i-clause-found : goal.returns-in_err-i-clause-found
returns-in_err-i-clause-found c =
    let i = c.self.inside in
    c.from_residual.ensures
    ∙ not_found i.rows i.by_identifier i.by_address i.deadlines i.legs i.ends i.times i.most
    c.self.invariant.stored _
    c.self.view_is c.args.id.now (sym c.in_err-i.ensures.place)

pub returns-in_err-i-clause-removed : goal.returns-in_err-i-clause-removed
returns-in_err-i-clause-removed c =
    let i = c.self.inside in
    Becomes-same i.rows i.by_identifier i.by_address i.deadlines i.legs i.ends i.times i.most
    c.self.invariant.stored _
    c.self.view_is c.args.id.now (sym c.in_err-i.ensures.place)

pub remove-registration-requires : goal.remove-registration-requires
remove-registration-requires c =
    let i = c.self.inside in
    is_stored i.rows i.by_identifier i.by_address i.most c.self.invariant.stored c.args.id.now
    c.in_ok-i.place (sym c.in_ok-i.ensures.place)

pub swap_remove-requires-2 : goal.swap_remove-requires-2
swap_remove-requires-2 c =
    let i = c.self.inside in
    legs_within i.rows i.by_identifier i.by_address i.deadlines i.legs i.ends i.times i.most
    c.self.invariant c.in_ok-i.i _ c.in_ok-i.ensures.entry

pub rename-requires-2 : goal.rename-requires-2
rename-requires-2 c =
    let i = c.self.inside in
    omega (
      arith,
      c.clear-2.ensures.room,
      end_within i.rows i.by_identifier i.by_address i.deadlines i.legs i.ends i.times i.most
          c.self.invariant c.in_ok-i.i _ c.in_ok-i.ensures.entry,
    )

pub rename-requires : goal.rename-requires
rename-requires c =
    let i = c.self.inside in
    omega (
      arith,
      c.clear.ensures.room,
      entry_within i.rows i.by_identifier i.by_address i.deadlines i.legs i.ends i.times i.most
          c.self.invariant
          c.in_ok-i.i _ c.in_ok-i.ensures.entry,
    )

pub invariant_of-self : goal.invariant_of-self
invariant_of-self c =
    let i = c.self.inside in
    let named = sym c.in_ok-i.ensures.place in
    let out = c.swap_remove_index.ensures.entry
    ∙ entry_at i.rows i.by_identifier i.by_address i.most c.self.invariant.stored c.args.id.now
    c.in_ok-i.place c.in_ok-i.i named c.in_ok-i.ensures.entry in
    IsTable-remove i.rows i.by_identifier i.by_address i.deadlines i.legs i.ends i.times i.most
    c.self.invariant c.remove-registration.new.self c.swap_remove_index.new.self
    c.swap_remove.new.self c.rename.new.self c.swap_remove-2.new.self c.rename-2.new.self
    c.args.id.now c.in_ok-i.place c.in_ok-i.i c.remove-registration.result named
    c.in_ok-i.ensures.entry (rw out at c.swap_remove_index.ensures.entries)
    (rw out at c.swap_remove_index.ensures.len) c.swap_remove-2.result
    c.swap_remove-2.ensures.items c.remove-registration.ensures.updates
    c.remove-registration.ensures.value (rw out at c.swap_remove_index.ensures.updates)
    c.swap_remove.ensures.updates c.swap_remove_index.ensures.unique
    (omega (arith, c.remove-registration.ensures.room))
    (omega (arith, c.swap_remove-2.ensures.len))
    (c.rename.ensures.moments
    ∙ (λ k. renamed (c.clear.ensures.moments k) (c.len-last.ensures.len k) c.in_ok-i.i))
    (c.rename.ensures.room ∙ c.clear.ensures.room)
    (c.rename-2.ensures.moments
    ∙ (λ k. renamed (c.clear-2.ensures.moments k) (c.len-last.ensures.len k) c.in_ok-i.i))
    (c.rename-2.ensures.room ∙ c.clear-2.ensures.room)

pub returns-clause-found : goal.returns-clause-found
returns-clause-found c =
    let i = c.self.inside in
    let has = registered i.rows i.by_identifier i.by_address i.deadlines i.legs i.ends i.times
    i.most
    c.self.invariant.stored _ c.self.view_is c.args.id.now c.in_ok-i.place
    (sym c.in_ok-i.ensures.place) c.remove-registration.result c.remove-registration.ensures.value
    in
    sym has.1

pub returns-clause-removed : goal.returns-clause-removed
returns-clause-removed c =
    let i = c.self.inside in
    let named = sym c.in_ok-i.ensures.place in
    let out = c.swap_remove_index.ensures.entry
    ∙ entry_at i.rows i.by_identifier i.by_address i.most c.self.invariant.stored c.args.id.now
    c.in_ok-i.place c.in_ok-i.i named c.in_ok-i.ensures.entry in
    let r = c.remove-registration.result in
    let has = registered i.rows i.by_identifier i.by_address i.deadlines i.legs i.ends i.times
    i.most
    c.self.invariant.stored _ c.self.view_is c.args.id.now c.in_ok-i.place named r
    c.remove-registration.ensures.value in
    Becomes-remove i.rows i.by_identifier i.by_address i.deadlines i.legs i.ends i.times i.most
    c.self.invariant.stored _
    c.self.view_is c.remove-registration.new.self c.swap_remove_index.new.self
    c.swap_remove.new.self c.rename.new.self c.swap_remove-2.new.self c.rename-2.new.self
    c.in_ok-i.place r c.args.id.now has.0
    c.remove-registration.ensures.updates c.remove-registration.ensures.value
    (invariant_of-self c).stored
    (no_less _ _ _ _ _ _ _ _ _ _ _ _
    (omega (arith, c.remove-registration.ensures.capacity, c.remove-registration.ensures.len))
    (omega (
      arith,
      rw out at c.swap_remove_index.ensures.len,
      c.rename.ensures.room,
      c.clear.ensures.room,
    ))
    (omega (arith, c.swap_remove_index.ensures.room.0)) (omega (
      arith,
      c.swap_remove.ensures.room.0,
    ))
    (omega (
      arith,
      rw out at c.swap_remove_index.ensures.len,
      c.swap_remove-2.ensures.capacity,
    ))
    (omega (
      arith,
      rw out at c.swap_remove_index.ensures.len,
      c.rename-2.ensures.room,
      c.clear-2.ensures.room,
    )))

pub returns-in_err-i-clause-legs : goal.returns-in_err-i-clause-legs
returns-in_err-i-clause-legs c =
    let i = c.self.inside in
    remove_absent nat_list_cmp_total exact_bytes c.args.self.now.legs c.args.id.now
    (not_counted i.rows i.by_identifier i.by_address i.deadlines i.legs i.ends i.times i.most
    c.self.invariant.stored _ c.self.view_is c.args.id.now (sym c.in_err-i.ensures.place))

pub returns-clause-legs : goal.returns-clause-legs
returns-clause-legs c =
    let i = c.self.inside in
    let named = sym c.in_ok-i.ensures.place in
    let out = c.swap_remove_index.ensures.entry
    ∙ entry_at i.rows i.by_identifier i.by_address i.most c.self.invariant.stored c.args.id.now
    c.in_ok-i.place c.in_ok-i.i named c.in_ok-i.ensures.entry in
    legs_removed i.rows i.by_identifier i.by_address i.deadlines i.legs i.ends i.times i.most
    c.self.invariant c.remove-registration.new.self c.swap_remove_index.new.self
    c.swap_remove.new.self c.rename.new.self c.swap_remove-2.new.self c.rename-2.new.self
    c.args.id.now c.in_ok-i.place c.in_ok-i.i c.remove-registration.result named
    c.in_ok-i.ensures.entry (rw out at c.swap_remove_index.ensures.entries)
    (rw out at c.swap_remove_index.ensures.len) c.swap_remove-2.result
    c.swap_remove-2.ensures.items c.swap_remove_index.ensures.unique
    ∙ ap (λ t. map.remove t.legs c.args.id.now) c.self.view_is
