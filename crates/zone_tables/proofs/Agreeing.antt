-- How the changes of a zone keep the endpoints and the table of their aliases in agreement.
use Rattle.std.proofs.Common.{◌≡◌, ℕ, List, sym, ◌∙◌, ap, subst, refl, Some, None}
use Rattle.std.specs.Prelude.{Contains, IsSome}
use Rattle.std.specs.FinMap as fin
use Rattle.std.proofs.lemmas.Cmp.{nat_list_cmp_total}
use Rattle.std.proofs.lemmas.Map.Lookups.{exact_bytes}
use Rattle.keyed.specs.Maps.{update}
use Rattle.keyed.proofs.Maps.{Changed-update}
use Rattle.std.specs.Option.{option_map}
use Rattle.ras_module.specs.declared.alias.Alias.{Alias}
use Rattle.ras_module.specs.declared.address.Address.{Address}
use Rattle.aliases.specs.Held.{Held, with_aliases, without_holder}
use Rattle.registrations.specs.declared.registration.Registration.{Registration}
use Rattle.registrations.specs.Registry.{Live, IsConsistent, Registry, after_hear, after_rewrite}
use Rattle.registrations.specs.Agreement.{Agree}
use Rattle.registrations.proofs.Consistent.{IsAt-found}
use Rattle.registrations.proofs.Agreement.{Agree-insert, Agree-rewrite, Agree-update, conflicts_are}
use Rattle.registrations.proofs.Agreement.{free_for_new, free_for_old, one_holder}
use Rattle.zone_tables.proofs.Answered.{is_there}
use Rattle.zone_tables.specs.declared.entry.Entry.{Entry}
use Rattle.zone_tables.specs.Tables.{heard_now}
use Rattle.zone_tables.specs.Parts.{IsSoundRoll, Roll}
use Rattle.zone_tables.specs.inside.Stored.{AreStored}
use Rattle.zone_tables.specs.Changes.{IsAddable, IsRewritable}

module _ (roll : Roll) (held : Held) (agree : Agree roll.live held) where
  pub free_to_add : (r : Registration) → IsAddable roll r → (alias : Alias)
      → Contains r.aliases alias → fin.get held alias ≡ None
  free_to_add r can =
      free_for_new roll.live held r.call_signal r.aliases agree can.address
      (conflicts_are roll.live held agree r.call_signal r.aliases ∙ can.aliases)

  pub Agree-add : (r : Registration) → IsAddable roll r
      → Agree (fin.insert roll.live r.identifier r)
      (with_aliases held r.aliases r.identifier r.call_signal)
  Agree-add r can = Agree-insert roll.live held r agree can.identifier (free_to_add r can)

  pub free_to_rewrite : IsConsistent roll.live → (id : List ℕ) (e : Entry) → IsRewritable roll id e
      → (alias : Alias) → Contains e.aliases alias → fin.get (without_holder held id) alias ≡ None
  free_to_rewrite sound id e can alias has =
      ap (λ k. fin.get (without_holder held k) alias) (sym can.identifier)
      ∙ free_for_old roll.live held e.call_signal e.aliases can.old agree sound can.found
      (conflicts_are roll.live held agree e.call_signal e.aliases ∙ can.aliases) alias has

  pub is_live : IsConsistent roll.live → (id : List ℕ) (e : Entry) (can : IsRewritable roll id e)
      → fin.get roll.live id ≡ Some can.old
  is_live sound id e can =
      ap (fin.get roll.live) (sym can.identifier)
      ∙ (IsAt-found roll.live sound e.call_signal can.old can.found).live_is

  pub Agree-rewriting : IsConsistent roll.live → (id : List ℕ) (e : Entry) (deadline now : ℕ)
      → IsRewritable roll id e
      → Agree (heard_now now id (update roll.live id (after_rewrite e.ras e.aliases deadline)))
      (with_aliases (without_holder held id) e.aliases id e.call_signal)
  Agree-rewriting sound id e deadline now can =
      let at = IsAt-found roll.live sound e.call_signal can.old can.found in
      let f = after_rewrite e.ras e.aliases deadline in
      let written = Agree-rewrite roll.live held id can.old (f can.old) f agree
      (is_live sound id e can) refl can.identifier (free_to_rewrite sound id e can) in
      let moved = subst (λ (a : Address). Agree (update roll.live id f)
      (with_aliases (without_holder held id) e.aliases id a)) at.address_is written in
      Agree-update (update roll.live id f) (with_aliases (without_holder held id) e.aliases id
      e.call_signal) id (after_hear now) moved (λ r. refl) (λ r. refl)

-- what holds of the endpoints as they are stored
pub IsSoundRoll-stored : (t : Registry) (held : Held) → AreStored t held
    → IsSoundRoll (record { live = t.live; most = t.most })
IsSoundRoll-stored t held stored = record {
  consistent = stored.sound.consistent;
  aliases = one_holder t.live held stored.agree;
  few = stored.sound.few;
}
