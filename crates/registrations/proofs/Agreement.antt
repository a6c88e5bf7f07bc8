-- How the registrations and the table of the aliases keep in agreement.
use Rattle.std.proofs.Common.{◌≡◌, ◌≢◌, ◌&&◌, ℕ, Bool, true, false, not, cond, List, [], ◌∷◌, refl}
use Rattle.std.proofs.Common.{sym, ◌∙◌, ap, subst, arith, Some, None}
use Rattle.std.specs.Prelude.{Option, Contains}
use Rattle.std.specs.Option.{option_map}
use Rattle.std.specs.Ordering.{nat_cmp}
use Rattle.std.specs.Cmp.Lexicographic.{slice_cmp}
use Rattle.std.specs.FinMap as fin
use Rattle.std.proofs.lemmas.Cmp.{nat_list_cmp_total}
use Rattle.std.proofs.lemmas.Map.Lookups.{exact_bytes}
use Rattle.std.proofs.lemmas.Bool.{and_from, not-false}
use Rattle.keyed.specs.Maps.{update, Changed}
use Rattle.keyed.proofs.Decide.{by_member, Contains-parts, any_decides, some_none, same_some}
use Rattle.keyed.proofs.Maps.{by_key, Changed-insert, Changed-remove, Changed-update, insert_over}
use Rattle.keyed.proofs.Maps.{update_there}
use Rattle.keyed.proofs.Values.{any_row, no_row_passes}
use Rattle.ras_module.specs.declared.address.Address.{Address}
use Rattle.ras_module.specs.declared.alias.Alias.{Alias}
use Rattle.ras_module.specs.Addresses.{same_address}
use Rattle.ras_module.specs.Aliases.{same_alias, alias_cmp, has_alias}
use Rattle.ras_module.specs.Same.{address_decides, alias_decides}
use Rattle.aliases.specs.Held.{Held, Holding, holding_by, is_elsewhere, conflicts, with_aliases}
use Rattle.aliases.specs.Held.{without_holder}
use Rattle.aliases.proofs.Entering.{get-with_aliases, get-with_other_aliases, get-without_holder}
use Rattle.aliases.proofs.Entering.{get-without_own, get-without_another, was_held}
use Rattle.registrations.specs.declared.registration.Registration.{Registration}
use Rattle.registrations.specs.Registry.{Live, at_address, IsConsistent}
use Rattle.registrations.specs.Agreement.{Agree, IsHolder, is_registered_elsewhere}
use Rattle.registrations.specs.Agreement.{registered_elsewhere}
use Rattle.registrations.proofs.Consistent.{none_at, IsAt-found, was_there, same_part}

-- nothing is registered, and no alias held
pub Agree-empty : Agree fin.empty fin.empty
Agree-empty = record {
  holds = λ id r alias e has. some_none (sym e ∙ fin.get-empty (slice_cmp nat_cmp) id);
  held_by = λ alias h e. some_none (sym e ∙ fin.get-empty alias_cmp alias);
}

-- no two registrations share an alias
pub one_holder : (live : Live) (held : Held) → Agree live held
    → (i j : List ℕ) (r s : Registration) (alias : Alias) → fin.get live i ≡ Some r
    → fin.get live j ≡ Some s
    → Contains r.aliases alias → Contains s.aliases alias → i ≡ j
one_holder live held agree i j r s alias p q a b =
    ap (λ (h : Holding). h.holder) (same_some (holding_by i r.call_signal)
    (holding_by j s.call_signal) (sym (agree.holds i r alias p a) ∙ agree.holds j s alias q b))

-- a registration goes, with its aliases
pub Agree-remove : (live : Live) (held : Held) (id : List ℕ) → Agree live held
    → Agree (fin.remove live id) (without_holder held id)
Agree-remove live held id agree =
    let c = Changed-remove nat_list_cmp_total exact_bytes live id in
    record {
      holds = λ i r alias e has. by_key nat_list_cmp_total exact_bytes i id
          (fin.get (without_holder held id) alias ≡ Some (holding_by i r.call_signal))
          (λ p. some_none (sym e ∙ (ap (fin.get (fin.remove live id)) p ∙ c.here)))
          (λ differ. get-without_another held id alias (holding_by i r.call_signal)
          (agree.holds i r alias (sym (c.others i differ) ∙ e) has) differ);
      held_by = λ alias h e.
          (let was = was_held held id alias h e in
          let by = agree.held_by alias h was.0 in (
            by.0,
            record {
              live_is = c.others h.holder was.1
                  ∙ by.1.live_is;
              has = by.1.has;
              address_is = by.1.address_is;
            },
          ));
    }

-- a registration comes, with aliases that nobody holds
pub Agree-insert : (live : Live) (held : Held) (r : Registration) → Agree live held
    → fin.get live r.identifier ≡ None
    → ((alias : Alias) → Contains r.aliases alias → fin.get held alias ≡ None)
    → Agree (fin.insert live r.identifier r)
    (with_aliases held r.aliases r.identifier r.call_signal)
Agree-insert live held r agree absent free = record { holds = holds; held_by = held_by } where
  c : Changed (fin.get live) (fin.get (fin.insert live r.identifier r)) r.identifier (Some r)
  c = Changed-insert nat_list_cmp_total exact_bytes live r.identifier r

  holds : (id : List ℕ) (s : Registration) (alias : Alias)
      → fin.get (fin.insert live r.identifier r) id ≡ Some s → Contains s.aliases alias
      → fin.get (with_aliases held r.aliases r.identifier r.call_signal) alias
      ≡ Some (holding_by id s.call_signal)
  holds id s alias e has = by_key nat_list_cmp_total exact_bytes id r.identifier _
      (λ p. let same : r ≡ s = same_some r s
      (sym c.here ∙ (ap (fin.get (fin.insert live r.identifier r)) (sym p) ∙ e)) in
      get-with_aliases held r.aliases r.identifier r.call_signal alias
      (subst (λ (x : Registration). Contains x.aliases alias) (sym same) has)
      ∙ (λ i. Some (holding_by (sym p i) (same i).call_signal)))
      (λ differ. let was = agree.holds id s alias (sym (c.others id differ) ∙ e) has in
      get-with_other_aliases held r.aliases r.identifier r.call_signal alias
      (λ own. some_none (sym was ∙ free alias own)) ∙ was)

  held_by : (alias : Alias) (h : Holding)
      → fin.get (with_aliases held r.aliases r.identifier r.call_signal) alias ≡ Some h
      → (s : Registration) × IsHolder (fin.insert live r.identifier r) alias h s
  held_by alias h e = by_member same_alias alias_decides r.aliases alias _
      (λ own. let same : holding_by r.identifier r.call_signal ≡ h = same_some _ h
      (sym (get-with_aliases held r.aliases r.identifier r.call_signal alias own) ∙ e) in (
        r,
        record {
          live_is = ap (fin.get (fin.insert live r.identifier r))
              (sym (ap (λ (x : Holding). x.holder) same)) ∙ c.here;
          has = own;
          address_is = sym (ap (λ (x : Holding). x.address) same);
        },
      ))
      (λ other. let was =
      sym (get-with_other_aliases held r.aliases r.identifier r.call_signal alias other) ∙ e in
      let by = agree.held_by alias h was in
      let apart : h.holder ≢ r.identifier = λ p. some_none
      (sym by.1.live_is ∙ (ap (fin.get live) p ∙ absent)) in (
        by.0,
        record {
          live_is = c.others h.holder apart
              ∙ by.1.live_is;
          has = by.1.has;
          address_is = by.1.address_is;
        },
      ))

-- a registration is rewritten: its aliases go, and new ones come that no other endpoint holds
pub Agree-rewrite : (live : Live) (held : Held) (id : List ℕ) (old new : Registration)
    (f : Registration → Registration)
    → Agree live held → fin.get live id ≡ Some old
    → f old ≡ new → new.identifier ≡ id
    → ((alias : Alias) → Contains new.aliases alias → fin.get (without_holder held id) alias ≡ None)
    → Agree (update live id f)
    (with_aliases (without_holder held id) new.aliases id new.call_signal)
Agree-rewrite live held id old new f agree there is named free =
    let gone = Agree-remove live held id agree in
    let absent : fin.get (fin.remove live id) new.identifier ≡ None = ap
    (fin.get (fin.remove live id)) named ∙
    (Changed-remove nat_list_cmp_total exact_bytes live id).here in
    let come = Agree-insert (fin.remove live id) (without_holder held id) new gone absent free in
    let map_is : fin.insert (fin.remove live id) new.identifier new ≡ update live id f =
    ap (λ k. fin.insert (fin.remove live id) k new) named
    ∙ (insert_over nat_list_cmp_total exact_bytes live id new
    ∙ (ap (fin.insert live id) (sym is)
    ∙ sym (update_there nat_list_cmp_total exact_bytes live id old f there))) in
    subst (λ (m : Live). Agree m
    (with_aliases (without_holder held id) new.aliases id new.call_signal)) map_is
    (subst (λ (k : List ℕ). Agree (fin.insert (fin.remove live id) new.identifier new)
    (with_aliases (without_holder held id) new.aliases k new.call_signal)) named come)

-- a registration is changed, and keeps its aliases and its call signal address
pub Agree-update : (live : Live) (held : Held) (id : List ℕ) (f : Registration → Registration)
    → Agree live held
    → ((r : Registration) → (f r).call_signal ≡ r.call_signal)
    → ((r : Registration) → (f r).aliases ≡ r.aliases) → Agree (update live id f) held
Agree-update live held id f agree same_signal same_aliases = record {
  holds = λ i s alias e has.
      (let was = was_there live id f i s e in
      let aliases = same_part live id f (λ r. r.aliases) same_aliases i s was.0 was.1 in
      let signal = same_part live id f (λ r. r.call_signal) same_signal i s was.0 was.1 in
      agree.holds i was.0 alias was.1.there (subst (λ (xs : List Alias). Contains xs alias) aliases
      has) ∙ ap (λ a. Some (holding_by i a)) (sym signal));
  held_by = λ alias h e.
      (let by = agree.held_by alias h e in
      by_key nat_list_cmp_total exact_bytes h.holder id
      ((r : Registration) × IsHolder (update live id f) alias h r)
      (λ p. (
        f by.0,
        record {
          live_is = ap (fin.get (update live id f)) p
              ∙ ((Changed-update nat_list_cmp_total exact_bytes live id f).here
              ∙ ap (option_map f) (ap (fin.get live) (sym p) ∙ by.1.live_is));
          has = subst (λ (xs : List Alias). Contains xs alias) (sym (same_aliases by.0)) by.1.has;
          address_is = by.1.address_is ∙ sym (same_signal by.0);
        },
      ))
      (λ differ. (
        by.0,
        record {
          live_is = (Changed-update nat_list_cmp_total exact_bytes live id f).others h.holder differ
              ∙ by.1.live_is;
          has = by.1.has;
          address_is = by.1.address_is;
        },
      )));
}

-- conflicts: the aliases that the table reports are those of registrations with another call signal
-- address
module _ (live : Live) (held : Held) (agree : Agree live held) (address : Address) where
  elsewhere_is : (alias : Alias)
      → is_elsewhere address (fin.get held alias) ≡ is_registered_elsewhere live address alias
  elsewhere_is alias = cases (fin.get held alias) refl where
    cases : (w : Option Holding) → fin.get held alias ≡ w
        → is_elsewhere address w ≡ is_registered_elsewhere live address alias
    cases None none = sym (no_row_passes nat_list_cmp_total exact_bytes
        (λ r. has_alias r.aliases alias && not (same_address r.call_signal address)) live
        (λ id r there. fails (has_alias r.aliases alias) (not (same_address r.call_signal address))
        (λ has. some_none (sym (agree.holds id r alias there
        ((any_decides same_alias alias_decides r.aliases alias).0 has)) ∙ none)))) where
          fails : (a b : Bool) → (a ≡ true → ⊥) → (a && b) ≡ false
          fails true b h = absurd (h refl)
          fails false b h = refl
    cases (Some h) there = at (agree.held_by alias h there)
        (same_address h.address address) refl where
          at : (r : Registration) × IsHolder live alias h r → (b : Bool)
              → same_address h.address address ≡ b
              → not b ≡ is_registered_elsewhere live address alias
          at by true is = sym (no_row_passes nat_list_cmp_total exact_bytes
              (λ r. has_alias r.aliases alias && not (same_address r.call_signal address)) live
              (λ id r live_is. both_fail (has_alias r.aliases alias)
              (same_address r.call_signal address)
              (λ has. (let mine = agree.holds id r alias live_is
              ((any_decides same_alias alias_decides r.aliases alias).0 has) in
              let signal = ap (λ (x : Holding). x.address)
              (same_some h (holding_by id r.call_signal) (sym there ∙ mine)) in
              ap (λ a. same_address a address) (sym signal) ∙ is)))) where
                both_fail : (a b : Bool) → (a ≡ true → b ≡ true) → (a && not b) ≡ false
                both_fail true b h = ap not (h refl)
                both_fail false b h = refl
          at by false is = sym (any_row nat_list_cmp_total exact_bytes (λ r. has_alias r.aliases
              alias && not (same_address r.call_signal address)) live h.holder by.0 by.1.live_is
              (and_from _ _
              ((any_decides same_alias alias_decides (by.0).aliases alias).1 by.1.has)
              (ap not (ap (λ a. same_address a address) (sym by.1.address_is) ∙ is))))

  pub conflicts_are : (aliases : List Alias)
      → conflicts held address aliases ≡ registered_elsewhere live address aliases
  conflicts_are [] = refl
  conflicts_are (a ∷ aliases) = λ i. cond (elsewhere_is a i) (a ∷ conflicts_are aliases i)
      (conflicts_are aliases i)

-- an alias that isn't held elsewhere
module _ (held : Held) (address : Address) where
  not_first : (a : Alias) (aliases : List Alias) (b : Bool)
      → cond b (a ∷ conflicts held address aliases) (conflicts held address aliases) ≡ []
      → (b ≡ false) × (conflicts held address aliases ≡ [])
  not_first a aliases true e = absurd (cc e)
  not_first a aliases false e = (refl, e)

  pub not_elsewhere : (aliases : List Alias) → conflicts held address aliases ≡ []
      → (alias : Alias) → Contains aliases alias
      → is_elsewhere address (fin.get held alias) ≡ false
  not_elsewhere [] none alias h = absurd (omega (arith, h.1))
  not_elsewhere (a ∷ aliases) none alias h =
      let parts = not_first a aliases (is_elsewhere address (fin.get held a)) none in
      Contains-parts a aliases alias _ h
      (λ e. ap (λ x. is_elsewhere address (fin.get held x)) (sym e) ∙ parts.0)
      (λ later. not_elsewhere aliases parts.1 alias later)

  here_or_nowhere : (alias : Alias) (w : Option Holding) (P : Type 0)
      → is_elsewhere address w ≡ false → (w ≡ None → P)
      → ((h : Holding) → w ≡ Some h → h.address ≡ address → P) → P
  here_or_nowhere alias None P e f g = f refl
  here_or_nowhere alias (Some h) P e f g = g h refl
      ((address_decides h.address address).0 (not-false (same_address h.address address) e))

-- if none of the aliases of a request is held elsewhere, and nobody has its address, then nobody
-- holds one of them
pub free_for_new : (live : Live) (held : Held) (address : Address) (aliases : List Alias)
    → Agree live held → at_address live address ≡ None → conflicts held address aliases ≡ []
    → (alias : Alias) → Contains aliases alias → fin.get held alias ≡ None
free_for_new live held address aliases agree nobody none alias has =
    here_or_nowhere held address alias (fin.get held alias) _
    (not_elsewhere held address aliases none alias has) (λ e. e)
    (λ h there is. (let by = agree.held_by alias h there in
    absurd (none_at live address nobody h.holder by.0 by.1.live_is (sym by.1.address_is ∙ is))))

-- and if an endpoint has the address, nobody else holds one of them
pub free_for_old : (live : Live) (held : Held) (address : Address)
    (aliases : List Alias) (old : Registration)
    → Agree live held → IsConsistent live
    → at_address live address ≡ Some old → conflicts held address aliases ≡ [] → (alias : Alias)
    → Contains aliases alias
    → fin.get (without_holder held old.identifier) alias ≡ None
free_for_old live held address aliases old agree sound found none alias has =
    let at = IsAt-found live sound address old found in
    here_or_nowhere held address alias (fin.get held alias) _
    (not_elsewhere held address aliases none alias has)
    (λ e. get-without_holder held old.identifier alias e)
    (λ h there is. (let by = agree.held_by alias h there in
    get-without_own held old.identifier alias h there
    (sound.apart h.holder old.identifier by.0 old by.1.live_is at.live_is
    (sym by.1.address_is ∙ (is ∙ sym at.address_is)))))
