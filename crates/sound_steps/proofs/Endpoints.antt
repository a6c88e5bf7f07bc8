-- The endpoints stay sound as one of them comes, changes or goes.
use Rattle.std.proofs.Common.{◌≡◌, ◌&&◌, ℕ, Bool, true, false, not, cond, List, [], ◌∷◌}
use Rattle.std.proofs.Common.{refl, sym, ◌∙◌, ap, subst, Some, None, arith}
use Rattle.std.specs.Prelude.{Contains, Option, filter}
use Rattle.std.specs.Option.{option_map, unwrap_or}
use Rattle.std.specs.FinMap as fin
use Rattle.std.proofs.lemmas.Cmp.{nat_list_cmp_total}
use Rattle.std.proofs.lemmas.Map.Lookups.{exact_bytes}
use Rattle.keyed.specs.Maps.{Changed, update}
use Rattle.keyed.proofs.Decide.{Contains-parts, any_decides, same_some}
use Rattle.keyed.proofs.Maps.{by_key, Changed-update}
use Rattle.keyed.proofs.Values.{any_row}
use Rattle.ras_module.specs.declared.address.Address.{Address}
use Rattle.ras_module.specs.declared.alias.Alias.{Alias}
use Rattle.ras_module.specs.Addresses.{same_address}
use Rattle.ras_module.specs.Aliases.{has_alias, same_alias}
use Rattle.ras_module.specs.Same.{address_decides, alias_decides}
use Rattle.registrations.specs.declared.registration.Registration.{Registration}
use Rattle.registrations.specs.Registry.{Live, IsConsistent, after_hear, after_rewrite, at_address}
use Rattle.registrations.specs.Registry.{with_deadline}
use Rattle.registrations.specs.Agreement.{is_registered_elsewhere, registered_elsewhere}
use Rattle.registrations.proofs.Consistent.{IsAt, IsAt-found, none_at, same_part, was_there}
use Rattle.zone_tables.specs.declared.change.EndpointChange.{EndpointChange}
use Rattle.zone_tables.specs.declared.change.EndpointChange.TheVariants.{Renewal, Rewriting}
use Rattle.zone_tables.specs.declared.change.EndpointChange.TheVariants.{Addition, Removal}
use Rattle.zone_tables.specs.declared.entry.Entry.{Entry}
use Rattle.zone_tables.specs.Changes.{IsEndpointChange, IsRewritable}
use Rattle.zone_tables.specs.Changes.{after_endpoint_change}
use Rattle.zone_tables.specs.Tables.{heard_now, identifier_at}
use Rattle.zone_tables.specs.Parts.{IsSoundRoll, Roll}
use Rattle.zone_tables.specs.Soundness.{HaveAliasesApart}
use Rattle.sound_steps.proofs.Lookups.{was_left, was_or_put}
use Rattle.sound_steps.proofs.Sizes.{len_removed, len_updated, len_within}

module _ (live : Live) where
  -- after one came, who is registered is that one, or was before
  came : (r : Registration) (i : List ℕ) (s : Registration) (P : Type 0)
      → fin.get (fin.insert live r.identifier r) i ≡ Some s
      → (i ≡ r.identifier → r ≡ s → P) → (fin.get live i ≡ Some s → P) → P
  came r = was_or_put nat_list_cmp_total exact_bytes live r.identifier r

  -- after one went, who is registered was so before
  left : (id i : List ℕ) (s : Registration) → fin.get (fin.remove live id) i ≡ Some s
      → fin.get live i ≡ Some s
  left id = was_left nat_list_cmp_total exact_bytes live id

-- no alias of a list that nobody else holds is that of an endpoint with another address
nobody_of : (p : Alias → Bool) (aliases : List Alias) (alias : Alias) → filter p aliases ≡ []
    → Contains aliases alias → p alias ≡ false
nobody_of p [] alias none has = absurd (omega (arith, has.1))
nobody_of p (a ∷ aliases) alias none has =
    first (p a) refl none (nobody_of p aliases alias) where
      first : (b : Bool) → p a ≡ b → cond b (a ∷ filter p aliases) (filter p aliases) ≡ []
          → (filter p aliases ≡ [] → Contains aliases alias → p alias ≡ false) → p alias ≡ false
      first true is h rest = absurd (cc h)
      first false is h rest =
          Contains-parts a aliases alias (p alias ≡ false) has
          (λ same. ap p (sym same) ∙ is) (λ later. rest h later)

-- it has the alias, so it has the address too
its_address : (a b : Bool) → (a && not b) ≡ false → a ≡ true → b ≡ true
its_address true true is has = refl
its_address true false is has = absurd (cc is)
its_address false b is has = absurd (cc has)

-- a test that cannot pass fails
no_row : (b : Bool) → (b ≡ true → ⊥) → b ≡ false
no_row true h = absurd (h refl)
no_row false h = refl

-- so if nobody else holds an alias of the list, who holds it has the address
pub holder_has_address : (live : Live) (address : Address) (aliases : List Alias)
    → registered_elsewhere live address aliases ≡ [] → (alias : Alias) → Contains aliases alias
    → (id : List ℕ) (s : Registration) → fin.get live id ≡ Some s → Contains s.aliases alias
    → s.call_signal ≡ address
holder_has_address live address aliases none alias has id s there holds =
    let test = λ (r : Registration). has_alias r.aliases alias
    && not (same_address r.call_signal address) in
    let nobody : is_registered_elsewhere live address alias ≡ false =
    nobody_of (is_registered_elsewhere live address) aliases alias none has in
    let fails : (has_alias s.aliases alias && not (same_address s.call_signal address)) ≡ false =
    no_row (has_alias s.aliases alias && not (same_address s.call_signal address))
    (λ passes. cc (nobody, any_row nat_list_cmp_total exact_bytes test live id s there passes)) in
    (address_decides s.call_signal address).0
    (its_address (has_alias s.aliases alias) (same_address s.call_signal address) fails
    ((any_decides same_alias alias_decides s.aliases alias).1 holds))

module _ (live : Live) (sound : IsConsistent live) where
  -- one changes, and keeps its identifier and its call signal address
  consistent-changed : (id : List ℕ) (f : Registration → Registration)
      → ((r : Registration) → (f r).identifier ≡ r.identifier)
      → ((r : Registration) → (f r).call_signal ≡ r.call_signal)
      → IsConsistent (update live id f)
  consistent-changed id f same_id same_signal = record {
    own = λ i s there.
        (let was = was_there live id f i s there in
        same_part live id f (λ r. r.identifier) same_id i s was.0 was.1
        ∙ sound.own i was.0 was.1.there);
    apart = λ i j r s at other same.
        (let a = was_there live id f i r at in
        let b = was_there live id f j s other in
        sound.apart i j a.0 b.0 a.1.there b.1.there
        (sym (same_part live id f (λ r. r.call_signal) same_signal i r a.0 a.1)
        ∙ (same ∙ same_part live id f (λ r. r.call_signal) same_signal j s b.0 b.1)));
  }

  -- one comes, with an address of its own
  consistent-came : (r : Registration) → at_address live r.call_signal ≡ None
      → IsConsistent (fin.insert live r.identifier r)
  consistent-came r free = record {
    own = λ i s there. came live r i s (s.identifier ≡ i) there
        (λ here is. ap (λ (x : Registration). x.identifier) (sym is) ∙ sym here)
        (λ was. sound.own i s was);
    apart = λ i j a b at other same.
        came live r i a (i ≡ j) at
        (λ here is. came live r j b (i ≡ j) other
        (λ there_too _. here ∙ sym there_too)
        (λ was. absurd (none_at live r.call_signal free j b was
        (sym same ∙ ap (λ (x : Registration). x.call_signal) (sym is)))))
        (λ was. came live r j b (i ≡ j) other
        (λ here is. absurd (none_at live r.call_signal free i a was
        (same ∙ ap (λ (x : Registration). x.call_signal) (sym is))))
        (λ was_too. sound.apart i j a b was was_too same));
  }

  -- one goes
  consistent-went : (id : List ℕ) → IsConsistent (fin.remove live id)
  consistent-went id = record {
    own = λ i s there. sound.own i s (left live id i s there);
    apart = λ i j r s at other same.
        sound.apart i j r s (left live id i r at) (left live id j s other) same;
  }

module _ (live : Live) (apart : HaveAliasesApart live) where
  -- one changes, and keeps its aliases
  aliases-changed : (id : List ℕ) (f : Registration → Registration)
      → ((r : Registration) → (f r).aliases ≡ r.aliases) → HaveAliasesApart (update live id f)
  aliases-changed id f keeps i j r s alias at other has holds =
      let a = was_there live id f i r at in
      let b = was_there live id f j s other in
      apart i j a.0 b.0 alias a.1.there b.1.there
      (subst (λ (xs : List Alias). Contains xs alias)
      (same_part live id f (λ r. r.aliases) keeps i r a.0 a.1) has)
      (subst (λ (xs : List Alias). Contains xs alias)
      (same_part live id f (λ r. r.aliases) keeps j s b.0 b.1) holds)

  -- one comes, with aliases that nobody holds
  aliases-came : (r : Registration) → at_address live r.call_signal ≡ None
      → registered_elsewhere live r.call_signal r.aliases ≡ []
      → HaveAliasesApart (fin.insert live r.identifier r)
  aliases-came r free none i j a b alias at other has holds =
      came live r i a (i ≡ j) at
      (λ here is. came live r j b (i ≡ j) other
      (λ there_too _. here ∙ sym there_too)
      (λ was. taken j b was (subst (λ (x : Registration). Contains x.aliases alias) (sym is) has)
      holds))
      (λ was. came live r j b (i ≡ j) other
      (λ here is. taken i a was
      (subst (λ (x : Registration). Contains x.aliases alias) (sym is) holds) has)
      (λ was_too. apart i j a b alias was was_too has holds)) where
        taken : {P : Type 0} (k : List ℕ) (s : Registration) → fin.get live k ≡ Some s
            → Contains r.aliases alias → Contains s.aliases alias → P
        taken k s there asked held = absurd (none_at live r.call_signal free k s there
            (holder_has_address live r.call_signal r.aliases none alias asked k s there held))

  -- one goes
  aliases-went : (id : List ℕ) → HaveAliasesApart (fin.remove live id)
  aliases-went id i j r s alias at other has holds =
      apart i j r s alias (left live id i r at) (left live id j s other) has holds

  -- one registers anew, with aliases that nobody else holds
  aliases-rewritten : IsConsistent live → (id : List ℕ) (e : Entry) (deadline most : ℕ)
      → IsRewritable (record { live = live; most = most }) id e
      → HaveAliasesApart (update live id (after_rewrite e.ras e.aliases deadline))
  aliases-rewritten sound id e deadline most can i j r s alias at other has holds =
      by_key nat_list_cmp_total exact_bytes i id (i ≡ j)
      (λ here. by_key nat_list_cmp_total exact_bytes j id (i ≡ j)
      (λ here_too. here ∙ sym here_too)
      (λ differ. here ∙ sym (its_own j s (sym (c.others j differ) ∙ other) (new i r here at has)
      holds)))
      (λ differ. by_key nat_list_cmp_total exact_bytes j id (i ≡ j)
      (λ here. its_own i r (sym (c.others i differ) ∙ at) (new j s here other holds) has
      ∙ sym here)
      (λ differ_too. apart i j r s alias (sym (c.others i differ) ∙ at)
      (sym (c.others j differ_too) ∙ other) has holds)) where
        f : Registration → Registration
        f = after_rewrite e.ras e.aliases deadline

        at_old : IsAt live e.call_signal can.old
        at_old = IsAt-found live sound e.call_signal can.old can.found

        c : Changed (fin.get live) (fin.get (update live id f)) id (option_map f (fin.get live id))
        c = Changed-update nat_list_cmp_total exact_bytes live id f

        -- an alias of the endpoint that registers is one of the new ones
        new : (k : List ℕ) (x : Registration) → k ≡ id → fin.get (update live id f) k ≡ Some x
            → Contains x.aliases alias → Contains e.aliases alias
        new k x here there held = subst (λ (y : Registration). Contains y.aliases alias)
            (same_some x (f can.old) (sym there
            ∙ (ap (fin.get (update live id f)) here
            ∙ (c.here ∙ ap (option_map f)
            (ap (fin.get live) (sym can.identifier) ∙ at_old.live_is))))) held

        -- which only the endpoint itself may hold
        its_own : (k : List ℕ) (x : Registration) → fin.get live k ≡ Some x
            → Contains e.aliases alias → Contains x.aliases alias → k ≡ id
        its_own k x there asked held =
            sound.apart k can.old.identifier x can.old there at_old.live_is
            (holder_has_address live e.call_signal e.aliases can.aliases alias asked k x there held
            ∙ sym at_old.address_is) ∙ can.identifier

-- one changes, and keeps its identifier, its call signal address and its aliases
pub roll-changed : (roll : Roll) → IsSoundRoll roll → (id : List ℕ)
    (f : Registration → Registration)
    → ((r : Registration) → (f r).identifier ≡ r.identifier)
    → ((r : Registration) → (f r).call_signal ≡ r.call_signal)
    → ((r : Registration) → (f r).aliases ≡ r.aliases)
    → IsSoundRoll (record { live = update roll.live id f; most = roll.most })
roll-changed roll sound id f same_id same_signal same_aliases = record {
  consistent = consistent-changed roll.live sound.consistent id f same_id same_signal;
  aliases = aliases-changed roll.live sound.aliases id f same_aliases;
  few = omega (arith, len_updated nat_list_cmp_total exact_bytes roll.live id f, sound.few);
}

-- one was heard
pub roll-heard : (roll : Roll) → IsSoundRoll roll → (now : ℕ) (id : List ℕ)
    → IsSoundRoll (record { live = heard_now now id roll.live; most = roll.most })
roll-heard roll sound now id =
    roll-changed roll sound id (after_hear now) (λ r. refl) (λ r. refl) (λ r. refl)

-- one goes
pub roll-went : (roll : Roll) → IsSoundRoll roll → (id : List ℕ)
    → IsSoundRoll (record { live = fin.remove roll.live id; most = roll.most })
roll-went roll sound id = record {
  consistent = consistent-went roll.live sound.consistent id;
  aliases = aliases-went roll.live sound.aliases id;
  few = omega (arith, len_removed nat_list_cmp_total exact_bytes roll.live id, sound.few);
}

-- whatever change of an endpoint can be made
pub roll-after : (roll : Roll) → IsSoundRoll roll → (now : ℕ) (who : Option (List ℕ))
    (change : EndpointChange) → IsEndpointChange roll who change
    → IsSoundRoll (record {
      live = after_endpoint_change now who change roll.live;
      most = roll.most;
    })
roll-after roll sound now who (Renewal deadline) can =
    roll-changed roll sound (unwrap_or who []) (with_deadline deadline) (λ r. refl) (λ r. refl)
    (λ r. refl)
roll-after roll sound now who (Rewriting e deadline) can =
    let id = identifier_at roll.live e.call_signal in
    let f = after_rewrite e.ras e.aliases deadline in
    roll-heard (record { live = update roll.live id f; most = roll.most }) (record {
      consistent = consistent-changed roll.live sound.consistent id f (λ r. refl) (λ r. refl);
      aliases = aliases-rewritten roll.live sound.aliases sound.consistent id e deadline roll.most
          can;
      few = omega (arith, len_updated nat_list_cmp_total exact_bytes roll.live id f, sound.few);
    }) now id
roll-after roll sound now who (Addition r) can = record {
  consistent = consistent-came roll.live sound.consistent r can.address;
  aliases = aliases-came roll.live sound.aliases r can.address can.aliases;
  few = len_within nat_list_cmp_total exact_bytes roll.live r.identifier r roll.most sound.few
      (λ none. omega (arith, sound.few, can.place));
}
roll-after roll sound now who (Removal address) can =
    roll-went roll sound (identifier_at roll.live address)
