-- Which endpoint is found by a call signal address, and what a change of one registration leaves of
-- the others.
use Rattle.std.proofs.Common.{◌≡◌, ◌≢◌, ℕ, cond, List, refl, sym, ◌∙◌, ap, inl, inr, ◌⊎◌, Some}
use Rattle.std.proofs.Common.{None}
use Rattle.std.specs.Prelude.{Option}
use Rattle.std.specs.Option.{option_map}
use Rattle.std.specs.FinMap as fin
use Rattle.std.proofs.lemmas.Cmp.{nat_list_cmp_total}
use Rattle.std.proofs.lemmas.Map.Lookups.{exact_bytes}
use Rattle.keyed.specs.Maps.{update}
use Rattle.keyed.proofs.Decide.{some_none, same_some}
use Rattle.keyed.proofs.Maps.{by_key, Changed-update}
use Rattle.keyed.proofs.Values.{find_some, find_fails}
use Rattle.ras_module.specs.declared.address.Address.{Address}
use Rattle.ras_module.specs.Addresses.{same_address}
use Rattle.ras_module.specs.Same.{address_decides}
use Rattle.registrations.specs.declared.registration.Registration.{Registration}
use Rattle.registrations.specs.Registry.{Live, at_address, IsConsistent}

-- the endpoint that is found by an address is registered, and has that address
pub record IsAt (live : Live) (address : Address) (r : Registration) : Type 0 where
  pub live_is : fin.get live r.identifier ≡ Some r
  pub address_is : r.call_signal ≡ address

pub IsAt-found : (live : Live) → IsConsistent live → (address : Address) (r : Registration)
    → at_address live address ≡ Some r → IsAt live address r
IsAt-found live sound address r found =
    let row = find_some nat_list_cmp_total exact_bytes
    (λ s. same_address s.call_signal address) live r found in
    record {
      live_is = ap (fin.get live) (sound.own row.0 r row.1) ∙ row.1;
      address_is = (address_decides r.call_signal address).0 row.2;
    }

pub none_at : (live : Live) (address : Address) → at_address live address ≡ None
    → (id : List ℕ) (r : Registration) → fin.get live id ≡ Some r → r.call_signal ≢ address
none_at live address none id r there is =
    some_none (sym (ap (λ b. cond b (Some r) None) ((address_decides r.call_signal address).1 is))
    ∙ ap (λ b. cond b (Some r) None) (find_fails nat_list_cmp_total exact_bytes
    (λ s. same_address s.call_signal address) live none id r there))

-- what a registration was before one of them was changed
pub record WasThere (live : Live) (id : List ℕ) (f : Registration → Registration) (i : List ℕ)
    (s r : Registration) : Type 0 where
  pub there : fin.get live i ≡ Some r
  pub is : (s ≡ r) ⊎ ((i ≡ id) × (s ≡ f r))

mapped : {A : Type 0} (w : Option A) (f : A → A) (s : A) → option_map f w ≡ Some s
    → (r : A) × (w ≡ Some r) × (s ≡ f r)
mapped None f s e = some_none (sym e)
mapped (Some r) f s e = (r, refl, sym (same_some (f r) s e))

pub was_there : (live : Live) (id : List ℕ)
    (f : Registration → Registration) (i : List ℕ) (s : Registration)
    → fin.get (update live id f) i ≡ Some s
    → (r : Registration) × WasThere live id f i s r
was_there live id f i s e =
    let c = Changed-update nat_list_cmp_total exact_bytes live id f in
    by_key nat_list_cmp_total exact_bytes i id ((r : Registration) × WasThere live id f i s r)
    (λ p. let was =
    mapped (fin.get live id) f s (sym c.here ∙ (ap (fin.get (update live id f)) (sym p) ∙ e)) in
    (was.0, record { there = ap (fin.get live) p ∙ was.1; is = inr (p, was.2) }))
    (λ differ. (s, record { there = sym (c.others i differ) ∙ e; is = inl refl }))

pub same_part : {A : Type 0} (live : Live) (id : List ℕ)
    (f : Registration → Registration) (part : Registration → A)
    → ((r : Registration) → part (f r) ≡ part r)
    → (i : List ℕ) (s r : Registration) → WasThere live id f i s r → part s ≡ part r
same_part live id f part keeps i s r was = elim was.is [
  | inl e ↦ ap part e
  | inr e ↦ ap part e.1 ∙ keeps r
]
