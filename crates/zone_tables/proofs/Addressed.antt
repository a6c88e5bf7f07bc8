-- An endpoint is found by its own call signal address.
use Rattle.std.proofs.Common.{◌≡◌, ◌∙◌, List, ℕ, Some, None, ap, refl, sym}
use Rattle.std.specs.Prelude.{IsSome, Option}
use Rattle.std.specs.FinMap as fin
use Rattle.keyed.proofs.Decide.{same_some}
use Rattle.ras_module.specs.declared.address.Address.{Address}
use Rattle.registrations.specs.declared.registration.Registration.{Registration}
use Rattle.registrations.specs.Registry.{IsConsistent, Live, at_address}
use Rattle.registrations.proofs.Consistent.{IsAt-found, none_at}
use Rattle.zone_tables.specs.Tables.{identifier_at, identifier_or_none}
use Rattle.zone_tables.proofs.Answered.{is_there}

module _ (live : Live) (sound : IsConsistent live) where
  -- whoever is found by an address is registered under its identifier
  pub is_registered_at : (address : Address) (r : Registration)
      → at_address live address ≡ Some r → IsSome (fin.get live r.identifier)
  is_registered_at address r found =
      is_there (fin.get live r.identifier) r (IsAt-found live sound address r found).live_is

  pub found_at : (id : List ℕ) (r : Registration) → fin.get live id ≡ Some r
      → at_address live r.call_signal ≡ Some r
  found_at id r there = cases (at_address live r.call_signal) refl where
    cases : (w : Option Registration) → at_address live r.call_signal ≡ w
        → at_address live r.call_signal ≡ Some r
    cases None none = absurd (none_at live r.call_signal none id r there refl)
    cases (Some s) found =
        let at = IsAt-found live sound r.call_signal s found in
        let same = sound.apart s.identifier id s r at.live_is there at.address_is in
        found ∙ ap (λ (x : Registration). Some x)
        (same_some s r (sym at.live_is ∙ (ap (fin.get live) same ∙ there)))

  -- so its address names it in a change
  pub identifier_is : (id : List ℕ) (r : Registration) → fin.get live id ≡ Some r
      → identifier_at live r.call_signal ≡ id
  identifier_is id r there =
      ap identifier_or_none (found_at id r there) ∙ sound.own id r there
