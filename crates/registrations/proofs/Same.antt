-- Two tables have the same registrations if and only if each has what the other stores.
use Rattle.std.proofs.Common.{◌≡◌, ◌&&◌, ◌↔◌, ℕ, Bool, false, List, refl, sym, ◌∙◌, ap, subst, Some}
use Rattle.std.proofs.Common.{None}
use Rattle.std.specs.Prelude.{IsTrue, Option}
use Rattle.std.specs.FinMap as fin
use Rattle.std.proofs.lemmas.Bool.{and_parts, and_from}
use Rattle.std.proofs.lemmas.Cmp.{nat_list_cmp_total}
use Rattle.std.proofs.lemmas.Map.Lookups.{exact_bytes}
use Rattle.slab.specs.Slab.{Slab, get}
use Rattle.keyed.proofs.Decide.{some_none}
use Rattle.keyed.proofs.Places.{IsMapOf}
use Rattle.registrations.specs.declared.registration.Registration.{Registration}
use Rattle.registrations.specs.Registry.{Live, identifier_of}
use Rattle.registrations.specs.inside.Stored.{AreAllIn}

abbrev IsMap : Slab Registration → Live → Type 0
IsMap rows m = IsMapOf identifier_of (λ r. r) (get rows) m

all_own : (rows : Slab Registration) (m : Live) → IsMap rows m → AreAllIn m rows
all_own rows m own place r there = own.has place r there

carried : (rows : Slab Registration) (m n : Live) → IsMap rows m → AreAllIn n rows
    → (id : List ℕ) (r : Registration) → fin.get m id ≡ Some r → fin.get n id ≡ Some r
carried rows m n own all id r e =
    let s = own.stands id r e in
    ap (fin.get n) (sym s.2.key_is) ∙ (all s.0 s.1 s.2.there ∙ ap Some s.2.value_is)

each_other : (rows others : Slab Registration) (m n : Live) → IsMap rows m → IsMap others n
    → AreAllIn m others → AreAllIn n rows → m ≡ n
each_other rows others m n own own' has had =
    fin.same_map nat_list_cmp_total exact_bytes m n
    (λ id. cases id (fin.get m id) (fin.get n id) refl refl) where
      cases : (id : List ℕ) (x y : Option Registration) → fin.get m id ≡ x → fin.get n id ≡ y
          → fin.get m id ≡ fin.get n id
      cases id (Some r) y p e = p ∙ sym (carried rows m n own had id r p)
      cases id None (Some r) p e = some_none (sym (carried others n m own' has id r e) ∙ p)
      cases id None None p e = p ∙ sym e

pub both_have : (rows others : Slab Registration) (m n : Live) → IsMap rows m → IsMap others n
    → (a b : Bool) → (IsTrue a ↔ AreAllIn m others) → (IsTrue b ↔ AreAllIn n rows)
    → IsTrue (a && b) ↔ (m ≡ n)
both_have rows others m n own own' a b first second = (
  λ h.
      (let both = and_parts a b h in
      each_other rows others m n own own' (first.0 both.0) (second.0 both.1)),
  λ e. and_from a b
      (first.1 (subst (λ (k : Live). AreAllIn k others) (sym e) (all_own others n own')))
      (second.1 (subst (λ (k : Live). AreAllIn k rows) e (all_own rows m own))),
)

pub one_lacks : (others : Slab Registration) (m n : Live) → IsMap others n → (a : Bool)
    → (IsTrue a ↔ AreAllIn m others) → a ≡ false → IsTrue a ↔ (m ≡ n)
one_lacks others m n own' a first fails = (
  λ h. absurd (cc (sym fails ∙ h)),
  λ e. first.1 (subst (λ (k : Live). AreAllIn k others) (sym e) (all_own others n own')),
)
