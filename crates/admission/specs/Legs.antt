-- The legs of a call: the part that each endpoint has in it.
use Rattle.std.specs.Prelude.{◌≤◌, ◌==◌, ℕ, Bool, List, Option, length, filter, not, nat_eq}
use Rattle.std.specs.List.{find, list_any}
use Rattle.std.specs.Cmp.Lexicographic.{pointwise}
use Rattle.keyed.specs.Places.{AreApart, row_in}
use Rattle.std.specs.Ordering.{on, eq_of_both}
use Rattle.admission.specs.declared.leg.Leg.{Leg}

abbrev pub endpoint_of : Leg → List ℕ
endpoint_of leg = leg.endpoint

-- legs are compared by their endpoint, and by the octets and the port of the address that the
-- endpoint was told
abbrev pub same_leg : Leg → Leg → Bool
same_leg =
    eq_of_both (on (λ leg. leg.endpoint) (pointwise nat_eq))
    (eq_of_both (on (λ leg. leg.told.ip) (pointwise nat_eq)) (on (λ leg. leg.told.port) ◌==◌))

-- a call is between two endpoints, and perhaps only one of them has asked for admission so far: it
-- has one or two legs, of different endpoints
pub record AreLegs (legs : List Leg) : Type 0 where
  pub some : 1 ≤ length legs
  pub few : length legs ≤ 2
  pub apart : AreApart endpoint_of (row_in legs)

-- the leg of this endpoint
abbrev pub leg_of : List Leg → List ℕ → Option Leg
leg_of legs endpoint = find (λ leg. pointwise nat_eq leg.endpoint endpoint) legs

-- the legs of all others
abbrev pub without_leg : List Leg → List ℕ → List Leg
without_leg legs endpoint = filter (λ leg. not (pointwise nat_eq leg.endpoint endpoint)) legs

-- another endpoint than this one has a leg
abbrev pub has_other : List Leg → List ℕ → Bool
has_other legs endpoint = list_any (λ leg. not (pointwise nat_eq leg.endpoint endpoint)) legs
