-- Octets that are kept: at most as many as a request has.
use Rattle.std.specs.Prelude.{◌≡◌, ◌≤◌, ◌<◌, ℕ, List, Result, Ok, Err, length, Vec, vec_capacity}
use Rattle.ras_module.specs.declared.request.TheConstants.Request as request_octets

-- these are at most as many as a request has, in a buffer that has room for no more than that
pub record IsBounded {Z : Type 0} (octets : Vec ℕ Z) : Type 0 where
  pub few : length octets.items ≤ request_octets.MOST
  pub buffer : vec_capacity octets ≤ request_octets.MOST

-- The octets of a vector are taken if they are at most as many as a request has. If they are more,
-- the vector is returned as it was.
abbrev pub FitsOrReturns : {Z : Type 0} → Vec ℕ Z → Result (List ℕ) (Vec ℕ Z) → Type 0
FitsOrReturns octets (Ok taken) =
    (taken ≡ octets.items) × (length octets.items ≤ request_octets.MOST)
FitsOrReturns octets (Err returned) =
    (returned ≡ octets) × (request_octets.MOST < length octets.items)
