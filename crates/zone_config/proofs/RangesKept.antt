-- What the ranges of a zone's settings give.
use Rattle.std.proofs.Common.{◌≡◌, ◌≤◌, ◌<◌, ℕ, suc, zero, Bool, true, false, not, List, [], ◌∷◌}
use Rattle.std.proofs.Common.{refl, Some, None, arith, leb, get_or, length}
use Rattle.std.proofs.lemmas.Bool.{and_parts, leb-true}
use Rattle.std.specs.List.{find}
use Rattle.std.specs.Prelude.{Option, IsSome, SomeIff, if◌then◌else◌}
use Rattle.zone_config.specs.declared.config.ConfigParts.{ConfigParts}
use Rattle.zone_config.specs.declared.key.Key.{Key}
use Rattle.zone_config.specs.declared.key.Key.TheVariants.{Limit}
use Rattle.zone_config.specs.declared.network.Network.{Network}
use Rattle.zone_config.specs.Keys.{all_keys, least_of, most_of, number_in, takes}
use Rattle.zone_config.specs.Ranges.{fault_with, is_outside, key_outside, range_fault}

-- no key is outside its range
none_outside : (key : Option Key) (networks : List (Option Network))
    → fault_with key networks ≡ None → key ≡ None
none_outside (Some key) networks e = absurd (cc e)
none_outside None networks e = refl

pub keys_inside : (parts : ConfigParts) → range_fault parts ≡ None → key_outside parts ≡ None
unfolding range_fault
keys_inside parts e = none_outside (key_outside parts) parts.networks e

pub passes : (b : Bool) (key : Key) (rest : Option Key) → (if b then Some key else rest) ≡ None
    → (b ≡ false) × (rest ≡ None)
passes true key rest h = absurd (cc h)
passes false key rest h = (refl, h)

fails_at : (p : Key → Bool) (keys : List Key) (i : ℕ) (default : Key) → find p keys ≡ None
    → i < length keys → p (get_or keys i default) ≡ false
fails_at p [] i default none below = absurd (omega (arith, below))
fails_at p (key ∷ keys) zero default none below = (passes (p key) key (find p keys) none).0
fails_at p (key ∷ keys) (suc i) default none below =
    fails_at p keys i default (passes (p key) key (find p keys) none).1 (omega (arith, below))

taken : (b : Bool) → not b ≡ false → b ≡ true
taken true e = refl
taken false e = absurd (cc e)

abbrev InRange : ConfigParts → Key → Type 0
InRange parts key = (least_of key ≤ number_in parts key) × (number_in parts key ≤ most_of key)

-- the number of the key at place i is in its range
at_place : (parts : ConfigParts) (i : ℕ) → range_fault parts ≡ None → i < length all_keys
    → InRange parts (get_or all_keys i Limit)
at_place parts i e below =
    let key = get_or all_keys i Limit in
    let inside = taken (takes key (number_in parts key))
    (fails_at (λ key. is_outside parts key) all_keys i Limit (keys_inside parts e) below) in
    let both = and_parts (leb (least_of key) (number_in parts key))
    (leb (number_in parts key) (most_of key)) inside in
    (leb-true _ _ both.0, leb-true _ _ both.1)

-- how long registrations live, and how many there may be
pub record Limits (parts : ConfigParts) : Type 0 where
  pub some_time : 1 ≤ parts.time_to_live
  pub time : parts.time_to_live ≤ 4294967295
  pub endpoints : parts.endpoints ≤ 20000
  pub call_limit : parts.call_limit ≤ 4294967295
  pub some_calls : 1 ≤ parts.calls
  pub calls : parts.calls ≤ 20000
  pub some_kept : 1 ≤ parts.kept
  pub kept : parts.kept ≤ 65536
  pub window : parts.window ≤ 3600000
  pub some_delay : 1 ≤ parts.delay
  pub delay : parts.delay ≤ 65535
  pub some_retries : 1 ≤ parts.retries
  pub asks : parts.asks ≤ 16
  pub pool_turn : parts.pool_turn ≤ 86400000
  pub least_grant : parts.least_grant ≤ 4294967295

pub limits : (parts : ConfigParts) → range_fault parts ≡ None → Limits parts
limits parts e = record {
  some_time = (at_place parts 2 e (omega arith)).0;
  time = (at_place parts 2 e (omega arith)).1;
  endpoints = (at_place parts 3 e (omega arith)).1;
  call_limit = (at_place parts 1 e (omega arith)).1;
  some_calls = (at_place parts 4 e (omega arith)).0;
  calls = (at_place parts 4 e (omega arith)).1;
  some_kept = (at_place parts 5 e (omega arith)).0;
  kept = (at_place parts 5 e (omega arith)).1;
  window = (at_place parts 6 e (omega arith)).1;
  some_delay = (at_place parts 8 e (omega arith)).0;
  delay = (at_place parts 8 e (omega arith)).1;
  some_retries = (at_place parts 9 e (omega arith)).0;
  asks = (at_place parts 10 e (omega arith)).1;
  pool_turn = (at_place parts 12 e (omega arith)).1;
  least_grant = (at_place parts 13 e (omega arith)).1;
}

pub is_time : (seconds : ℕ) (o : Option ℕ) → SomeIff o (0 < seconds) seconds
    → 1 ≤ seconds → IsSome o
is_time seconds None iff some = absurd (iff (omega arith))
is_time seconds (Some t) iff some = refl
