-- Settings stay within their ranges if a number in its range is set.
use Rattle.std.proofs.Common.{◌≡◌, ℕ, suc, zero, Bool, true, false}
use Rattle.std.proofs.Common.{not, List, [], ◌∷◌, map, set, refl}
use Rattle.std.proofs.Common.{sym, subst, Some, None, Result, Ok, Err, Bor}
use Rattle.std.specs.List.{list_any}
use Rattle.std.specs.Prelude.{Option, if◌then◌else◌}
use Rattle.ras_module.specs.declared.address.Address.{Address}
use Rattle.zone_config.specs.declared.config.ConfigFault.{ConfigFault}
use Rattle.zone_config.specs.declared.config.ConfigFault.TheVariants.{OutOfRange, NoDefaultPool}
use Rattle.zone_config.specs.declared.config.ConfigParts.{ConfigParts}
use Rattle.zone_config.specs.declared.key.Key.{Key}
use Rattle.zone_config.specs.declared.key.Key.TheVariants.{Limit, CallLimit, TimeToLive, Endpoints}
use Rattle.zone_config.specs.declared.key.Key.TheVariants.{Calls, Kept, Window, Silence, Delay}
use Rattle.zone_config.specs.declared.key.Key.TheVariants.{Retries, Asks, AskWait, PoolTurn, LeastGrant}
use Rattle.zone_config.specs.declared.network.Network.{Network}
use Rattle.zone_config.specs.Defaults.{default_parts}
use Rattle.zone_config.specs.Keys.{all_keys, takes, with_number}
use Rattle.zone_config.specs.Networks.{has_default, is_too_long}
use Rattle.zone_config.specs.Ranges.{fault_with, is_outside, key_outside, range_fault, IsConfig}
use Rattle.zone_config.specs.Ranges.{IsConfigAnswer}
use Rattle.zone_config.proofs.RangesKept.{keys_inside, passes}

-- the key of the first test that fails
abbrev first_failure : List (Bool × Key) → Option Key
first_failure [] = None
first_failure (test ∷ tests) = if test.0 then Some test.1 else first_failure tests

abbrev tests_of : ConfigParts → List (Bool × Key)
tests_of parts = map (λ key. (is_outside parts key, key)) all_keys

both_pass : (test : Bool) (key : Key) (old new : Option Key)
    → (if test then Some key else old) ≡ None → new ≡ None
    → (if test then Some key else new) ≡ None
both_pass true key old new e f = e
both_pass false key old new e f = f

passes_with : (tests : List (Bool × Key)) (i : ℕ) (key : Key) → first_failure tests ≡ None
    → first_failure (set tests i (false, key)) ≡ None
passes_with [] i key e = e
passes_with (test ∷ tests) zero key e = (passes test.0 test.1 (first_failure tests) e).1
passes_with (test ∷ tests) (suc i) key e =
    both_pass test.0 test.1 (first_failure tests) (first_failure (set tests i (false, key))) e
    (passes_with tests i key (passes test.0 test.1 (first_failure tests) e).1)

outside_not : (b : Bool) → b ≡ true → not b ≡ false
outside_not true e = refl
outside_not false e = absurd (cc e)

one_set : (parts : ConfigParts) (i : ℕ) (key : Key) (number : ℕ) → takes key number ≡ true
    → key_outside parts ≡ None
    → first_failure (set (tests_of parts) i (not (takes key number), key)) ≡ None
one_set parts i key number inside e =
    subst (λ (test : Bool). first_failure (set (tests_of parts) i (test, key)) ≡ None)
    (sym (outside_not (takes key number) inside)) (passes_with (tests_of parts) i key e)

stays_inside : (parts : ConfigParts) (key : Key) (number : ℕ) → takes key number ≡ true
    → key_outside parts ≡ None → key_outside (with_number parts key number) ≡ None
stays_inside parts Limit number inside e = one_set parts 0 Limit number inside e
stays_inside parts CallLimit number inside e = one_set parts 1 CallLimit number inside e
stays_inside parts TimeToLive number inside e = one_set parts 2 TimeToLive number inside e
stays_inside parts Endpoints number inside e = one_set parts 3 Endpoints number inside e
stays_inside parts Calls number inside e = one_set parts 4 Calls number inside e
stays_inside parts Kept number inside e = one_set parts 5 Kept number inside e
stays_inside parts Window number inside e = one_set parts 6 Window number inside e
stays_inside parts Silence number inside e = one_set parts 7 Silence number inside e
stays_inside parts Delay number inside e = one_set parts 8 Delay number inside e
stays_inside parts Retries number inside e = one_set parts 9 Retries number inside e
stays_inside parts Asks number inside e = one_set parts 10 Asks number inside e
stays_inside parts AskWait number inside e = one_set parts 11 AskWait number inside e
stays_inside parts PoolTurn number inside e = one_set parts 12 PoolTurn number inside e
stays_inside parts LeastGrant number inside e = one_set parts 13 LeastGrant number inside e

-- a number that is set leaves the networks as they are
networks_stay : (parts : ConfigParts) (key : Key) (number : ℕ)
    → (with_number parts key number).networks ≡ parts.networks
networks_stay parts Limit number = refl
networks_stay parts CallLimit number = refl
networks_stay parts TimeToLive number = refl
networks_stay parts Endpoints number = refl
networks_stay parts Calls number = refl
networks_stay parts Kept number = refl
networks_stay parts Window number = refl
networks_stay parts Silence number = refl
networks_stay parts Delay number = refl
networks_stay parts Retries number = refl
networks_stay parts Asks number = refl
networks_stay parts AskWait number = refl
networks_stay parts PoolTurn number = refl
networks_stay parts LeastGrant number = refl

-- if no key is outside its range, and the networks stay, there is no fault
same_fault : (old new : Option Key) (before after : List (Option Network)) → after ≡ before
    → fault_with old before ≡ None → new ≡ None → fault_with new after ≡ None
same_fault (Some key) new before after same e none = absurd (cc e)
same_fault None new before after same e none = rw (none, same) e

stays_in_range : (parts : ConfigParts) (key : Key) (number : ℕ) → takes key number ≡ true
    → range_fault parts ≡ None → range_fault (with_number parts key number) ≡ None
unfolding range_fault
stays_in_range parts key number inside e =
    same_fault (key_outside parts) (key_outside (with_number parts key number)) parts.networks
    (with_number parts key number).networks (networks_stay parts key number) e
    (stays_inside parts key number inside (keys_inside parts e))

-- a configuration with another number in its range is one
pub stays_config : (parts : ConfigParts) (key : Key) (number : ℕ) → takes key number ≡ true
    → IsConfig parts → IsConfig (with_number parts key number)
stays_config parts key number inside is = record {
  ranges = stays_in_range parts key number inside is.ranges;
  default_pool = subst (λ (networks : List (Option Network)). has_default networks ≡ true)
      (sym (networks_stay parts key number)) is.default_pool;
}

pub defaults_in_range : (name : List ℕ) (address : Address) (networks : List (Option Network))
    → list_any is_too_long networks ≡ false
    → range_fault (default_parts name address networks) ≡ None
unfolding range_fault
defaults_in_range name address networks bits = rw bits refl

-- settings in their ranges are refused only because there is no default pool
pub no_range_fault : (parts : ConfigParts)
    (answer : Result ConfigParts ConfigFault) (key : Bor (List ℕ))
    → IsConfigAnswer parts answer
    → answer ≡ Err (OutOfRange key) → range_fault parts ≡ None → ⊥
no_range_fault parts (Ok config) key is e inside = absurd (cc e)
no_range_fault parts (Err (OutOfRange other)) key is e inside = absurd (cc (is, inside))
no_range_fault parts (Err NoDefaultPool) key is e inside = absurd (cc e)

pub no_config_fault : (parts : ConfigParts)
    (answer : Result ConfigParts ConfigFault) (fault : ConfigFault)
    → IsConfigAnswer parts answer
    → answer ≡ Err fault → IsConfig parts → ⊥
no_config_fault parts (Ok config) fault is e inside = absurd (cc e)
no_config_fault parts (Err (OutOfRange key)) fault is e inside = absurd (cc (is, inside.ranges))
no_config_fault parts (Err NoDefaultPool) fault is e inside =
    absurd (cc (is.1, inside.default_pool))
