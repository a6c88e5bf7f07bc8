-- Each line of a zone, read as it was written.
use Rattle.std.proofs.Common.{◌≡◌, ◌<◌, ◌≤◌, ◌+◌, ◌^◌, ◌==◌, ℕ, List, [], ◌∷◌, ◌++◌, length, codes}
use Rattle.std.proofs.Common.{Bool, true, false, not, Option, Some, None, nat_lt, nat_le}
use Rattle.std.proofs.Common.{arith, refl, sym, ap, ◌∙◌, append_assoc, append-nil, subst}
use Rattle.std.proofs.lemmas.Bool.{and_parts, leb-true}
use Rattle.std.proofs.lemmas.Bool.Decides.{nat_tests}
use Rattle.std.proofs.lemmas.Fmt.{decimal_nonempty}
use Rattle.std.specs.Fmt.{decimal}
use Rattle.std.specs.List.{list_all}
use Rattle.pools.specs.declared.pool_spec.PoolSpec.{PoolSpec}
use Rattle.pools.specs.declared.pool_spec.PoolSpec.TheVariants.{Fixed, Step, Paced}
use Rattle.ras_module.specs.declared.address.Address.{Address}
use Rattle.ras_writing.specs.Properties.{IsAddress, IsName}
use Rattle.zone_config.specs.declared.config.ConfigParts.{ConfigParts}
use Rattle.zone_config.specs.declared.key.Key.{Key}
use Rattle.zone_config.specs.declared.key.Key.TheVariants.{Limit, CallLimit, TimeToLive, Endpoints}
use Rattle.zone_config.specs.declared.key.Key.TheVariants.{Calls, Kept, Window, Silence, Delay}
use Rattle.zone_config.specs.declared.key.Key.TheVariants.{Retries, Asks, AskWait, PoolTurn, LeastGrant}
use Rattle.zone_config.specs.declared.network.Network.{Network}
use Rattle.zone_config.specs.Keys.{key_of, least_of, most_of, name_of, number_in, takes}
use Rattle.value_texts.specs.Texts.{◌>>=◌, network_of, number_of}
use Rattle.script.specs.declared.line.Line.{Line}
use Rattle.script.specs.declared.line.Line.TheVariants.{Zone, Set, Pool}
use Rattle.script.specs.Lines.{line_of, line_of_words}
use Rattle.script.specs.Pools.{limit_of, served_network, units_of}
use Rattle.script.specs.Prints.{address_text, identifier_text}
use Rattle.script.specs.Words.{words_of}
use Rattle.recording.specs.Again.{AreUnits, HasFourOctets, IsNetwork, IsSpec}
use Rattle.recording.specs.Zones.{has_script_limit, is_one_word, network_text, pool_line_text}
use Rattle.recording.specs.Zones.{served_text, setting_text, zone_text}
use Rattle.recording.proofs.FourNumbers.{IsTold, address_is_told, network_is_told}
use Rattle.recording.proofs.LineWords.{Without, end_is_mark, number_back, number_without}
use Rattle.recording.proofs.LineWords.{space_is_mark, without_append, words_front, words_last}
use Rattle.recording.proofs.NameTexts.{name_is_told}

-- a text of which this line is read, and in which no line ends
pub record IsReadAs (line : Line) (text : List ℕ) : Type 0 where
  pub back : line_of text ≡ Some line
  pub no_end : Without 10 text

no : (b : Bool) → not b ≡ true → b ≡ false
no true e = absurd (cc e)
no false e = refl

plain : (mark : ℕ) (text : List ℕ) → list_all (λ c. not (c == mark)) text ≡ true
    → Without mark text
plain mark [] e = tt
plain mark (c ∷ cs) e =
    let both = and_parts (not (c == mark)) (list_all (λ c. not (c == mark)) cs) e in
    (no (c == mark) both.0, plain mark cs both.1)

-- ---- the zone's name and address

zone_flat : (name address : List ℕ)
    → codes "zone " ++ name ++ codes " " ++ address
    ≡ codes "zone" ++ 32 ∷ (name ++ 32 ∷ address)
zone_flat name address = simp append_assoc

zone_words : (name address : List ℕ) → Without 32 name → 0 < length name → Without 32 address
    → 0 < length address
    → words_of (codes "zone " ++ name ++ codes " " ++ address)
    ≡ codes "zone" ∷ name ∷ address ∷ []
zone_words name address no_name some_name no_address some_address =
    ap words_of (zone_flat name address)
    ∙ words_front (codes "zone") (name ++ 32 ∷ address) (plain 32 (codes "zone") refl) (omega arith)
    ∙ ap (λ (ws : List (List ℕ)). codes "zone" ∷ ws) (words_front name address no_name some_name)
    ∙ ap (λ (ws : List (List ℕ)). codes "zone" ∷ name ∷ ws)
    (words_last address no_address some_address)

abbrev zone_from : Option (List ℕ) → Option Address → Option Line
zone_from name address = do
  name ← name
  address ← address
  Some (Zone name address)

pub zone_back : (config : ConfigParts) → is_one_word config.identifier ≡ true
    → IsName config.identifier → IsAddress config.address
    → IsReadAs (Zone config.identifier config.address) (zone_text config)
unfolding line_of
zone_back config word name address =
    let id = name_is_told config.identifier word name in
    let at = address_is_told config.address address in
    record {
      back = ap line_of_words (zone_words (identifier_text config.identifier)
          (address_text config.address) id.no_space id.some at.no_space at.some)
          ∙ (λ i. zone_from (id.back i) (at.back i));
      no_end = without_append 10
          (codes "zone " ++ identifier_text config.identifier ++ codes " ")
          (address_text config.address)
          (without_append 10 (codes "zone " ++ identifier_text config.identifier) (codes " ")
          (without_append 10 (codes "zone ") (identifier_text config.identifier)
          (plain 10 (codes "zone ") refl) id.no_end)
          (plain 10 (codes " ") refl))
          at.no_end;
    }

-- ---- settings

-- what the name of a key is, and the number that it takes at most
record KeyFacts (key : Key) : Type 0 where
  named : key_of (name_of key) ≡ Some key
  no_space : list_all (λ c. not (c == 32)) (name_of key) ≡ true
  no_end : list_all (λ c. not (c == 10)) (name_of key) ≡ true
  some : nat_lt 0 (length (name_of key)) ≡ true
  few : nat_le (most_of key) 1000000000000 ≡ true

key_facts : (key : Key) → KeyFacts key
key_facts Limit = record { named = refl; no_space = refl; no_end = refl; some = refl; few = refl }
key_facts CallLimit = record { named = refl; no_space = refl; no_end = refl; some = refl; few = refl }
key_facts TimeToLive = record { named = refl; no_space = refl; no_end = refl; some = refl; few = refl }
key_facts Endpoints = record { named = refl; no_space = refl; no_end = refl; some = refl; few = refl }
key_facts Calls = record { named = refl; no_space = refl; no_end = refl; some = refl; few = refl }
key_facts Kept = record { named = refl; no_space = refl; no_end = refl; some = refl; few = refl }
key_facts Window = record { named = refl; no_space = refl; no_end = refl; some = refl; few = refl }
key_facts Silence = record { named = refl; no_space = refl; no_end = refl; some = refl; few = refl }
key_facts Delay = record { named = refl; no_space = refl; no_end = refl; some = refl; few = refl }
key_facts Retries = record { named = refl; no_space = refl; no_end = refl; some = refl; few = refl }
key_facts Asks = record { named = refl; no_space = refl; no_end = refl; some = refl; few = refl }
key_facts AskWait = record { named = refl; no_space = refl; no_end = refl; some = refl; few = refl }
key_facts PoolTurn = record { named = refl; no_space = refl; no_end = refl; some = refl; few = refl }
key_facts LeastGrant = record { named = refl; no_space = refl; no_end = refl; some = refl; few = refl }

some_octets : (text : List ℕ) → nat_lt 0 (length text) ≡ true → 0 < length text
some_octets [] e = absurd (cc e)
some_octets (c ∷ cs) e = omega arith

setting_flat : (name number : List ℕ)
    → codes "set " ++ name ++ codes " " ++ number ≡ codes "set" ++ 32 ∷ (name ++ 32 ∷ number)
setting_flat name number = simp append_assoc

setting_words : (name number : List ℕ) → Without 32 name → 0 < length name → Without 32 number
    → 0 < length number
    → words_of (codes "set " ++ name ++ codes " " ++ number) ≡ codes "set" ∷ name ∷ number ∷ []
setting_words name number no_name some_name no_number some_number =
    ap words_of (setting_flat name number)
    ∙ words_front (codes "set") (name ++ 32 ∷ number) (plain 32 (codes "set") refl) (omega arith)
    ∙ ap (λ (ws : List (List ℕ)). codes "set" ∷ ws) (words_front name number no_name some_name)
    ∙ ap (λ (ws : List (List ℕ)). codes "set" ∷ name ∷ ws)
    (words_last number no_number some_number)

abbrev setting_with : Key → Option ℕ → Option Line
setting_with key number = do
  setting ← (do
    number ← number
    Some (key, number))
  Some (Set setting)

abbrev setting_from : Option Key → List ℕ → Option Line
setting_from key word = do
  setting ← (do
    key ← key
    number ← number_of (least_of key) (most_of key) word
    Some (key, number))
  Some (Set setting)

pub setting_back : (config : ConfigParts) (key : Key) → takes key (number_in config key) ≡ true
    → IsReadAs (Set (key, number_in config key)) (setting_text config key)
unfolding line_of
setting_back config key inside =
    let n = number_in config key in
    let facts = key_facts key in
    let both = and_parts (nat_le (least_of key) n) (nat_le n (most_of key)) inside in
    let least : least_of key ≤ n = leb-true (least_of key) n both.0 in
    let most : n ≤ most_of key = leb-true n (most_of key) both.1 in
    let few : most_of key ≤ 1000000000000 = leb-true (most_of key) 1000000000000 facts.few in
    let small : n < 2 ^ 64 = omega (arith, most, few) in
    record {
      back = ap line_of_words (setting_words (name_of key) (decimal n)
          (plain 32 (name_of key) facts.no_space) (some_octets (name_of key) facts.some)
          (number_without n small 32 space_is_mark) (decimal_nonempty n small))
          ∙ (λ i. setting_from (facts.named i) (decimal n))
          ∙ (λ i. setting_with key (number_back n small (least_of key) (most_of key) least most i));
      no_end = without_append 10 (codes "set " ++ name_of key ++ codes " ") (decimal n)
          (without_append 10 (codes "set " ++ name_of key) (codes " ")
          (without_append 10 (codes "set ") (name_of key) (plain 10 (codes "set ") refl)
          (plain 10 (name_of key) facts.no_end))
          (plain 10 (codes " ") refl))
          (number_without n small 10 end_is_mark);
    }

-- ---- pools

-- the words of the network that a pool serves
abbrev served_words : Option Network → List (List ℕ)
served_words None = []
served_words (Some network) = codes "for" ∷ network_text network ∷ []

-- what is said of the network that a pool serves
record IsServed (network : Option Network) : Type 0 where
  back : served_network (served_words network) ≡ Some network
  words : (word : List ℕ) → Without 32 word → 0 < length word
      → words_of (word ++ served_text network) ≡ word ∷ served_words network
  no_end : Without 10 (served_text network)

abbrev served_from : Option Network → Option (Option Network)
served_from network = do
  network ← network
  Some (Some network)

abbrev pub bits_fit : Option Network → Type 0
bits_fit None = Unit {0}
bits_fit (Some network) = network.bits ≤ 32

is_served : (network : Option Network) → IsNetwork network → bits_fit network → IsServed network
is_served None is few = record {
  back = refl;
  words = λ word none some. ap words_of (append-nil word) ∙ words_last word none some;
  no_end = tt;
}
is_served (Some network) is few =
    let told = network_is_told network is few in
    record {
      back = λ i. served_from (told.back i);
      words = λ word none some.
          words_front word (codes "for" ++ 32 ∷ network_text network) none some
          ∙ ap (λ (ws : List (List ℕ)). word ∷ ws)
          (words_front (codes "for") (network_text network) (plain 32 (codes "for") refl)
          (omega arith)
          ∙ ap (λ (ws : List (List ℕ)). codes "for" ∷ ws)
          (words_last (network_text network) told.no_space told.some));
      no_end = without_append 10 (codes " for ") (network_text network)
          (plain 10 (codes " for ") refl) told.no_end;
    }

fixed_flat : (limit served : List ℕ)
    → codes "pool " ++ (codes "fixed " ++ limit) ++ served
    ≡ codes "pool" ++ 32 ∷ (codes "fixed" ++ 32 ∷ (limit ++ served))
fixed_flat limit served = simp append_assoc

step_flat : (limit units served : List ℕ)
    → codes "pool " ++ (codes "step " ++ limit ++ codes " " ++ units) ++ served
    ≡ codes "pool" ++ 32 ∷ (codes "step" ++ 32 ∷ (limit ++ 32 ∷ (units ++ served)))
step_flat limit units served = simp append_assoc

paced_flat : (limit units served : List ℕ)
    → codes "pool " ++ (codes "paced " ++ limit ++ codes " " ++ units) ++ served
    ≡ codes "pool" ++ 32 ∷ (codes "paced" ++ 32 ∷ (limit ++ 32 ∷ (units ++ served)))
paced_flat limit units served = simp append_assoc

abbrev entry_from : {A : Type 0} → (A → PoolSpec) → Option A → Option (Option Network)
    → Option Line
entry_from spec number network = do
  pool ← (do
    number ← number
    (do
      network ← network
      Some (spec number, network)))
  Some (Pool pool)

abbrev entry_of_two : (ℕ → ℕ → PoolSpec) → Option ℕ → Option ℕ → Option (Option Network)
    → Option Line
entry_of_two spec limit units network = do
  pool ← (do
    limit ← limit
    units ← units
    (do
      network ← network
      Some (spec limit units, network)))
  Some (Pool pool)

-- the words behind `pool` and a kind, and their ends
module _ (network : Option Network) (served : IsServed network) where
  one_number : (kind : List ℕ) (limit : ℕ) → Without 32 kind → 0 < length kind → limit < 2 ^ 64
      → words_of (codes "pool" ++ 32 ∷ (kind ++ 32 ∷ (decimal limit ++ served_text network)))
      ≡ codes "pool" ∷ kind ∷ decimal limit ∷ served_words network
  one_number kind limit no_kind some_kind small =
      words_front (codes "pool") (kind ++ 32 ∷ (decimal limit ++ served_text network))
      (plain 32 (codes "pool") refl) (omega arith)
      ∙ ap (λ (ws : List (List ℕ)). codes "pool" ∷ ws)
      (words_front kind (decimal limit ++ served_text network) no_kind some_kind)
      ∙ ap (λ (ws : List (List ℕ)). codes "pool" ∷ kind ∷ ws)
      (served.words (decimal limit) (number_without limit small 32 space_is_mark)
      (decimal_nonempty limit small))

  two_numbers : (kind : List ℕ) (limit units : ℕ) → Without 32 kind → 0 < length kind
      → limit < 2 ^ 64 → units < 2 ^ 64
      → words_of (codes "pool" ++ 32 ∷ (kind ++ 32 ∷ (decimal limit ++ 32 ∷ (decimal units
      ++ served_text network))))
      ≡ codes "pool" ∷ kind ∷ decimal limit ∷ decimal units ∷ served_words network
  two_numbers kind limit units no_kind some_kind small small_units =
      words_front (codes "pool")
      (kind ++ 32 ∷ (decimal limit ++ 32 ∷ (decimal units ++ served_text network)))
      (plain 32 (codes "pool") refl) (omega arith)
      ∙ ap (λ (ws : List (List ℕ)). codes "pool" ∷ ws)
      (words_front kind (decimal limit ++ 32 ∷ (decimal units ++ served_text network)) no_kind
      some_kind)
      ∙ ap (λ (ws : List (List ℕ)). codes "pool" ∷ kind ∷ ws)
      (words_front (decimal limit) (decimal units ++ served_text network)
      (number_without limit small 32 space_is_mark) (decimal_nonempty limit small))
      ∙ ap (λ (ws : List (List ℕ)). codes "pool" ∷ kind ∷ decimal limit ∷ ws)
      (served.words (decimal units) (number_without units small_units 32 space_is_mark)
      (decimal_nonempty units small_units))

  units_end : (kind : List ℕ) (limit units : ℕ) → Without 10 kind → limit < 2 ^ 64
      → units < 2 ^ 64 → Without 10 (kind ++ decimal limit ++ codes " " ++ decimal units)
  units_end kind limit units none small small_units =
      without_append 10 (kind ++ decimal limit ++ codes " ") (decimal units)
      (without_append 10 (kind ++ decimal limit) (codes " ")
      (without_append 10 kind (decimal limit) none (number_without limit small 10 end_is_mark))
      (plain 10 (codes " ") refl))
      (number_without units small_units 10 end_is_mark)

  line_end : (text : List ℕ) → Without 10 text
      → Without 10 (codes "pool " ++ text ++ served_text network)
  line_end text none =
      without_append 10 (codes "pool " ++ text) (served_text network)
      (without_append 10 (codes "pool ") text (plain 10 (codes "pool ") refl) none) served.no_end

  limit_back : (limit : ℕ) → limit ≤ 1000000000000 → limit_of (decimal limit) ≡ Some limit
  limit_back limit few =
      number_back limit (omega (arith, few)) 0 1000000000000 (omega arith) few

  units_back : (units : ℕ) → AreUnits units → units_of (decimal units) ≡ Some units
  units_back units are = number_back units (omega (arith, are.1)) 1 4294967295 are.0 are.1

  spec_back : (spec : PoolSpec) → IsSpec spec → has_script_limit spec ≡ true
      → IsReadAs (Pool (spec, network)) (pool_line_text (spec, network))
  unfolding line_of
  spec_back (Fixed limit) is inside =
      let few : limit ≤ 1000000000000 = leb-true limit 1000000000000 inside in
      let small : limit < 2 ^ 64 = omega (arith, few) in
      record {
        back = ap line_of_words (ap words_of (fixed_flat (decimal limit) (served_text network))
            ∙ one_number (codes "fixed") limit (plain 32 (codes "fixed") refl) (omega arith) small)
            ∙ (λ i. entry_from Fixed (limit_back limit few i) (served.back i));
        no_end = line_end (codes "fixed " ++ decimal limit)
            (without_append 10 (codes "fixed ") (decimal limit) (plain 10 (codes "fixed ") refl)
            (number_without limit small 10 end_is_mark));
      }
  spec_back (Step limit units) is inside =
      let few : limit ≤ 1000000000000 = leb-true limit 1000000000000 inside in
      let small : limit < 2 ^ 64 = omega (arith, few) in
      let small_units : units < 2 ^ 64 = omega (arith, is.1) in
      record {
        back = ap line_of_words (ap words_of (step_flat (decimal limit) (decimal units)
            (served_text network))
            ∙ two_numbers (codes "step") limit units (plain 32 (codes "step") refl) (omega arith)
            small small_units)
            ∙ (λ i. entry_of_two Step (limit_back limit few i) (units_back units is i)
            (served.back i));
        no_end = line_end (codes "step " ++ decimal limit ++ codes " " ++ decimal units)
            (units_end (codes "step ") limit units (plain 10 (codes "step ") refl) small
            small_units);
      }
  spec_back (Paced limit units) is inside =
      let few : limit ≤ 1000000000000 = leb-true limit 1000000000000 inside in
      let small : limit < 2 ^ 64 = omega (arith, few) in
      let small_units : units < 2 ^ 64 = omega (arith, is.1) in
      record {
        back = ap line_of_words (ap words_of (paced_flat (decimal limit) (decimal units)
            (served_text network))
            ∙ two_numbers (codes "paced") limit units (plain 32 (codes "paced") refl) (omega arith)
            small small_units)
            ∙ (λ i. entry_of_two Paced (limit_back limit few i) (units_back units is i)
            (served.back i));
        no_end = line_end (codes "paced " ++ decimal limit ++ codes " " ++ decimal units)
            (units_end (codes "paced ") limit units (plain 10 (codes "paced ") refl) small
            small_units);
      }

pub pool_back : (spec : PoolSpec) (network : Option Network) → IsSpec spec
    → has_script_limit spec ≡ true → IsNetwork network → bits_fit network
    → IsReadAs (Pool (spec, network)) (pool_line_text (spec, network))
pool_back spec network is inside four few =
    spec_back network (is_served network four few) spec is inside
