-- The lines of a zone, read as a script, are that zone.
use Rattle.std.proofs.Common.{◌≡◌, ◌<◌, ◌≤◌, ◌+◌, ◌-◌, ◌==◌, ◌&&◌, ◌||◌, ℕ, suc, List, [], ◌∷◌, ◌++◌}
use Rattle.std.proofs.Common.{Bool, true, false, cond, not, Option, Some, None, Result, Ok, Err}
use Rattle.std.proofs.Common.{length, map, fold, nat_lt, nat_le, codes, filter_map, is_some}
use Rattle.std.proofs.Common.{arith, refl, sym, ap, ◌∙◌, append_assoc, subst, if◌then◌else◌}
use Rattle.std.proofs.lemmas.Bool.{and_parts, leb-true}
use Rattle.std.proofs.lemmas.Bool.Decides.{nat_tests, Decides-eqb}
use Rattle.std.proofs.lemmas.List.Elements.{All-from_recursion}
use Rattle.std.proofs.lemmas.List.Splits.{slice_split_at}
use Rattle.std.proofs.lemmas.Slice.Zip.{firsts-zip, seconds-zip}
use Rattle.std.specs.List.{AllByRecursion, find, last_or, list_all, list_any, position_from}
use Rattle.std.specs.List.{slice_split, zip}
use Rattle.pools.specs.declared.pool_spec.PoolSpec.{PoolSpec}
use Rattle.ras_module.specs.declared.address.Address.{Address}
use Rattle.zone_config.specs.declared.config.ConfigParts.{ConfigParts}
use Rattle.zone_config.specs.declared.key.Key.{Key}
use Rattle.zone_config.specs.declared.network.Network.{Network}
use Rattle.zone_config.specs.Defaults.{default_parts}
use Rattle.zone_config.specs.Keys.{all_keys, number_in, takes}
use Rattle.zone_config.specs.Networks.{has_default, is_too_long}
use Rattle.zone_config.specs.Ranges.{IsConfig, fault_with, is_outside, key_outside, range_fault}
use Rattle.zone_config.proofs.RangesKept.{keys_inside, passes}
use Rattle.script.specs.declared.read.TheConstants.Script as script_octets
use Rattle.script.specs.declared.event.ScriptEvent.{ScriptEvent}
use Rattle.script.specs.declared.fault.ScriptFault.{ScriptFault}
use Rattle.script.specs.declared.fault.ScriptFault.TheVariants.{NoDefaultPool, TooLong}
use Rattle.script.specs.declared.line.Line.{Line}
use Rattle.script.specs.declared.line.Line.TheVariants.{Blank, Zone, Set, Pool}
use Rattle.script.specs.declared.read.Script.{Script}
use Rattle.script.specs.Lines.{line_of}
use Rattle.script.specs.Pools.{PoolEntry, networks_of, specs_of}
use Rattle.script.specs.Said.{Said, event_in, pool_in, setting_in, zone_in}
use Rattle.script.specs.Scripts.{bad_line, in_place, parts_of, said_by, script_from, script_of}
use Rattle.script.specs.Scripts.{script_of_lines, script_unless, script_with}
use Rattle.script.specs.Words.{lines_of}
use Rattle.recording.specs.Again.{IsNetwork, IsReadAgain, IsSpec, IsZone}
use Rattle.recording.specs.Zones.{ZoneParts, are_script_pools, has_script_limit, is_one_word}
use Rattle.recording.specs.Zones.{pool_line_text, recorded_zone, setting_text, with_ends}
use Rattle.recording.specs.Zones.{zone_lines, zone_text, zone_texts}
use Rattle.recording.proofs.LineWords.{Without}
use Rattle.recording.proofs.ReadLines.{IsReadAs, bits_fit, pool_back, setting_back, zone_back}

-- ---- texts that are read as lines

abbrev pub AreRead : List Line → List (List ℕ) → Type 0
AreRead [] [] = Unit {0}
AreRead [] (text ∷ texts) = ⊥
AreRead (line ∷ lines) [] = ⊥
AreRead (line ∷ lines) (text ∷ texts) = IsReadAs line text × AreRead lines texts

read_append : (lines : List Line) (texts : List (List ℕ)) (others : List Line)
    (more : List (List ℕ)) → AreRead lines texts → AreRead others more
    → AreRead (lines ++ others) (texts ++ more)
read_append [] [] others more a b = b
read_append [] (text ∷ texts) others more a b = absurd a
read_append (line ∷ lines) [] others more a b = absurd a
read_append (line ∷ lines) (text ∷ texts) others more a b =
    (a.0, read_append lines texts others more a.1 b)

ends_here : (c : ℕ) → Bool
ends_here c = c == 10

line_front : (text rest : List ℕ) → Without 10 text
    → lines_of ((text ++ codes "\n") ++ rest) ≡ text ∷ lines_of rest
line_front text rest none =
    ap lines_of (append_assoc text (codes "\n") rest)
    ∙ slice_split_at (λ c. c == 10) text 10 rest
    (All-from_recursion (λ c. (c == 10) ≡ false) text none) refl

blank_last : line_of [] ≡ Some Blank
unfolding line_of
blank_last = refl

-- each text is read as its line, and what stands behind the last end as a blank one
lines_read : (lines : List Line) (texts : List (List ℕ)) → AreRead lines texts
    → map line_of (lines_of (with_ends texts)) ≡ map Some (lines ++ Blank ∷ [])
lines_read [] [] h = λ i. blank_last i ∷ []
lines_read [] (text ∷ texts) h = absurd h
lines_read (line ∷ lines) [] h = absurd h
lines_read (line ∷ lines) (text ∷ texts) h =
    ap (map line_of) (line_front text (with_ends texts) h.0.no_end)
    ∙ (λ i. h.0.back i ∷ lines_read lines texts h.1 i)

-- ---- the lines in their places

pools_in_place : (pools : ℕ) (entries : List PoolEntry) → pools + length entries ≤ 16
    → in_place pools (map Some (map Pool entries ++ Blank ∷ []))
    ≡ map Some (map Pool entries ++ Blank ∷ [])
pools_in_place pools [] few = refl
pools_in_place pools (entry ∷ entries) few =
    let room : nat_lt pools 16 ≡ true = grind (arith, nat_tests, few) in
    let more : pools + 1 + length entries ≤ 16 = omega (arith, few) in
    (λ i. (if room i then Some (Pool entry) else None) ∷ in_place (pools + 1)
    (map Some (map Pool entries ++ Blank ∷ [])))
    ∙ ap (λ (ls : List (Option Line)). Some (Pool entry) ∷ ls)
    (pools_in_place (pools + 1) entries more)

settings_in_place : (settings : List (Key × ℕ)) (rest : List Line)
    → in_place 0 (map Some rest) ≡ map Some rest
    → in_place 0 (map Some (map Set settings ++ rest)) ≡ map Some (map Set settings ++ rest)
settings_in_place [] rest e = e
settings_in_place (setting ∷ settings) rest e =
    ap (λ (ls : List (Option Line)). Some (Set setting) ∷ ls) (settings_in_place settings rest e)

none_bad : (k : ℕ) (lines : List Line)
    → position_from (λ line. not (is_some line)) k (map Some lines) ≡ None
none_bad k [] = refl
none_bad k (line ∷ lines) = none_bad (k + 1) lines

-- ---- what the lines say

no_zone : (entries : List PoolEntry)
    → filter_map zone_in (map Some (map Pool entries ++ Blank ∷ [])) ≡ []
no_zone [] = refl
no_zone (entry ∷ entries) = no_zone entries

no_setting : (entries : List PoolEntry)
    → filter_map setting_in (map Some (map Pool entries ++ Blank ∷ [])) ≡ []
no_setting [] = refl
no_setting (entry ∷ entries) = no_setting entries

no_event : (entries : List PoolEntry)
    → filter_map event_in (map Some (map Pool entries ++ Blank ∷ [])) ≡ []
no_event [] = refl
no_event (entry ∷ entries) = no_event entries

the_pools : (entries : List PoolEntry)
    → filter_map pool_in (map Some (map Pool entries ++ Blank ∷ [])) ≡ entries
the_pools [] = refl
the_pools (entry ∷ entries) = ap (λ (es : List PoolEntry). entry ∷ es) (the_pools entries)

module _ (zone : List ℕ × Address) (entries : List PoolEntry) where
  the_zone : (settings : List (Key × ℕ)) → filter_map zone_in
      (map Some (map Set settings ++ (map Pool entries ++ Blank ∷ []))) ≡ []
  the_zone [] = no_zone entries
  the_zone (setting ∷ settings) = the_zone settings

  the_settings : (settings : List (Key × ℕ)) → filter_map setting_in
      (map Some (map Set settings ++ (map Pool entries ++ Blank ∷ []))) ≡ settings
  the_settings [] = no_setting entries
  the_settings (setting ∷ settings) =
      ap (λ (ss : List (Key × ℕ)). setting ∷ ss) (the_settings settings)

  the_events : (settings : List (Key × ℕ)) → filter_map event_in
      (map Some (map Set settings ++ (map Pool entries ++ Blank ∷ []))) ≡ []
  the_events [] = no_event entries
  the_events (setting ∷ settings) = the_events settings

  all_pools : (settings : List (Key × ℕ)) → filter_map pool_in
      (map Some (map Set settings ++ (map Pool entries ++ Blank ∷ []))) ≡ entries
  all_pools [] = the_pools entries
  all_pools (setting ∷ settings) = all_pools settings

  abbrev pub head_lines : List (Key × ℕ) → List Line
  head_lines settings = Zone zone.0 zone.1 ∷ (map Set settings ++ map Pool entries)

  abbrev said_lines : List (Key × ℕ) → List Line
  said_lines settings =
      Zone zone.0 zone.1 ∷ (map Set settings ++ (map Pool entries ++ Blank ∷ []))

  said_is : (settings : List (Key × ℕ)) → said_by (map Some (said_lines settings))
      ≡ record { zone = Some zone; settings = settings; pools = entries; events = [] }
  said_is settings i = record {
    zone = last_or None (zone ∷ the_zone settings i);
    settings = the_settings settings i;
    pools = all_pools settings i;
    events = the_events settings i;
  }

  -- the script that the lines make
  pub script_is : (settings : List (Key × ℕ)) → length entries ≤ 16
      → script_of_lines (in_place 0 (map Some (head_lines settings ++ Blank ∷ [])))
      ≡ script_from (Some zone) settings entries []
  script_is settings few =
      let flat : head_lines settings ++ Blank ∷ [] ≡ said_lines settings =
      ap (λ (ls : List Line). Zone zone.0 zone.1 ∷ ls)
      (append_assoc (map Set settings) (map Pool entries) (Blank ∷ [])) in
      let placed : in_place 0 (map Some (said_lines settings)) ≡ map Some (said_lines settings) =
      ap (λ (ls : List (Option Line)). Some (Zone zone.0 zone.1) ∷ ls)
      (settings_in_place settings (map Pool entries ++ Blank ∷ [])
      (pools_in_place 0 entries (omega (arith, few)))) in
      ap (λ (ls : List Line). script_of_lines (in_place 0 (map Some ls))) flat
      ∙ ap script_of_lines placed
      ∙ ap (λ (bad : Option ℕ). script_unless bad (said_by (map Some (said_lines settings))))
      (none_bad 1 (said_lines settings))
      ∙ ap (λ (said : Said). script_from said.zone said.settings said.pools said.events)
      (said_is settings)

-- ---- the zone that the script has

networks_back : (pools : List PoolSpec) (networks : List (Option Network))
    → length networks ≡ length pools → has_default networks ≡ true
    → networks_of (zip pools networks) ≡ networks
networks_back [] [] same has = absurd (cc has)
networks_back [] (network ∷ networks) same has = absurd (omega (arith, same))
networks_back (pool ∷ pools) [] same has = absurd (omega (arith, same))
networks_back (pool ∷ pools) (network ∷ networks) same has =
    seconds-zip (pool ∷ pools) (network ∷ networks) same

specs_back : (limit : ℕ) (pools : List PoolSpec) (networks : List (Option Network))
    → length networks ≡ length pools → has_default networks ≡ true
    → specs_of limit (zip pools networks) ≡ pools
specs_back limit [] [] same has = absurd (cc has)
specs_back limit [] (network ∷ networks) same has = absurd (omega (arith, same))
specs_back limit (pool ∷ pools) [] same has = absurd (omega (arith, same))
specs_back limit (pool ∷ pools) (network ∷ networks) same has =
    firsts-zip (pool ∷ pools) (network ∷ networks) same

abbrev pub number_of_key : ConfigParts → Key → Key × ℕ
number_of_key config key = (key, number_in config key)

-- all that is set, set again
set_again : (config : ConfigParts)
    → parts_of (config.identifier, config.address) config.networks
    (map (number_of_key config) all_keys) ≡ config
set_again config = refl

chosen : (b : Bool) (script : Script) → b ≡ true
    → ◌≡◌ {A = Result Script ScriptFault} (if b then Ok script else Err NoDefaultPool) (Ok script)
chosen true script e = refl
chosen false script e = absurd (cc e)

module _ (config : ConfigParts) (pools : List PoolSpec)
    (same : length config.networks ≡ length pools) (has : has_default config.networks ≡ true) where
  abbrev pub the_entries : List PoolEntry
  the_entries = zip pools config.networks

  networks_are : networks_of the_entries ≡ config.networks
  networks_are = networks_back pools config.networks same has

  pub zone_is : script_from (Some (config.identifier, config.address))
      (map (number_of_key config) all_keys) the_entries []
      ≡ Ok (record { config = config; pools = pools; events = [] })
  zone_is =
      chosen (has_default (networks_of the_entries))
      (script_with (parts_of (config.identifier, config.address) (networks_of the_entries)
      (map (number_of_key config) all_keys)) the_entries [])
      (ap has_default networks_are ∙ has)
      ∙ ap (λ (networks : List (Option Network)). Ok (script_with
      (parts_of (config.identifier, config.address) networks
      (map (number_of_key config) all_keys)) the_entries [])) networks_are
      ∙ ap (λ (parts : ConfigParts). Ok (script_with parts the_entries [])) (set_again config)
      ∙ ap (λ (specs : List PoolSpec). Ok (record { config = config; pools = specs; events = [] }))
      (specs_back config.limit pools config.networks same has)

-- ---- what the types keep

not_outside : (b : Bool) → not b ≡ false → b ≡ true
not_outside true e = refl
not_outside false e = absurd (cc e)

settings_read : (config : ConfigParts) (keys : List Key)
    → find (λ key. is_outside config key) keys ≡ None
    → AreRead (map Set (map (number_of_key config) keys)) (map (setting_text config) keys)
settings_read config [] e = tt
settings_read config (key ∷ keys) e =
    let both = passes (is_outside config key) key (find (λ key. is_outside config key) keys) e in (
      setting_back config key (not_outside (takes key (number_in config key)) both.0),
      settings_read config keys both.1,
    )

bits_from : (network : Option Network) → is_too_long network ≡ false → bits_fit network
bits_from None e = tt
bits_from (Some network) e = grind (arith, nat_tests, e)

or_none : (a b : Bool) → (a || b) ≡ false → (a ≡ false) × (b ≡ false)
or_none true b e = absurd (cc e)
or_none false b e = (refl, e)

pools_read : (pools : List PoolSpec) (networks : List (Option Network))
    → list_all has_script_limit pools ≡ true → list_any is_too_long networks ≡ false
    → AllByRecursion IsNetwork networks → AllByRecursion IsSpec pools
    → AreRead (map Pool (zip pools networks)) (map pool_line_text (zip pools networks))
pools_read [] networks limits bits four units = tt
pools_read (pool ∷ pools) [] limits bits four units = tt
pools_read (pool ∷ pools) (network ∷ networks) limits bits four units =
    let limit = and_parts (has_script_limit pool) (list_all has_script_limit pools) limits in
    let few = or_none (is_too_long network) (list_any is_too_long networks) bits in (
      pool_back pool network units.0 limit.0 four.0 (bits_from network few.0),
      pools_read pools networks limit.1 few.1 four.1 units.1,
    )

-- a network with too many bits is a fault
no_long_network : (key : Option Key) (networks : List (Option Network))
    → fault_with key networks ≡ None → list_any is_too_long networks ≡ false
no_long_network (Some key) networks e = absurd (cc e)
no_long_network None networks e = by (list_any is_too_long networks) e
  where
    by : (b : Bool) → ◌≡◌ {A = Option (List ℕ)} (if b then Some (codes "pool.network") else None) None
        → b ≡ false
    by true e = absurd (cc e)
    by false e = refl

bits_of_config : (config : ConfigParts) → range_fault config ≡ None
    → list_any is_too_long config.networks ≡ false
unfolding range_fault
bits_of_config config e = no_long_network (key_outside config) config.networks e

-- a zone that is taken has a name of one word, and pools of a script
record IsTaken (zone : ZoneParts) : Type 0 where
  word : is_one_word zone.config.identifier ≡ true
  pools : are_script_pools zone.pools zone.config.networks ≡ true

is_taken : (zone : ZoneParts) → recorded_zone zone.config zone.pools ≡ Ok zone → IsTaken zone
is_taken zone e = by (is_one_word zone.config.identifier)
    (are_script_pools zone.pools zone.config.networks) refl refl e
  where
    by : (a b : Bool) → is_one_word zone.config.identifier ≡ a
        → are_script_pools zone.pools zone.config.networks ≡ b
        → recorded_zone zone.config zone.pools ≡ Ok zone → IsTaken zone
    by true true is_a is_b e = record { word = is_a; pools = is_b }
    by true false is_a is_b e = absurd (cc (e, is_a, is_b))
    by false b is_a is_b e = absurd (cc (e, is_a))

record PoolFacts (pools : List PoolSpec) (networks : List (Option Network)) : Type 0 where
  same : length networks ≡ length pools
  few : length pools ≤ 16
  limits : list_all has_script_limit pools ≡ true

pool_facts : (pools : List PoolSpec) (networks : List (Option Network))
    → are_script_pools pools networks ≡ true → PoolFacts pools networks
pool_facts pools networks e =
    let both = and_parts (length pools == length networks && nat_le (length pools) 16)
    (list_all has_script_limit pools) e in
    let first = and_parts (length pools == length networks) (nat_le (length pools) 16) both.0 in
    record {
      same = sym ((Decides-eqb (length pools) (length networks)).0 first.0);
      few = leb-true (length pools) 16 first.1;
      limits = both.1;
    }

zip_few : {A B : Type 0} (xs : List A) (ys : List B) (n : ℕ) → length xs ≤ n
    → length (zip xs ys) ≤ n
zip_few [] ys n few = omega arith
zip_few (x ∷ xs) [] n few = omega arith
zip_few (x ∷ xs) (y ∷ ys) n few =
    omega (arith, few, zip_few xs ys (n - 1) (omega (arith, few)))

-- the pools of a zone, each with its network, and all that is set
abbrev pub entries_in : ZoneParts → List PoolEntry
entries_in zone = zip zone.pools zone.config.networks

abbrev pub settings_in : ZoneParts → List (Key × ℕ)
settings_in zone = map (number_of_key zone.config) all_keys

abbrev pub named_in : ZoneParts → List ℕ × Address
named_in zone = (zone.config.identifier, zone.config.address)

-- each line of a zone is read as it was written, and all together make its script
pub record IsHead (zone : ZoneParts) : Type 0 where
  pub read : AreRead (head_lines (named_in zone) (entries_in zone) (settings_in zone))
      (zone_texts zone)
  pub few : length (entries_in zone) ≤ 16
  pub made : script_from (Some (named_in zone)) (settings_in zone) (entries_in zone) []
      ≡ Ok (record { config = zone.config; pools = zone.pools; events = [] })

pub head_is : (zone : ZoneParts) → IsZone zone → IsHead zone
head_is zone is =
    let config = zone.config in
    let taken = is_taken zone is.taken in
    let facts = pool_facts zone.pools config.networks taken.pools in
    record {
      read = (
        zone_back config taken.word is.name is.address,
        read_append (map Set (settings_in zone)) (map (setting_text config) all_keys)
            (map Pool (entries_in zone)) (map pool_line_text (entries_in zone))
            (settings_read config all_keys (keys_inside config is.config.ranges))
            (pools_read zone.pools config.networks facts.limits
            (bits_of_config config is.config.ranges) is.networks is.pools),
      );
      few = zip_few zone.pools config.networks 16 facts.few;
      made = zone_is config zone.pools facts.same is.config.default_pool;
    }

zone_read : (zone : ZoneParts) → IsZone zone
    → script_of_lines (in_place 0 (map line_of (lines_of (zone_lines zone))))
    ≡ Ok (record { config = zone.config; pools = zone.pools; events = [] })
unfolding zone_lines
zone_read zone is =
    let head = head_is zone is in
    ap (λ (ls : List (Option Line)). script_of_lines (in_place 0 ls))
    (lines_read (head_lines (named_in zone) (entries_in zone) (settings_in zone))
    (zone_texts zone) head.read)
    ∙ script_is (named_in zone) (entries_in zone) (settings_in zone) head.few
    ∙ head.made

short : (long : Bool) (script : Result Script ScriptFault) → long ≡ false
    → (if long then Err TooLong else script) ≡ script
short true script e = absurd (cc e)
short false script e = refl

pub read_again : (zone : ZoneParts) → IsZone zone → IsReadAgain zone
unfolding script_of
read_again zone is few =
    short (nat_lt script_octets.MOST (length (zone_lines zone)))
    (script_of_lines (in_place 0 (map line_of (lines_of (zone_lines zone)))))
    (grind (arith, nat_tests, few))
    ∙ zone_read zone is
