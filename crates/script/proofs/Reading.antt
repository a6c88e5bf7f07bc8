-- Lines are read one after the other.
use Rattle.std.proofs.Common.{◌≡◌, ℕ, ◌+◌, ◌≤◌, ◌<◌, true, false, not, Option, Some, None, is_some}
use Rattle.std.proofs.Common.{Result, Err, List, [], ◌∷◌, ◌++◌, length, map, filter_map, inl, inr}
use Rattle.std.proofs.Common.{refl, sym, ap, ◌∙◌, append-nil, append_assoc, subst, arith, nat_lt}
use Rattle.std.proofs.lemmas.Bool.Decides.{nat_tests}
use Rattle.std.proofs.lemmas.List.{length_push}
use Rattle.std.specs.List.{position_from, last_or}
use Rattle.ras_module.specs.declared.address.Address.{Address}
use Rattle.script.specs.declared.read.TheConstants.Script as script_octets
use Rattle.script.specs.declared.event.ScriptEvent.{ScriptEvent}
use Rattle.script.specs.declared.fault.ScriptFault.{ScriptFault}
use Rattle.script.specs.declared.fault.ScriptFault.TheVariants.{BadLine}
use Rattle.zone_config.specs.declared.key.Key.{Key}
use Rattle.script.specs.declared.line.Line.{Line}
use Rattle.script.specs.declared.line.Line.TheVariants.{Blank, Zone, Set, Pool, At}
use Rattle.script.specs.declared.read.Script.{Script}
use Rattle.value_texts.specs.Parts.{front_part, rest_part}
use Rattle.script.specs.Words.{lines_of}
use Rattle.script.specs.Lines.{line_of}
use Rattle.script.specs.Pools.{PoolEntry}
use Rattle.script.specs.Said.{Said, zone_in, setting_in, pool_in, event_in, with_line, MayFollow}
use Rattle.script.specs.Scripts.{behind_event, in_place, script_from, script_unless, script_of}
use Rattle.value_texts.proofs.Parting.{split_step}

abbrev pub readings : List ℕ → List (Option Line)
readings text = map line_of (lines_of text)

-- what lines say behind these pools and these events
abbrev placed : List PoolEntry → List ScriptEvent → List (Option Line) → List (Option Line)
placed pools [] lines = in_place (length pools) lines
placed pools (event ∷ events) lines = map behind_event lines

abbrev said_with : Said → List (Option Line) → Said
said_with said lines = record {
  zone = last_or said.zone (filter_map zone_in lines);
  settings = said.settings ++ filter_map setting_in lines;
  pools = said.pools ++ filter_map pool_in lines;
  events = said.events ++ filter_map event_in lines;
}

abbrev answer_of : ℕ → Said → List (Option Line) → Result Script ScriptFault
answer_of n said lines =
    script_unless (position_from (λ line. not (is_some line)) n lines) (said_with said lines)

-- what is returned if lines follow what is said already, the first of them the n-th
unfoldable pub answer_from : ℕ → Said → List (Option Line) → Result Script ScriptFault
answer_from n said lines = answer_of n said (placed said.pools said.events lines)

pub first_answer : (text : List ℕ) → length text ≤ script_octets.MOST
    → script_of text ≡ answer_from 1
    (record { zone = None; settings = []; pools = []; events = [] }) (readings text)
unfolding script_of answer_from
first_answer text few =
    let small : nat_lt script_octets.MOST (length text) ≡ false = grind (arith, nat_tests) in
    rw small refl

abbrev Place : Type 0
Place = Option (List ℕ × Address)

longer_settings : (place : Place) (settings more : List (Key × ℕ)) (pools : List PoolEntry)
    (events : List ScriptEvent) (setting : Key × ℕ) (bad : Option ℕ)
    → script_unless bad (record {
      zone = place;
      settings = settings ++ setting ∷ more;
      pools = pools;
      events = events;
    })
    ≡ script_unless bad (record {
      zone = place;
      settings = (settings ++ setting ∷ []) ++ more;
      pools = pools;
      events = events;
    })
longer_settings place settings more pools events setting bad =
    ap (λ all. script_unless bad (record {
      zone = place;
      settings = all;
      pools = pools;
      events = events;
    })) (sym (append_assoc settings (setting ∷ []) more))

longer_pools : (place : Place) (settings : List (Key × ℕ)) (pools more : List PoolEntry)
    (events : List ScriptEvent) (pool : PoolEntry) (bad : Option ℕ)
    → script_unless bad (record {
      zone = place;
      settings = settings;
      pools = pools ++ pool ∷ more;
      events = events;
    })
    ≡ script_unless bad (record {
      zone = place;
      settings = settings;
      pools = (pools ++ pool ∷ []) ++ more;
      events = events;
    })
longer_pools place settings pools more events pool bad =
    ap (λ all. script_unless bad (record {
      zone = place;
      settings = settings;
      pools = all;
      events = events;
    })) (sym (append_assoc pools (pool ∷ []) more))

longer_events : (place : Place) (settings : List (Key × ℕ)) (pools : List PoolEntry)
    (events more : List ScriptEvent) (event : ScriptEvent) (bad : Option ℕ)
    → script_unless bad (record {
      zone = place;
      settings = settings;
      pools = pools;
      events = events ++ event ∷ more;
    })
    ≡ script_unless bad (record {
      zone = place;
      settings = settings;
      pools = pools;
      events = (events ++ event ∷ []) ++ more;
    })
longer_events place settings pools events more event bad =
    ap (λ all. script_unless bad (record {
      zone = place;
      settings = settings;
      pools = pools;
      events = all;
    })) (sym (append_assoc events (event ∷ []) more))

pool_taken : (n : ℕ) (place : Place) (settings : List (Key × ℕ)) (pools : List PoolEntry)
    (pool : PoolEntry) (lines : List (Option Line))
    → length pools < 16
    → answer_from n (record { zone = place; settings = settings; pools = pools; events = [] })
    (Some (Pool pool) ∷ lines)
    ≡ answer_from (n + 1) (record {
      zone = place;
      settings = settings;
      pools = pools ++ pool ∷ [];
      events = [];
    }) lines
unfolding answer_from
pool_taken n place settings pools pool lines few =
    let room : nat_lt (length pools) 16 ≡ true = grind (arith, nat_tests) in
    let others = in_place (length pools + 1) lines in
    let count : length (pools ++ pool ∷ []) ≡ length pools + 1 = length_push pools pool in
    rw (room, count) (longer_pools (last_or place (filter_map zone_in others))
    (settings ++ filter_map setting_in others) pools
    (filter_map pool_in others) (filter_map event_in others) pool
    (position_from (λ line. not (is_some line)) (n + 1) others))

taken : (n : ℕ) (place : Place) (settings : List (Key × ℕ)) (pools : List PoolEntry)
    (events : List ScriptEvent) (line : Line) (lines : List (Option Line))
    → MayFollow (record { zone = place; settings = settings; pools = pools; events = events }) line
    → answer_from n (record { zone = place; settings = settings; pools = pools; events = events })
    (Some line ∷ lines)
    ≡ answer_from (n + 1) (with_line
    (record { zone = place; settings = settings; pools = pools; events = events }) line) lines
unfolding answer_from
taken n place settings pools [] Blank lines may = refl
taken n place settings pools (event ∷ events) Blank lines may = refl
taken n place settings pools [] (Zone name address) lines may = refl
taken n place settings pools (event ∷ events) (Zone name address) lines may = absurd (cc may)
taken n place settings pools [] (Set setting) lines may =
    let others = in_place (length pools) lines in
    longer_settings (last_or place (filter_map zone_in others)) settings
    (filter_map setting_in others) (pools ++ filter_map pool_in others)
    (filter_map event_in others) setting (position_from (λ line. not (is_some line)) (n + 1) others)
taken n place settings pools (event ∷ events) (Set setting) lines may = absurd (cc may)
taken n place settings pools [] (Pool pool) lines may =
    pool_taken n place settings pools pool lines may.1
taken n place settings pools (event ∷ events) (Pool pool) lines may = absurd (cc may.0)
taken n place settings pools [] (At next) lines may = refl
taken n place settings pools (event ∷ events) (At next) lines may =
    let others = map behind_event lines in
    longer_events (last_or place (filter_map zone_in others)) (settings
    ++ filter_map setting_in others) (pools ++ filter_map pool_in others) (event ∷ events)
    (filter_map event_in others) next (position_from (λ line. not (is_some line)) (n + 1) others)

unread : (n : ℕ) (place : Place) (settings : List (Key × ℕ)) (pools : List PoolEntry)
    (events : List ScriptEvent) (lines : List (Option Line))
    → answer_from n (record { zone = place; settings = settings; pools = pools; events = events })
    (None ∷ lines) ≡ Err (BadLine n)
unfolding answer_from
unread n place settings pools [] lines = refl
unread n place settings pools (event ∷ events) lines = refl

pool_misplaced : (n : ℕ) (place : Place) (settings : List (Key × ℕ)) (pools : List PoolEntry)
    (pool : PoolEntry) (lines : List (Option Line))
    → ¬ (length pools < 16)
    → answer_from n (record { zone = place; settings = settings; pools = pools; events = [] })
    (Some (Pool pool) ∷ lines) ≡ Err (BadLine n)
unfolding answer_from
pool_misplaced n place settings pools pool lines many =
    let full : nat_lt (length pools) 16 ≡ false = grind (arith, nat_tests) in
    rw full refl

misplaced : (n : ℕ) (place : Place) (settings : List (Key × ℕ)) (pools : List PoolEntry)
    (events : List ScriptEvent) (line : Line) (lines : List (Option Line))
    → ¬ (MayFollow (record { zone = place; settings = settings; pools = pools; events = events })
    line)
    → answer_from n (record { zone = place; settings = settings; pools = pools; events = events })
    (Some line ∷ lines) ≡ Err (BadLine n)
unfolding answer_from
misplaced n place settings pools [] Blank lines not_so = absurd (not_so tt)
misplaced n place settings pools (event ∷ events) Blank lines not_so = absurd (not_so tt)
misplaced n place settings pools [] (Zone name address) lines not_so = absurd (not_so refl)
misplaced n place settings pools (event ∷ events) (Zone name address) lines not_so = refl
misplaced n place settings pools [] (Set setting) lines not_so = absurd (not_so refl)
misplaced n place settings pools (event ∷ events) (Set setting) lines not_so = refl
misplaced n place settings pools [] (Pool pool) lines not_so =
    pool_misplaced n place settings pools pool lines (λ few. not_so (refl, few))
misplaced n place settings pools (event ∷ events) (Pool pool) lines not_so = refl
misplaced n place settings pools [] (At next) lines not_so = absurd (not_so tt)
misplaced n place settings pools (event ∷ events) (At next) lines not_so = absurd (not_so tt)

blank_last : (n : ℕ) (place : Place)
    (settings : List (Key × ℕ)) (pools : List PoolEntry) (events : List ScriptEvent)
    → answer_from n
    (record { zone = place; settings = settings; pools = pools; events = events }) []
    ≡ answer_from n (record { zone = place; settings = settings; pools = pools; events = events })
    (readings [])
unfolding answer_from line_of
blank_last n place settings pools [] = refl
blank_last n place settings pools (event ∷ events) = refl

no_lines : (n : ℕ) (place : Place)
    (settings : List (Key × ℕ)) (pools : List PoolEntry) (events : List ScriptEvent)
    → answer_from n (record { zone = place; settings = settings; pools = pools; events = events })
    [] ≡ script_from place settings pools events
unfolding answer_from
no_lines n place settings pools [] = rw (append-nil settings, append-nil pools) refl
no_lines n place settings pools (event ∷ events) =
    rw (append-nil settings, append-nil pools, append-nil (event ∷ events)) refl

pub last_answer : (n : ℕ) (said : Said) (text : List ℕ) → length text ≡ 0
    → answer_from n said (readings text)
    ≡ script_from said.zone said.settings said.pools said.events
last_answer n said [] e =
    sym (blank_last n said.zone said.settings said.pools said.events)
    ∙ no_lines n said.zone said.settings said.pools said.events
last_answer n said (c ∷ text) e = absurd (omega (arith, e))

first_reading : (text front rest : List ℕ) (P : List (Option Line) → Type 0)
    → front ≡ front_part 10 text → rest ≡ rest_part 10 text
    → P (line_of front ∷ readings rest) → (rest ≡ [] → P (line_of front ∷ [])) → P (readings text)
first_reading text front rest P is_front is_rest more last = elim (split_step 10 text) [
  | inl e ↦ subst P (sym (ap (map line_of) e
      ∙ ap (λ (f : List ℕ). line_of f ∷ readings (rest_part 10 text)) (sym is_front)
      ∙ ap (λ (r : List ℕ). line_of front ∷ readings r) (sym is_rest))) more
  | inr e ↦ subst P (sym (ap (map line_of) e.0
      ∙ ap (λ (f : List ℕ). line_of f ∷ []) (sym is_front))) (last (is_rest ∙ e.1))
]

pub answer_more : (n : ℕ) (said : Said) (text front rest : List ℕ) (line : Line)
    → front ≡ front_part 10 text → rest ≡ rest_part 10 text
    → line_of front ≡ Some line → MayFollow said line
    → answer_from n said (readings text) ≡ answer_from (n + 1) (with_line said line) (readings rest)
answer_more n said text front rest line is_front is_rest reads may =
    first_reading text front rest (λ lines. answer_from n said lines
    ≡ answer_from (n + 1) (with_line said line) (readings rest)) is_front is_rest
    (ap (λ (l : Option Line). answer_from n said (l ∷ readings rest)) reads
    ∙ taken n said.zone said.settings said.pools said.events line (readings rest) may)
    (λ e. ap (λ (l : Option Line). answer_from n said (l ∷ [])) reads
    ∙ taken n said.zone said.settings said.pools said.events line [] may
    ∙ blank_last (n + 1) (with_line said line).zone (with_line said line).settings
    (with_line said line).pools (with_line said line).events
    ∙ ap (λ (r : List ℕ). answer_from (n + 1) (with_line said line) (readings r)) (sym e))

pub unread_line : (n : ℕ) (said : Said) (text front rest : List ℕ) → front ≡ front_part 10 text
    → rest ≡ rest_part 10 text
    → line_of front ≡ None → answer_from n said (readings text) ≡ Err (BadLine n)
unread_line n said text front rest is_front is_rest reads =
    first_reading text front rest
    (λ lines. answer_from n said lines ≡ Err (BadLine n)) is_front is_rest
    (ap (λ (l : Option Line). answer_from n said (l ∷ readings rest)) reads
    ∙ unread n said.zone said.settings said.pools said.events (readings rest))
    (λ e. ap (λ (l : Option Line). answer_from n said (l ∷ [])) reads
    ∙ unread n said.zone said.settings said.pools said.events [])

pub misplaced_line : (n : ℕ) (said : Said) (text front rest : List ℕ) (line : Line)
    → front ≡ front_part 10 text → rest ≡ rest_part 10 text
    → line_of front ≡ Some line → ¬ (MayFollow said line)
    → answer_from n said (readings text) ≡ Err (BadLine n)
misplaced_line n said text front rest line is_front is_rest reads not_so =
    first_reading text front rest
    (λ lines. answer_from n said lines ≡ Err (BadLine n)) is_front is_rest
    (ap (λ (l : Option Line). answer_from n said (l ∷ readings rest)) reads
    ∙ misplaced n said.zone said.settings said.pools said.events line (readings rest) not_so)
    (λ e. ap (λ (l : Option Line). answer_from n said (l ∷ [])) reads
    ∙ misplaced n said.zone said.settings said.pools said.events line [] not_so)
