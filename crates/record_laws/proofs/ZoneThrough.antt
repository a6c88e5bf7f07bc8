-- An audit goes on behind the lines of a zone.
use Rattle.std.proofs.Common.{◌≡◌, ◌≤◌, ◌+◌, ℕ, List, [], ◌∷◌, ◌++◌, length, map, Option}
use Rattle.std.proofs.Common.{Some, None, refl, sym, append_assoc, append-nil, subst, arith}
use Rattle.std.proofs.Common.{drop}
use Rattle.std.specs.List.{AllByRecursion}
use Rattle.ras_module.specs.declared.address.Address.{Address}
use Rattle.zone_config.specs.declared.config.ConfigParts.{ConfigParts}
use Rattle.zone_config.specs.declared.key.Key.{Key}
use Rattle.script.specs.declared.line.Line.{Line}
use Rattle.script.specs.declared.line.Line.TheVariants.{Pool, Set, Zone}
use Rattle.script.specs.Lines.{line_of}
use Rattle.script.specs.Pools.{PoolEntry}
use Rattle.record_audit.specs.Records.{Describes, GoesThrough, Standing, beginning, most_octets}
use Rattle.recording.specs.Zones.{pool_line_text, setting_text, zone_text}
use Rattle.recording.proofs.ReadLines.{IsReadAs}
use Rattle.recording.proofs.WholeZones.{AreRead, number_of_key}
use Rattle.record_laws.proofs.RecordLines.{AreLines, Steps, goes_on, no_remark}

abbrev pub AreShort : List (List ℕ) → Type 0
AreShort texts = AllByRecursion (λ line. length line ≤ most_octets) texts

-- behind lines of a zone that is named: these settings and pools are said
abbrev pub describing : List ℕ × Address → List (Key × ℕ) → List PoolEntry → Standing
describing zone settings pools = record {
  said = record { zone = Some zone; settings = settings; pools = pools; events = [] };
  zone = None;
  awaited = None;
}

-- the line of this text is read as this one, which may stand here
taken : (old mid : Standing) (line : Line) (text : List ℕ) → IsReadAs line text
    → Describes old (Some line) mid → Describes old (line_of text) mid
taken old mid line text read h = subst (λ (l : Option Line). Describes old l mid) (sym read.back) h

length_more : (before : List PoolEntry) (entry : PoolEntry)
    → length (before ++ entry ∷ []) ≡ length before + 1
length_more [] entry = refl
length_more (x ∷ xs) entry = omega (arith, length_more xs entry)

module _ (zone : List ℕ × Address) (lines : List (List ℕ)) (steps : Steps) (new : Standing) where
  pub settings_through : (config : ConfigParts) (keys : List Key) (before : List (Key × ℕ))
      → AreRead (map Set (map (number_of_key config) keys)) (map (setting_text config) keys)
      → AreShort (map (setting_text config) keys)
      → GoesThrough (describing zone (before ++ map (number_of_key config) keys) []) lines steps new
      → GoesThrough (describing zone before []) (map (setting_text config) keys ++ lines) steps new
  settings_through config [] before read short rest =
      subst (λ (ss : List (Key × ℕ)). GoesThrough (describing zone ss []) lines steps new)
      (append-nil before) rest
  settings_through config (key ∷ keys) before read short rest =
      let setting = number_of_key config key in
      goes_on (describing zone before []) (describing zone (before ++ setting ∷ []) []) new
      (setting_text config key) (map (setting_text config) keys ++ lines) [] steps
      (no_remark 115 (drop 1 (setting_text config key)) refl) short.0
      (taken (describing zone before []) (describing zone (before ++ setting ∷ []) [])
      (Set setting) (setting_text config key) read.0 (refl, refl))
      refl
      (settings_through config keys (before ++ setting ∷ []) read.1 short.1
      (subst (λ (ss : List (Key × ℕ)). GoesThrough (describing zone ss []) lines steps new)
      (sym (append_assoc before (setting ∷ []) (map (number_of_key config) keys))) rest))

  pub pools_through : (settings : List (Key × ℕ)) (entries before : List PoolEntry)
      → length before + length entries ≤ 16
      → AreRead (map Pool entries) (map pool_line_text entries)
      → AreShort (map pool_line_text entries)
      → GoesThrough (describing zone settings (before ++ entries)) lines steps new
      → GoesThrough (describing zone settings before) (map pool_line_text entries ++ lines) steps
      new
  pools_through settings [] before few read short rest =
      subst (λ (ps : List PoolEntry). GoesThrough (describing zone settings ps) lines steps new)
      (append-nil before) rest
  pools_through settings (entry ∷ entries) before few read short rest =
      goes_on (describing zone settings before) (describing zone settings (before ++ entry ∷ []))
      new
      (pool_line_text entry) (map pool_line_text entries ++ lines) [] steps
      (no_remark 112 (drop 1 (pool_line_text entry)) refl) short.0
      (taken (describing zone settings before) (describing zone settings (before ++ entry ∷ []))
      (Pool entry) (pool_line_text entry) read.0 ((refl, omega (arith, few)), refl))
      refl
      (pools_through settings entries (before ++ entry ∷ [])
      (omega (arith, few, length_more before entry)) read.1 short.1
      (subst (λ (ps : List PoolEntry). GoesThrough (describing zone settings ps) lines steps new)
      (sym (append_assoc before (entry ∷ []) entries)) rest))

pub zone_through : (config : ConfigParts) (lines : List (List ℕ)) (steps : Steps) (new : Standing)
    → IsReadAs (Zone config.identifier config.address) (zone_text config)
    → length (zone_text config) ≤ most_octets
    → GoesThrough (describing (config.identifier, config.address) [] []) lines steps new
    → GoesThrough beginning (zone_text config ∷ lines) steps new
zone_through config lines steps new read short rest =
    goes_on beginning (describing (config.identifier, config.address) [] []) new (zone_text config)
    lines [] steps (no_remark 122 (drop 1 (zone_text config)) refl) short
    (taken beginning (describing (config.identifier, config.address) [] [])
    (Zone config.identifier config.address) (zone_text config) read (refl, refl))
    refl rest

pub are_lines : (lines : List Line) (texts : List (List ℕ)) → AreRead lines texts → AreLines texts
are_lines [] [] h = tt
are_lines [] (text ∷ texts) h = absurd h
are_lines (line ∷ lines) [] h = absurd h
are_lines (line ∷ lines) (text ∷ texts) h = (h.0.no_end, are_lines lines texts h.1)
