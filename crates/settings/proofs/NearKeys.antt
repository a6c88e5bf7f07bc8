-- The nearest of the keys that were looked at so far.
use Rattle.std.proofs.Common.{◌≡◌, ◌≤◌, ◌<◌, ◌+◌, ◌⊎◌, inl, inr, ℕ, List, Contains, Option, Some, None}
use Rattle.std.proofs.Common.{arith, get_or, length, subst, sym, take}
use Rattle.std.proofs.lemmas.Bool.{cases_order}
use Rattle.std.proofs.lemmas.List.{get_or_default, take_all}
use Rattle.std.proofs.lemmas.List.Elements.{All-more, All-same, All-weaker}
use Rattle.settings.specs.Nearest.{IsNearest, NoneIsNearer, changes_to}
use Rattle.settings.specs.declared.setting_key.SettingKey.{SettingKey}
use Rattle.settings.specs.declared.unknown_key.Nearest.{Nearest}
use Rattle.settings.specs.declared.unknown_key.TheConstants.{MOST_EDITS}

-- a key that needs so many changes; none as long as each would need one more than is allowed
abbrev pub IsFound : List SettingKey → List ℕ → ℕ → Option SettingKey → Type 0
IsFound keys path fewest (Some key) =
    Contains keys key × (changes_to path key ≡ fewest) × (fewest ≤ MOST_EDITS)
IsFound keys path fewest None = fewest ≡ MOST_EDITS + 1

-- this is the nearest of the keys before place i
abbrev pub IsNearestBefore : List SettingKey → List ℕ → ℕ → Nearest → Type 0
IsNearestBefore keys path i nearest = IsFound keys path nearest.fewest nearest.key
    × NoneIsNearer (take i keys) path nearest.fewest

few_changes : (keys : List SettingKey) (path : List ℕ) (fewest : ℕ) (key : Option SettingKey)
    → IsFound keys path fewest key → fewest ≤ MOST_EDITS + 1
few_changes keys path fewest (Some key) found = let few = found.2 in omega arith
few_changes keys path fewest None found = omega arith

module _ (keys : List SettingKey) (path : List ℕ) (i : ℕ) (key : SettingKey)
    (inside : i < length keys) (edits : ℕ) (is : edits ≡ changes_to path (get_or keys i key)) where
  -- behind a key that needs fewer changes
  behind_nearer : (old : Nearest) → IsNearestBefore keys path i old → edits < old.fewest
      → IsNearestBefore keys path (i + 1)
      (record { key = Some (get_or keys i key); fewest = edits })
  behind_nearer old before fewer =
      let few = few_changes keys path old.fewest old.key before.0 in
      let none = All-weaker (λ key. old.fewest ≤ changes_to path key)
      (λ key. edits ≤ changes_to path key) (λ key no_fewer. omega arith) (take i keys) before.1 in (
        ((i, inside, get_or_default keys i (get_or keys i key) key inside), sym is, omega arith),
        All-more (λ key. edits ≤ changes_to path key) keys i key inside none (omega arith),
      )

  -- behind one that needs no fewer
  behind_farther : (old : Nearest) → IsNearestBefore keys path i old → old.fewest ≤ edits
      → IsNearestBefore keys path (i + 1) old
  behind_farther old before no_fewer = (
    before.0,
    All-more (λ key. old.fewest ≤ changes_to path key) keys i key inside before.1 (omega arith),
  )

  pub behind_next : (old new : Nearest) → IsNearestBefore keys path i old
      → (edits < old.fewest → new ≡ record { key = Some (get_or keys i key); fewest = edits })
      → (old.fewest ≤ edits → new ≡ old)
      → IsNearestBefore keys path (i + 1) new
  behind_next old new before nearer kept = by_order (cases_order edits old.fewest)
    where
      farther : old.fewest ≤ edits → IsNearestBefore keys path (i + 1) new
      farther h = subst (IsNearestBefore keys path (i + 1)) (sym (kept h)) (behind_farther old before h)

      by_order : (edits ≡ old.fewest) ⊎ ((edits < old.fewest) ⊎ (old.fewest < edits))
          → IsNearestBefore keys path (i + 1) new
      by_order (inl same) = farther (omega arith)
      by_order (inr (inl fewer)) =
          subst (IsNearestBefore keys path (i + 1)) (sym (nearer fewer)) (behind_nearer old before fewer)
      by_order (inr (inr more)) = farther (omega arith)

-- behind the last key
pub is_nearest : (keys : List SettingKey) (path : List ℕ) (i fewest : ℕ) (key : Option SettingKey)
    → length keys ≤ i → IsFound keys path fewest key → NoneIsNearer (take i keys) path fewest
    → IsNearest keys path key
is_nearest keys path i fewest (Some key) all found none =
    let whole = All-same (λ key. fewest ≤ changes_to path key) keys (take i keys)
    (sym (take_all i keys all)) none in (
      found.0,
      subst (λ n. n ≤ MOST_EDITS) (sym found.1) found.2,
      subst (λ n. NoneIsNearer keys path n) (sym found.1) whole,
    )
is_nearest keys path i fewest None all found none =
    let whole = All-same (λ key. fewest ≤ changes_to path key) keys (take i keys)
    (sym (take_all i keys all)) none in
    subst (λ n. NoneIsNearer keys path n) found whole
