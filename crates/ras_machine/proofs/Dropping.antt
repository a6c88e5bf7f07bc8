-- What the kept replies are after one was dropped, and after one was added.
use Rattle.std.proofs.Common.{◌≡◌, ◌<◌, ◌+◌, ℕ, Bool, true, refl, sym, ◌∙◌, ap, subst}
use Rattle.std.proofs.Common.{Some, None, arith}
use Rattle.std.specs.Prelude.{IfSome, Option}
use Rattle.std.specs.Option.{IsSomeAnd, option_map}
use Rattle.std.specs.FinMap as fin
use Rattle.keyed.specs.Maps.{update}
use Rattle.keyed.proofs.Decide.{same_some, some_none}
use Rattle.kept_replies.specs.Keys.{key_cmp}
use Rattle.keyed.proofs.Maps.{by_key, Changed-insert, Changed-remove, Changed-update, len_less}
use Rattle.kept_replies.specs.declared.key.KeptKey.{KeptKey}
use Rattle.kept_replies.specs.declared.entry.KeptEntry.{KeptEntry}
use Rattle.kept_replies.specs.declared.entry.KeptState.{KeptState}
use Rattle.kept_replies.specs.declared.entry.KeptState.TheVariants.{Done, Pending}
use Rattle.kept_replies.specs.Kept.{KeptReplies, AreBornApart, IsFreeBirth, KeptTable}
use Rattle.kept_replies.specs.Kept.{Passes, births, without, without_birth}
use Rattle.kept_replies.specs.Kept.{is_over}
use Rattle.kept_replies.proofs.Births.{births-has}
use Rattle.kept_replies.proofs.KeyOrder.{key_cmp_total, key_cmp-IsAntisymmetric}
use Rattle.ras_machine.specs.declared.job.Occasion.{Occasion}
use Rattle.ras_machine.specs.declared.job.Occasion.TheVariants.{Again, Anew, First}
use Rattle.ras_machine.specs.inside.Room.{FitsIn}
use Rattle.ras_machine.specs.State.{State}
use Rattle.ras_machine.specs.Steps.{IsTimely}
use Rattle.ras_machine.specs.Keeping.{after_drop, dropped_for, kept_with, served_again}
use Rattle.ras_machine.specs.Soundness.{AreBornBefore}

get_without : (kept : KeptReplies)
    (row : Option (KeptKey × KeptEntry)) (key : KeptKey) (entry : KeptEntry)
    → fin.get (without kept row) key ≡ Some entry → fin.get kept key ≡ Some entry
get_without kept None key entry there = there
get_without kept (Some row) key entry there =
    let c = Changed-remove key_cmp_total key_cmp-IsAntisymmetric kept row.0 in
    by_key key_cmp_total key_cmp-IsAntisymmetric key row.0 (fin.get kept key ≡ Some entry)
    (λ same. absurd (cc (sym there ∙ (ap (fin.get (fin.remove kept row.0)) same ∙ c.here))))
    (λ differ. sym (c.others key differ) ∙ there)

-- what is left was there
pub get_after_drop : (kept : KeptReplies) (dropped : Option ℕ) (key : KeptKey) (entry : KeptEntry)
    → fin.get (after_drop kept dropped) key ≡ Some entry → fin.get kept key ≡ Some entry
get_after_drop kept None key entry there = there
get_after_drop kept (Some born) key entry there =
    get_without kept (fin.get (births kept) born) key entry there

module _ (kept : KeptReplies) (apart : AreBornApart kept) (test : KeptEntry → Bool) (born : ℕ) where
  -- a place becomes free
  pub fewer : Passes test kept born → fin.len kept ≡ fin.len (without_birth kept born) + 1
  fewer passes = cases (fin.get (births kept) born) refl passes where
    cases : (w : Option (KeptKey × KeptEntry)) → fin.get (births kept) born ≡ w
        → IsSomeAnd w (λ row. test row.1 ≡ true) → fin.len kept ≡ fin.len (without kept w) + 1
    cases None is h = absurd h
    cases (Some row) is h =
        len_less key_cmp_total key_cmp-IsAntisymmetric kept row.0 row.1
        (births-has kept apart born row is).0

module _ (kept : KeptReplies) (steps : ℕ) (before : AreBornBefore steps kept) where
  -- an entry that is born now shares its birth with none
  pub is_free : (dropped : Option ℕ) (key : KeptKey)
      → IsFreeBirth (after_drop kept dropped) key steps
  is_free dropped key other entry there same =
      absurd (omega (
        arith,
        before other entry
            (get_after_drop kept dropped other entry there),
        same,
      ))

  born_later : (key : KeptKey) (entry : KeptEntry) → fin.get kept key ≡ Some entry
      → entry.born < steps + 1
  born_later key entry there = omega (arith, before key entry there)

  born_inserted : (dropped : Option ℕ) (key : KeptKey) (new : KeptEntry) → new.born ≡ steps
      → AreBornBefore (steps + 1) (fin.insert (after_drop kept dropped) key new)
  born_inserted dropped key new now q entry there =
      let c =
      Changed-insert key_cmp_total key_cmp-IsAntisymmetric (after_drop kept dropped) key new in
      by_key key_cmp_total key_cmp-IsAntisymmetric q key (entry.born < steps + 1)
      (λ same. subst (λ (e : KeptEntry). e.born < steps + 1)
      (same_some new entry (sym c.here
      ∙ (ap (fin.get (fin.insert (after_drop kept dropped) key new)) (sym same) ∙ there)))
      (omega (arith, now)))
      (λ differ. born_later q entry
      (get_after_drop kept dropped q entry (sym (c.others q differ) ∙ there)))

  born_updated : (key : KeptKey) (f : KeptEntry → KeptEntry)
      → ((e : KeptEntry) → (f e).born ≡ e.born)
      → AreBornBefore (steps + 1) (update kept key f)
  born_updated key f stays q entry there =
      let c = Changed-update key_cmp_total key_cmp-IsAntisymmetric kept key f in
      by_key key_cmp_total key_cmp-IsAntisymmetric q key (entry.born < steps + 1)
      (λ same. old (fin.get kept key) refl
      (sym c.here ∙ (ap (fin.get (update kept key f)) (sym same) ∙ there)))
      (λ differ. born_later q entry (sym (c.others q differ) ∙ there)) where
        old : (w : Option KeptEntry) → fin.get kept key ≡ w → option_map f w ≡ Some entry
            → entry.born < steps + 1
        old None is h = absurd (cc h)
        old (Some e) is h =
            subst (λ (e : KeptEntry). e.born < steps + 1) (same_some (f e) entry h)
            (omega (arith, stays e, before key e is))

  pub born_dropped : (born : ℕ) → AreBornBefore (steps + 1) (without_birth kept born)
  born_dropped born q entry there =
      born_later q entry (get_after_drop kept (Some born) q entry there)

  pub born_same : AreBornBefore (steps + 1) kept
  born_same = born_later

  pub born_kept_with : (key : KeptKey) (occasion : Occasion) (state : KeptState)
      → AreBornBefore (steps + 1) (kept_with kept key occasion steps state)
  born_kept_with key (First dropped) state =
      born_inserted dropped key (record { born = steps; state = state }) refl
  born_kept_with key Anew state =
      born_inserted None key (record { born = steps; state = state }) refl
  born_kept_with key (Again first left) (Done reply until) =
      born_updated key (served_again (Done reply until)) (λ e. refl)
  born_kept_with key (Again first left) (Pending request reply retry more) =
      born_updated key (served_again (Pending request reply retry more)) (λ e. refl)

-- if there is no place, one becomes free once an entry that is over is dropped
pub fits_of : (t : KeptTable) (now born : ℕ) → AreBornApart t.kept → fin.len t.kept ≡ t.most
    → Passes (is_over now) t.kept born → FitsIn t (Some born)
fits_of t now born apart full over =
    omega (arith, full, fewer t.kept apart (is_over now) born over)

-- what has no entry has none once another is dropped
get_none_after : (kept : KeptReplies) (row : Option (KeptKey × KeptEntry)) (key : KeptKey)
    → fin.get kept key ≡ None → fin.get (without kept row) key ≡ None
get_none_after kept row key none = cases (fin.get (without kept row) key) refl where
  cases : (w : Option KeptEntry) → fin.get (without kept row) key ≡ w
      → fin.get (without kept row) key ≡ None
  cases None is = is
  cases (Some entry) is = some_none (sym (get_without kept row key entry is) ∙ none)

pub none_after_drop : (kept : KeptReplies) (dropped : Option ℕ) (key : KeptKey)
    → fin.get kept key ≡ None → fin.get (after_drop kept dropped) key ≡ None
none_after_drop kept None key none = none
none_after_drop kept (Some born) key none =
    get_none_after kept (fin.get (births kept) born) key none

-- the entry that is dropped for a request is over
pub over_of : (s : State) (now : ℕ) (occasion : Occasion) → IsTimely s now occasion
    → IfSome (dropped_for occasion) (Passes (is_over now) s.kept)
over_of s now (First dropped) timely = timely
over_of s now Anew timely = tt
over_of s now (Again born left) timely = tt

-- nothing that is kept was born
pub born_nothing : (steps : ℕ) → AreBornBefore steps fin.empty
born_nothing steps key entry there = some_none (sym there ∙ fin.get-empty key_cmp key)
