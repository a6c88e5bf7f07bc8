-- The kept replies stay sound as one is put among them, goes, or waits once more.
use Rattle.std.proofs.Common.{◌≡◌, ◌≤◌, ◌+◌, ℕ, true, sym, ◌∙◌, ap, subst}
use Rattle.std.proofs.Common.{refl, Some, None, arith}
use Rattle.std.specs.Prelude.{IsSome, Option, nat_lt}
use Rattle.std.specs.Option.{IsSomeAnd}
use Rattle.std.specs.FinMap as fin
use Rattle.std.specs.FinMap.{len}
use Rattle.keyed.specs.Maps.{update}
use Rattle.kept_replies.specs.declared.entry.KeptEntry.{KeptEntry}
use Rattle.kept_replies.specs.declared.entry.KeptState.{KeptState}
use Rattle.kept_replies.specs.declared.entry.KeptState.TheVariants.{Done, Pending}
use Rattle.kept_replies.specs.declared.key.KeptKey.{KeptKey}
use Rattle.kept_replies.specs.Kept.{AreBornApart, AreEntries, IsEntry, IsState, KeptReplies}
use Rattle.kept_replies.specs.Kept.{births, left_in, postponed_in, without, without_birth}
use Rattle.kept_replies.proofs.KeyOrder.{key_cmp_total, key_cmp-IsAntisymmetric}
use Rattle.ras_machine.specs.declared.job.Occasion.{Occasion}
use Rattle.ras_machine.specs.declared.job.Occasion.TheVariants.{Again, Anew, First}
use Rattle.ras_machine.specs.inside.Room.{FitsIn, IsPlaced, MayBeKept}
use Rattle.ras_machine.specs.Keeping.{after_drop, kept_with, served_again}
use Rattle.ras_machine.specs.Soundness.{AllWaitInProgress, AreBornBefore, WaitsInProgress}
use Rattle.ras_machine.proofs.Dropping.{born_dropped, born_kept_with, born_same, get_after_drop}
use Rattle.sound_steps.proofs.Lookups.{was_or_changed, was_or_put}
use Rattle.sound_steps.proofs.Sizes.{len_removed, len_updated, len_within}
use Rattle.sound_steps.proofs.Tests.{more_than_one}

-- What holds of the kept replies after this many steps.
pub record AreSoundKept (delay most steps : ℕ) (kept : KeptReplies) : Type 0 where
  pub few : len kept ≤ most
  pub entries : AreEntries kept
  pub births : AreBornApart kept
  pub born : AreBornBefore steps kept
  pub waiting : AllWaitInProgress delay kept

module _ (delay most steps : ℕ) (kept : KeptReplies)
    (sound : AreSoundKept delay most steps kept) where
  -- a step passes
  pub kept-later : AreSoundKept delay most (steps + 1) kept
  kept-later = record {
    few = sound.few;
    entries = sound.entries;
    births = sound.births;
    born = born_same kept steps sound.born;
    waiting = sound.waiting;
  }

  -- an entry goes
  pub kept-dropped : (born : ℕ) → AreSoundKept delay most (steps + 1) (without_birth kept born)
  kept-dropped born = record {
    few = few_left (fin.get (births kept) born);
    entries = λ key entry there. sound.entries key entry (was key entry there);
    births = λ key other entry last at too same.
        sound.births key other entry last (was key entry at) (was other last too) same;
    born = born_dropped kept steps sound.born born;
    waiting = λ key entry there. sound.waiting key entry (was key entry there);
  } where
    was : (key : KeptKey) (entry : KeptEntry)
        → fin.get (without_birth kept born) key ≡ Some entry → fin.get kept key ≡ Some entry
    was key entry there = get_after_drop kept (Some born) key entry there

    -- no more are kept than before
    few_left : (row : Option (KeptKey × KeptEntry)) → len (without kept row) ≤ most
    few_left None = sound.few
    few_left (Some row) =
        omega (
          arith,
          len_removed key_cmp_total key_cmp-IsAntisymmetric kept row.0,
          sound.few,
        )

  -- an entry that is put finds a place, for which another may have gone
  few_first : (key : KeptKey) (dropped : Option ℕ) (new : KeptEntry)
      → FitsIn (record { kept = kept; most = most; room = 0 }) dropped
      → len (fin.insert (after_drop kept dropped) key new) ≤ most
  few_first key None new fits =
      len_within key_cmp_total key_cmp-IsAntisymmetric kept key new most sound.few (λ none. fits)
  few_first key (Some born) new fits =
      len_within key_cmp_total key_cmp-IsAntisymmetric (without_birth kept born) key new most
      (omega (arith, fits)) (λ none. fits)

  -- or takes its own
  few_anew : (key : KeptKey) (new : KeptEntry) → IsSome (fin.get kept key)
      → len (fin.insert kept key new) ≤ most
  few_anew key new there =
      len_within key_cmp_total key_cmp-IsAntisymmetric kept key new most sound.few
      (λ none. absurd (cc (subst IsSome none there)))

  module _ (key : KeptKey) (dropped : Option ℕ) (state : KeptState) (is : IsState state)
      (waits : WaitsInProgress delay state) (few_put : len (fin.insert (after_drop kept dropped) key
      (record { born = steps; state = state })) ≤ most) where
    abbrev new : KeptEntry
    new = record { born = steps; state = state }

    abbrev after : KeptReplies
    after = fin.insert (after_drop kept dropped) key new

    -- what is kept then is this entry, or was kept before
    put_or_before : (q : KeptKey) (entry : KeptEntry) (P : Type 0) → fin.get after q ≡ Some entry
        → (q ≡ key → new ≡ entry → P) → (fin.get kept q ≡ Some entry → P) → P
    put_or_before q entry P there put was =
        was_or_put key_cmp_total key_cmp-IsAntisymmetric (after_drop kept dropped) key new q entry
        P there put (λ left. was (get_after_drop kept dropped q entry left))

    -- nothing that was kept before was born now
    not_now : {P : Type 0} (q : KeptKey) (entry last : KeptEntry) → fin.get kept q ≡ Some entry
        → new ≡ last → entry.born ≡ last.born → P
    not_now q entry last there now same =
        absurd (omega (
          arith,
          sound.born q entry there,
          same,
          ap (λ (e : KeptEntry). e.born) now,
        ))

    -- so all stays sound
    kept-put : AreSoundKept delay most (steps + 1) after
    kept-put = record {
      few = few_put;
      entries = λ q entry there. put_or_before q entry (IsEntry entry) there
          (λ same put. subst (λ (e : KeptEntry). IsEntry e) put is) (sound.entries q entry);
      births = λ q other entry last at too same.
          put_or_before q entry (q ≡ other) at
          (λ here put. put_or_before other last (q ≡ other) too
          (λ here_too _. here ∙ sym here_too)
          (λ was. not_now other last entry was put (sym same)))
          (λ was. put_or_before other last (q ≡ other) too
          (λ here put. not_now q entry last was put same)
          (λ was_too. sound.births q other entry last was was_too same));
      born = born_kept_with kept steps sound.born key (First dropped) state;
      waiting = λ q entry there. put_or_before q entry (WaitsInProgress delay entry.state) there
          (λ same put. subst (λ (e : KeptEntry). WaitsInProgress delay e.state) put waits)
          (sound.waiting q entry);
    }

  -- an entry goes on
  module _ (key : KeptKey) (f : KeptEntry → KeptEntry)
      (ages : (e : KeptEntry) → (f e).born ≡ e.born)
      (stays : (e : KeptEntry) → fin.get kept key ≡ Some e → IsEntry (f e))
      (waits : (e : KeptEntry) → WaitsInProgress delay e.state
      → WaitsInProgress delay (f e).state) where
    -- what is kept then is the entry that goes on, or was kept before
    changed_or_before : (q : KeptKey) (entry : KeptEntry) (P : Type 0)
        → fin.get (update kept key f) q ≡ Some entry
        → ((old : KeptEntry) → q ≡ key → fin.get kept key ≡ Some old → f old ≡ entry → P)
        → (fin.get kept q ≡ Some entry → P) → P
    changed_or_before q = was_or_changed key_cmp_total key_cmp-IsAntisymmetric kept key f q

    -- each entry was born when it was
    age_is : (q : KeptKey) (entry : KeptEntry) → fin.get (update kept key f) q ≡ Some entry
        → (old : KeptEntry) × (fin.get kept q ≡ Some old) × (entry.born ≡ old.born)
    age_is q entry there =
        changed_or_before q entry
        ((old : KeptEntry) × (fin.get kept q ≡ Some old) × (entry.born ≡ old.born)) there
        (λ old same was is. (
          old,
          ap (fin.get kept) same ∙ was,
          sym (ap (λ (e : KeptEntry). e.born) is) ∙ ages old,
        ))
        (λ was. (entry, was, refl))

    -- so all stays sound
    kept-changed : AreBornBefore (steps + 1) (update kept key f)
        → AreSoundKept delay most (steps + 1) (update kept key f)
    kept-changed born = record {
      few = omega (
        arith,
        len_updated key_cmp_total key_cmp-IsAntisymmetric kept key f,
        sound.few,
      );
      entries = λ q entry there.
          changed_or_before q entry (IsEntry entry) there
          (λ old same was is. subst (λ (e : KeptEntry). IsEntry e) is (stays old was))
          (λ was. sound.entries q entry was);
      births = λ q other entry last at too same.
          (let a = age_is q entry at in
          let b = age_is other last too in
          sound.births q other a.0 b.0 a.1 b.1 (sym a.2 ∙ (same ∙ b.2)));
      born = born;
      waiting = λ q entry there.
          changed_or_before q entry (WaitsInProgress delay entry.state) there
          (λ old same was is. subst (λ (e : KeptEntry). WaitsInProgress delay e.state) is
          (waits old (sound.waiting key old was)))
          (λ was. sound.waiting q entry was);
    }

  -- it may wait once more, with one time fewer
  still_some : (state : KeptState) (left retry : ℕ) → left_in state ≡ left
      → nat_lt 1 left ≡ true → IsState (postponed_in retry state)
  still_some (Done reply until) left retry is more = tt
  still_some (Pending request reply old times) left retry is more =
      omega (arith, is, more_than_one left more)

  -- and waits in progress, as it did
  still_waits : (retry : ℕ) (state : KeptState) → WaitsInProgress delay state
      → WaitsInProgress delay (postponed_in retry state)
  still_waits retry (Done reply until) is = tt
  still_waits retry (Pending request reply old times) is = is

  -- the times that its entry has left are those of its occasion
  its_left : (key : KeptKey) (left : ℕ)
      → IsSomeAnd (fin.get kept key) (λ entry. left_in entry.state ≡ left) → (e : KeptEntry)
      → fin.get kept key ≡ Some e → left_in e.state ≡ left
  its_left key left placed e there =
      subst (λ (w : Option KeptEntry). IsSomeAnd w (λ entry. left_in entry.state ≡ left)) there
      placed

  -- what is kept of a request that was served
  pub kept-served : (key : KeptKey) (occasion : Occasion)
      → IsPlaced (record { kept = kept; most = most; room = 0 }) key occasion
      → (state : KeptState) → MayBeKept occasion state → WaitsInProgress delay state
      → AreSoundKept delay most (steps + 1) (kept_with kept key occasion steps state)
  kept-served key (First dropped) placed (Done reply until) may waits =
      kept-put key dropped (Done reply until) tt waits (few_first key dropped _ placed.1)
  kept-served key (First dropped) placed (Pending request reply retry left) may waits =
      kept-put key dropped (Pending request reply retry left) may.1 waits
      (few_first key dropped _ placed.1)
  kept-served key Anew placed (Done reply until) may waits =
      kept-put key None (Done reply until) tt waits (few_anew key _ placed)
  kept-served key Anew placed (Pending request reply retry left) may waits =
      kept-put key None (Pending request reply retry left) may.1 waits (few_anew key _ placed)
  kept-served key (Again born left) placed (Done reply until) may waits =
      kept-changed key (served_again (Done reply until)) (λ e. refl) (λ e there. tt)
      (λ e was. tt)
      (born_kept_with kept steps sound.born key (Again born left) (Done reply until))
  kept-served key (Again born left) placed (Pending request reply retry more) may waits =
      kept-changed key (served_again (Pending request reply retry more)) (λ e. refl)
      (λ e there. still_some e.state left retry (its_left key left placed e there) may.0)
      (λ e was. still_waits retry e.state was)
      (born_kept_with kept steps sound.born key (Again born left)
      (Pending request reply retry more))
