-- A book goes on by one entry.
use Rattle.std.proofs.Common.{◌≡◌, ◌≢◌, ◌==◌, ℕ, zero, suc, Bool, true, false, List, [], ◌∷◌, ◌++◌}
use Rattle.std.proofs.Common.{length, refl, sym, ◌∙◌, ap, subst, cond, Some}
use Rattle.std.specs.Prelude.{slice_get}
use Rattle.std.proofs.lemmas.List.{append-nil}
use Rattle.std.proofs.lemmas.Bool.Decides.{Decides-eqb}
use Rattle.ras_machine.specs.State.{State}
use Rattle.ras_core.specs.Runs.{ChangeStep}
use Rattle.books.specs.declared.book.Entry.{Entry}
use Rattle.books.specs.Books.{AreCounted, BookRun, entries_of_seat}

pub run_more : (base now after : State) (entries : List Entry) (entry : Entry)
    → BookRun base entries now → ChangeStep now entry.event entry.outcome after
    → BookRun base (entries ++ entry ∷ []) after
run_more base now after [] entry run step =
    (after, subst (λ (s : State). ChangeStep s entry.event entry.outcome after) run step, refl)
run_more base now after (e ∷ entries) entry run step =
    (run.0, run.1, run_more run.0 now after entries entry run.2 step)

-- what leads on from where a book led
pub run_on : (base mid now : State) (xs ys : List Entry) → BookRun base xs mid → BookRun mid ys now
    → BookRun base (xs ++ ys) now
run_on base mid now [] ys first second = subst (λ (s : State). BookRun s ys now) first second
run_on base mid now (e ∷ xs) ys first second =
    (first.0, first.1, run_on first.0 mid now xs ys first.2 second)

-- one more entry adds to its own seat, and to no other
pub of_seat_more : (seat : ℕ) (entries : List Entry) (entry : Entry)
    → entries_of_seat seat (entries ++ entry ∷ [])
    ≡ entries_of_seat seat entries ++ entries_of_seat seat (entry ∷ [])
of_seat_more seat [] entry = refl
of_seat_more seat (e ∷ entries) entry =
    if_kept (e.seat == seat) e (entries_of_seat seat (entries ++ entry ∷ []))
    (entries_of_seat seat entries) (entries_of_seat seat (entry ∷ []))
    (of_seat_more seat entries entry) where
      if_kept : (b : Bool) (e : Entry) (all front back : List Entry) → all ≡ front ++ back
          → cond b (e ∷ all) all ≡ cond b (e ∷ front) front ++ back
      if_kept true e all front back is = ap (λ es. e ∷ es) is
      if_kept false e all front back is = is

pub of_own_seat : (seat : ℕ) (entry : Entry) → entry.seat ≡ seat
    → entries_of_seat seat (entry ∷ []) ≡ entry ∷ []
of_own_seat seat entry is =
    ap (λ b. cond b (let own : List Entry = entry ∷ [] in own) [])
    ((Decides-eqb entry.seat seat).1 is)

pub of_other_seat : (seat : ℕ) (entry : Entry) → entry.seat ≢ seat
    → entries_of_seat seat (entry ∷ []) ≡ []
of_other_seat seat entry differ = other (entry.seat == seat) refl where
  other : (b : Bool) → (entry.seat == seat) ≡ b
      → cond b (let own : List Entry = entry ∷ [] in own) [] ≡ []
  other true is = absurd (differ ((Decides-eqb entry.seat seat).0 is))
  other false is = refl

-- what stands behind others is one of them, or the last
last_or_earlier : (P : Entry → ℕ → Type 0) (entries : List Entry) (last : Entry)
    → ((n : ℕ) (e : Entry) → slice_get entries n ≡ Some e → P e n) → P last (length entries)
    → (n : ℕ) (e : Entry) → slice_get (entries ++ last ∷ []) n ≡ Some e → P e n
last_or_earlier P [] last earlier now zero e at = subst (λ (x : Entry). P x zero) (cc at) now
last_or_earlier P [] last earlier now (suc n) e at = absurd (cc at)
last_or_earlier P (x ∷ entries) last earlier now zero e at = earlier zero e at
last_or_earlier P (x ∷ entries) last earlier now (suc n) e at =
    last_or_earlier (λ y k. P y (suc k)) entries last (λ k y is. earlier (suc k) y is) now n e at

pub counted_more : (entries : List Entry) (entry : Entry) → AreCounted entries
    → entry.call ≡ length (entries_of_seat entry.seat entries)
    → AreCounted (entries ++ entry ∷ [])
counted_more entries entry counted call seat n e at = by_seat (entry.seat == seat) refl where
  by_seat : (b : Bool) → (entry.seat == seat) ≡ b → e.call ≡ n
  by_seat true is =
      let same = (Decides-eqb entry.seat seat).0 is in
      let all = of_seat_more seat entries entry
      ∙ ap (λ es. entries_of_seat seat entries ++ es) (of_own_seat seat entry same) in
      last_or_earlier (λ x k. x.call ≡ k) (entries_of_seat seat entries) entry
      (λ k x is. counted seat k x is)
      (call ∙ ap (λ s. length (entries_of_seat s entries)) same)
      n e (subst (λ (es : List Entry). slice_get es n ≡ Some e) all at)
  by_seat false is =
      let differ : entry.seat ≢ seat = λ same. cc (sym is ∙ (Decides-eqb entry.seat seat).1 same) in
      let all = of_seat_more seat entries entry
      ∙ (ap (λ es. entries_of_seat seat entries ++ es) (of_other_seat seat entry differ)
      ∙ append-nil (entries_of_seat seat entries)) in
      counted seat n e (subst (λ (es : List Entry). slice_get es n ≡ Some e) all at)
