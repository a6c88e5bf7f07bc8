-- The moments at which the silences of the rows end, in their order.
use Rattle.std.proofs.Common.{◌≡◌, ℕ, List, [], ◌∷◌, ◌++◌, length, refl, sym, ◌∙◌, ap, subst}
use Rattle.std.proofs.Common.{Some, None}
use Rattle.std.specs.Prelude.{Option, slice_get}
use Rattle.std.specs.Option.{option_and_then}
use Rattle.std.specs.Ordering.{nat_cmp}
use Rattle.std.specs.FinMap as fin
use Rattle.keyed.specs.Maps.{Changed}
use Rattle.keyed.specs.Places.{row_in}
use Rattle.keyed.proofs.Rows.{Changed-push}
use Rattle.deadlines.specs.Deadlines.{Moments, renamed}
use Rattle.registrations.specs.declared.registration.Registration.{Registration}
use Rattle.registrations.specs.declared.times.Times.{Times}
use Rattle.registrations.specs.Silence.{end_of}
use Rattle.registrations.specs.inside.Stored.{AreEnds, end_in}
use Rattle.registrations.proofs.Due.{AreMoments-remove, AreMoments-set}
use Rattle.registrations.proofs.Swapped.{IsSwapped}

module _ (times : Times) where
  -- the end of the silence of a row with this many legs, if there is a row
  abbrev end_for : Option ℕ → Option Registration → Option ℕ
  end_for legs row = option_and_then (λ r. option_and_then (λ n. end_of times n r) legs) row

  pub AreEnds-empty : (rows : List Registration) (legs : List ℕ) (moments : Moments) → rows ≡ []
      → moments ≡ fin.empty → AreEnds times rows legs moments
  AreEnds-empty rows legs moments none is j = ap (λ m. fin.get m j) is ∙ fin.get-empty nat_cmp j
      ∙ ap (λ l. end_for (slice_get legs j) (slice_get l j)) (sym none)

  module _ (rows next : List Registration) (legs after : List ℕ) (moments later : Moments)
      (ends : AreEnds times rows legs moments) where
    set : (i : ℕ) (w : Option ℕ) → Changed (end_in times rows legs) (end_in times next after) i w
        → Changed (fin.get moments) (fin.get later) i w → AreEnds times next after later
    set i w c d = AreMoments-set (end_in times rows legs) (end_in times next after) moments later
        ends i w c d

    -- a row and its number of legs stand at one place, and all else is as before
    pub AreEnds-set : (i : ℕ) (r : Registration) (n : ℕ)
        → Changed (row_in rows) (row_in next) i (Some r)
        → Changed (row_in legs) (row_in after) i (Some n)
        → Changed (fin.get moments) (fin.get later) i (end_of times n r)
        → AreEnds times next after later
    AreEnds-set i r n c d = set i (end_of times n r) (record {
      here = ap (end_for (slice_get after i)) c.here ∙ ap (λ w. end_for w (Some r)) d.here;
      others = λ j differ. ap (end_for (slice_get after j)) (c.others j differ)
          ∙ ap (λ w. end_for w (slice_get rows j)) (d.others j differ);
    })

    -- one more row
    pub AreEnds-put : (r : Registration) (n i : ℕ) → i ≡ length rows → length legs ≡ length rows
        → next ≡ rows ++ r ∷ [] → after ≡ legs ++ n ∷ [] → (end : Option ℕ)
        → end ≡ end_of times n r → Changed (fin.get moments) (fin.get later) i end
        → AreEnds times next after later
    AreEnds-put r n i at fits more counts end is d = AreEnds-set i r n
        (subst (λ (l : List Registration). Changed (row_in rows) (row_in l) i (Some r)) (sym more)
        (subst (λ (k : ℕ). Changed (row_in rows) (row_in (rows ++ r ∷ [])) k (Some r)) (sym at)
        (Changed-push rows r)))
        (subst (λ (l : List ℕ). Changed (row_in legs) (row_in l) i (Some n)) (sym counts)
        (subst (λ (k : ℕ). Changed (row_in legs) (row_in (legs ++ n ∷ [])) k (Some n))
        (fits ∙ sym at) (Changed-push legs n)))
        (subst (λ (w : Option ℕ). Changed (fin.get moments) (fin.get later) i w) is d)

    -- one row goes
    pub AreEnds-remove : (i last : ℕ) → IsSwapped rows next i last → IsSwapped legs after i last
        → later ≡ renamed (fin.remove moments i) last i → AreEnds times next after later
    AreEnds-remove i last s t is = AreMoments-remove (end_in times rows legs)
        (end_in times next after) moments later ends i last
        (record {
          here = λ differ. ap (end_for (slice_get after i)) (s.here differ)
              ∙ ap (λ w. end_for w (slice_get rows last)) (t.here differ);
          end = ap (end_for (slice_get after last)) s.end;
          others = λ j p q. ap (end_for (slice_get after j)) (s.others j p q)
              ∙ ap (λ w. end_for w (slice_get rows j)) (t.others j p q);
        }) is

  -- one of the rows is changed, and its silence ends as before
  module _ (rows next : List Registration) (legs : List ℕ) (moments : Moments)
      (ends : AreEnds times rows legs moments) where
    pub AreEnds-kept : (i : ℕ) (old r : Registration) → slice_get rows i ≡ Some old
        → ((n : ℕ) → end_of times n r ≡ end_of times n old)
        → Changed (row_in rows) (row_in next) i (Some r) → AreEnds times next legs moments
    AreEnds-kept i old r there keeps c = set rows next legs legs moments moments ends i
        (end_for (slice_get legs i) (Some r)) (record {
          here = ap (end_for (slice_get legs i)) c.here;
          others = λ j differ. ap (end_for (slice_get legs j)) (c.others j differ);
        }) (record {
          here = ends i ∙ (ap (end_for (slice_get legs i)) there
              ∙ same (slice_get legs i));
          others = λ j differ. refl;
        }) where
          same : (w : Option ℕ) → end_for w (Some old) ≡ end_for w (Some r)
          same None = refl
          same (Some n) = sym (keeps n)
