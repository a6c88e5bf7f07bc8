-- The deadlines of the rows, in their order, and the moments at which the silences of their
-- endpoints
-- end.
use Rattle.std.proofs.Common.{◌≡◌, ◌≢◌, ℕ, List, [], ◌∷◌, ◌++◌, length, refl, sym, ◌∙◌, ap, subst}
use Rattle.std.proofs.Common.{Some, None}
use Rattle.std.specs.Prelude.{Option, slice_get}
use Rattle.std.specs.Option.{option_map}
use Rattle.std.specs.Ordering.{nat_cmp}
use Rattle.std.specs.Cmp.{nat_cmp_total}
use Rattle.std.specs.FinMap as fin
use Rattle.std.specs.FinMap.{nat_cmp-IsAntisymmetric}
use Rattle.keyed.specs.Maps.{Changed}
use Rattle.keyed.specs.Places.{row_in}
use Rattle.keyed.proofs.Decide.{by_place}
use Rattle.keyed.proofs.Maps.{Changed-insert, Changed-remove}
use Rattle.keyed.proofs.Rows.{Changed-push}
use Rattle.deadlines.specs.Deadlines.{Moments, renamed}
use Rattle.deadlines.proofs.Renamed.{get_renamed_to, get_renamed_from, get_renamed_other}
use Rattle.registrations.specs.declared.registration.Registration.{Registration}
use Rattle.registrations.specs.inside.Stored.{AreDue, deadline_of}
use Rattle.registrations.proofs.Swapped.{IsSwapped}

pub AreDue-empty : (rows : List Registration) (moments : Moments) → rows ≡ []
    → moments ≡ fin.empty → AreDue rows moments
AreDue-empty rows moments none is j = ap (λ m. fin.get m j) is ∙ fin.get-empty nat_cmp j
    ∙ ap (λ l. option_map deadline_of (slice_get l j)) (sym none)

-- what stood at one place stands at another, nothing stands where it was, and all else is as before
pub record AreSwapped (old new : ℕ → Option ℕ) (gap last : ℕ) : Type 0 where
  pub here : gap ≢ last → new gap ≡ old last
  pub end : new last ≡ None
  pub others : (i : ℕ) → i ≢ gap → i ≢ last → new i ≡ old i

-- a table of moments has what is due at each place
abbrev pub AreMoments : (ℕ → Option ℕ) → Moments → Type 0
AreMoments due moments = (i : ℕ) → fin.get moments i ≡ due i

module _ (old new : ℕ → Option ℕ) (moments later : Moments) (due : AreMoments old moments) where
  -- one place has another moment
  pub AreMoments-set : (i : ℕ) (w : Option ℕ) → Changed old new i w
      → Changed (fin.get moments) (fin.get later) i w → AreMoments new later
  AreMoments-set i w c d j = by_place j i (fin.get later j ≡ new j)
      (λ p. ap (fin.get later) p ∙ (d.here ∙ (sym c.here ∙ sym (ap new p))))
      (λ differ. d.others j differ ∙ (due j ∙ sym (c.others j differ)))

  -- a place goes, and the last takes its place
  pub AreMoments-remove : (i last : ℕ) → AreSwapped old new i last
      → later ≡ renamed (fin.remove moments i) last i → AreMoments new later
  AreMoments-remove i last s is = subst (λ (m : Moments). AreMoments new m) (sym is) at where
    without : Moments
    without = fin.remove moments i

    cleared : Changed (fin.get moments) (fin.get without) i None
    cleared = Changed-remove nat_cmp_total nat_cmp-IsAntisymmetric moments i

    Due : ℕ → Type 0
    Due j = fin.get (renamed without last i) j ≡ new j

    here : Due i
    here = get_renamed_to without last i ∙ by_place i last (fin.get without last ≡ new i)
        (λ p. ap (fin.get without) (sym p) ∙ (cleared.here ∙ (sym s.end ∙ ap new (sym p))))
        (λ differ. cleared.others last (λ p. differ (sym p)) ∙ (due last ∙ sym (s.here differ)))

    elsewhere : (j : ℕ) → j ≢ i → Due j
    elsewhere j not_here = by_place j last (Due j)
        (λ p. ap (fin.get (renamed without last i)) p
        ∙ (get_renamed_from without last i (λ q. not_here (p ∙ q))
        ∙ (sym s.end ∙ ap new (sym p))))
        (λ differ. get_renamed_other without last i j differ not_here ∙ (cleared.others j not_here
        ∙ (due j ∙ sym (s.others j not_here differ))))

    at : AreMoments new (renamed without last i)
    at j = by_place j i (Due j) (λ p. subst Due (sym p) here) (elsewhere j)

-- when each of these rows is due
abbrev due_in : List Registration → ℕ → Option ℕ
due_in rows i = option_map deadline_of (slice_get rows i)

module _ (rows next : List Registration) (moments later : Moments) (due : AreDue rows moments) where
  changed : (i : ℕ) (r : Registration) → Changed (row_in rows) (row_in next) i (Some r)
      → Changed (fin.get moments) (fin.get later) i (Some r.deadline) → AreDue next later
  changed i r c d = AreMoments-set (due_in rows) (due_in next) moments later due i
      (Some r.deadline) (record {
        here = ap (option_map deadline_of) c.here;
        others = λ j differ. ap (option_map deadline_of) (c.others j differ);
      }) d

  -- a row is changed, and its deadline set
  pub AreDue-set : (i : ℕ) (r : Registration) → Changed (row_in rows) (row_in next) i (Some r)
      → later ≡ fin.insert moments i r.deadline → AreDue next later
  AreDue-set i r c is = changed i r c
      (subst (λ (m : Moments). Changed (fin.get moments) (fin.get m) i (Some r.deadline)) (sym is)
      (Changed-insert nat_cmp_total nat_cmp-IsAntisymmetric moments i r.deadline))

  -- a row is changed, and keeps its deadline
  pub AreDue-kept : (i : ℕ) (old r : Registration) → slice_get rows i ≡ Some old
      → r.deadline ≡ old.deadline → Changed (row_in rows) (row_in next) i (Some r)
      → later ≡ moments → AreDue next later
  AreDue-kept i old r there keeps c is = changed i r c
      (subst (λ (m : Moments). Changed (fin.get moments) (fin.get m) i (Some r.deadline)) (sym is)
      (record {
        here = due i ∙ (ap (option_map deadline_of) there ∙ ap Some (sym keeps));
        others = λ j differ. refl;
      }))

  -- one more row
  pub AreDue-put : (r : Registration) (i : ℕ) → i ≡ length rows → next ≡ rows ++ r ∷ []
      → later ≡ fin.insert moments i r.deadline → AreDue next later
  AreDue-put r i end more is = AreDue-set i r
      (subst (λ (l : List Registration). Changed (row_in rows) (row_in l) i (Some r)) (sym more)
      (subst (λ (k : ℕ). Changed (row_in rows) (row_in (rows ++ r ∷ [])) k (Some r)) (sym end)
      (Changed-push rows r))) is

  -- one row less
  pub AreDue-remove : (i last : ℕ) → IsSwapped rows next i last
      → later ≡ renamed (fin.remove moments i) last i → AreDue next later
  AreDue-remove i last s is = AreMoments-remove (due_in rows) (due_in next) moments later due i last
      (record {
        here = λ differ. ap (option_map deadline_of) (s.here differ);
        end = ap (option_map deadline_of) s.end;
        others = λ j p q. ap (option_map deadline_of) (s.others j p q);
      }) is
