-- Moments that are written, and moments that have come.
use Rattle.std.proofs.Common.{◌≡◌, ℕ, ◌≤◌, sym, ◌∙◌, ap, subst}
use Rattle.std.proofs.Common.{Some, None, arith}
use Rattle.std.specs.Prelude.{min}
use Rattle.std.specs.FinMap as fin
use Rattle.std.specs.FinMap.{nat_cmp-IsAntisymmetric}
use Rattle.std.specs.Cmp.{nat_cmp_total}
use Rattle.keyed.specs.Maps.{Changed}
use Rattle.keyed.proofs.Decide.{some_none}
use Rattle.keyed.proofs.Maps.{Changed-insert, Changed-remove}
use Rattle.deadlines.specs.Deadlines.{Moments}
use Rattle.kept_replies.specs.Kept.{left_in, postponed_in}
use Rattle.kept_replies.specs.inside.Due.{DueTable, NoneCame, Writes}
use Rattle.kept_replies.specs.inside.Due.{end_in, retry_in}
use Rattle.kept_replies.specs.declared.entry.KeptState.{KeptState}
use Rattle.kept_replies.specs.declared.entry.KeptState.TheVariants.{Done, Pending}

abbrev pub due_of : Moments → Moments → ℕ → ℕ → DueTable
due_of ends retries a b = record { ends = ends; retries = retries; room = min a b }

inserted : (m n : Moments) (place moment : ℕ) → n ≡ fin.insert m place moment
    → Changed (fin.get m) (fin.get n) place (Some moment)
inserted m n place moment is =
    subst (λ (x : Moments). Changed (fin.get m) (fin.get x) place (Some moment)) (sym is)
    (Changed-insert nat_cmp_total nat_cmp-IsAntisymmetric m place moment)

removed : (m n : Moments) (place : ℕ) → n ≡ fin.remove m place
    → Changed (fin.get m) (fin.get n) place None
removed m n place is =
    subst (λ (x : Moments). Changed (fin.get m) (fin.get x) place None) (sym is)
    (Changed-remove nat_cmp_total nat_cmp-IsAntisymmetric m place)

module _ (e r e' r' : Moments) (a b a' b' : ℕ) (t : DueTable) (view : due_of e r a b ≡ t)
    (place moment : ℕ) (p : a' ≡ a) (q : b' ≡ b) where
  one_room : min a' b' ≡ min a b
  one_room = λ i. min (p i) (q i)

  pub Writes-end : e' ≡ fin.insert e place moment → r' ≡ fin.remove r place
      → Writes t (due_of e' r' a' b') place (Some moment) None
  Writes-end x y =
      subst (λ (u : DueTable). Writes u (due_of e' r' a' b') place (Some moment) None) view
      (record {
        ends = inserted e e' place moment x;
        retries = removed r r' place y;
        room = one_room;
      })

  pub Writes-retry : e' ≡ fin.remove e place → r' ≡ fin.insert r place moment
      → Writes t (due_of e' r' a' b') place None (Some moment)
  Writes-retry x y =
      subst (λ (u : DueTable). Writes u (due_of e' r' a' b') place None (Some moment)) view
      (record {
        ends = removed e e' place x;
        retries = inserted r r' place moment y;
        room = one_room;
      })

-- a request that waits once more has no end
pub Writes-postponed : (old new : DueTable) (place moment : ℕ) (s : KeptState) → 2 ≤ left_in s
    → Writes old new place None (Some moment)
    → Writes old new place (end_in (postponed_in moment s)) (retry_in (postponed_in moment s))
Writes-postponed old new place moment (Done reply until) h w = absurd (omega (arith, h))
Writes-postponed old new place moment (Pending request reply retry left) h w = w

-- no moment has come if there is none
pub none_among : (m : Moments) (now : ℕ) → m ≡ fin.empty → NoneCame now m
none_among m now is place moment there =
    some_none (sym there ∙ (ap (λ (x : Moments). fin.get x place) is ∙ fin.get-empty _ place))
