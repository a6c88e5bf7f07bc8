-- The tests of equality of the pools' figures decide whether they are equal.
use Rattle.std.proofs.Common.{◌≡◌, List, refl, rules}
use Rattle.std.specs.Bool.{Decides}
use Rattle.std.specs.Cmp.Lexicographic.{pointwise}
use Rattle.std.proofs.lemmas.Bool.Decides.{Decides-eqb}
use Rattle.std.proofs.lemmas.Slice.Eq.{slice_eq-Decides}
use Rattle.pools.specs.declared.interface.Figures.{Figures}
use Rattle.pools.specs.contracts.interface.FiguresPartialEq.TheImpl as figures_eq

figures_decide : (a b : Figures) → Decides ((figures_eq.ghosts).eq a b) (a ≡ b)
figures_decide a b = search (rules, Decides-eqb)

pub lists_decide : (a b : List Figures) → Decides (pointwise (figures_eq.ghosts).eq a b) (a ≡ b)
lists_decide a b =
    slice_eq-Decides figures_decide a b (pointwise (figures_eq.ghosts).eq a b) refl
