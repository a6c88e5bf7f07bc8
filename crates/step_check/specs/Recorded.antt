-- Answers of pools that were recorded, and are given again.
use Rattle.std.specs.Prelude.{ℕ, ◌≡◌, Option, Some}
use Rattle.pools.specs.declared.interface.Figures.{Figures}
use Rattle.pools.specs.declared.interface.Lend.{Lend}
use Rattle.pools.specs.Account.{IsAnswer}

-- the recorded answer is given, if a pool with these figures may give it to this request
abbrev pub Repeats : Option Lend → Figures → ℕ → Lend → Type 0
Repeats recorded figures units given =
    (answer : Lend) → recorded ≡ Some answer → IsAnswer figures units answer → given ≡ answer
