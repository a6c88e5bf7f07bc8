use Rattle.std.proofs.Common.{◌≡◌, ◌++◌}
use Rattle.std.specs.Prelude.{IsTrue}
use Rattle.kept_replies.specs.inside.Births.{births_in}
use Rattle.kept_replies.proofs.birth_places.BirthPlaces.of.Given as goal

abbrev pub invariant-loop-key : goal.invariant-loop-key
invariant-loop-key l =
    IsTrue l.all.is_whole
    → l.all.births ++ births_in l._key-iterator ≡ births_in l.rows.entries
