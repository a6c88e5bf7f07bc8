use Rattle.settings.proofs.NearKeys.{IsNearestBefore}
use Rattle.settings.proofs.unknown_key.nearest_of.Given as goal

abbrev pub invariant-loop-key : goal.invariant-loop-key
invariant-loop-key l = IsNearestBefore l.keys l.path l.key-index l.nearest
