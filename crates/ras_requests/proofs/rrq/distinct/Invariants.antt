use Rattle.std.proofs.Common.{◌≡◌, drop}
use Rattle.ras_module.specs.Aliases.{without_doubles}
use Rattle.ras_module.proofs.Doubles.{kept_and_new}
use Rattle.ras_requests.proofs.rrq.distinct.Given as goal

-- what is kept, with what is new in the rest, is the whole without doubles
abbrev pub invariant-loop-alias : goal.invariant-loop-alias
invariant-loop-alias l =
    kept_and_new l.kept (drop l.alias-index l.alias-items) ≡ without_doubles l.aliases
