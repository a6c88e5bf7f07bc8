use Rattle.std.proofs.Common.{◌≡◌, ◌++◌, map, take}
use Rattle.script.proofs.draft_config.specs_of.Given as goal

abbrev pub invariant-loop-line : goal.invariant-loop-line
invariant-loop-line l =
    l.specs.items ≡ l.initial.specs.items ++ map (λ p. p.0) (take l.line-index l.lines)
