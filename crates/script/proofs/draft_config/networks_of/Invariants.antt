use Rattle.std.proofs.Common.{◌≡◌, ◌++◌, map, take, false}
use Rattle.std.specs.List.{list_any}
use Rattle.zone_config.specs.Networks.{is_too_long}
use Rattle.script.proofs.draft_config.networks_of.Given as goal

abbrev pub invariant-loop-line : goal.invariant-loop-line
invariant-loop-line l = record {
  items : l.networks.items ≡ l.initial.networks.items ++ map (λ p. p.1) (take l.line-index l.lines);
  bits : list_any is_too_long l.networks.items ≡ false;
}
