use Rattle.std.proofs.Common.{◌≡◌, ◌++◌, map}
use Rattle.std.specs.Vec.Iter.{into_iter_items}
use Rattle.commands.specs.Inputs.{HaveLines}
use Rattle.commands.proofs.settings_input.passed_over.Given as goal

-- the keys that are told, with those that are left
abbrev pub invariant-loop-key : goal.invariant-loop-key
invariant-loop-key l = record {
  keys : map (λ passed. passed.key) l.all.items ++ into_iter_items l.key-iterator
      ≡ l.fn.unknown.items;
  lines : HaveLines l.text l.all.items;
}
