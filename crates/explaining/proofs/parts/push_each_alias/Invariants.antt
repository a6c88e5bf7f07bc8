use Rattle.std.proofs.Common.{◌≡◌, drop}
use Rattle.std.specs.String.{string_bytes}
use Rattle.explaining.specs.Parts.{with_each_alias}
use Rattle.explaining.proofs.parts.push_each_alias.Given as goal

-- what was written, with the aliases that are left, is the whole
abbrev pub invariant-loop-alias : goal.invariant-loop-alias
invariant-loop-alias l = with_each_alias (string_bytes l.out) (drop l.alias-index l.aliases)
    ≡ with_each_alias (string_bytes l.initial.out) l.aliases
