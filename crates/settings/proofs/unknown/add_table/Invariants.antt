use Rattle.std.proofs.Common.{◌≡◌, ◌++◌}
use Rattle.toml.specs.View.{members_view}
use Rattle.settings.specs.Unknown.{paths_of, unknown_in}
use Rattle.settings.proofs.unknown.add_table.Given as goal

abbrev pub invariant-loop-name : goal.invariant-loop-name
invariant-loop-name l =
    paths_of l.initial.unknown.items ++ unknown_in l.beginning (members_view l.table.entries)
    ≡ paths_of l.unknown.items ++ unknown_in l.beginning (members_view l.name-iterator)
