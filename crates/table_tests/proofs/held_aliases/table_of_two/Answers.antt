use Rattle.std.proofs.Common.{◌∙◌, ap}
use Rattle.std.specs.FinMap as map
use Rattle.ras_module.specs.Aliases.{alias_cmp}
use Rattle.aliases.proofs.Entering.{not_held}
use Rattle.table_tests.proofs.held_aliases.table_of_two.Goals as goal

pub set_all-requires-clause-free : goal.set_all-requires-clause-free
set_all-requires-clause-free c alias has other =
    not_held c.reserve.new.self.held alias _
    (ap (λ h. map.get h alias) c.in_ok-reserve.ensures.held
    ∙ (ap (λ h. map.get h alias) c.new-table.ensures ∙ map.get-empty alias_cmp alias)) other
