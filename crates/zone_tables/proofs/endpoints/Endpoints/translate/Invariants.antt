use Rattle.std.proofs.Common.{◌≡◌, drop}
use Rattle.zone_tables.specs.Translation.{translation}
use Rattle.zone_tables.proofs.endpoints.Endpoints.translate.Given as goal

-- none of the aliases so far is registered
abbrev pub invariant-loop-alias : goal.invariant-loop-alias
invariant-loop-alias l =
    translation l.self.roll.live l.aliases l.other
    ≡ translation l.self.roll.live (drop l.alias-index l.aliases) l.other
