use Rattle.std.proofs.Common.{◌≡◌, ℕ, List, ap, subst, sym}
use Rattle.std.specs.Prelude.{OnOk, Option}
use Rattle.std.specs.Option.{option_copied}
use Rattle.zone_tables.specs.Changes.{after_change}
use Rattle.zone_tables.specs.declared.change.Change.{Change}
use Rattle.zone_tables.specs.declared.change.Change.TheVariants.{Calls}
use Rattle.zone_tables.specs.Soundness.{SoundTables}
use Rattle.zone_tables.proofs.SoundParts.{SoundTables-parts}
use Rattle.zone_tables.proofs.tables.ZoneTables.apply.Goals as goal

pub returns-in-Nothing-clause-sound : goal.returns-in-Nothing-clause-sound
returns-in-Nothing-clause-sound c =
    subst SoundTables c.self.view_is
    (SoundTables-parts _ _ _ c.self.invariant)

pub returns-in-Calls-clause-ok : goal.returns-in-Calls-clause-ok
returns-in-Calls-clause-ok c =
    let who = ap option_copied c.unwrap.ensures in
    subst (λ (x : Change). OnOk c.change_calls.result
    (c.change_calls.new.self ≡ after_change c.args.now (option_copied c.args.who) x
    c.args.self.now)) (sym c.in-Calls.is)
    (subst (λ (w : Option (List ℕ)). OnOk c.change_calls.result
    (c.change_calls.new.self ≡ after_change c.args.now w (Calls c.in-Calls.change)
    c.args.self.now)) (sym who) (c.change_calls.ensures.ok c.args.now))
