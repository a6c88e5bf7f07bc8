-- The zone of a script before its first event.
use Rattle.std.proofs.Common.{◌≡◌, ◌∙◌, ◌==◌, List, ap, arith, length, map, refl, true}
use Rattle.std.proofs.lemmas.Bool.Decides.{nat_tests}
use Rattle.pools.specs.Account.{Account}
use Rattle.pools.specs.Members.{Member, accounts_of, new_member}
use Rattle.pools.proofs.Changing.{accounts_of-new}
use Rattle.zone_config.specs.declared.config.ConfigParts.{ConfigParts}
use Rattle.zone_tables.specs.Pools.{figures_of}
use Rattle.ras_machine.specs.State.{opening}
use Rattle.ras_core.specs.Running.{Running}
use Rattle.ras_core.specs.Tallies.{tallies_of}
use Rattle.script.specs.declared.read.Script.{Script}
use Rattle.script.specs.Events.{fresh_pools}
use Rattle.script.specs.Runs.{are_boxes_of, are_pools_of, start_of}

-- a zone that opens over a set of these pools that was just made
pub start_is : (config : ConfigParts) (pools : List Account) (set : List Member) (zone : Running)
    → set ≡ map new_member pools → zone.state ≡ opening config (figures_of (accounts_of set))
    → zone.tallies ≡ tallies_of set → zone ≡ start_of config pools
start_is config pools set zone made state tallies j = record {
  state = (state ∙ (ap (λ (ms : List Member). opening config (figures_of (accounts_of ms))) made
      ∙ ap (λ (bs : List Account). opening config (figures_of bs)) (accounts_of-new pools))) j;
  tallies = (tallies ∙ ap tallies_of made) j;
}

-- boxes that are the script's
pub are_boxes : (script : Script) (pools fresh : List Account)
    → are_pools_of script.config pools ≡ true → length fresh ≡ length (fresh_pools script.events)
    → are_boxes_of script pools fresh ≡ true
are_boxes script pools fresh made named =
    let as_many : (length fresh == length (fresh_pools script.events)) ≡ true =
    grind (arith, nat_tests) in
    rw (made, as_many) refl
