use Rattle.std.proofs.Common.{◌≡◌, ◌∙◌, List, ap, map, sym, inl, inr}
use Rattle.pools.specs.Account.{Account}
use Rattle.pools.specs.Specs.{account_in, account_of, pool_of}
use Rattle.zone_tables.specs.Pools.{figures_of}
use Rattle.ras_machine.specs.State.{opening}
use Rattle.ras_core.specs.Running.{Running}
use Rattle.script.specs.Runs.{are_pools_of}
use Rattle.record_audit.proofs.MadePools.{accounts_made}
use Rattle.record_audit.proofs.opening.machine_of.Goals as goal

pub returns-in-Ok-clause-opened : goal.returns-in-Ok-clause-opened
returns-in-Ok-clause-opened c =
    let made : map account_in c.in_ok-pools.pools.items ≡ map account_of c.args.script.pools =
    ap (map account_in) (c.in_ok-pools.ensures ∙ ap (map pool_of) c.as_slice.ensures)
    ∙ accounts_made c.args.script.pools in (
      sym (ap (are_pools_of c.args.script.config) made) ∙ c.in-Ok.ensures.pools,
      c.into_machine.ensures.machine ∙ c.in_ok-snapshot-in-Ok.ensures
          ∙ ap (λ (z : Running). z.state) c.in-Ok.ensures.start
          ∙ ap (λ (accounts : List Account). opening c.args.script.config
          (figures_of accounts)) made,
    )

pub returns-in-Err-WrongPools-clause-opened : goal.returns-in-Err-WrongPools-clause-opened
returns-in-Err-WrongPools-clause-opened c =
    let made : map account_in c.in_ok-pools.pools.items ≡ map account_of c.args.script.pools =
    ap (map account_in) (c.in_ok-pools.ensures ∙ ap (map pool_of) c.as_slice.ensures)
    ∙ accounts_made c.args.script.pools in
    elim c.in-Err-WrongPools.ensures.wrong [
      | inl w ↦ sym (ap (are_pools_of c.args.script.config) made) ∙ w.1
      | inr w ↦ absurd (cc w.0)
    ]
