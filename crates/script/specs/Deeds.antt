-- What a script does with its gatekeeper, event by event.
use Rattle.std.specs.Prelude.{◌≡◌, ◌++◌, List, [], ◌∷◌, Ok, Err}
use Rattle.pools.specs.Account.{Account}
use Rattle.pools.specs.declared.fault.ReplaceFault.{ReplaceFault}
use Rattle.pools.specs.declared.fault.ReplaceFault.TheVariants.{Closed, NoPool, NotIdle, NotLent}
use Rattle.pools.specs.declared.fault.ReplaceFault.TheVariants.{Memory}
use Rattle.zone_events.specs.declared.change.Change.{Change}
use Rattle.zone_events.specs.declared.change.Change.TheVariants as change
use Rattle.zone_events.specs.declared.event.Event.{Event}
use Rattle.zone_events.specs.declared.outcome.Outcome.{Outcome}
use Rattle.zone_tables.specs.Pools.{figures_at}
use Rattle.ras_core.specs.Replacing.{IsRefusal, change_by}
use Rattle.ras_core.specs.Running.{Running}
use Rattle.ras_core.specs.Runs.{RunningReplacement, RunningStep}
use Rattle.ras_core.specs.Tallies.{tallies_after_replacing}
use Rattle.script.specs.declared.event.Replacement.{Replacement}
use Rattle.script.specs.declared.event.ScriptEvent.{ScriptEvent}
use Rattle.script.specs.declared.event.ScriptEvent.TheVariants as script
use Rattle.script.specs.Prints.{Upshot}

-- The gatekeeper is handed an event, or is offered a fresh pool, seen as this account, for one that
-- is to be replaced.
pub data Deed : Type 0 where
  Handle : Event → Deed
  Offer : Replacement → Account → Deed

-- The deeds of a script with these fresh pools, in order. The fresh pools are as many as are named.
abbrev pub deeds_of : List ScriptEvent → List Account → List Deed
deeds_of [] fresh = []
deeds_of (script.Event event ∷ events) fresh = Handle event ∷ deeds_of events fresh
deeds_of (script.Replace replacement ∷ events) [] = []
deeds_of (script.Replace replacement ∷ events) (pool ∷ fresh) =
    Offer replacement pool ∷ deeds_of events fresh

-- A fresh pool took the place of the one that is to be replaced, in a step of the gatekeeper.
pub record TakesPlace (old : Running) (replacement : Replacement) (fresh : Account)
    (outcome : Outcome) (new : Running) : Type 0 where
  pub step : RunningReplacement old (change_by replacement.pool fresh replacement.moment)
      outcome new
  pub tallies : new.tallies ≡ tallies_after_replacing old.tallies replacement.pool fresh
      (figures_at old.state.tables.pools replacement.pool).lent

-- these refusals are told in a line; the others end the run
abbrev pub IsTold : ReplaceFault → Type 0
IsTold NoPool = Unit {0}
IsTold NotIdle = Unit {0}
IsTold NotLent = Unit {0}
IsTold Closed = ⊥
IsTold Memory = ⊥

-- A fresh pool was refused, and nothing has changed.
pub record IsRefused (old : Running) (replacement : Replacement) (fresh : Account)
    (fault : ReplaceFault) (new : Running) : Type 0 where
  pub told : IsTold fault
  pub back : Account
  pub refusal : IsRefusal old.state replacement.pool fresh back fault
  pub same : new ≡ old

-- one deed, and what came of it
abbrev pub DeedStep : Running → Deed → Upshot → Running → Type 0
DeedStep old (Handle event) (Ok outcome) new = RunningStep old event outcome new
DeedStep old (Handle event) (Err fault) new = ⊥
DeedStep old (Offer replacement fresh) (Ok outcome) new =
    TakesPlace old replacement fresh outcome new
DeedStep old (Offer replacement fresh) (Err fault) new = IsRefused old replacement fresh fault new

-- such deeds, one after the other
abbrev pub DeedsRun : Running → List Deed → List Upshot → Running → Type 0
DeedsRun old [] [] new = new ≡ old
DeedsRun old (deed ∷ deeds) (upshot ∷ upshots) new =
    (mid : Running) × DeedStep old deed upshot mid × DeedsRun mid deeds upshots new
DeedsRun old [] (upshot ∷ upshots) new = ⊥
DeedsRun old (deed ∷ deeds) [] new = ⊥

-- the step of the gatekeeper that a deed was; none if a fresh pool was refused
abbrev pub step_of : Deed → Upshot → List (Change × Outcome)
step_of (Handle event) (Ok outcome) = (change.Event event, outcome) ∷ []
step_of (Handle event) (Err fault) = []
step_of (Offer replacement fresh) (Ok outcome) =
    (change.PoolChange (change_by replacement.pool fresh replacement.moment), outcome) ∷ []
step_of (Offer replacement fresh) (Err fault) = []

-- the steps that these deeds were, in order
abbrev pub steps_of : List Deed → List Upshot → List (Change × Outcome)
steps_of [] upshots = []
steps_of (deed ∷ deeds) [] = []
steps_of (deed ∷ deeds) (upshot ∷ upshots) = step_of deed upshot ++ steps_of deeds upshots
