-- Pools that are to be replaced.
use Rattle.std.specs.Prelude.{◌≡◌, ◌≢◌, ◌≤◌, ◌<◌, ◌-◌, ◌++◌, ◌∷◌, ◌⊎◌, ℕ, List, [], Option, None}
use Rattle.std.specs.Prelude.{Bool, IfSome, Some, false, length, map, reverse, slice_get, true}
use Rattle.pools.specs.Account.{Account}
use Rattle.pools.specs.Replacing.{IsHandedBack}
use Rattle.pools.specs.declared.fault.ReplaceFault.{ReplaceFault}
use Rattle.pools.specs.declared.fault.ReplaceFault.TheVariants as replace_fault
use Rattle.zone_events.specs.declared.change.Change.{Change}
use Rattle.zone_events.specs.declared.change.Change.TheVariants as change
use Rattle.zone_events.specs.declared.outcome.Outcome.{Outcome}
use Rattle.ras_machine.specs.State.{State}
use Rattle.ras_core.specs.Replacing.{change_by}
use Rattle.zone_lock.specs.Held.{IsRefusedUnderLock, IsReplacedUnderLock, entry_by}
use Rattle.zone_lock.specs.Seats.{seated_after}
use Rattle.udp_server.specs.Ends.{fault_count}
use Rattle.udp_server.specs.Working.{IsRefusalCounted, IsTold, Standing}
use Rattle.udp_server.specs.declared.orders.PoolOrder.{PoolOrder}

-- the next one of orders that wait, which is the last one of the list
abbrev pub next_of : {P : Type 0} → List (PoolOrder P) → Option (PoolOrder P)
next_of waiting = slice_get waiting (length waiting - 1)

-- The next one of the orders that wait is taken out of them if its moment is reached now. If there
-- is none, or its moment isn't reached, all wait on.
abbrev pub IsNextAt : {P : Type 0} → ℕ → List (PoolOrder P) → Option (PoolOrder P)
    → List (PoolOrder P) → Type 0
IsNextAt now old (Some order) new = (old ≡ new ++ order ∷ []) × (order.at ≤ now)
IsNextAt now old None new = (new ≡ old) × IfSome (next_of old) (λ order. now < order.at)

-- the numbers of the pools that orders name
abbrev pub numbers_ordered : {P : Type 0} → List (PoolOrder P) → List ℕ
numbers_ordered orders = map (λ order. order.pool) orders

-- the numbers beside which pools came back
abbrev pub numbers_back : {P : Type 0} → List (ℕ × P × Bool) → List ℕ
numbers_back boxes = map (λ box. box.0) boxes

-- what comes back of an order that isn't tried: its fresh pool
abbrev pub untried : {P : Type 0} → PoolOrder P → ℕ × P × Bool
untried order = (order.pool, order.fresh, false)

-- what comes back of all orders if those that wait aren't tried, the next one of which is the last
abbrev pub all_back : {P : Type 0} → List (PoolOrder P) → List (ℕ × P × Bool) → List (ℕ × P × Bool)
all_back waiting boxes = boxes ++ map untried (reverse waiting)

-- the numbers of the pools that all orders name, in the list's order
abbrev pub numbers_of : {P : Type 0} → List (PoolOrder P) → List (ℕ × P × Bool) → List ℕ
numbers_of waiting boxes = numbers_back (all_back waiting boxes)

-- of each of these orders one pool came back, in their order, beside its pool's number
abbrev pub AreOfOrders : {P : Type 0} → List (ℕ × P × Bool) → List (PoolOrder P) → Type 0
AreOfOrders boxes orders = numbers_back boxes ≡ numbers_ordered orders

-- the change by which a fresh pool, seen as this account, takes the place of a pool
abbrev pub replacement : ℕ → Account → ℕ → Change
replacement pool fresh moment = change.PoolChange (change_by pool fresh moment)

-- A fresh pool took the place of the zone's pool with this number, by one step at this moment. The
-- old pool came back. Of the worker only the seat changed, which made that step.
pub record IsPoolReplaced (opened : State) (pool : ℕ) (fresh : Account) (moment : ℕ)
    (back : Account) (old new : Standing) : Type 0 where
  pub place : ℕ
  pub outcome : Outcome
  pub replaced : IsReplacedUnderLock opened place
      (entry_by old.seat.number old.seat.calls (replacement pool fresh moment) outcome) pool back
  pub seat : new
      ≡ record old { seat = seated_after old.seat (replacement pool fresh moment) outcome }

-- the count of refused steps after a pool was refused for this reason: a want of memory is counted
abbrev pub refused_after_fault : ReplaceFault → ℕ → ℕ
refused_after_fault replace_fault.Memory before = fault_count before
refused_after_fault other before = before

-- How a fresh pool comes back from a zone that refused it: as it was; or with nothing lent, if it
-- was asked for the loans of the pool before it, and lent less.
abbrev pub ComesBack : {P : Type 0} → (P → Account) → ReplaceFault → P → P → Type 0
ComesBack account replace_fault.NotLent fresh back = IsHandedBack (account fresh) (account back)
ComesBack account other fresh back = back ≡ fresh

-- The zone refused a fresh pool for this reason, which is no want of memory, and it came back. The
-- worker stands as before.
pub record IsPoolRefused {P : Type 0} (opened : State) (account : P → Account) (pool : ℕ)
    (fresh back : P) (old new : Standing) : Type 0 where
  pub fault : ReplaceFault
  pub other : fault ≢ replace_fault.Memory
  pub refused : IsRefusedUnderLock opened pool (account fresh) (account back) fault
  pub comes_back : ComesBack account fault fresh back
  pub same : new ≡ old

-- No pool was replaced, and the fresh one came back: memory was wanting, and that is counted; or
-- the zone refused it.
abbrev pub IsPoolKept : {P : Type 0} → State → (P → Account) → ℕ → P → P → Standing → Standing
    → Type 0
IsPoolKept opened account pool fresh back old new =
    ((back ≡ fresh) × IsRefusalCounted old new)
    ⊎ IsPoolRefused opened account pool fresh back old new

-- The orders that wait, what came back of those that were tried, and how the worker stands that
-- tries them. Of each came back its pool's number, a pool, and whether that is the old one.
pub record Ordering (P : Type 0) : Type 0 where
  pub waiting : List (PoolOrder P)
  pub boxes : List (ℕ × P × Bool)
  pub worker : Standing

abbrev pub ordering : {P : Type 0} → List (PoolOrder P) → List (ℕ × P × Bool) → Standing
    → Ordering P
ordering waiting boxes worker = record { waiting = waiting; boxes = boxes; worker = worker }

-- what comes of a fresh pool at this moment: the old pool comes back, or the fresh one
abbrev pub ComesOfOrder : {P : Type 0} → State → (P → Account) → PoolOrder P → ℕ → P → Bool
    → Standing → Standing → Type 0
ComesOfOrder opened account order moment back true old new =
    IsPoolReplaced opened order.pool (account order.fresh) moment (account back) old new
ComesOfOrder opened account order moment back false old new =
    IsPoolKept opened account order.pool order.fresh back old new

-- The next order was tried at a moment that was told, which is not before that of the order. What
-- came back stands behind the rest.
pub record IsOrderTried {P : Type 0} (opened : State) (account : P → Account) (tells : ℕ → Type 0)
    (order : PoolOrder P) (old new : Ordering P) : Type 0 where
  pub moment : ℕ
  pub back : P
  pub is_old : Bool
  pub told : tells moment
  pub next : IsNextAt moment old.waiting (Some order) new.waiting
  pub came : ComesOfOrder opened account order moment back is_old old.worker new.worker
  pub kept : new.boxes ≡ old.boxes ++ (order.pool, back, is_old) ∷ []

-- the next order was tried
abbrev pub IsNextTried : {P : Type 0} → State → (P → Account) → (ℕ → Type 0) → Ordering P
    → Ordering P → Type 0
IsNextTried {P} opened account tells old new =
    (order : PoolOrder P) × IsOrderTried opened account tells order old new

-- these orders were tried one after the other, the last one first, each when a clock told a moment
abbrev pub AreOrdersTried : {P C : Type 0} → State → (P → Account) → (C → ℕ → C → Type 0)
    → List (PoolOrder P) → Ordering P → Ordering P → Type 0
AreOrdersTried opened account tells [] old new = new ≡ old
AreOrdersTried {P} {C} opened account tells (order ∷ before) old new =
    (mid : Ordering P) × (clock : C) × AreOrdersTried opened account tells before old mid
    × IsOrderTried opened account (IsTold tells clock) order mid new

-- At a moment that was told no order is due: none waits, or the moment of the next one isn't
-- reached.
abbrev pub IsNoneDue : {P : Type 0} → (ℕ → Type 0) → List (PoolOrder P) → Type 0
IsNoneDue tells waiting =
    (moment : ℕ) × tells moment × IfSome (next_of waiting) (λ order. moment < order.at)

-- Orders were tried, each once, until none was due or none was left.
pub record AreCarriedOut {P C : Type 0} (opened : State) (account : P → Account)
    (tells : C → ℕ → C → Type 0) (old new : Ordering P) : Type 0 where
  pub orders : List (PoolOrder P)
  pub tried : AreOrdersTried opened account tells orders old new
  pub until : (new.waiting ≡ []) ⊎ ((clock : C) × IsNoneDue (IsTold tells clock) new.waiting)
