-- Where the reply to a datagram finds a place among the kept ones.
use Rattle.std.specs.Prelude.{ℕ, ◌≡◌, ◌<◌, ◌≤◌, Option, None, Some, IsSome, IsTrue}
use Rattle.std.specs.Option.{IsSomeAnd}
use Rattle.std.specs.FinMap.{get, len}
use Rattle.ras_module.specs.declared.reply.Reply.{Reply}
use Rattle.ras_module.specs.declared.reply.Reply.TheVariants.{Rip}
use Rattle.kept_replies.specs.declared.entry.KeptState.{KeptState}
use Rattle.kept_replies.specs.declared.entry.KeptState.TheVariants.{Done, Pending}
use Rattle.kept_replies.specs.declared.key.KeptKey.{KeptKey}
use Rattle.kept_replies.specs.Kept.{KeptTable, left_in, without_birth}
use Rattle.ras_machine.specs.declared.job.Occasion.{Occasion}
use Rattle.ras_machine.specs.declared.job.Occasion.TheVariants.{Again, Anew, First}
use Rattle.ras_machine.specs.Keeping.{may_wait}

-- it has an entry, or there is memory for one
abbrev pub HasRoom : KeptTable → KeptKey → Type 0
HasRoom t key = get t.kept key ≡ None → 0 < t.room

-- there is a place for one more entry, once this one is dropped
abbrev pub FitsIn : KeptTable → Option ℕ → Type 0
FitsIn t None = len t.kept < t.most
FitsIn t (Some born) = len (without_birth t.kept born) < t.most

-- a request that comes for the first time has no entry, and finds a place; one that is served anew
-- or again has its entry
abbrev pub IsPlaced : KeptTable → KeptKey → Occasion → Type 0
IsPlaced t key (First dropped) = (get t.kept key ≡ None) × FitsIn t dropped
IsPlaced t key Anew = IsSome (get t.kept key)
IsPlaced t key (Again born left) = IsSomeAnd (get t.kept key) (λ entry. left_in entry.state ≡ left)

-- a request is kept to wait only if it may, and then for one time at least
abbrev pub MayBeKept : Occasion → KeptState → Type 0
MayBeKept occasion (Done reply until) = Unit {0}
MayBeKept occasion (Pending request reply retry left) = IsTrue (may_wait occasion) × (1 ≤ left)

-- a request that waits was told that it is in progress (H.225.0, RequestInProgress)
abbrev pub IsInProgress : Reply → Type 0
IsInProgress (Rip seq delay) = Unit {0}
IsInProgress other = ⊥
