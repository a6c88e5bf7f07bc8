-- What is kept of a request that is served, so that the same datagram is told the same, and how a
-- request in progress goes on (H.225.0, RAS timers and request in progress).
use Rattle.std.specs.Prelude.{ℕ, ◌&&◌, Bool, true, false, not, nat_lt, is_some, List, Option, None}
use Rattle.std.specs.Prelude.{Some, if◌then◌else◌}
use Rattle.std.specs.FinMap.{get, insert}
use Rattle.keyed.specs.Maps.{update}
use Rattle.ras_module.specs.declared.reply.Reply.{Reply}
use Rattle.ras_module.specs.declared.reply.Reply.TheVariants.{Rip}
use Rattle.ras_module.specs.declared.request.Request.{Request}
use Rattle.registrations.specs.Registry.{Live}
use Rattle.kept_replies.specs.declared.entry.KeptEntry.{KeptEntry}
use Rattle.kept_replies.specs.declared.entry.KeptState.{KeptState}
use Rattle.kept_replies.specs.declared.entry.KeptState.TheVariants.{Done, Pending}
use Rattle.kept_replies.specs.declared.key.KeptKey.{KeptKey}
use Rattle.kept_replies.specs.Kept.{KeptReplies, finished, postponed}
use Rattle.kept_replies.specs.Told.{identifier_in}
use Rattle.kept_replies.specs.Kept.{is_over, reply_in, without_birth}
use Rattle.pools.specs.declared.interface.Lend.{Lend}
use Rattle.pools.specs.declared.interface.Lend.TheVariants.{Lent, Refused, Wait}
use Rattle.ras_machine.specs.declared.job.Job.{Job}
use Rattle.ras_machine.specs.declared.job.Occasion.{Occasion}
use Rattle.ras_machine.specs.declared.job.Occasion.TheVariants.{Again, Anew, First}
use Rattle.zone_config.specs.declared.term.Term.{Term}
use Rattle.zone_tables.specs.Tables.{Tables}
use Rattle.ras_machine.specs.State.{State}
use Rattle.ras_requests.specs.Plans.{Served, Plan, hearing}
use Rattle.zone_tables.specs.Pools.{RequestedUnits, grant_of, pools_after_answer}
use Rattle.ras_requests.specs.Requests.{seq_of}
use Rattle.zone_config.specs.Terms.{term_of}

-- the endpoint that a reply confirms is still registered; most replies confirm none
abbrev pub is_registered_still : Live → Option (List ℕ) → Bool
is_registered_still live None = true
is_registered_still live (Some id) = is_some (get live id)

-- what is kept answers the datagram that came again: its window isn't over, and if it confirms a
-- registration, that is still there
abbrev pub is_repeat : State → ℕ → KeptEntry → Bool
is_repeat s now entry =
    not (is_over now entry)
    && is_registered_still s.tables.live (identifier_in (reply_in entry.state))

-- A request that is served: its datagram, with the occasion on which it is served; and what it
-- comes to.
pub record Task : Type 0 where
  pub job : Job
  pub request : Request
  pub plan : Plan

-- the entry that is dropped for its reply
abbrev pub dropped_for : Occasion → Option ℕ
dropped_for (First dropped) = dropped
dropped_for Anew = None
dropped_for (Again born left) = None

-- the endpoint that a request names was heard as it came, and isn't as it is served again
abbrev pub plan_at : Occasion → ℕ → Option (List ℕ) → Plan → Plan
plan_at (First dropped) now endpoint plan = hearing now endpoint plan
plan_at Anew now endpoint plan = hearing now endpoint plan
plan_at (Again born left) now endpoint plan = plan

-- how far a request is after it was served: it was answered, or it is to wait
pub record Progress : Type 0 where
  pub served : Served
  pub waits : Bool

abbrev pub answered : Served → Progress
answered served = record { served = served; waits = false }

-- it is told that it is in progress, and nothing else changes
abbrev pub in_progress : ℕ → Request → Served → Progress
in_progress delay request refused = record {
  served = record refused { reply = Rip (seq_of request) delay };
  waits = true;
}

-- it is served once more at least, if its pool makes it wait
abbrev pub may_wait : Occasion → Bool
may_wait (First dropped) = true
may_wait Anew = true
may_wait (Again born left) = nat_lt 1 left

abbrev pub waits : Occasion → Lend → Bool
waits occasion (Lent units) = false
waits occasion Refused = false
waits occasion Wait = may_wait occasion

-- the units that it gets are used; without any it is refused, also if it waited for the last time
abbrev pub granted : (ℕ → Served) → Served → Option ℕ → Served
granted lent refused None = refused
granted lent refused (Some units) = lent units

-- what a pool's answer makes of it
abbrev pub by_answer : ℕ → Task → RequestedUnits → (ℕ → Served) → Served → Lend → Progress
by_answer delay task ask lent refused answer =
    if waits task.job.occasion answer
    then in_progress delay task.request refused
    else answered (granted lent refused (grant_of ask.least answer))

-- and of the pool's figures
abbrev pub with_answered_pool : Tables → RequestedUnits → Lend → Progress → Progress
with_answered_pool z ask answer p = record p {
  served = record p.served {
    tables = record p.served.tables { pools = pools_after_answer z.pools ask answer };
  };
}

-- the entry that was dropped went
abbrev pub after_drop : KeptReplies → Option ℕ → KeptReplies
after_drop kept None = kept
after_drop kept (Some born) = without_birth kept born

-- what becomes of an entry whose request was served again: it is answered, or is to wait once more
abbrev pub served_again : KeptState → KeptEntry → KeptEntry
served_again (Done reply until) entry = finished reply until entry
served_again (Pending request reply retry left) entry = postponed retry entry

-- What is kept if a request was served: an entry from this step on, for which another may have
-- been dropped, or which takes the place of an earlier one; or the entry that waited goes on.
abbrev pub kept_with : KeptReplies → KeptKey → Occasion → ℕ → KeptState → KeptReplies
kept_with kept key (First dropped) born state =
    insert (after_drop kept dropped) key (record { born = born; state = state })
kept_with kept key Anew born state = insert kept key (record { born = born; state = state })
kept_with kept key (Again birth left) born state = update kept key (served_again state)

-- how far the request is then: it waits for the delay, or its reply is kept for the window
abbrev pub state_after : Request → Reply → Bool → Term → KeptState
state_after request reply waits term =
    if waits
    then Pending request reply term.retry term.times
    else Done reply term.until

abbrev pub kept_after : State → ℕ → Task → Progress → KeptReplies
kept_after s now task p =
    kept_with s.kept task.job.key task.job.occasion s.steps
    (state_after task.request p.served.reply p.waits (term_of s.tables.config now))
