-- The headline: what holds of all that a server did, from the state in which its zone was locked to
-- the one in which the zone was taken out.
use Rattle.std.specs.Prelude.{◌≡◌, ◌++◌, List, length, map}
use Rattle.ras_machine.specs.State.{State}
use Rattle.ras_core.specs.Runs.{IsWithinLimit}
use Rattle.books.specs.declared.book.Entry.{Entry}
use Rattle.books.specs.Books.{BookRun, step_in}
use Rattle.books.specs.Chapters.{FinishedValue}
use Rattle.sound_steps.specs.Runs.{EachStateOf, EachStepOf, HandsOutUnused, RepeatsKeptReply}

-- The steps before those that are left, cut off as chapters or let go, are as many as the place of
-- the first one that is left says. With those that are left they are a run of the RAS machine, from
-- the octets of each datagram to the octets of its reply. In each step an identifier that is handed
-- out is unused, and a repeat inside its kept window gets its kept reply. In each state bandwidth
-- in use, the sum over the live calls, is within the zone's limit, and each pool has lent what its
-- calls use.
pub record Headline (opened : State) (f : FinishedValue) : Type 0 where
  pub past : List Entry
  pub places : length past ≡ f.first
  pub run : BookRun opened (past ++ f.entries) f.zone.state
  pub unused : EachStepOf HandsOutUnused opened (map step_in (past ++ f.entries)) f.zone.state run
  pub repeats : EachStepOf RepeatsKeptReply opened (map step_in (past ++ f.entries)) f.zone.state
      run
  pub limit : EachStateOf IsWithinLimit opened (map step_in (past ++ f.entries)) f.zone.state run
