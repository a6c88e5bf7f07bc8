use Rattle.std.proofs.Common.{◌≡◌, []}
use Rattle.gatekeeper.proofs.recorder.RecorderWatcher.watch.Given as goal

-- what was handed out is taken, so that its memory holds nothing
abbrev pub invariant-loop : goal.invariant-loop
invariant-loop g l = l.room.items ≡ []
