use Rattle.std.proofs.Common.{◌≡◌, ◌<◌, ◌≤◌, ◌+◌, false, vec_len}
use Rattle.std.specs.Io.KnownBytes.{Consumes}
use Rattle.script.specs.declared.read.TheConstants.Script as script_octets
use Rattle.script.proofs.input.read_whole.Given as goal

abbrev pub invariant-loop : goal.invariant-loop
invariant-loop g l = record {
  len : vec_len l.all ≤ script_octets.MOST + 1;
  rounds : l.counter ≤ vec_len l.all;
  bytes : Consumes l.initial.input.left l.input.left l.all.items;
  sound : 0 < vec_len l.all → l.input.failed ≡ false;
}
