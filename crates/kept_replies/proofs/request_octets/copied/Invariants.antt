use Rattle.std.proofs.Common.{◌≡◌, take}
use Rattle.std.specs.Prelude.{vec_capacity}
use Rattle.kept_replies.proofs.request_octets.copied.Given as goal

abbrev pub invariant-loop-octet : goal.invariant-loop-octet
invariant-loop-octet l = record {
  so_far : l.copy.items ≡ take l.octet-index l.octets;
  capacity : vec_capacity l.copy ≡ vec_capacity l.initial.copy;
}
