use Rattle.std.proofs.Common.{◌≡◌, take}
use Rattle.std.specs.Prelude.{vec_capacity}
use Rattle.ras_writing.proofs.encoded.filled.Given as goal

abbrev pub invariant-loop-octet : goal.invariant-loop-octet
invariant-loop-octet l = record {
  so_far : l.filled.items ≡ take l.octet-index l.octets;
  capacity : vec_capacity l.filled ≡ vec_capacity l.initial.filled;
}
