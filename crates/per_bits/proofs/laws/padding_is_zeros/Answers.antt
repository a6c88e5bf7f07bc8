use Rattle.std.proofs.Common.{arith}
use Rattle.per_bits.specs.Bits.{pad_length}
use Rattle.per_bits.proofs.Shortest.{length-pad, zeros}
use Rattle.per_bits.proofs.laws.padding_is_zeros.Goals as goal

pub returns : goal.returns
returns c = record {
  zeros = λ place. zeros (pad_length place);
  fewer = λ place. omega (arith, length-pad place);
  whole = λ place. omega (arith, length-pad place);
}
