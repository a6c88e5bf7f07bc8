use Rattle.std.proofs.Common.{refl, length}
use Rattle.per_bits.proofs.Agreement.{pad_encodes, binary_encodes, whole_encodes, length_encodes}
use Rattle.per_bits.proofs.Agreement.{small_encodes, octets_encode, open_type_encodes}
use Rattle.per_bits.proofs.Shortest.{pad_shortest, number_shortest, whole_shortest}
use Rattle.per_bits.proofs.Shortest.{length_shortest, small_shortest, octets_shortest}
use Rattle.per_bits.proofs.Shortest.{bit_shortest, open_type_shortest}
use Rattle.per_bits.proofs.laws.written_is_shortest.Goals as goal

pub returns : goal.returns
returns c = record {
  pad = λ place. (pad_encodes place, pad_shortest place);
  bit = λ bit place. (refl, bit_shortest bit place);
  number = λ count n place h. (binary_encodes count n place h, number_shortest count n place);
  whole = λ lo hi n place low high fits.
      (whole_encodes lo hi n place low high fits, whole_shortest lo hi n place);
  length = λ n place h. (length_encodes n place h, length_shortest n place);
  small = λ n place h. (small_encodes n place h, small_shortest n place);
  octets = λ octets place h.
      (octets_encode octets place h, octets_shortest (length octets) octets place);
  open_type = λ octets place h small.
      (open_type_encodes octets place h small, open_type_shortest octets place);
}
