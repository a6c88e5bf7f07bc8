use Rattle.per_bits.proofs.Within.{bit_within, number_within, whole_within, length_within}
use Rattle.per_bits.proofs.Within.{small_within, octets_within, open_type_within}
use Rattle.per_bits.proofs.laws.enough_bits.Goals as goal

pub returns : goal.returns
returns c = record {
  bit = bit_within;
  number = number_within;
  whole = whole_within;
  length = length_within;
  small = small_within;
  octets = octets_within;
  open_type = open_type_within;
}
