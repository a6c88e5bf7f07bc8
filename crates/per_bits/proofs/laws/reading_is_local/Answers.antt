use Rattle.per_bits.proofs.Local.{bit_local, number_local, whole_local, length_local}
use Rattle.per_bits.proofs.Local.{small_local, octets_local, open_type_local}
use Rattle.per_bits.proofs.laws.reading_is_local.Goals as goal

pub returns : goal.returns
returns c = record {
  bit = bit_local;
  number = number_local;
  whole = whole_local;
  length = length_local;
  small = small_local;
  octets = octets_local;
  open_type = open_type_local;
}
