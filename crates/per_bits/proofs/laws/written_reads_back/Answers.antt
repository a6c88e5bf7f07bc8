use Rattle.std.proofs.Common.{◌∷◌, [], length, refl}
use Rattle.per_bits.specs.Bits.{binary}
use Rattle.per_bits.specs.Encodes.{EncodesBit, EncodesNumber, EncodesWhole, EncodesLength}
use Rattle.per_bits.specs.Encodes.{EncodesSmall, EncodesOctets, EncodesOpenType}
use Rattle.per_bits.specs.Readings.{bit_reading, number_reading, whole_reading, length_reading}
use Rattle.per_bits.specs.Readings.{small_reading, octets_reading, open_type_reading}
use Rattle.per_bits.specs.Canonical.{whole_encoding, length_encoding, small_encoding}
use Rattle.per_bits.specs.Canonical.{octets_encoding, open_type_encoding}
use Rattle.per_bits.proofs.Forms.{bit_exact, number_exact, whole_exact, length_exact, small_exact}
use Rattle.per_bits.proofs.OctetForms.{octets_exact, open_type_exact}
use Rattle.per_bits.proofs.Agreement.{reads_back, binary_encodes, whole_encodes, length_encodes}
use Rattle.per_bits.proofs.Agreement.{small_encodes, octets_encode, open_type_encodes}
use Rattle.per_bits.proofs.laws.written_reads_back.Goals as goal

pub returns : goal.returns
returns c = record {
  bit = λ bit. reads_back EncodesBit bit_reading bit_exact bit (λ place. bit ∷ []) (λ place. refl);
  number = λ count n h.
      reads_back (EncodesNumber count) (number_reading count) (number_exact count) n
      (λ place. binary count n) (λ place. binary_encodes count n place h);
  whole = λ lo hi n low high fits.
      reads_back (EncodesWhole lo hi) (whole_reading lo hi) (whole_exact lo hi) n
      (whole_encoding lo hi n) (λ place. whole_encodes lo hi n place low high fits);
  length = λ n h.
      reads_back EncodesLength length_reading length_exact n (length_encoding n)
      (λ place. length_encodes n place h);
  small = λ n h.
      reads_back EncodesSmall small_reading small_exact n (λ place. small_encoding n)
      (λ place. small_encodes n place h);
  octets = λ octets h.
      reads_back (EncodesOctets (length octets)) (octets_reading (length octets))
      (octets_exact (length octets)) octets (octets_encoding octets)
      (λ place. octets_encode octets place h);
  open_type = λ octets h small.
      reads_back EncodesOpenType open_type_reading open_type_exact octets
      (open_type_encoding octets) (λ place. open_type_encodes octets place h small);
}
