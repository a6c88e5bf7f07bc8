-- How many octets are read.
use Rattle.std.proofs.Common.{◌≡◌, ℕ, List, Bool, length, Ok}
use Rattle.per_bits.specs.Readings.{octets_reading}
use Rattle.per_bits.proofs.OctetForms.{octets_exact}

pub octets_read : (count : ℕ) (bits rest : List Bool) (octets : List ℕ)
    → octets_reading count bits ≡ Ok (octets, rest) → length octets ≡ count
octets_read count bits rest octets e = ((octets_exact count).found bits rest octets e).2.4.0
