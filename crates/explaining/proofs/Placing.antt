-- The fault shows at this octet, or behind it.
use Rattle.std.proofs.Common.{◌≡◌, ℕ, suc, ◌+◌, List, take, false, nat_eq, refl}
use Rattle.ras_reading.specs.Messages.{message_reading}
use Rattle.explaining.specs.Places.{fault_number_of, place_from}

pub place_later : (octets : List ℕ) (number count left more found : ℕ) → left ≡ suc more
    → found ≡ fault_number_of (message_reading (take count octets)) → nat_eq found number ≡ false
    → place_from octets number count left ≡ place_from octets number (count + 1) more
place_later octets number count left more found is_left is_found other =
    rw (is_left, ← is_found, other) refl
