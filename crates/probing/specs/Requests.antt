-- What is asked (H.225.0, GatekeeperRequest).
use Rattle.std.specs.Prelude.{ℕ, ◌/◌, ◌%◌, List, [], ◌∷◌, get_or}
use Rattle.ras_module.specs.declared.address.Address.{Address}

-- RasMessage, index 0, and no component that is OPTIONAL; requestSeqNum 1;
-- protocolIdentifier {itu-t (0) recommendation (0) h (8) 2250 version (0) 2};
-- rasAddress, an ipAddress; endpointType, a terminal without anything more
abbrev pub discovery_octets : Address → List ℕ
discovery_octets ras =
    0 ∷ 0 ∷ 0 ∷ 0
    ∷ 6 ∷ 0 ∷ 8 ∷ 145 ∷ 74 ∷ 0 ∷ 2
    ∷ 0 ∷ get_or ras.ip 0 0 ∷ get_or ras.ip 1 0 ∷ get_or ras.ip 2 0 ∷ get_or ras.ip 3 0
    ∷ ras.port / 256 ∷ ras.port % 256
    ∷ 2 ∷ 0 ∷ []
