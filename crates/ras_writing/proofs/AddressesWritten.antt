-- What is written for an address is an encoding of it.
use Rattle.std.proofs.Common.{◌≡◌, ℕ, ◌+◌, ◌%◌, ◌<◌, ◌≤◌, [], ◌∷◌, ◌++◌, false, length, refl, sym}
use Rattle.std.proofs.Common.{subst, arith, append-nil, Some}
use Rattle.std.specs.List.{AllByRecursion}
use Rattle.per_bits.specs.Canonical as canonical
use Rattle.per_bits.proofs.Agreement.{whole_encodes, length_encodes, octets_encode}
use Rattle.ras_module.specs.declared.address.Address.{Address}
use Rattle.ras_grammar.specs.Grammar as grammar
use Rattle.ras_grammar.specs.Addresses as addresses
use Rattle.ras_writing.specs.Encoding.{in_order}
use Rattle.ras_writing.specs.Encoding as encoding
use Rattle.ras_writing.specs.Replies.{transport_address}
use Rattle.ras_writing.proofs.Written.{AreEncodings, below_eight}

pub address_written : (address : Address) → length address.ip ≡ 4 → AllByRecursion
    (λ x. x < 256) address.ip → address.port ≤ 65535
    → AreEncodings addresses.transport_address (Some address) (transport_address address)
unfolding addresses.transport_address addresses.ip_address transport_address
address_written address four fit port = record {
  here = λ place _.
      let place1 = (place + 1) % 8 in
      let index = canonical.whole_encoding 0 6 0 place1 in
      let place2 = (place1 + length index) % 8 in
      let ip = canonical.octets_encoding address.ip place2 in
      let place3 = (place2 + length ip) % 8 in
      let last = canonical.whole_encoding 0 65535 address.port place3 in
      let four_octets : (grammar.octets 4).encodes address.ip place2 ip = subst (λ (n : ℕ).
      (grammar.octets n).encodes address.ip place2 ip) four
      (octets_encode address.ip place2 fit) in (
        false,
        (
          false ∷ [],
          index ++ (ip ++ (last ++ [])),
          refl,
          refl,
          (
            0,
            (
              index,
              ip ++ (last ++ []),
              refl,
              whole_encodes 0 6 0 place1 (omega arith) (omega arith) (omega arith),
              (
                address,
                (
                  ip ++ (last ++ []),
                  [],
                  sym (append-nil (ip ++ (last ++ []))),
                  (
                    address.ip,
                    (
                      ip,
                      last ++ [],
                      refl,
                      four_octets,
                      (
                        address.port,
                        (
                          last,
                          [],
                          refl,
                          whole_encodes 0 65535 address.port place3
                              (omega arith) port (omega arith),
                          (refl, refl),
                        ),
                      ),
                    ),
                  ),
                  (refl, refl),
                ),
              ),
            ),
          ),
        ),
      );
}

-- a list of one address
pub one_address_written : (address : Address) → length address.ip ≡ 4 → AllByRecursion
    (λ x. x < 256) address.ip → address.port ≤ 65535
    → AreEncodings addresses.address_list (Some address)
    (encoding.size 1 ∷ transport_address address)
unfolding addresses.address_list
one_address_written address four fit port = record {
  here = λ place _.
      let front = canonical.length_encoding 1 place in
      let after = (place + length front) % 8 in
      let rest = in_order (transport_address address) after in
      let item = (address_written address four fit port).here after (below_eight
      (place + length front)) in (
        1,
        (
          front,
          rest,
          refl,
          length_encodes 1 place (omega arith),
          (
            Some address ∷ [],
            (
              rest,
              [],
              sym (append-nil rest),
              (
                Some address,
                (
                  rest,
                  [],
                  sym (append-nil rest),
                  item,
                  (
                    [],
                    (
                      [],
                      [],
                      refl,
                      (refl, refl),
                      (refl, refl),
                    ),
                  ),
                ),
              ),
              (refl, refl),
            ),
          ),
        ),
      );
}
