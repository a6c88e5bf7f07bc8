-- The line of an event: no line ends in it.
use Rattle.std.proofs.Common.{◌≡◌, ◌<◌, ◌^◌, ℕ, List, [], ◌∷◌, ◌++◌, codes}
use Rattle.std.proofs.Common.{arith, refl, sym, ap, append_assoc, append-nil, subst}
use Rattle.std.specs.Fmt.{decimal}
use Rattle.hex.specs.Hex.{encode_upper}
use Rattle.zone_events.specs.declared.event.Event.{Event}
use Rattle.zone_events.specs.declared.event.Event.TheVariants.{Datagram, Turn}
use Rattle.script.specs.Prints.{address_text}
use Rattle.record_audit.specs.Written.{IsEvent, event_text, turn_text}
use Rattle.recording.proofs.FourNumbers.{address_is_told}
use Rattle.recording.proofs.LineWords.{Without, without_append}
use Rattle.record_laws.proofs.OutcomeWords.{number_word, octets_without, told_word}
use Rattle.record_laws.proofs.SpacedWords.{plain_word, spaced, spaced_without}

datagram_flat : (moment address octets : List ℕ)
    → codes "at " ++ moment ++ codes " from " ++ address ++ codes " " ++ octets
    ≡ (codes "at" ++ spaced (moment ∷ codes "from" ∷ address ∷ [])) ++ 32 ∷ octets
datagram_flat moment address octets = simp (append_assoc, append-nil)

turn_flat : (moment : ℕ) → moment < 2 ^ 53
    → turn_text moment ≡ codes "turn" ++ spaced (decimal moment ∷ [])
turn_flat moment small = ap (λ (t : List ℕ). codes "turn " ++ t) (sym (append-nil (decimal moment)))

pub event_is_a_line : (event : Event) → IsEvent event → Without 10 (event_text event)
event_is_a_line (Datagram source bytes moment) h =
    let small : moment < 2 ^ 64 = omega (arith, h.2) in
    let words = decimal moment ∷ codes "from" ∷ address_text source ∷ [] in
    subst (Without 10)
    (sym (datagram_flat (decimal moment) (address_text source) (encode_upper bytes)))
    (without_append 10 (codes "at" ++ spaced words) (32 ∷ encode_upper bytes)
    (without_append 10 (codes "at") (spaced words) (plain_word (codes "at") refl refl refl).no_end
    (spaced_without words (
      number_word moment small,
      (
        plain_word (codes "from") refl refl refl,
        (told_word source _ (address_text source) (address_is_told source h.0), tt),
      ),
    )))
    (refl, octets_without 10 refl bytes h.1))
event_is_a_line (Turn moment) h =
    let small : moment < 2 ^ 64 = omega (arith, h) in
    subst (Without 10) (sym (turn_flat moment h))
    (without_append 10 (codes "turn") (spaced (decimal moment ∷ []))
    (plain_word (codes "turn") refl refl refl).no_end
    (spaced_without (decimal moment ∷ []) (number_word moment small, tt)))
