-- No reply is longer than its room.
use Rattle.std.proofs.Common.{◌≡◌, ℕ, zero, suc, ◌+◌, ◌-◌, ◌*◌, ◌/◌, ◌%◌, ◌≤◌, ◌<◌, ◌^◌, List, []}
use Rattle.std.proofs.Common.{◌∷◌, ◌++◌}
use Rattle.std.proofs.Common.{Bool, false, true, length, replicate, drop, refl, ap}
use Rattle.std.proofs.Common.{arith, length-append, lit≤}
use Rattle.std.specs.List.{AllByRecursion}
use Rattle.per_bits.specs.Bits.{binary, width, octets_in}
use Rattle.per_bits.specs.Canonical.{pad, offset_encoding}
use Rattle.per_bits.proofs.Binary.{length-binary}
use Rattle.per_bits.proofs.Room.{length-pad-le, length-offset_encoding-le}
use Rattle.per_bits.proofs.Room.{length-length_encoding-le, length-octets_encoding-le}
use Rattle.ras_module.specs.declared.alias.Alias.{Alias}
use Rattle.ras_module.specs.declared.alias.Alias.TheVariants.{Digits, H323Id}
use Rattle.ras_module.specs.declared.address.Address.{Address}
use Rattle.ras_module.specs.declared.reason.RegistrationRejectReason.{RegistrationRejectReason}
use Rattle.ras_module.specs.declared.reason.RegistrationRejectReason.TheVariants as registration
use Rattle.ras_module.specs.declared.reason.GatekeeperRejectReason.{GatekeeperRejectReason}
use Rattle.ras_module.specs.declared.reason.GatekeeperRejectReason.TheVariants as gatekeeper
use Rattle.ras_module.specs.declared.reason.UnregRejectReason.{UnregRejectReason}
use Rattle.ras_module.specs.declared.reason.UnregRejectReason.TheVariants as unreg
use Rattle.ras_module.specs.declared.reason.AdmissionRejectReason.{AdmissionRejectReason}
use Rattle.ras_module.specs.declared.reason.AdmissionRejectReason.TheVariants as admission
use Rattle.ras_module.specs.declared.reason.BandRejectReason.{BandRejectReason}
use Rattle.ras_module.specs.declared.reason.BandRejectReason.TheVariants as band
use Rattle.ras_module.specs.declared.reason.DisengageRejectReason.{DisengageRejectReason}
use Rattle.ras_module.specs.declared.reason.DisengageRejectReason.TheVariants as disengage
use Rattle.ras_module.specs.declared.reply.RegistrationConfirm.{RegistrationConfirm}
use Rattle.ras_module.specs.declared.reply.Reply.{Reply}
use Rattle.ras_module.specs.declared.reply.Reply.TheVariants.{Gcf, Grj, Rcf, Rrj, Ucf, Urj, Acf}
use Rattle.ras_module.specs.declared.reply.Reply.TheVariants.{Arj, Bcf, Brj, Dcf, Drj, Irq, Rip}
use Rattle.ras_module.specs.declared.reply.TheConstants.Reply as reply_octets
use Rattle.ras_module.specs.Aliases.{characters_of}
use Rattle.ras_module.specs.Rooms.{room_of, text_room, aliases_room}
use Rattle.ras_writing.specs.Encoding.{Encoding, in_order, padded_octets, boolean, bits, whole}
use Rattle.ras_writing.specs.Encoding.{small}
use Rattle.ras_writing.specs.Replies.{protocol_identifier, characters, identifier}
use Rattle.ras_writing.specs.Replies.{transport_address, digits, digit_code, alias_address}
use Rattle.ras_writing.specs.Replies.{alias_addresses, alias_list, null_choice, zero_octet}
use Rattle.ras_writing.specs.Replies.{terminal_alias, has_aliases}
use Rattle.ras_writing.specs.Replies.{registration_reason, held_in, time_to_live_octets}
use Rattle.ras_writing.specs.Replies.{registration_confirm_additions, registration_confirm_front}
use Rattle.ras_writing.specs.Replies.{registration_confirm, registration_reject}
use Rattle.ras_writing.specs.Replies.{admission_confirm_additions, components, encoding_of}
use Rattle.ras_writing.specs.Replies.{gatekeeper_reason, unreg_reason, admission_reason}
use Rattle.ras_writing.specs.Replies.{band_reason, disengage_reason}
use Rattle.ras_writing.specs.Replies as replies
use Rattle.ras_writing.specs.Properties.{IsAlias, IsReason, IsAddress}
use Rattle.ras_writing.specs.Properties.{IsRegistrationConfirm, IsReply}
use Rattle.ras_writing.proofs.Widths.{whole-one_octet}
use Rattle.ras_writing.proofs.Written.{in_order-append}

pub record Fits (most : ℕ) (components : List Encoding) : Type 0 where
  pub here : (place : ℕ) → place < 8 → length (in_order components place) ≤ most

fits_none : Fits 0 []
fits_none = record { here = λ place small. omega arith }

fits_one : (m : ℕ) {n : ℕ} {e : Encoding} {es : List Encoding} → ((place : ℕ) → length
    (e place) ≤ m) → Fits n es → Fits (m + n) (e ∷ es)
fits_one m {n} {e} {es} short p = record {
  here = λ place small.
      let after = (place + length (e place)) % 8 in
      omega (
        arith,
        length-append (e place) (in_order es after),
        short place,
        p.here after
            (omega arith),
      );
}

fits_part : {m n : ℕ} {xs ys : List Encoding} → Fits m xs → Fits n ys → Fits (m + n) (xs ++ ys)
fits_part {m} {n} {xs} {ys} p q = record {
  here = λ place small.
      let front = in_order xs place in
      let after = (place + length front) % 8 in
      omega (
        arith,
        ap length (in_order-append xs ys place small),
        length-append front
            (in_order ys after),
        p.here place small,
        q.here after (omega arith),
      );
}

fits_in : {m n : ℕ} {es : List Encoding} → m ≤ n → Fits m es → Fits n es
fits_in le p = record { here = λ place small. omega (arith, p.here place small) }

bit_short : (b : Bool) (place : ℕ) → length (boolean b place) ≤ 1
bit_short b place = omega arith

whole_short : (lo hi n : ℕ) → hi < 2 ^ 32 → n < 2 ^ 32 → (place : ℕ) → length
    (whole lo hi n place) ≤ 41
whole_short lo hi n high fits place = length-offset_encoding-le (hi - lo) (n - lo) place
    (omega arith) (omega arith)

small_short : (n place : ℕ) → length (small n place) ≤ 7
small_short n place = omega (arith, length-binary 6 n)

bits_short : (count n place : ℕ) → length (bits count n place) ≤ count
bits_short count n place = omega (arith, length-binary count n)

one_bit_short : (place : ℕ) → length (whole 0 1 1 place) ≤ 1
unfolding offset_encoding width
one_bit_short place = lit≤ tt

one_octet_short : (n place : ℕ) → length (whole 1 256 n place) ≤ 15
one_octet_short n place = omega (
  arith,
  ap length (whole-one_octet n place),
  length-append
      (pad place) (binary 8 (n - 1)),
  length-pad-le place,
  length-binary 8 (n - 1),
)

-- ---- parts

protocol_fits : Fits 78 protocol_identifier
unfolding protocol_identifier
protocol_fits = fits_one 23 (length-length_encoding-le 6) (fits_one 55 (length-octets_encoding-le
    (0 ∷ 8 ∷ 145 ∷ 74 ∷ 0 ∷ 2 ∷ [])) fits_none)

characters_fit : (text : List ℕ) → Fits (16 * length text) (characters text)
characters_fit [] = fits_in (omega arith) fits_none
characters_fit (x ∷ xs) = fits_in (omega arith) (fits_one 16 (bits_short 16 x) (characters_fit xs))

digits_fit : (text : List ℕ) → Fits (4 * length text) (digits text)
digits_fit [] = fits_in (omega arith) fits_none
digits_fit (x ∷ xs) = fits_in (omega arith) (fits_one 4 (bits_short 4 (digit_code x))
    (digits_fit xs))

identifier_fits : (text : List ℕ) → length text ≤ 128
    → Fits (48 + 16 * length text) (identifier text)
unfolding identifier
identifier_fits text few =
    fits_in (omega arith) (fits_one 41 (whole_short 1 128 (length text) (omega arith)
    (omega arith)) (fits_one 7 length-pad-le (characters_fit text)))

transport_fits : (address : Address) → IsAddress address → Fits 122 (transport_address address)
unfolding transport_address
transport_fits address h =
    fits_in (omega (arith, h.four)) (fits_one 1 (bit_short false) (fits_one 41 (whole_short 0 6 0
    (omega arith) (omega arith))
    (fits_one (7 + 8 * length address.ip) (length-octets_encoding-le address.ip)
    (fits_one 41 (whole_short 0 65535 address.port (omega arith) (omega
    (arith, h.port))) fits_none))))

alias_fits : (alias : Alias) → IsAlias alias
    → Fits (8 * text_room (characters_of alias)) (alias_address alias)
unfolding alias_address
alias_fits (Digits text) h =
    fits_in (omega (arith, h.few)) (fits_one 1 (bit_short false) (fits_one 41 (whole_short 0 1 0
    (omega arith) (omega arith))
    (fits_one 41 (whole_short 1 128 (length text) (omega arith) (omega (arith, h.few)))
    (fits_one 7 length-pad-le (digits_fit text)))))
alias_fits (H323Id text) h =
    fits_in (omega (arith, h.few)) (fits_one 1 (bit_short false) (fits_one 1 one_bit_short
    (fits_one 15 (one_octet_short (length text)) (fits_one 7 length-pad-le (characters_fit text)))))

aliases_fit : (list : List Alias) → AllByRecursion IsAlias list → Fits (8 * aliases_room list)
    (alias_addresses list)
aliases_fit [] h = fits_in (omega arith) fits_none
aliases_fit (x ∷ xs) h = fits_in (omega arith) (fits_part (alias_fits x h.0) (aliases_fit xs h.1))

alias_list_fits : (list : List Alias) → AllByRecursion IsAlias list → Fits
    (23 + 8 * aliases_room list) (alias_list list)
alias_list_fits list h = fits_one 23 (length-length_encoding-le (length list)) (aliases_fit list h)

zero_fits : Fits 38 zero_octet
zero_fits = fits_one 23 (length-length_encoding-le 1) (fits_one 15 (length-octets_encoding-le
    (0 ∷ [])) fits_none)

choice_fits : (last index : ℕ) → last < 2 ^ 32 → index < 2 ^ 32 → Fits 42 (null_choice last index)
choice_fits last index high fits = fits_one 1 (bit_short false) (fits_one 41
    (whole_short 0 last index high fits) fits_none)

reason_fits : (reason : RegistrationRejectReason) → IsReason reason → Fits
    (65 + 8 * aliases_room (held_in reason)) (registration_reason reason)
unfolding registration_reason
reason_fits registration.DiscoveryRequired h = fits_in (omega arith) (choice_fits 7 0
    (omega arith) (omega arith))
reason_fits registration.InvalidCallSignalAddress h = fits_in (omega arith) (choice_fits 7 2
    (omega arith) (omega arith))
reason_fits registration.InvalidRasAddress h = fits_in (omega arith) (choice_fits 7 3
    (omega arith) (omega arith))
reason_fits (registration.DuplicateAlias held) h = fits_in (omega arith) (fits_part
    (choice_fits 7 4 (omega arith) (omega arith)) (alias_list_fits held h.each))
reason_fits registration.ResourceUnavailable h = fits_in (omega arith) (fits_one 1
    (bit_short true) (fits_one 7 (small_short 1) zero_fits))
reason_fits registration.FullRegistrationRequired h = fits_in (omega arith) (fits_one 1
    (bit_short true) (fits_one 7 (small_short 4) zero_fits))

terminal_fits : (list : List Alias) → AllByRecursion IsAlias list
    → Fits (23 + 8 * aliases_room list) (terminal_alias list)
unfolding terminal_alias
terminal_fits [] h = fits_in (omega arith) fits_none
terminal_fits (x ∷ xs) h = alias_list_fits (x ∷ xs) h

-- ---- the indexes of reasons

gatekeeper_few : (reason : GatekeeperRejectReason) → gatekeeper_reason reason < 2 ^ 32
gatekeeper_few gatekeeper.TerminalExcluded = omega arith

unreg_few : (reason : UnregRejectReason) → unreg_reason reason < 2 ^ 32
unreg_few unreg.NotCurrentlyRegistered = omega arith
unreg_few unreg.CallInProgress = omega arith

admission_few : (reason : AdmissionRejectReason) → admission_reason reason < 2 ^ 32
admission_few admission.CalledPartyNotRegistered = omega arith
admission_few admission.RequestDenied = omega arith
admission_few admission.InvalidEndpointIdentifier = omega arith
admission_few admission.ResourceUnavailable = omega arith

band_few : (reason : BandRejectReason) → band_reason reason < 2 ^ 32
band_few band.NotBound = omega arith
band_few band.InvalidConferenceId = omega arith
band_few band.InsufficientResources = omega arith

disengage_few : (reason : DisengageRejectReason) → disengage_reason reason < 2 ^ 32
disengage_few disengage.NotRegistered = omega arith
disengage_few disengage.RequestToDropOther = omega arith

-- ---- the messages

-- what begins a message: its extension bit and root index, the bits of its preamble, and its number
begun_one : (index seq : ℕ) (a b : Bool) {n : ℕ} {es : List Encoding} → index ≤ 24 → seq ≤ 65535
    → Fits n es
    → Fits (85 + n) (boolean false ∷ whole 0 24 index ∷ boolean a ∷ boolean b ∷
    replies.request_seq_num seq ∷ es)
begun_one index seq a b few high p =
    fits_in (omega arith) (fits_one 1 (bit_short false) (fits_one 41 (whole_short 0 24 index
    (omega arith) (omega arith))
    (fits_one 1 (bit_short a) (fits_one 1 (bit_short b) (fits_one 41 (whole_short 1 65535 seq
    (omega arith) (omega arith)) p)))))

begun_two : (index seq : ℕ) (a b d : Bool) {n : ℕ} {es : List Encoding} → index ≤ 24 → seq ≤ 65535
    → Fits n es
    → Fits (86 + n) (boolean false ∷ whole 0 24 index ∷ boolean a ∷ boolean b ∷ boolean d ∷
    replies.request_seq_num seq ∷ es)
begun_two index seq a b d few high p =
    fits_in (omega arith) (fits_one 1 (bit_short false) (fits_one 41 (whole_short 0 24 index
    (omega arith) (omega arith))
    (fits_one 1 (bit_short a) (fits_one 1 (bit_short b) (fits_one 1 (bit_short d) (fits_one 41
    (whole_short 1 65535 seq (omega arith) (omega arith)) p))))))

units_fit : (units : ℕ) → units ≤ 4294967295 → Fits 41 (replies.band_width units ∷ [])
units_fit units most = fits_one 41 (whole_short 0 4294967295 units (omega arith)
    (omega arith)) fits_none

confirm_additions_fit : Fits 120 admission_confirm_additions
unfolding admission_confirm_additions
confirm_additions_fit = fits_in (omega arith) (fits_one 7 (small_short 10) (fits_one 11
    (bits_short 11 3) (fits_part zero_fits
    (fits_one 23 (length-length_encoding-le 2) (fits_one 23 (length-octets_encoding-le
    (0 ∷ 0 ∷ [])) fits_none)))))

registered_additions_fit : (granted : ℕ) → granted ≤ 4294967295 → Fits 120
    (registration_confirm_additions granted)
unfolding registration_confirm_additions
registered_additions_fit granted most = fits_in (omega arith) (fits_one 7 (small_short 5)
    (fits_one 6 (bits_short 6 17)
    (fits_one 23 (length-length_encoding-le (time_to_live_octets granted)) (fits_one 41
    (whole_short 1 4294967295 granted (omega arith) (omega arith)) zero_fits))))

registration_confirm_fits : (confirm : RegistrationConfirm) → IsRegistrationConfirm confirm
    → Fits (8 * room_of (Rcf confirm)) (components (Rcf confirm))
unfolding registration_confirm registration_confirm_front
registration_confirm_fits confirm h =
    let ends = fits_part (terminal_fits confirm.aliases h.named.each) (fits_part
    (identifier_fits confirm.gatekeeper h.answered.few)
    (fits_part (identifier_fits confirm.endpoint h.identified.few)
    (registered_additions_fit confirm.granted h.lasting.1))) in
    let address = fits_part protocol_fits (fits_one 23 (length-length_encoding-le 1)
    (transport_fits confirm.call_signal h.located)) in
    fits_in (omega arith)
    (fits_one 1 (bit_short false) (fits_one 41 (whole_short 0 24 4 (omega arith) (omega arith))
    (fits_one 1 (bit_short true) (fits_one 1 (bit_short false) (fits_one 1 (bit_short
    (has_aliases confirm.aliases)) (fits_one 1 (bit_short true)
    (fits_one 41 (whole_short 1 65535 confirm.seq (omega arith) (omega (arith, h.numbered.1)))
    (fits_part address ends))))))))

registration_reject_fits : (seq : ℕ) (reason : RegistrationRejectReason) → seq ≤ 65535
    → IsReason reason
    → Fits (242 + 8 * aliases_room (held_in reason)) (registration_reject seq reason)
unfolding registration_reject
registration_reject_fits seq reason high h =
    fits_in (omega arith) (begun_two 5 seq false false false (omega arith) high
    (fits_part protocol_fits (reason_fits reason h)))

reject_room : (seq : ℕ) (reason : RegistrationRejectReason)
    → 242 + 8 * aliases_room (held_in reason) ≤ 8 * room_of (Rrj seq reason)
reject_room seq registration.DiscoveryRequired = omega arith
reject_room seq registration.InvalidCallSignalAddress = omega arith
reject_room seq registration.InvalidRasAddress = omega arith
reject_room seq (registration.DuplicateAlias held) = omega arith
reject_room seq registration.ResourceUnavailable = omega arith
reject_room seq registration.FullRegistrationRequired = omega arith

components_fit : (reply : Reply) → IsReply reply → Fits (8 * room_of reply) (components reply)
unfolding replies.gatekeeper_confirm replies.gatekeeper_reject replies.unregistration_confirm
    replies.unregistration_reject replies.admission_confirm replies.admission_reject
    replies.bandwidth_confirm replies.bandwidth_reject replies.disengage_confirm
    replies.disengage_reject replies.info_request replies.request_in_progress
components_fit (Gcf confirm) h =
    fits_in (omega arith) (begun_two 1 confirm.seq false false true (omega arith) h.0.1
    (fits_part protocol_fits (fits_part (identifier_fits confirm.gatekeeper (h.1).few)
    (transport_fits confirm.ras h.2))))
components_fit (Grj seq reason) h =
    fits_in (omega arith) (begun_two 2 seq false false false (omega arith) h.1
    (fits_part protocol_fits (choice_fits 3 (gatekeeper_reason reason) (omega arith)
    (gatekeeper_few reason))))
components_fit (Rcf confirm) h = registration_confirm_fits confirm h
components_fit (Rrj seq reason) h = fits_in (reject_room seq reason)
    (registration_reject_fits seq reason h.0.1 h.1)
components_fit (Ucf seq) h = fits_in (omega arith) (begun_one 7 seq false false
    (omega arith) h.1 fits_none)
components_fit (Urj seq reason) h =
    fits_in (omega arith) (begun_one 8 seq false false (omega arith) h.1 (choice_fits 2
    (unreg_reason reason) (omega arith) (unreg_few reason)))
components_fit (Acf seq units dest) h =
    fits_in (omega arith) (begun_two 10 seq true false false (omega arith) h.0.1
    (fits_one 41 (whole_short 0 4294967295 units (omega arith) (omega (arith, h.1)))
    (fits_part (choice_fits 1 0 (omega arith) (omega arith)) (fits_part
    (transport_fits dest h.2) confirm_additions_fit))))
components_fit (Arj seq reason) h =
    fits_in (omega arith) (begun_one 11 seq false false (omega arith) h.1 (choice_fits 7
    (admission_reason reason) (omega arith) (admission_few reason)))
components_fit (Bcf seq units) h = fits_in (omega arith) (begun_one 13 seq false false
    (omega arith) h.0.1 (units_fit units h.1))
components_fit (Brj seq reason allowed) h =
    fits_in (omega arith) (begun_one 14 seq false false (omega arith) h.0.1 (fits_part
    (choice_fits 5 (band_reason reason) (omega arith) (band_few reason))
    (units_fit allowed h.1)))
components_fit (Dcf seq) h = fits_in (omega arith) (begun_one 16 seq false false
    (omega arith) h.1 fits_none)
components_fit (Drj seq reason) h =
    fits_in (omega arith) (begun_one 17 seq false false (omega arith) h.1 (choice_fits 1
    (disengage_reason reason) (omega arith) (disengage_few reason)))
components_fit (Irq seq) h =
    fits_in (omega arith) (begun_two 21 seq true false false (omega arith) h.1
    (fits_one 41 (whole_short 0 65535 0 (omega arith) (omega arith)) (fits_one 7 (small_short 0)
    (fits_one 1 (bit_short true)
    (fits_one 23 (length-length_encoding-le 17) (fits_one 1 (bit_short false) (fits_one 135
    (length-octets_encoding-le (replicate 16 0)) fits_none)))))))
components_fit (Rip seq delay) h =
    fits_in (omega arith) (fits_one 1 (bit_short true) (fits_one 7 (small_short 0) (fits_one 23
    (length-length_encoding-le 5)
    (fits_one 1 (bit_short false) (fits_one 1 (bit_short false) (fits_one 1 (bit_short false)
    (fits_one 1 (bit_short false) (fits_one 1 (bit_short false)
    (fits_one 41 (whole_short 1 65535 seq (omega arith) (omega (arith, h.0.1))) (fits_one 41
    (whole_short 1 65535 delay (omega arith) (omega (arith, h.2))) fits_none))))))))))

length-octets_in : (count : ℕ) (list : List Bool) → length (octets_in count list) ≡ count
length-octets_in zero list = refl
length-octets_in (suc count) list = ap suc (length-octets_in count (drop 8 list))

pub room_enough : (reply : Reply) → IsReply reply → length (encoding_of reply) ≤ room_of reply
unfolding encoding_of padded_octets
room_enough reply h =
    let list = in_order (components reply) 0 in
    let count = (length list + 7) / 8 in
    omega (
      arith,
      length-octets_in count (list ++ pad (length list % 8)),
      (components_fit reply h).here 0 (omega arith),
    )

aliases_most : (list : List Alias) → AllByRecursion IsAlias list
    → aliases_room list ≤ 524 * length list
aliases_most [] h = omega arith
aliases_most (Digits text ∷ rest) h = omega (arith, h.0.few, aliases_most rest h.1)
aliases_most (H323Id text ∷ rest) h = omega (arith, h.0.few, aliases_most rest h.1)

room_most : (reply : Reply) → IsReply reply → room_of reply ≤ reply_octets.MOST
room_most (Gcf confirm) h = omega (arith, (h.1).few)
room_most (Grj seq reason) h = omega arith
room_most (Rcf confirm) h = omega (
  arith,
  h.named.few,
  h.answered.few,
  h.identified.few,
  aliases_most confirm.aliases h.named.each,
)
room_most (Rrj seq registration.DiscoveryRequired) h = omega arith
room_most (Rrj seq registration.InvalidCallSignalAddress) h = omega arith
room_most (Rrj seq registration.InvalidRasAddress) h = omega arith
room_most (Rrj seq (registration.DuplicateAlias held)) h = omega (
  arith,
  h.1.few,
  aliases_most held h.1.each,
)
room_most (Rrj seq registration.ResourceUnavailable) h = omega arith
room_most (Rrj seq registration.FullRegistrationRequired) h = omega arith
room_most (Ucf seq) h = omega arith
room_most (Urj seq reason) h = omega arith
room_most (Acf seq units dest) h = omega arith
room_most (Arj seq reason) h = omega arith
room_most (Bcf seq units) h = omega arith
room_most (Brj seq reason allowed) h = omega arith
room_most (Dcf seq) h = omega arith
room_most (Drj seq reason) h = omega arith
room_most (Irq seq) h = omega arith
room_most (Rip seq delay) h = omega arith

-- the octets that a datagram has room for
pub few_octets : (reply : Reply) → IsReply reply → length (encoding_of reply) ≤ reply_octets.MOST
few_octets reply h = omega (arith, room_enough reply h, room_most reply h)
