-- What is told in the octets of a reply: a RegistrationConfirm tells its endpointIdentifier, and
-- any other reply tells none.
use Rattle.std.proofs.Common.{◌≡◌, ℕ, ◌+◌, ◌/◌, ◌%◌, ◌*◌, ◌==◌, ◌≤◌, List, ◌∷◌, ◌++◌, Bool}
use Rattle.std.proofs.Common.{true, false, not, length, drop, refl, ap, ◌∙◌, subst, arith}
use Rattle.std.proofs.Common.{append_assoc, length-append, Some, None, Ok}
use Rattle.std.proofs.lemmas.List.{length-replicate}
use Rattle.per_bits.specs.Bits.{bits_of, pad_length, place_of}
use Rattle.per_bits.specs.Canonical.{pad, whole_encoding}
use Rattle.per_bits.proofs.Agreement.{whole_encodes}
use Rattle.per_bits.proofs.Octets.{length-bits_of}
use Rattle.ras_module.specs.declared.reply.RegistrationConfirm.{RegistrationConfirm}
use Rattle.ras_module.specs.declared.reply.Reply.{Reply}
use Rattle.ras_module.specs.declared.reply.Reply.TheVariants.{Gcf, Grj, Rcf, Rrj, Acf, Irq, Rip}
use Rattle.ras_module.specs.declared.reply.Reply.TheVariants.{Ucf, Urj, Arj, Bcf, Brj, Dcf, Drj}
use Rattle.ras_grammar.specs.Grammar.{Grammar, boolean, whole, choice_index, skipped}
use Rattle.ras_grammar.specs.Sequences.{octet_string, identifier}
use Rattle.ras_writing.specs.Chain.{◌>>=◌}
use Rattle.ras_writing.specs.Encoding.{Encoding, in_order, padded_octets}
use Rattle.ras_writing.specs.Encoding as encoding
use Rattle.ras_writing.specs.Properties.{AreAliases, IsAddress, IsName, IsSeq}
use Rattle.ras_writing.specs.Replies as replies
use Rattle.ras_writing.specs.Replies.{admission_confirm, admission_reject, bandwidth_confirm}
use Rattle.ras_writing.specs.Replies.{bandwidth_reject, components, disengage_confirm, encoding_of}
use Rattle.ras_writing.specs.Replies.{disengage_reject, gatekeeper_confirm, gatekeeper_reject}
use Rattle.ras_writing.specs.Replies.{has_aliases, info_request, registration_confirm}
use Rattle.ras_writing.specs.Replies.{registration_confirm_additions, registration_confirm_front}
use Rattle.ras_writing.specs.Replies.{registration_reject, request_in_progress, terminal_alias}
use Rattle.ras_writing.specs.Replies.{unregistration_confirm, unregistration_reject}
use Rattle.ras_writing.proofs.OpenTypesWritten.{bits_of-octets_in}
use Rattle.ras_writing.proofs.TextsWritten.{identifier_written}
use Rattle.ras_writing.proofs.Written.{AreEncodings, boolean_encoded, done, in_order-append}
use Rattle.ras_writing.proofs.Written.{index_encoded, none, one, part, part_of, whole_encoded}
use Rattle.record_audit.specs.Told.{absent, confirmed_identifier, passed_address, passed_aliases}
use Rattle.record_audit.specs.Told.{passed_text, told_identifier, told_in}
use Rattle.record_laws.proofs.ToldParts.{address_passed, passed_over, protocol_passed}
use Rattle.record_laws.proofs.ToldParts.{terminal_passed, text_passed}

-- ---- the octets of a reply

bits_written : (reply : Reply)
    → bits_of (encoding_of reply)
    ≡ in_order (components reply) 0 ++ pad (length (in_order (components reply) 0) % 8)
unfolding encoding_of padded_octets
bits_written reply =
    let all = in_order (components reply) 0 in
    let zeros = pad (length all % 8) in
    let count = (length all + 7) / 8 in
    let len : length (all ++ zeros) ≡ 8 * count =
    omega (arith, length-append all zeros, length-replicate (pad_length (length all % 8)) false) in
    bits_of-octets_in count (all ++ zeros) len

-- ---- a RegistrationConfirm

-- what is written of it up to its endpointIdentifier can be read again
pub record IsToldConfirm (confirm : RegistrationConfirm) : Type 0 where
  pub numbered : IsSeq confirm.seq
  pub located : IsAddress confirm.call_signal
  pub named : AreAliases confirm.aliases
  pub answered : IsName confirm.gatekeeper
  pub identified : IsName confirm.endpoint

-- the same as told_identifier, of which a proof sees the chain
unfoldable chained : Grammar (List ℕ)
chained = do
  extended ← boolean
  root ← absent extended
  index ← choice_index 24
  confirm ← absent (not (index == 4))
  more ← boolean
  has_non_standard_data ← boolean
  has_aliases ← boolean
  has_gatekeeper ← boolean
  seq ← whole 1 65535
  protocol ← skipped true octet_string
  non_standard_data ← absent has_non_standard_data
  call_signal ← passed_address
  aliases ← skipped has_aliases passed_aliases
  gatekeeper ← skipped has_gatekeeper (passed_text 128)
  identifier

same_grammar : chained ≡ told_identifier
unfolding chained told_identifier confirmed_identifier ◌>>=◌
same_grammar = refl

abbrev front_of : RegistrationConfirm → List Encoding
front_of confirm =
    registration_confirm_front confirm.seq confirm.call_signal (has_aliases confirm.aliases)
    ++ (terminal_alias confirm.aliases
    ++ (replies.identifier confirm.gatekeeper ++ replies.identifier confirm.endpoint))

front_chained : (confirm : RegistrationConfirm) → IsToldConfirm confirm
    → AreEncodings chained confirm.endpoint (front_of confirm)
unfolding chained registration_confirm_front replies.identifier
front_chained confirm h =
    one _ (boolean_encoded false) (none _ done
    (one _ (index_encoded 24 4 (omega arith) (omega arith)) (none _ done
    (one _ (boolean_encoded true) (one _ (boolean_encoded false)
    (one _ (boolean_encoded (has_aliases confirm.aliases)) (one _ (boolean_encoded true)
    (one _ (whole_encoded 1 65535 confirm.seq h.numbered.0 h.numbered.1 (omega arith))
    (part_of _ _ _ protocol_passed
    (none _ done
    (part _ (address_passed confirm.call_signal h.located)
    (part _ (terminal_passed confirm.aliases h.named)
    (part _ (passed_over (passed_text 128) (text_passed 128 confirm.gatekeeper h.answered.some
    h.answered.few (omega arith)))
    (identifier_written confirm.endpoint h.identified.some h.identified.few
    h.identified.fit))))))))))))))

front_written : (confirm : RegistrationConfirm) → IsToldConfirm confirm
    → AreEncodings told_identifier confirm.endpoint (front_of confirm)
front_written confirm h =
    subst (λ (g : Grammar (List ℕ)). AreEncodings g confirm.endpoint (front_of confirm))
    same_grammar (front_chained confirm h)

parts_flat : {A : Type 0} (a b c d e : List A)
    → a ++ (b ++ (c ++ (d ++ e))) ≡ (a ++ (b ++ (c ++ d))) ++ e
parts_flat a b c d e = simp append_assoc

-- what is written is that, and the additions behind it
components_are : (confirm : RegistrationConfirm)
    → components (Rcf confirm)
    ≡ front_of confirm ++ registration_confirm_additions confirm.granted
unfolding registration_confirm
components_are confirm =
    parts_flat
    (registration_confirm_front confirm.seq confirm.call_signal (has_aliases confirm.aliases))
    (terminal_alias confirm.aliases) (replies.identifier confirm.gatekeeper)
    (replies.identifier confirm.endpoint) (registration_confirm_additions confirm.granted)

-- an endpointIdentifier is read at the front of octets
told_by : (octets id : List ℕ) (front rest : List Bool) → bits_of octets ≡ front ++ rest
    → told_identifier.encodes id 0 front → told_in octets ≡ Some id
unfolding told_in
told_by octets id front rest is h =
    let start : 0 ≡ place_of (front ++ rest) =
    omega (arith, ap length is, length-bits_of octets) in
    rw (
      is,
      told_identifier.exact.only front rest id
          (subst (λ (n : ℕ). told_identifier.encodes id n front) start h),
    ) refl

pub confirm_tells : (confirm : RegistrationConfirm) → IsToldConfirm confirm
    → told_in (encoding_of (Rcf confirm)) ≡ Some confirm.endpoint
confirm_tells confirm h =
    let all = in_order (components (Rcf confirm)) 0 in
    let zeros = pad (length all % 8) in
    let front = in_order (front_of confirm) 0 in
    let additions = registration_confirm_additions confirm.granted in
    let rest = in_order additions ((0 + length front) % 8) in
    let parts : all ≡ front ++ rest =
    ap (λ (es : List Encoding). in_order es 0) (components_are confirm)
    ∙ in_order-append (front_of confirm) additions 0 (omega arith) in
    told_by (encoding_of (Rcf confirm)) confirm.endpoint front (rest ++ zeros)
    (bits_written (Rcf confirm) ∙ ap (λ (t : List Bool). t ++ zeros) parts
    ∙ append_assoc front rest zeros)
    ((front_written confirm h).here 0 (omega arith))

-- ---- the other replies

-- the index of another root alternative is read at the front of octets
none_by : (octets : List ℕ) (index : ℕ) (rest : List Bool) → index ≤ 24
    → (index == 4) ≡ false
    → bits_of octets ≡ false ∷ (whole_encoding 0 24 index 1 ++ rest) → told_in octets ≡ None
unfolding told_in told_identifier
none_by octets index rest few other is =
    let front = whole_encoding 0 24 index 1 in
    let start : 1 ≡ place_of (front ++ rest) =
    omega (arith, ap length is, length-bits_of octets) in
    let read : (choice_index 24).reading (front ++ rest) ≡ Ok (index, rest) =
    (choice_index 24).exact.only front rest index
    (subst (λ (n : ℕ). (choice_index 24).encodes index n front) start
    (whole_encodes 0 24 index 1 (omega arith) few (omega arith))) in
    rw (is, read, other) refl

none_in : (reply : Reply) (index : ℕ) → index ≤ 24 → (index == 4) ≡ false
    → components reply
    ≡ encoding.boolean false ∷ encoding.whole 0 24 index ∷ drop 2 (components reply)
    → told_in (encoding_of reply) ≡ None
none_in reply index few other is =
    let all = in_order (components reply) 0 in
    let zeros = pad (length all % 8) in
    let front = whole_encoding 0 24 index 1 in
    let rest = in_order (drop 2 (components reply)) ((1 + length front) % 8) in
    none_by (encoding_of reply) index (rest ++ zeros) few other
    (bits_written reply
    ∙ ap (λ (es : List Encoding). in_order es 0 ++ zeros) is
    ∙ ap (λ (t : List Bool). false ∷ t) (append_assoc front rest zeros))

none_later : (octets : List ℕ) (rest : List Bool) → bits_of octets ≡ true ∷ rest
    → told_in octets ≡ None
unfolding told_in told_identifier
none_later octets rest is = rw is refl

-- a reply, but for a RegistrationConfirm
abbrev pub ConfirmsNone : Reply → Type 0
ConfirmsNone (Rcf confirm) = ⊥
ConfirmsNone other = Unit {0}

pub others_tell_none : (reply : Reply) → ConfirmsNone reply → told_in (encoding_of reply) ≡ None
unfolding gatekeeper_confirm gatekeeper_reject registration_reject unregistration_confirm
    unregistration_reject admission_confirm admission_reject bandwidth_confirm bandwidth_reject
    disengage_confirm disengage_reject info_request request_in_progress
others_tell_none (Gcf confirm) h = none_in (Gcf confirm) 1 (omega arith) refl refl
others_tell_none (Grj seq reason) h = none_in (Grj seq reason) 2 (omega arith) refl refl
others_tell_none (Rcf confirm) h = absurd h
others_tell_none (Rrj seq reason) h = none_in (Rrj seq reason) 5 (omega arith) refl refl
others_tell_none (Ucf seq) h = none_in (Ucf seq) 7 (omega arith) refl refl
others_tell_none (Urj seq reason) h = none_in (Urj seq reason) 8 (omega arith) refl refl
others_tell_none (Acf seq units dest) h = none_in (Acf seq units dest) 10 (omega arith) refl refl
others_tell_none (Arj seq reason) h = none_in (Arj seq reason) 11 (omega arith) refl refl
others_tell_none (Bcf seq units) h = none_in (Bcf seq units) 13 (omega arith) refl refl
others_tell_none (Brj seq reason allowed) h =
    none_in (Brj seq reason allowed) 14 (omega arith) refl refl
others_tell_none (Dcf seq) h = none_in (Dcf seq) 16 (omega arith) refl refl
others_tell_none (Drj seq reason) h = none_in (Drj seq reason) 17 (omega arith) refl refl
others_tell_none (Irq seq) h = none_in (Irq seq) 21 (omega arith) refl refl
others_tell_none (Rip seq delay) h =
    let all = in_order (components (Rip seq delay)) 0 in
    none_later (encoding_of (Rip seq delay)) (drop 1 all ++ pad (length all % 8))
    (bits_written (Rip seq delay))
