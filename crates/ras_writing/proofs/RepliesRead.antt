-- Each reply is an encoding of itself.
use Rattle.std.proofs.Common.{◌≡◌, ℕ, ◌+◌, ◌%◌, ◌≤◌, List, [], ◌∷◌, ◌++◌, Bool, true, false, length}
use Rattle.std.proofs.Common.{refl, sym, subst, append-nil, arith, lit<, ◌*◌, ◌/◌, length-append}
use Rattle.std.proofs.Common.{ap, ◌∙◌}
use Rattle.std.proofs.lemmas.List.{length-replicate}
use Rattle.per_bits.specs.Canonical as canonical
use Rattle.per_bits.proofs.Agreement.{length_encodes, octets_encode}
use Rattle.per_bits.specs.Bits.{bits_of, pad_length, place_of}
use Rattle.per_bits.specs.Canonical.{pad, offset_encoding}
use Rattle.per_bits.proofs.Results.{ok_is}
use Rattle.ras_module.specs.declared.alias.Alias.{Alias}
use Rattle.ras_module.specs.declared.reason.RegistrationRejectReason.{RegistrationRejectReason}
use Rattle.ras_module.specs.declared.reply.GatekeeperConfirm.{GatekeeperConfirm}
use Rattle.ras_module.specs.declared.reply.RegistrationConfirm.{RegistrationConfirm}
use Rattle.ras_module.specs.declared.reply.Reply.{Reply}
use Rattle.ras_module.specs.declared.address.Address.{Address}
use Rattle.ras_module.specs.declared.reply.Reply.TheVariants.{Gcf, Grj, Rcf, Rrj, Acf, Irq, Rip}
use Rattle.ras_module.specs.declared.reply.Reply.TheVariants.{Ucf, Urj, Arj, Bcf, Brj, Dcf, Drj}
use Rattle.ras_module.specs.declared.reason.GatekeeperRejectReason.{GatekeeperRejectReason}
use Rattle.ras_module.specs.declared.reason.UnregRejectReason.{UnregRejectReason}
use Rattle.ras_module.specs.declared.reason.AdmissionRejectReason.{AdmissionRejectReason}
use Rattle.ras_module.specs.declared.reason.BandRejectReason.{BandRejectReason}
use Rattle.ras_module.specs.declared.reason.DisengageRejectReason.{DisengageRejectReason}
use Rattle.ras_grammar.specs.Aliases as aliases
use Rattle.ras_grammar.specs.Grammar.{value_of}
use Rattle.ras_grammar.specs.Sequences as sequences
use Rattle.ras_grammar.specs.Grammar as forms
use Rattle.ras_writing.specs.Properties.{AreAliases, IsReason, IsRegistrationConfirm, IsReply}
use Rattle.ras_writing.specs.Properties.{ReadsBack, IsAddress, IsName}
use Rattle.ras_writing.specs.Replies.{has_aliases, terminal_alias, registration_confirm_front}
use Rattle.ras_writing.specs.Replies.{registration_confirm_additions, registration_confirm}
use Rattle.ras_writing.specs.Replies.{registration_reject, components, encoding_of, null_choice}
use Rattle.ras_writing.specs.Replies.{transport_address, admission_confirm_additions}
use Rattle.ras_writing.specs.Replies.{gatekeeper_confirm, admission_confirm, info_request}
use Rattle.ras_writing.specs.Replies.{request_in_progress, protocol_identifier, gatekeeper_reject}
use Rattle.ras_writing.specs.Replies.{unregistration_confirm, unregistration_reject}
use Rattle.ras_writing.specs.Replies.{admission_reject, bandwidth_confirm, bandwidth_reject}
use Rattle.ras_writing.specs.Replies.{disengage_confirm, disengage_reject}
use Rattle.ras_writing.specs.Encoding.{in_order, padded_octets}
use Rattle.ras_writing.specs.Encoding as encoding
use Rattle.ras_writing.specs.Replies as replies
use Rattle.ras_writing.specs.ReplyGrammar as grammar
use Rattle.ras_writing.specs.ReplyGrammar.{reply_message, root_choice}
use Rattle.ras_writing.proofs.AliasesWritten.{aliases_written}
use Rattle.ras_writing.proofs.Written.{IsEncoding, AreEncodings, done, one, part, none, last}
use Rattle.ras_writing.proofs.Written.{boolean_encoded, part_of, whole_encoded, index_encoded}
use Rattle.ras_writing.proofs.Written.{small_encoded}
use Rattle.ras_writing.proofs.TextsWritten.{identifier_written}
use Rattle.ras_writing.proofs.AddressesWritten.{address_written, one_address_written}
use Rattle.ras_writing.proofs.OpenTypesWritten.{bits_of-octets_in, inside_written}
use Rattle.ras_writing.proofs.OpenTypesWritten.{additions_written}
use Rattle.ras_writing.proofs.AdditionsWritten.{boolean_added, uuies_added, guid_added}
use Rattle.ras_writing.proofs.AdditionsWritten.{time_to_live_written}
use Rattle.ras_writing.proofs.ReasonsWritten.{gatekeeper_reason_written, unreg_reason_written}
use Rattle.ras_writing.proofs.ReasonsWritten.{admission_reason_written, band_reason_written}
use Rattle.ras_writing.proofs.ReasonsWritten.{disengage_reason_written, registration_reason_written}

-- ---- what many messages share

protocol_written : AreEncodings sequences.protocol_identifier
    (0 ∷ 8 ∷ 145 ∷ 74 ∷ 0 ∷ 2 ∷ []) protocol_identifier
unfolding protocol_identifier
protocol_written =
    let contents : List ℕ = 0 ∷ 8 ∷ 145 ∷ 74 ∷ 0 ∷ 2 ∷ [] in
    record {
      here = λ place small.
          let front = canonical.length_encoding 6 place in
          let after = (place + length front) % 8 in
          let octets = canonical.octets_encoding contents after in (
            6,
            (
              front,
              octets ++ [],
              refl,
              length_encodes 6 place (omega arith),
              subst (λ (t : List Bool). (forms.octets 6).encodes contents after t) (sym
                  (append-nil octets)) (octets_encode contents after (
                    lit< tt,
                    (
                      lit< tt,
                      (
                        lit< tt,
                        (lit< tt, (lit< tt, (lit< tt, tt))),
                      ),
                    ),
                  )),
            ),
          );
    }

transport_written : (address : Address) → IsAddress address
    → AreEncodings grammar.ip_transport_address address (transport_address address)
transport_written address h = last _ (address_written address h.four h.fit h.port) done

model_written : AreEncodings (root_choice 1 grammar.call_model) tt (null_choice 1 0)
model_written = one _ (boolean_encoded false) (one _ (index_encoded 1 0 (omega arith)
    (omega arith)) done)

optional_written : (list : List Alias) → AreAliases list → AreEncodings (aliases.optional_aliases
    (has_aliases list)) list (terminal_alias list)
unfolding terminal_alias
optional_written [] h = done
optional_written (x ∷ xs) h = aliases_written (x ∷ xs) h

-- ---- the messages

module _ (seq : ℕ) (low : 1 ≤ seq) (high : seq ≤ 65535) where
  seq_encoded : IsEncoding sequences.request_seq_num seq (replies.request_seq_num seq)
  seq_encoded = whole_encoded 1 65535 seq low high (omega arith)

  pub ucf_written : AreEncodings reply_message (Ucf seq) (unregistration_confirm seq)
  unfolding reply_message unregistration_confirm grammar.unregistration_confirm
  ucf_written =
      one _ (boolean_encoded false) (one _ (index_encoded 24 7 (omega arith) (omega arith))
      (one _ (boolean_encoded false) (one _ (boolean_encoded false) (one _ seq_encoded
      (none _ done done)))))

  pub dcf_written : AreEncodings reply_message (Dcf seq) (disengage_confirm seq)
  unfolding reply_message disengage_confirm grammar.disengage_confirm
  dcf_written =
      one _ (boolean_encoded false) (one _ (index_encoded 24 16 (omega arith) (omega arith))
      (one _ (boolean_encoded false) (one _ (boolean_encoded false) (one _ seq_encoded
      (none _ done done)))))

  pub bcf_written : (units : ℕ) → units ≤ 4294967295 → AreEncodings reply_message (Bcf seq units)
      (bandwidth_confirm seq units)
  unfolding reply_message bandwidth_confirm grammar.bandwidth_confirm
  bcf_written units most =
      one _ (boolean_encoded false) (one _ (index_encoded 24 13 (omega arith) (omega arith))
      (one _ (boolean_encoded false) (one _ (boolean_encoded false) (one _ seq_encoded (one _
      (whole_encoded 0 4294967295 units (omega arith) most (omega arith))
      (none _ done done))))))

  pub urj_written : (reason : UnregRejectReason) → AreEncodings reply_message (Urj seq reason)
      (unregistration_reject seq reason)
  unfolding reply_message unregistration_reject grammar.unregistration_reject
  urj_written reason =
      one _ (boolean_encoded false) (one _ (index_encoded 24 8 (omega arith) (omega arith))
      (one _ (boolean_encoded false) (one _ (boolean_encoded false) (one _ seq_encoded (last _
      (unreg_reason_written reason) (none _ done done))))))

  pub arj_written : (reason : AdmissionRejectReason) → AreEncodings reply_message (Arj seq reason)
      (admission_reject seq reason)
  unfolding reply_message admission_reject grammar.admission_reject
  arj_written reason =
      one _ (boolean_encoded false) (one _ (index_encoded 24 11 (omega arith) (omega arith))
      (one _ (boolean_encoded false) (one _ (boolean_encoded false) (one _ seq_encoded (last _
      (admission_reason_written reason) (none _ done done))))))

  pub drj_written : (reason : DisengageRejectReason) → AreEncodings reply_message (Drj seq reason)
      (disengage_reject seq reason)
  unfolding reply_message disengage_reject grammar.disengage_reject
  drj_written reason =
      one _ (boolean_encoded false) (one _ (index_encoded 24 17 (omega arith) (omega arith))
      (one _ (boolean_encoded false) (one _ (boolean_encoded false) (one _ seq_encoded (last _
      (disengage_reason_written reason) (none _ done done))))))

  pub brj_written : (reason : BandRejectReason) (allowed : ℕ) → allowed ≤ 4294967295
      → AreEncodings reply_message (Brj seq reason allowed) (bandwidth_reject seq reason allowed)
  unfolding reply_message bandwidth_reject grammar.bandwidth_reject
  brj_written reason allowed most =
      one _ (boolean_encoded false) (one _ (index_encoded 24 14 (omega arith) (omega arith))
      (one _ (boolean_encoded false) (one _ (boolean_encoded false) (one _ seq_encoded (part _
      (band_reason_written reason)
      (one _ (whole_encoded 0 4294967295 allowed (omega arith) most (omega arith))
      (none _ done done)))))))

  pub grj_written : (reason : GatekeeperRejectReason) → AreEncodings reply_message (Grj seq reason)
      (gatekeeper_reject seq reason)
  unfolding reply_message gatekeeper_reject grammar.gatekeeper_reject
  grj_written reason =
      one _ (boolean_encoded false) (one _ (index_encoded 24 2 (omega arith) (omega arith))
      (one _ (boolean_encoded false) (one _ (boolean_encoded false) (one _ (boolean_encoded false)
      (one _ seq_encoded (part _ protocol_written
      (none _ done (none _ done (last _ (gatekeeper_reason_written reason) done)))))))))

  pub acf_written : (units : ℕ) (dest : Address) → units ≤ 4294967295 → IsAddress dest
      → AreEncodings reply_message (Acf seq units dest) (admission_confirm seq units dest)
  unfolding reply_message admission_confirm grammar.admission_confirm admission_confirm_additions
  acf_written units dest most address =
      one _ (boolean_encoded false) (one _ (index_encoded 24 10 (omega arith) (omega arith))
      (one _ (boolean_encoded true) (one _ (boolean_encoded false) (one _ (boolean_encoded false)
      (one _ seq_encoded
      (one _ (whole_encoded 0 4294967295 units (omega arith) most (omega arith))
      (part _ model_written (part _ (transport_written dest address)
      (none _ done (none _ done
      (part _ (additions_written (false ∷ false ∷ false ∷ false ∷ false ∷ false ∷ false ∷ false ∷
      false ∷ true ∷ true ∷ []) 10 (encoding.bits 11 3) refl (omega arith) (λ place. refl))
      (none _ done (none _ done (none _ done (none _ done (none _ done (none _ done (none _ done
      (none _ done (none _ done
      (part _ boolean_added
      (last _ uuies_added done))))))))))))))))))))))

  pub irq_written : AreEncodings reply_message (Irq seq) (info_request seq)
  unfolding reply_message info_request grammar.info_request
  irq_written =
      one _ (boolean_encoded false) (one _ (index_encoded 24 21 (omega arith) (omega arith))
      (one _ (boolean_encoded true) (one _ (boolean_encoded false) (one _ (boolean_encoded false)
      (one _ seq_encoded
      (one _ (whole_encoded 0 65535 0 (omega arith) (omega arith) (omega arith))
      (none _ done (none _ done
      (part _ (additions_written (true ∷ []) 0 (encoding.boolean true) refl (omega arith)
      (λ place. refl))
      (last _ guid_added done))))))))))

  abbrev in_progress : ℕ → List encoding.Encoding
  in_progress delay =
      encoding.boolean false ∷ encoding.boolean false ∷ encoding.boolean false ∷ encoding.boolean
      false ∷ encoding.boolean false
      ∷ replies.request_seq_num seq ∷ encoding.whole 1 65535 delay ∷ []

  rip_length : (delay : ℕ) → length (encoding.in_order (in_progress delay) 0) ≡ 8 * 5
  unfolding offset_encoding
  rip_length delay = refl

  rip_inside : (delay : ℕ) → 1 ≤ delay → delay ≤ 65535 → AreEncodings grammar.request_in_progress
      (Rip seq delay) (in_progress delay)
  unfolding grammar.request_in_progress
  rip_inside delay some most =
      one _ (boolean_encoded false) (one _ (boolean_encoded false) (one _ (boolean_encoded false)
      (one _
      (boolean_encoded false) (one _ (boolean_encoded false) (one _ seq_encoded
      (none _ done (none _ done (one _ (whole_encoded 1 65535 delay some most
      (omega arith)) done))))))))

  pub rip_written : (delay : ℕ) → 1 ≤ delay → delay ≤ 65535 → AreEncodings reply_message
      (Rip seq delay)
      (request_in_progress seq delay)
  unfolding reply_message request_in_progress
  rip_written delay some most =
      one _ (boolean_encoded true) (one _ (small_encoded 0 (omega arith))
      (inside_written grammar.request_in_progress 5 (in_progress delay) (omega arith)
      (rip_length delay) (rip_inside delay some most)))

  pub rrj_written : (reason : RegistrationRejectReason) → IsReason reason
      → AreEncodings reply_message
      (Rrj seq reason) (registration_reject seq reason)
  unfolding reply_message registration_reject grammar.registration_reject
  rrj_written reason h =
      one _ (boolean_encoded false) (one _ (index_encoded 24 5 (omega arith) (omega arith))
      (one _ (boolean_encoded false) (one _ (boolean_encoded false) (one _ (boolean_encoded false)
      (one _ seq_encoded (part _ protocol_written
      (none _ done (last _ (registration_reason_written reason h) (none _ done done)))))))))

pub gcf_written : (confirm : GatekeeperConfirm) → IsReply (Gcf confirm)
    → AreEncodings reply_message (Gcf confirm) (components (Gcf confirm))
unfolding reply_message gatekeeper_confirm grammar.gatekeeper_confirm
gcf_written confirm h =
    let name : IsName confirm.gatekeeper = h.1 in
    one _ (boolean_encoded false) (one _ (index_encoded 24 1 (omega arith) (omega arith))
    (one _ (boolean_encoded false) (one _ (boolean_encoded false) (one _ (boolean_encoded true)
    (one _ (seq_encoded confirm.seq h.0.0 h.0.1) (part _ protocol_written
    (none _ done
    (part _ (identifier_written confirm.gatekeeper name.some name.few name.fit) (last _
    (transport_written confirm.ras h.2) done)))))))))

pub rcf_written : (confirm : RegistrationConfirm) → IsRegistrationConfirm confirm
    → AreEncodings reply_message (Rcf confirm) (components (Rcf confirm))
unfolding reply_message registration_confirm registration_confirm_front
    registration_confirm_additions grammar.registration_confirm
rcf_written confirm h =
    one _ (boolean_encoded false) (one _ (index_encoded 24 4 (omega arith) (omega arith))
    (one _ (boolean_encoded true) (one _ (boolean_encoded false) (one _ (boolean_encoded
    (has_aliases confirm.aliases)) (one _ (boolean_encoded true)
    (one _ (seq_encoded confirm.seq h.numbered.0 h.numbered.1)
    (part_of _ _ _ protocol_written
    (none _ done
    (part _ (one_address_written confirm.call_signal h.located.four h.located.fit h.located.port)
    (none _ done
    (part _ (optional_written confirm.aliases h.named)
    (part _ (identifier_written confirm.gatekeeper h.answered.some h.answered.few h.answered.fit)
    (part _ (identifier_written confirm.endpoint h.identified.some h.identified.few
    h.identified.fit)
    (part _ (additions_written (false ∷ true ∷ false ∷ false ∷ false ∷ true ∷ []) 5
    (encoding.bits 6 17) refl (omega arith) (λ place. refl))
    (none _ done
    (part _ (time_to_live_written confirm.granted h.lasting.0 h.lasting.1)
    (none _ done (none _ done (none _ done
    (last _ boolean_added done))))))))))))))))))))

-- ---- all replies

pub reply_written : (reply : Reply) → IsReply reply → AreEncodings reply_message reply
    (components reply)
reply_written (Gcf confirm) h = gcf_written confirm h
reply_written (Grj seq reason) h = grj_written seq h.0 h.1 reason
reply_written (Rcf confirm) h = rcf_written confirm h
reply_written (Rrj seq reason) h = rrj_written seq h.0.0 h.0.1 reason h.1
reply_written (Ucf seq) h = ucf_written seq h.0 h.1
reply_written (Urj seq reason) h = urj_written seq h.0 h.1 reason
reply_written (Acf seq units dest) h = acf_written seq h.0.0 h.0.1 units dest h.1 h.2
reply_written (Arj seq reason) h = arj_written seq h.0 h.1 reason
reply_written (Bcf seq units) h = bcf_written seq h.0.0 h.0.1 units h.1
reply_written (Brj seq reason allowed) h = brj_written seq h.0.0 h.0.1 reason allowed h.1
reply_written (Dcf seq) h = dcf_written seq h.0 h.1
reply_written (Drj seq reason) h = drj_written seq h.0 h.1 reason
reply_written (Irq seq) h = irq_written seq h.0 h.1
reply_written (Rip seq delay) h = rip_written seq h.0.0 h.0.1 delay h.1 h.2

pub reads_back : (reply : Reply) → IsReply reply → ReadsBack reply
unfolding encoding_of padded_octets
reads_back reply h =
    let bits = in_order (components reply) 0 in
    let zeros = pad (length bits % 8) in
    let count = (length bits + 7) / 8 in
    let len : length (bits ++ zeros) ≡ 8 * count = omega
    (arith, length-append bits zeros, length-replicate (pad_length (length bits % 8)) false) in
    let place : 0 ≡ place_of (bits ++ zeros) = omega arith in
    let written = (reply_written reply h).here 0 (omega arith) in
    let read = reply_message.exact.only bits zeros reply (subst (λ
    (n : ℕ). reply_message.encodes reply n bits) place written) in
    rw (bits_of-octets_in count (bits ++ zeros) len, read) refl

pub one_reply : (a b : Reply) → IsReply a → IsReply b → encoding_of a ≡ encoding_of b → a ≡ b
one_reply a b h k same =
    ok_is a b (sym (reads_back a h) ∙ ap (λ (octets : List ℕ). value_of (reply_message.reading
    (bits_of octets))) same ∙ reads_back b k)
