-- The derived tests of equality of requests and replies decide whether they are equal.
use Rattle.std.proofs.Common.{◌≡◌, Bool, true, false, List, Option}
use Rattle.std.proofs.Common.{Some, None, ℕ, nat_eq, ap, refl, rules}
use Rattle.std.specs.Bool.{Decides}
use Rattle.std.specs.Option.{option_eq}
use Rattle.std.specs.Cmp.{booleans_Decides}
use Rattle.std.specs.Cmp.Lexicographic.{pointwise}
use Rattle.std.proofs.lemmas.Slice.Eq.{slice_eq-Decides}
use Rattle.std.proofs.lemmas.Bool.Decides.{Decides-eqb}
use Rattle.std.proofs.lemmas.Bool.{and_parts, and_from}
use Rattle.ras_module.specs.Addresses.{same_address}
use Rattle.ras_module.specs.declared.address.Address.{Address}
use Rattle.ras_module.specs.Aliases.{same_alias}
use Rattle.ras_module.specs.Same.{texts_decide, address_decides, alias_decides}
use Rattle.ras_module.specs.declared.alias.Alias.{Alias}
use Rattle.ras_module.specs.declared.reason.RegistrationRejectReason.{RegistrationRejectReason}
use Rattle.ras_module.specs.declared.reason.RegistrationRejectReason.TheVariants as reason
use Rattle.ras_module.specs.declared.reply.RegistrationConfirm.{RegistrationConfirm}
use Rattle.ras_module.specs.declared.reply.Reply.{Reply}
use Rattle.ras_module.specs.declared.reply.Reply.TheVariants as reply
use Rattle.ras_module.specs.declared.request.Request.{Request}
use Rattle.ras_module.specs.declared.request.Request.TheVariants as request
use Rattle.ras_module.specs.declared.request.RegistrationRequest.{RegistrationRequest}
use Rattle.ras_module.specs.declared.request.AdmissionRequest.{AdmissionRequest}
use Rattle.ras_module.specs.contracts.reason.RegistrationRejectReasonPartialEq.TheImpl as reason_eq
use Rattle.ras_module.specs.contracts.reply.RegistrationConfirmPartialEq.TheImpl as rcf_eq
use Rattle.ras_module.specs.contracts.reply.ReplyPartialEq.TheImpl as reply_eq
use Rattle.ras_module.specs.contracts.request.RequestPartialEq.TheImpl as request_eq
use Rattle.ras_module.specs.contracts.request.RegistrationRequestPartialEq.TheImpl as rrq_eq
use Rattle.ras_module.specs.contracts.request.AdmissionRequestPartialEq.TheImpl as arq_eq

never : {A : Type 0} → false ≡ true → A
never h = absurd (cc h)

pub aliases_decide : (a b : List Alias) → Decides (pointwise same_alias a b) (a ≡ b)
aliases_decide a b = slice_eq-Decides alias_decides a b (pointwise same_alias a b) refl

pub reason_decides : (a b : RegistrationRejectReason)
    → Decides ((reason_eq.ghosts).eq a b) (a ≡ b)
reason_decides (reason.DuplicateAlias a) (reason.DuplicateAlias b) = search (rules, aliases_decide)
reason_decides reason.DiscoveryRequired reason.DiscoveryRequired = search rules
reason_decides reason.InvalidCallSignalAddress reason.InvalidCallSignalAddress = search rules
reason_decides reason.InvalidRasAddress reason.InvalidRasAddress = search rules
reason_decides reason.ResourceUnavailable reason.ResourceUnavailable = search rules
reason_decides reason.FullRegistrationRequired reason.FullRegistrationRequired = search rules
reason_decides a b = (λ h. never h, λ e. absurd (cc e))

pub confirm_decides : (a b : RegistrationConfirm) → Decides ((rcf_eq.ghosts).eq a b) (a ≡ b)
confirm_decides a b = search (rules, aliases_decide)

pub reply_decides : (a b : Reply) → Decides ((reply_eq.ghosts).eq a b) (a ≡ b)
reply_decides (reply.Gcf a) (reply.Gcf b) = search rules
reply_decides (reply.Grj a0 a1) (reply.Grj b0 b1) = search rules
reply_decides (reply.Rcf a) (reply.Rcf b) = search (rules, confirm_decides)
reply_decides (reply.Rrj a0 a1) (reply.Rrj b0 b1) = search (rules, reason_decides)
reply_decides (reply.Ucf a) (reply.Ucf b) = search rules
reply_decides (reply.Urj a0 a1) (reply.Urj b0 b1) = search rules
reply_decides (reply.Acf a0 a1 a2) (reply.Acf b0 b1 b2) = search rules
reply_decides (reply.Arj a0 a1) (reply.Arj b0 b1) = search rules
reply_decides (reply.Bcf a0 a1) (reply.Bcf b0 b1) = search rules
reply_decides (reply.Brj a0 a1 a2) (reply.Brj b0 b1 b2) = search rules
reply_decides (reply.Dcf a) (reply.Dcf b) = search rules
reply_decides (reply.Drj a0 a1) (reply.Drj b0 b1) = search rules
reply_decides (reply.Irq a) (reply.Irq b) = search rules
reply_decides (reply.Rip a0 a1) (reply.Rip b0 b1) = search rules
reply_decides a b = (λ h. never h, λ e. absurd (cc e))

pub arq_decides : (a b : AdmissionRequest) → Decides ((arq_eq.ghosts).eq a b) (a ≡ b)
arq_decides a b = search (rules, aliases_decide)

pub options_decide : {A : Type 0} (test : A → A → Bool) → ((a b : A) → Decides (test a b) (a ≡ b))
    → (a b : Option A) → Decides (option_eq test a b) (a ≡ b)
options_decide test decides (Some a) (Some b) =
    (λ h. ap Some ((decides a b).0 h), λ e. (decides a b).1 (cc e))
options_decide test decides None None = (λ h. refl, λ e. refl)
options_decide test decides a b = (λ h. never h, λ e. absurd (cc e))

addresses : (a b : Option Address) → Decides (option_eq same_address a b) (a ≡ b)
addresses a b = options_decide same_address address_decides a b

texts : (a b : Option (List ℕ)) → Decides (option_eq (pointwise nat_eq) a b) (a ≡ b)
texts a b = options_decide (pointwise nat_eq) texts_decide a b

numbers : (a b : Option ℕ) → Decides (option_eq nat_eq a b) (a ≡ b)
numbers a b = options_decide nat_eq Decides-eqb a b

pub rrq_decides : (a b : RegistrationRequest) → Decides ((rrq_eq.ghosts).eq a b) (a ≡ b)
rrq_decides a b = (
  λ h.
      (let h1 = and_parts _ _ h in
      let h2 = and_parts _ _ h1.1 in
      let h3 = and_parts _ _ h2.1 in
      let h4 = and_parts _ _ h3.1 in
      let h5 = and_parts _ _ h4.1 in
      let h6 = and_parts _ _ h5.1 in
      let h7 = and_parts _ _ h6.1 in
      let seq = (Decides-eqb a.seq b.seq).0 h1.0 in
      let call_signal = (addresses a.call_signal b.call_signal).0 h2.0 in
      let ras = (addresses a.ras b.ras).0 h3.0 in
      let aliases = (aliases_decide a.aliases b.aliases).0 h4.0 in
      let gatekeeper = (texts a.gatekeeper b.gatekeeper).0 h5.0 in
      let time_to_live = (numbers a.time_to_live b.time_to_live).0 h6.0 in
      let keep_alive = (booleans_Decides a.keep_alive b.keep_alive).0 h7.0 in
      let endpoint = (texts a.endpoint b.endpoint).0 h7.1 in
      λ i. record {
        seq = seq i;
        call_signal = call_signal i;
        ras = ras i;
        aliases = aliases i;
        gatekeeper = gatekeeper i;
        time_to_live = time_to_live i;
        keep_alive = keep_alive i;
        endpoint = endpoint i;
      }),
  λ e.
      (and_from _ _ ((Decides-eqb a.seq b.seq).1 (ap (λ q. q.seq) e))
      (and_from _ _ ((addresses a.call_signal b.call_signal).1 (ap (λ q. q.call_signal) e))
      (and_from _ _ ((addresses a.ras b.ras).1 (ap (λ q. q.ras) e))
      (and_from _ _ ((aliases_decide a.aliases b.aliases).1 (ap (λ q. q.aliases) e))
      (and_from _ _ ((texts a.gatekeeper b.gatekeeper).1 (ap (λ q. q.gatekeeper) e))
      (and_from _ _ ((numbers a.time_to_live b.time_to_live).1 (ap (λ q. q.time_to_live) e))
      (and_from _ _ ((booleans_Decides a.keep_alive b.keep_alive).1 (ap (λ q. q.keep_alive) e))
      ((texts a.endpoint b.endpoint).1 (ap (λ q. q.endpoint) e))))))))),
)

pub request_decides : (a b : Request) → Decides ((request_eq.ghosts).eq a b) (a ≡ b)
request_decides (request.Grq a) (request.Grq b) = search rules
request_decides (request.Rrq a) (request.Rrq b) = search (rules, rrq_decides)
request_decides (request.Urq a) (request.Urq b) = search rules
request_decides (request.Arq a) (request.Arq b) = search (rules, arq_decides)
request_decides (request.Brq a) (request.Brq b) = search rules
request_decides (request.Drq a) (request.Drq b) = search rules
request_decides (request.Irr a) (request.Irr b) = search rules
request_decides a b = (λ h. never h, λ e. absurd (cc e))
