-- What holds of what is written.
use Rattle.std.specs.Prelude.{ℕ, ◌≡◌, ◌≤◌, ◌<◌, List, length, Ok}
use Rattle.std.specs.List.{AllByRecursion}
use Rattle.ras_module.specs.declared.address.Address.{Address}
use Rattle.per_bits.specs.Bits.{bits_of}
use Rattle.ras_grammar.specs.Grammar.{value_of}
use Rattle.ras_module.specs.declared.alias.Alias.{Alias}
use Rattle.ras_module.specs.declared.alias.Alias.TheVariants.{Digits, H323Id}
use Rattle.ras_module.specs.declared.alias_list.TheConstants.ReplyAliases as reply_aliases
use Rattle.ras_module.specs.declared.reason.RegistrationRejectReason.{RegistrationRejectReason}
use Rattle.ras_module.specs.declared.reason.RegistrationRejectReason.TheVariants.{DuplicateAlias}
use Rattle.ras_module.specs.DialledDigits.{AreDialled}
use Rattle.ras_module.specs.declared.reply.RegistrationConfirm.{RegistrationConfirm}
use Rattle.ras_module.specs.declared.reply.Reply.{Reply}
use Rattle.ras_module.specs.declared.reply.Reply.TheVariants.{Gcf, Grj, Rcf, Rrj, Ucf, Urj, Acf}
use Rattle.ras_module.specs.declared.reply.Reply.TheVariants.{Arj, Bcf, Brj, Dcf, Drj, Irq, Rip}
use Rattle.ras_writing.specs.Replies.{encoding_of}
use Rattle.ras_writing.specs.ReplyGrammar.{reply_message}

-- what the type of an address keeps
pub record IsAddress (address : Address) : Type 0 where
  pub four : length address.ip ≡ 4
  pub fit : AllByRecursion (λ x. x < 256) address.ip
  pub port : address.port ≤ 65535

-- what the type of an identifier keeps: 1 to 128 characters of 16 bits
pub record IsName (text : List ℕ) : Type 0 where
  pub some : 1 ≤ length text
  pub few : length text ≤ 128
  pub fit : AllByRecursion (λ x. x < 65536) text

-- what the type of an alias keeps
pub record IsDigits (text : List ℕ) : Type 0 where
  pub some : 1 ≤ length text
  pub few : length text ≤ 128
  pub dialled : AreDialled text

pub record IsH323Id (text : List ℕ) : Type 0 where
  pub some : 1 ≤ length text
  pub few : length text ≤ 256
  pub fit : AllByRecursion (λ x. x < 65536) text

abbrev pub IsAlias : Alias → Type 0
IsAlias (Digits text) = IsDigits text
IsAlias (H323Id text) = IsH323Id text

-- what the type of a reply's aliases keeps
pub record AreAliases (aliases : List Alias) : Type 0 where
  pub few : length aliases ≤ reply_aliases.MOST
  pub each : AllByRecursion IsAlias aliases

abbrev pub IsSeq : ℕ → Type 0
IsSeq seq = (1 ≤ seq) × (seq ≤ 65535)

abbrev pub IsReason : RegistrationRejectReason → Type 0
IsReason (DuplicateAlias held) = AreAliases held
IsReason other = Unit {0}

pub record IsRegistrationConfirm (confirm : RegistrationConfirm) : Type 0 where
  pub numbered : IsSeq confirm.seq
  pub located : IsAddress confirm.call_signal
  pub named : AreAliases confirm.aliases
  pub answered : IsName confirm.gatekeeper
  pub identified : IsName confirm.endpoint
  pub lasting : (1 ≤ confirm.granted) × (confirm.granted ≤ 4294967295)

-- What the types of a reply's parts keep.
abbrev pub IsReply : Reply → Type 0
IsReply (Gcf confirm) = IsSeq confirm.seq × IsName confirm.gatekeeper × IsAddress confirm.ras
IsReply (Grj seq reason) = IsSeq seq
IsReply (Rcf confirm) = IsRegistrationConfirm confirm
IsReply (Rrj seq reason) = IsSeq seq × IsReason reason
IsReply (Ucf seq) = IsSeq seq
IsReply (Urj seq reason) = IsSeq seq
IsReply (Acf seq units dest) = IsSeq seq × (units ≤ 4294967295) × IsAddress dest
IsReply (Arj seq reason) = IsSeq seq
IsReply (Bcf seq units) = IsSeq seq × (units ≤ 4294967295)
IsReply (Brj seq reason allowed) = IsSeq seq × (allowed ≤ 4294967295)
IsReply (Dcf seq) = IsSeq seq
IsReply (Drj seq reason) = IsSeq seq
IsReply (Irq seq) = IsSeq seq
IsReply (Rip seq delay) = IsSeq seq × (1 ≤ delay) × (delay ≤ 65535)

-- The octets of a reply are read as this reply.
abbrev pub ReadsBack : Reply → Type 0
ReadsBack reply = value_of (reply_message.reading (bits_of (encoding_of reply))) ≡ Ok reply
