-- Replies by their octets.
use Rattle.std.specs.Prelude.{ℕ, ◌≡◌, ◌≤◌, List, length, Result, Ok, Err, Bool}
use Rattle.per_bits.specs.Bits.{bits_of}
use Rattle.ras_grammar.specs.declared.fault.ReadFault.{ReadFault}
use Rattle.ras_grammar.specs.Grammar.{value_of}
use Rattle.ras_module.specs.declared.reply.Reply.{Reply}
use Rattle.ras_module.specs.declared.reply.Reply.TheVariants.{Ucf}
use Rattle.ras_module.specs.declared.reply.TheConstants.Reply as reply_octets
use Rattle.ras_module.specs.contracts.reply.ReplyPartialEq.TheImpl as reply_eq
use Rattle.ras_writing.specs.Replies.{encoding_of}
use Rattle.ras_writing.specs.ReplyGrammar.{reply_message}

-- the reply that was read; if none was, any reply stands for it
abbrev pub reply_read : Result Reply ReadFault → Reply
reply_read (Ok reply) = reply
reply_read (Err fault) = Ucf 1

-- the reply as which octets are read
unfoldable pub reply_of : List ℕ → Reply
reply_of octets = reply_read (value_of (reply_message.reading (bits_of octets)))

-- whether two replies are equal
abbrev pub same_reply : Reply → Reply → Bool
same_reply a b = (reply_eq.ghosts).eq a b

-- these octets are what is written for the reply as which they are read
pub record IsEncoded (octets : List ℕ) : Type 0 where
  pub written : encoding_of (reply_of octets) ≡ octets
  pub few : length octets ≤ reply_octets.MOST
