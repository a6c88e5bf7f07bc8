-- Replies that stand as their octets.
use Rattle.std.proofs.Common.{◌≡◌, ◌≤◌, ◌↔◌, ℕ, Bool, List, length, IsTrue, ap, sym, ◌∙◌}
use Rattle.std.specs.Bool.{Decides}
use Rattle.std.proofs.lemmas.Bool.Decides.{same_from_decides}
use Rattle.ras_module.specs.declared.reply.Reply.{Reply}
use Rattle.ras_module.specs.declared.reply.TheConstants.Reply as reply_octets
use Rattle.ras_module.proofs.Deciding.{reply_decides}
use Rattle.ras_writing.specs.Encoded.{IsEncoded, reply_of, reply_read, same_reply}
use Rattle.ras_writing.specs.Properties.{ReadsBack}
use Rattle.ras_writing.specs.Replies.{encoding_of}

-- what is written for a reply is read as it
pub read_again : (reply : Reply) → ReadsBack reply → reply_of (encoding_of reply) ≡ reply
unfolding reply_of
read_again reply h = ap reply_read h

pub read_from : (reply : Reply) (octets : List ℕ) → ReadsBack reply
    → octets ≡ encoding_of reply → reply_of octets ≡ reply
read_from reply octets h written = ap reply_of written ∙ read_again reply h

pub encoded : (reply : Reply) (octets : List ℕ) → ReadsBack reply → octets ≡ encoding_of reply
    → length octets ≤ reply_octets.MOST → IsEncoded octets
encoded reply octets h is few = record {
  written = ap encoding_of (read_from reply octets h is) ∙ sym is;
  few = few;
}

-- two replies are the same if and only if their octets are
pub octets_decide : (a b : Reply) (xs ys : List ℕ) (answer : Bool)
    → (IsTrue answer ↔ (xs ≡ ys)) → xs ≡ encoding_of a → ys ≡ encoding_of b
    → reply_of xs ≡ a → reply_of ys ≡ b → answer ≡ same_reply a b
octets_decide a b xs ys answer same of_a of_b to_a to_b =
    let decides : Decides answer (a ≡ b) = (
      λ yes. sym to_a ∙ ap reply_of (same.0 yes) ∙ to_b,
      λ e. same.1 (of_a ∙ ap encoding_of e ∙ sym of_b),
    ) in
    same_from_decides answer (same_reply a b) decides (reply_decides a b)
