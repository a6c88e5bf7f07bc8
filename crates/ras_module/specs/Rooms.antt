-- How many octets are enough for a reply.
use Rattle.std.specs.Prelude.{ℕ, ◌+◌, ◌*◌, List, [], ◌∷◌, length}
use Rattle.ras_module.specs.Aliases.{characters_of}
use Rattle.ras_module.specs.declared.alias.Alias.{Alias}
use Rattle.ras_module.specs.declared.reason.RegistrationRejectReason.TheVariants.{DuplicateAlias}
use Rattle.ras_module.specs.declared.reply.Reply.{Reply}
use Rattle.ras_module.specs.declared.reply.Reply.TheVariants.{Gcf, Rcf, Rrj}
use Rattle.ras_module.specs.declared.reply.TheConstants.Reply.{SHORT}

-- two octets for each character of a text, and some for what stands before them
abbrev pub text_room : List ℕ → ℕ
text_room text = 12 + 2 * length text

abbrev pub aliases_room : List Alias → ℕ
aliases_room [] = 0
aliases_room (alias ∷ aliases) = text_room (characters_of alias) + aliases_room aliases

-- that of a reply without texts, and that of each of its texts
abbrev pub room_of : Reply → ℕ
room_of (Gcf confirm) = SHORT + text_room confirm.gatekeeper
room_of (Rcf confirm) =
    SHORT + text_room confirm.gatekeeper + text_room confirm.endpoint
    + aliases_room confirm.aliases
room_of (Rrj seq (DuplicateAlias held)) = SHORT + aliases_room held
room_of other = SHORT
