-- Which identifier a reply tells.
use Rattle.std.specs.Prelude.{ℕ, List, Option, Some, None}
use Rattle.ras_module.specs.declared.reply.Reply.{Reply}
use Rattle.ras_module.specs.declared.reply.Reply.TheVariants.{Rcf}

-- the identifier that a RegistrationConfirm tells
abbrev pub identifier_in : Reply → Option (List ℕ)
identifier_in (Rcf confirm) = Some confirm.endpoint
identifier_in other = None
