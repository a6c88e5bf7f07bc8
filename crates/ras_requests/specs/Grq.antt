-- Gatekeeper discovery (H.323, 7.2.1; H.225.0: GRQ, GCF, GRJ).
use Rattle.std.specs.Prelude.{ℕ, Bool, false, not, nat_eq, List, Option, None, Some, if◌then◌else◌}
use Rattle.std.specs.Cmp.Lexicographic.{pointwise}
use Rattle.ras_module.specs.declared.reason.GatekeeperRejectReason.TheVariants.{TerminalExcluded}
use Rattle.ras_module.specs.declared.reply.Reply.{Reply}
use Rattle.ras_module.specs.declared.reply.Reply.TheVariants.{Gcf, Grj}
use Rattle.ras_module.specs.declared.request.GatekeeperRequest.{GatekeeperRequest}
use Rattle.zone_tables.specs.Tables.{Tables}

-- a gatekeeper was named, and it is another one (H.225.0, gatekeeperIdentifier)
abbrev pub is_foreign : Tables → Option (List ℕ) → Bool
is_foreign z None = false
is_foreign z (Some name) = not (pointwise nat_eq name z.config.identifier)

-- The gatekeeper makes itself known, with its name and its RAS address, to whoever asks for
-- none or for this one.
abbrev pub discovery : Tables → GatekeeperRequest → Reply
discovery z q =
    if is_foreign z q.gatekeeper
    then Grj q.seq TerminalExcluded
    else Gcf (record { seq = q.seq; gatekeeper = z.config.identifier; ras = z.config.address })
