-- Identifiers that may be handed out.
use Rattle.std.specs.Prelude.{ℕ, List, []}
use Rattle.registrations.specs.Registry.{Live, IsUnused}
use Rattle.kept_replies.specs.Kept.{KeptReplies, IsNamed}

-- No endpoint is registered with it, no RegistrationConfirm that is kept tells it, and it has 1 to
-- 128 characters (H.225.0, EndpointIdentifier).
pub record IsUnusedFor (live : Live) (kept : KeptReplies) (id : List ℕ) : Type 0 where
  pub unused : IsUnused live [] id
  pub unnamed : IsNamed kept id → ⊥
