-- What is known of a reader and of a writer.
use Rattle.std.specs.Prelude.{ℕ, List, Option, Bool}

-- the octets that it has left, if they are known, and whether its last read failed
pub record InputState : Type 0 where
  pub left : Option (List ℕ)
  pub failed : Bool

-- the octets that it holds, if they are known, and whether it was flushed since the last write
pub record OutputState : Type 0 where
  pub contents : Option (List ℕ)
  pub flushed : Bool
