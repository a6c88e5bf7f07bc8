-- How often kept RegistrationConfirms tell each identifier.
use Rattle.std.specs.Prelude.{◌≡◌, ◌≤◌, ◌<◌, ◌+◌, ◌^◌, ℕ, Bool, cond, nat_eq, List, Option}
use Rattle.std.specs.Prelude.{Some, None, IsTrue, length}
use Rattle.std.specs.List.{count_by}
use Rattle.std.specs.Map.{lookup, values_of}
use Rattle.std.specs.Cmp.Lexicographic.{pointwise}
use Rattle.kept_replies.specs.inside.Stored.{is_identifier, is_named_by}
use Rattle.kept_replies.specs.declared.key.KeptKey.{KeptKey}
use Rattle.kept_replies.specs.declared.entry.KeptEntry.{KeptEntry}

-- identifiers with how often each is told, whether this holds of all identifiers, and how many
-- more can be told so that no memory is taken
pub record ToldTable : Type 0 where
  pub counts : List (List ℕ × ℕ)
  pub is_whole : Bool
  pub room : ℕ

abbrev pub same_id : List ℕ → List ℕ → Bool
same_id a b = pointwise nat_eq a b

abbrev pub count_of : Option ℕ → ℕ
count_of None = 0
count_of (Some n) = n

-- how often an identifier is told, as the table has it
abbrev pub times : ToldTable → List ℕ → ℕ
times t id = count_of (lookup (same_id id) t.counts)

-- an identifier is short enough to be counted, and its count can rise
abbrev pub MayRise : ToldTable → List ℕ → Type 0
MayRise t id = (length id ≤ 20) × (times t id + 1 < 2 ^ 64)

-- an identifier is short enough to be counted, and was
abbrev pub IsCounted : ToldTable → List ℕ → Type 0
IsCounted t id = (length id ≤ 20) × (0 < times t id)

-- how often one reply tells it
abbrev pub once : Option (List ℕ) → List ℕ → ℕ
once named id = cond (is_identifier id named) 1 0

-- how often the rows tell it
abbrev pub times_in : List (KeptKey × KeptEntry) → List ℕ → ℕ
times_in rows id = count_by (is_named_by id) (values_of rows)

-- if the table is whole, it is right
abbrev pub AreTold : List (KeptKey × KeptEntry) → ToldTable → Type 0
AreTold rows t = IsTrue t.is_whole → (id : List ℕ) → times t id ≡ times_in rows id
