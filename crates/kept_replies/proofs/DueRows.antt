-- The rows that are due, by their moments.
use Rattle.std.proofs.Common.{◌≡◌, ℕ, ◌≤◌, ◌<◌, true, false, List, Bool, refl, sym, ◌∙◌, ap, subst}
use Rattle.std.proofs.Common.{Some, None, Option, arith}
use Rattle.std.specs.Prelude.{slice_get, MatchOption}
use Rattle.std.specs.Option.{option_map, option_and_then, IsSomeAnd}
use Rattle.std.proofs.lemmas.Bool.{lt-leb, le-leb}
use Rattle.keyed.proofs.Decide.{some_none, same_some}
use Rattle.deadlines.specs.Deadlines.{Moments}
use Rattle.kept_replies.specs.Kept.{birth_of, is_over_in, is_retry_in}
use Rattle.kept_replies.specs.inside.Due.{AreDueAt, NoneCame, Came}
use Rattle.kept_replies.specs.inside.Due.{end_in, retry_in}
use Rattle.kept_replies.specs.inside.Stored.{NoRowPasses, RowPasses}
use Rattle.kept_replies.specs.declared.entry.KeptEntry.{KeptEntry}
use Rattle.kept_replies.specs.declared.entry.KeptState.{KeptState}
use Rattle.kept_replies.specs.declared.entry.KeptState.TheVariants.{Done, Pending}
use Rattle.kept_replies.specs.declared.key.KeptKey.{KeptKey}

abbrev Row : Type 0
Row = KeptKey × KeptEntry

-- the test of rows by the moment of their state
module _ (moment : KeptState → Option ℕ) (test : KeptState → Bool) (now : ℕ)
    (fails : (s : KeptState) → ((m : ℕ) → moment s ≡ Some m → now < m) → test s ≡ false)
    (passes : (s : KeptState) (m : ℕ) → moment s ≡ Some m → m ≤ now → test s ≡ true)
    (rows : List Row) (moments : Moments)
    (h : AreDueAt (λ (row : Row). moment row.1.state) rows moments) where
  -- if no moment has come, no row passes
  pub none_due : NoneCame now moments → NoRowPasses (λ entry. test entry.state) rows
  none_due none i row there =
      fails row.1.state (λ m is. none i m
      (h.due i ∙ (ap (option_and_then (λ (row : Row). moment row.1.state)) there ∙ is)))

  came : (place : ℕ) (at : Option Row) → slice_get rows place ≡ at
      → IsSomeAnd (option_and_then (λ (row : Row). moment row.1.state) at) (λ m. m ≤ now)
      → MatchOption (option_map birth_of at) (NoRowPasses (λ entry. test entry.state) rows)
      (RowPasses (λ entry. test entry.state) rows)
  came place None at due = absurd due
  came place (Some row) at due = record {
    place = place;
    row = row;
    there = at;
    passes = has (moment row.1.state) refl due;
    is_born = refl;
  } where
    has : (w : Option ℕ) → moment row.1.state ≡ w → IsSomeAnd w (λ m. m ≤ now)
        → test row.1.state ≡ true
    has None is due = absurd due
    has (Some m) is due = passes row.1.state m is due

  -- the row at a place whose moment has come passes
  pub one_due : (place : ℕ) (born : Option ℕ) → Came now moments place
      → born ≡ option_map birth_of (slice_get rows place)
      → MatchOption born (NoRowPasses (λ entry. test entry.state) rows)
      (RowPasses (λ entry. test entry.state) rows)
  one_due place born due is =
      subst (λ (w : Option ℕ). MatchOption w (NoRowPasses (λ entry. test entry.state) rows)
      (RowPasses (λ entry. test entry.state) rows)) (sym is)
      (came place (slice_get rows place) refl
      (subst (λ (w : Option ℕ). IsSomeAnd w (λ m. m ≤ now)) (h.due place) due))

pub over_fails : (now : ℕ) (s : KeptState) → ((m : ℕ) → end_in s ≡ Some m → now < m)
    → is_over_in now s ≡ false
over_fails now (Done reply until) none = lt-leb until now (none until refl)
over_fails now (Pending request reply retry left) none = refl

pub over_passes : (now : ℕ) (s : KeptState) (m : ℕ) → end_in s ≡ Some m → m ≤ now
    → is_over_in now s ≡ true
over_passes now (Done reply until) m is due =
    le-leb until now (omega (arith, same_some until m is, due))
over_passes now (Pending request reply retry left) m is due = some_none (sym is)

pub retry_fails : (now : ℕ) (s : KeptState) → ((m : ℕ) → retry_in s ≡ Some m → now < m)
    → is_retry_in now s ≡ false
retry_fails now (Done reply until) none = refl
retry_fails now (Pending request reply retry left) none = lt-leb retry now (none retry refl)

pub retry_passes : (now : ℕ) (s : KeptState) (m : ℕ) → retry_in s ≡ Some m → m ≤ now
    → is_retry_in now s ≡ true
retry_passes now (Done reply until) m is due = some_none (sym is)
retry_passes now (Pending request reply retry left) m is due =
    le-leb retry now (omega (arith, same_some retry m is, due))
