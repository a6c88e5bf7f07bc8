-- A record that grew by the steps of entries.
use Rattle.std.proofs.Common.{◌≡◌, ◌≢◌, ◌+◌, ℕ, List, [], ◌∷◌, ◌++◌, Option, Some, None, Result, Ok}
use Rattle.std.proofs.Common.{inl, inr, refl, sym, ap, ◌∙◌, append_assoc, append-nil, subst, map}
use Rattle.std.specs.declared.io.Error.{Error}
use Rattle.books.specs.declared.book.Entry.{Entry}
use Rattle.recording.specs.declared.writer.Recorded.{Recorded}
use Rattle.recording.specs.declared.writer.Recorded.TheVariants.{Written}
use Rattle.recording.specs.Records.{AreAnswered, HasGrown, HasGrownUpTo, IsRecordOf, IsToldAnswer}
use Rattle.recording.specs.Records.{IsWritten, RecordedStep, step_lines, step_of}
use Rattle.recording.specs.Standings.{Standing}
use Rattle.recording.specs.Zones.{ZoneParts}
use Rattle.recording.proofs.MoreSteps.{one_more}

-- a step was written of whatever was answered so
pub record HasStep (old : Standing) (told : Option RecordedStep) (new : Standing) : Type 0 where
  pub step : RecordedStep
  pub is_told : told ≡ Some step
  pub wrote : IsWritten old (step_lines (old.steps + 1) step) new

has_step : (old : Standing) (told : Option RecordedStep) (new : Standing)
    → IsToldAnswer {E = Error} old told (Ok Written) new → HasStep old told new
has_step old None new answer = absurd answer
has_step old (Some step) new answer = record { step = step; is_told = refl; wrote = answer }

module _ (before : Option (List ℕ)) (zone : ZoneParts) where
  none_more : (steps : List RecordedStep) (standing : Standing)
      → IsRecordOf before zone steps standing → HasGrown before zone steps [] standing
  none_more steps standing was = record {
    more = [];
    are_theirs = refl;
    is_record = subst (λ (all : List RecordedStep). IsRecordOf before zone all standing)
        (sym (append-nil steps)) was;
  }

  one_before : (steps : List RecordedStep) (entry : Entry) (entries : List Entry)
      (step : RecordedStep) (standing : Standing) → step_of entry ≡ Some step
      → HasGrown before zone (steps ++ step ∷ []) entries standing
      → HasGrown before zone steps (entry ∷ entries) standing
  one_before steps entry entries step standing is_told grown = record {
    more = step ∷ grown.more;
    are_theirs = ap (λ (told : Option RecordedStep). told ∷ map step_of entries) is_told
        ∙ ap (λ (rest : List (Option RecordedStep)). Some step ∷ rest) grown.are_theirs;
    is_record = subst (λ (all : List RecordedStep). IsRecordOf before zone all standing)
        (append_assoc steps (step ∷ []) grown.more) grown.is_record;
  }

  pub grown_up_to : (steps : List RecordedStep) (entries : List Entry)
      (result : Result Recorded Error) (old new : Standing) → IsRecordOf before zone steps old
      → AreAnswered old entries result new → HasGrownUpTo before zone steps entries result new
  grown_up_to steps [] result old new was answers = record {
    front = [];
    behind = [];
    parts = refl;
    between = old;
    grown = none_more steps old was;
    last = answers;
  }
  grown_up_to steps (entry ∷ entries) result old new was (inl wrote) =
      let first = has_step old (step_of entry) wrote.0 wrote.1 in
      let rest = grown_up_to (steps ++ first.step ∷ []) entries result wrote.0 new
      (one_more before zone steps first.step old wrote.0 was first.wrote) wrote.2 in
      record {
        front = entry ∷ rest.front;
        behind = rest.behind;
        parts = ap (λ (others : List Entry). entry ∷ others) rest.parts;
        between = rest.between;
        grown = one_before steps entry rest.front first.step rest.between first.is_told rest.grown;
        last = rest.last;
      }
  grown_up_to steps (entry ∷ entries) result old new was (inr answer) = record {
    front = [];
    behind = entry ∷ entries;
    parts = refl;
    between = old;
    grown = none_more steps old was;
    last = answer;
  }
