-- A record with one more step.
use Rattle.std.proofs.Common.{◌≡◌, ◌+◌, ◌≤◌, ℕ, List, [], ◌∷◌, ◌++◌, Option, length}
use Rattle.std.proofs.Common.{arith, refl, sym, ap, ◌∙◌, append_assoc, subst, length-append}
use Rattle.std.proofs.lemmas.List.{length_push}
use Rattle.std.proofs.KnownBytes.{Appends-trans}
use Rattle.std.specs.Io.KnownBytes.{Appends}
use Rattle.script.specs.Prints.{lines_from}
use Rattle.script.proofs.Printing.{lines_push}
use Rattle.recording.specs.Records.{IsRecordOf, IsWritten, RecordedStep, record_text, step_lines}
use Rattle.recording.specs.Standings.{Standing}
use Rattle.recording.specs.Zones.{ZoneParts, zone_lines}

text_more : (zone : ZoneParts) (steps : List RecordedStep) (step : RecordedStep)
    → record_text zone (steps ++ step ∷ [])
    ≡ record_text zone steps ++ step_lines (length steps + 1) step
text_more zone steps step =
    ap (λ (t : List ℕ). zone_lines zone ++ t) (lines_push step_lines steps step)
    ∙ sym (append_assoc (zone_lines zone) (lines_from step_lines 1 steps)
    (step_lines (length steps + 1) step))

pub one_more : (before : Option (List ℕ)) (zone : ZoneParts) (steps : List RecordedStep) (step : RecordedStep)
    (old new : Standing) → IsRecordOf before zone steps old
    → IsWritten old (step_lines (old.steps + 1) step) new
    → IsRecordOf before zone (steps ++ step ∷ []) new
one_more before zone steps step old new was wrote =
    let number : step_lines (old.steps + 1) step ≡ step_lines (length steps + 1) step =
    ap (λ (n : ℕ). step_lines (n + 1) step) was.count in
    let text : record_text zone steps ++ step_lines (old.steps + 1) step
    ≡ record_text zone (steps ++ step ∷ []) =
    ap (λ (t : List ℕ). record_text zone steps ++ t) number ∙ sym (text_more zone steps step) in
    let long : length (record_text zone steps ++ step_lines (old.steps + 1) step)
    ≡ length (record_text zone steps) + length (step_lines (old.steps + 1) step) =
    length-append (record_text zone steps) (step_lines (old.steps + 1) step) in
    record {
      text = subst (λ (t : List ℕ). Appends before new.output.contents t) text
          (Appends-trans before old.output.contents new.output.contents (record_text zone steps)
          (step_lines (old.steps + 1) step) was.text wrote.text);
      count = wrote.steps ∙ ap (λ (n : ℕ). n + 1) was.count ∙ sym (length_push steps step);
      octets = wrote.octets
          ∙ ap (λ (n : ℕ). n + length (step_lines (old.steps + 1) step)) was.octets
          ∙ sym long ∙ ap (λ (t : List ℕ). length t) text;
      bound = omega (arith, wrote.octets, wrote.room, wrote.most);
    }
