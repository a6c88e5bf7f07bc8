use Rattle.std.proofs.Common.{◌≡◌, ◌∙◌, ap, length, min, refl, take}
use Rattle.std.proofs.lemmas.List.{take_min}
use Rattle.toml.specs.Errors.{IsMemory, span_start}
use Rattle.settings.specs.Places.{column_behind, line_behind}
use Rattle.settings.proofs.fault.SyntaxError.new.Goals as goal
use Rattle.settings.proofs.fault.SyntaxError.new.Goals.{in-Some, in-None}

-- an error of a text has a place in it
start_of : (c : goal.After-place_behind-line) → ¬ IsMemory c.args.error
    → c.match-span.start ≡ span_start c.args.error
start_of c is_of_text = elim c.match-span.branch [
  | in-Some w ↦ w.start-is ∙ w.in-Some.ensures.range.0
  | in-None w ↦ absurd (is_of_text (w.in-None.ensures.none.0 refl))
]

-- what stands before that place
before : (c : goal.After-place_behind-line) → ¬ IsMemory c.args.error
    → take c.min.result c.as_bytes.result.now
    ≡ take (span_start c.args.error) c.args.text.now
before c is_of_text =
    let text = c.args.text.now in
    ap (λ n. take n c.as_bytes.result.now) c.min.ensures
    ∙ ap (take (min c.match-span.start (length text))) c.as_bytes.ensures.value
    ∙ take_min c.match-span.start text ∙ ap (λ n. take n text) (start_of c is_of_text)

pub returns : goal.returns
returns c is_of_text = record {
  line = c.place_behind-line.ensures.line ∙ ap line_behind (before c is_of_text);
  column = c.place_behind-line.ensures.column ∙ ap column_behind (before c is_of_text);
}
