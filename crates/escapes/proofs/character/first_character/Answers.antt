use Rattle.std.proofs.Common.{◌≡◌, ◌∙◌, ◌∷◌, sym, ap₂, arith, drop, get_or}
use Rattle.std.specs.Option.{unwrap_or}
use Rattle.std.specs.Char.Utf16.{lone_unit_char, utf16_lossy_chars}
use Rattle.std.proofs.lemmas.Grind.{common_steps}
use Rattle.escapes.proofs.Units.{all_behind, none_left, first_of_pair, first_of_one, first_of_others}
use Rattle.escapes.proofs.character.first_character.Goals.{else-units-ge2-via-then-units-ge2+else-is_pair, else-units-ge2-via-else-units-ge2}
use Rattle.escapes.proofs.character.first_character.Goals as goal

pub returns-then-is_empty-clause-character : goal.returns-then-is_empty-clause-character
returns-then-is_empty-clause-character c = none_left c.args.units.now (grind (arith, common_steps))

pub returns-then-is_pair-clause-character : goal.returns-then-is_pair-clause-character
returns-then-is_pair-clause-character c =
    first_of_pair c.args.units.now 0 0 c.if-units-ge2.true (sym c.is_pair.ensures ∙ c.if-is_pair.true)
    ∙ ap₂ (λ x xs. x ∷ utf16_lossy_chars xs) (sym c.paired_character.ensures)
    (sym (all_behind 2 c.args.units.now))

pub returns-clause-character : goal.returns-clause-character
returns-clause-character c =
    let first : utf16_lossy_chars c.args.units.now
    ≡ unwrap_or (lone_unit_char (get_or c.args.units.now 0 0)) 0xFFFD ∷ utf16_lossy_chars (drop 1 c.args.units.now) =
    elim c.else-units-ge2.branch [
      | else-units-ge2-via-then-units-ge2+else-is_pair w ↦
          first_of_others c.args.units.now 0 0 w.if-units-ge2.true (sym w.is_pair.ensures ∙ w.if-is_pair.false)
      | else-units-ge2-via-else-units-ge2 w ↦
          first_of_one c.args.units.now 0 (grind (arith, common_steps))
    ] in
    first ∙ ap₂ (λ x xs. x ∷ utf16_lossy_chars xs) (sym c.lone_character.ensures)
    (sym (all_behind 1 c.args.units.now))
