-- Each piece is escaped, so the text that they make is.
use Rattle.std.proofs.Common.{◌≡◌, ℕ, true, List, [], ◌∷◌, ◌++◌, refl, ◌∙◌, arith}
use Rattle.std.specs.List.{flat_map}
use Rattle.std.proofs.lemmas.Bool.Decides.{nat_tests}
use Rattle.escapes.specs.Escapes.{html_piece, label_piece, json_piece}
use Rattle.escapes.specs.Escapes.{is_html_text, is_json_text, is_label_text}

-- a piece before an escaped text leaves it escaped
pub label_step : (c : ℕ) (cs : List ℕ) → is_label_text (label_piece c ++ cs) ≡ is_label_text cs
label_step c cs = grind (arith, nat_tests)

pub label_text : (cs : List ℕ) → is_label_text (flat_map label_piece cs) ≡ true
label_text [] = refl
label_text (c ∷ cs) = label_step c (flat_map label_piece cs) ∙ label_text cs

pub json_step : (c : ℕ) (cs : List ℕ) → is_json_text (json_piece c ++ cs) ≡ is_json_text cs
json_step c cs = grind (arith, nat_tests)

pub json_text : (cs : List ℕ) → is_json_text (flat_map json_piece cs) ≡ true
json_text [] = refl
json_text (c ∷ cs) = json_step c (flat_map json_piece cs) ∙ json_text cs

pub html_step : (c : ℕ) (cs : List ℕ) → is_html_text (html_piece c ++ cs) ≡ is_html_text cs
html_step c cs = grind (arith, nat_tests)

pub html_text : (cs : List ℕ) → is_html_text (flat_map html_piece cs) ≡ true
html_text [] = refl
html_text (c ∷ cs) = html_step c (flat_map html_piece cs) ∙ html_text cs
