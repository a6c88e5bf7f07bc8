use Rattle.std.proofs.Common.{◌≡◌, ◌∙◌, eqb, not, rules, sym}
use Rattle.std.proofs.lemmas.Bool.Decides.{nat_tests}
use Rattle.std.proofs.lemmas.Iterator.{YieldsList-from_slice}
use Rattle.std.proofs.lemmas.Iterator.Search.{position_from_yields_List}
use Rattle.explaining.proofs.Words.{found_in, no_word, word_found}
use Rattle.explaining.proofs.lines.at_word.Goals as goal
use Rattle.explaining.proofs.lines.at_word.Goals.{After-position}

found : (c : After-position) → c.position.result ≡ found_in c.args.text.now
found c =
    position_from_yields_List (λ x. not (eqb x 32)) _ _ c.position.result c.position.ensures.ran
    (YieldsList-from_slice c.args.text.now (search rules)) (λ x b q k. search (rules, nat_tests))

pub returns-in-Some : goal.returns-in-Some
returns-in-Some c = word_found _ c.args.text.now
    (sym (found (goal.at.returns-in-Some c).After-position) ∙ c.in-Some.is)

pub returns-in-None : goal.returns-in-None
returns-in-None c = no_word c.args.text.now
    (sym (found (goal.at.returns-in-None c).After-position) ∙ c.in-None.is)
