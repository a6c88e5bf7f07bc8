use Rattle.std.proofs.Common.{◌≡◌, eqb, rules, sym, ◌∙◌}
use Rattle.std.proofs.lemmas.Bool.Decides.{nat_tests}
use Rattle.std.proofs.lemmas.Iterator.{YieldsList-from_slice}
use Rattle.std.proofs.lemmas.Iterator.Search.{position_from_yields_List}
use Rattle.value_texts.proofs.Parting.{found_in, front_found, rest_found, front_of_all, rest_of_all}
use Rattle.value_texts.proofs.parts.parted.Goals as goal
use Rattle.value_texts.proofs.parts.parted.Goals.{After-position}

found : (c : After-position) → c.position.result ≡ found_in c.args.mark c.args.text.now
found c =
    position_from_yields_List (λ x. eqb x c.args.mark) _ _ c.position.result c.position.ensures.ran
    (YieldsList-from_slice c.args.text.now (search rules)) (λ x b q k. search (rules, nat_tests))

pub returns-in-Some-clause-front : goal.returns-in-Some-clause-front
returns-in-Some-clause-front c = front_found c.args.mark _ c.args.text.now
    (sym (found (goal.at.returns-in-Some-clause-front c).After-position) ∙ c.in-Some.is)

pub returns-in-Some-clause-rest : goal.returns-in-Some-clause-rest
returns-in-Some-clause-rest c = rest_found c.args.mark _ c.args.text.now
    (sym (found (goal.at.returns-in-Some-clause-rest c).After-position) ∙ c.in-Some.is)

pub returns-in-None-clause-front : goal.returns-in-None-clause-front
returns-in-None-clause-front c = front_of_all c.args.mark c.args.text.now
    (sym (found (goal.at.returns-in-None-clause-front c).After-position) ∙ c.in-None.is)

pub returns-in-None-clause-rest : goal.returns-in-None-clause-rest
returns-in-None-clause-rest c = rest_of_all c.args.mark c.args.text.now
    (sym (found (goal.at.returns-in-None-clause-rest c).After-position) ∙ c.in-None.is)
