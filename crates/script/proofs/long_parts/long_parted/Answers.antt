use Rattle.std.proofs.Common.{sym, ◌∙◌}
use Rattle.value_texts.proofs.Parting.{front_found, rest_found, front_of_all, rest_of_all}
use Rattle.script.proofs.Marks.{first_found}
use Rattle.script.proofs.long_parts.long_parted.Goals as goal

pub returns-in-Some-clause-front : goal.returns-in-Some-clause-front
returns-in-Some-clause-front c = front_found c.args.mark _ c.args.text.now
    (sym (first_found _ _ _ c.memchr.ensures) ∙ c.in-Some.is)

pub returns-in-Some-clause-rest : goal.returns-in-Some-clause-rest
returns-in-Some-clause-rest c = rest_found c.args.mark _ c.args.text.now
    (sym (first_found _ _ _ c.memchr.ensures) ∙ c.in-Some.is)

pub returns-in-None-clause-front : goal.returns-in-None-clause-front
returns-in-None-clause-front c = front_of_all c.args.mark c.args.text.now
    (sym (first_found _ _ _ c.memchr.ensures) ∙ c.in-None.is)

pub returns-in-None-clause-rest : goal.returns-in-None-clause-rest
returns-in-None-clause-rest c = rest_of_all c.args.mark c.args.text.now
    (sym (first_found _ _ _ c.memchr.ensures) ∙ c.in-None.is)
