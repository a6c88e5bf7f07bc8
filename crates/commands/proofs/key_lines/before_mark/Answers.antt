use Rattle.std.proofs.Common.{◌≡◌, false, eqb, refl, None}
use Rattle.std.proofs.lemmas.Str.Pattern.{split_once_first}
use Rattle.std.specs.List.{list_any}
use Rattle.commands.proofs.Beginnings.{no_mark}
use Rattle.commands.proofs.key_lines.before_mark.Goals as goal

pub returns-in-None : goal.returns-in-None
returns-in-None c =
    let none : list_any (λ octet. eqb octet c.args.mark) c.args.text.now ≡ false =
    no_mark _ c.args.text.now
    (split_once_first c.args.mark c.args.text.now None c.in-None.ensures.cases c.requires) in
    rw none refl
