use Rattle.std.proofs.Common.{rules, ap, ◌≤◌, length}
use Rattle.commands.specs.declared.settings_input.TheConstants.{MOST_READ}
use Rattle.commands.proofs.Fronts.{whole_if_short}
use Rattle.commands.proofs.settings_input.read_octets.Goals as goal

pub returns-in-Ok-2-clause-ok : goal.returns-in-Ok-2-clause-ok
returns-in-Ok-2-clause-ok g c =
    let short : length c.read_to_end.new.buf.items ≤ MOST_READ = search rules in
    whole_if_short MOST_READ _ _ _ _ _ c.take-front.ensures.limit
    (ap g.R.Read.remaining c.take-front.ensures.inner) c.new-octets.ensures.items
    c.in-Ok.ensures.bytes short
