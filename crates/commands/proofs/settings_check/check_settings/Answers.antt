use Rattle.commands.proofs.Given.{given_settings}
use Rattle.commands.proofs.settings_check.check_settings.Goals as goal

pub returns-in-Ok-write_checked-clause-listed : goal.returns-in-Ok-write_checked-clause-listed
returns-in-Ok-write_checked-clause-listed g c = (
  c.in-Ok.read.settings,
  given_settings (g.I.Read.remaining c.args.input) c.in-Ok.read c.in-Ok.ensures.answer,
  c.in-Ok-write_checked.ensures.written,
)
