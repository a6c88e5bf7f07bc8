use Rattle.recording.proofs.MoreEntries.{grown_up_to}
use Rattle.recording.proofs.laws.written_entries_are_the_record.Goals as goal

pub returns : goal.returns
returns c before zone steps entries result old new was answers =
    grown_up_to before zone steps entries result old new was answers
