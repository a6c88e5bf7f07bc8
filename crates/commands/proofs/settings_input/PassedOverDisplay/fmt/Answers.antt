use Rattle.std.proofs.Common.{refl}
use Rattle.std.proofs.lemmas.Grind.{put_three}
use Rattle.commands.proofs.settings_input.PassedOverDisplay.fmt.Goals as goal

pub returns-clause-writes : goal.returns-clause-writes
returns-clause-writes g c = λ plain done.
    let place = c.in_ok-write_place.ensures plain refl in
    let name = c.in_ok-write.ensures.writes place.plain refl in
    let hint = c.write_hint.ensures name.plain done in
    put_three _ _ _ _ _ _ _ _ _ place name hint refl
