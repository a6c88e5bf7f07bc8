use Rattle.std.specs.Prelude.{◌++◌, map}
use Rattle.books.specs.Books.{step_in}
use Rattle.sound_steps.specs.Runs.{HandsOutUnused, RepeatsKeptReply}
use Rattle.sound_steps.proofs.Clocks.{between_sound_states}
use Rattle.sound_steps.proofs.EachStep.{hands_out_unused, of_each_step, repeats_kept}
use Rattle.udp_server.proofs.laws.the_headline.Goals as goal

pub returns : goal.returns
returns c opened f datagrams turns changes sound served =
    let history = served.history in
    let entries = map step_in (history.past ++ f.entries) in
    record {
      past = history.past;
      places = history.places;
      run = history.run;
      unused = of_each_step HandsOutUnused hands_out_unused opened entries f.zone.state history.run;
      repeats = of_each_step RepeatsKeptReply repeats_kept opened entries f.zone.state history.run;
      limit = between_sound_states opened entries f.zone.state history.run sound served.sound;
    }
