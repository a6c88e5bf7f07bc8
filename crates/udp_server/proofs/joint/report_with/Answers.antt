use Rattle.udp_server.proofs.joint.report_with.Goals as goal

pub returns-clause-served : goal.returns-clause-served
returns-clause-served g c = record {
  history = c.in-Ok.ensures.history;
  run = c.in-Ok.ensures.run;
  sound = c.in-Ok.ensures.sound;
  opened_at = c.in-Ok.ensures.opened;
  settings = c.in-Ok.ensures.settings;
  in_use = c.in-Ok.ensures.in_use;
  all_datagrams = c.counted-datagrams.ensures.datagrams;
  all_turns = c.counted-datagrams.ensures.turns;
  all_changes = c.counted-datagrams.ensures.changes;
}
