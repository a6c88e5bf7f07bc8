use Rattle.gatekeeper.proofs.recorder.Recorder.write_next.Goals as goal

pub returns-clause-taken : goal.returns-clause-taken
returns-clause-taken g c =
    (c.hand_out-handed.result, c.hand_out-handed.ensures, c.put.ensures.put, c.len-count.ensures)
