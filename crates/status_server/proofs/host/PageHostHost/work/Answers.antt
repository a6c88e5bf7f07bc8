use Rattle.status_server.proofs.host.PageHostHost.work.Goals as goal

pub returns : goal.returns
returns g c = c.serve_one.ensures.runs
