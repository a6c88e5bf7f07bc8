use Rattle.std.specs.Prelude.{Some}
use Rattle.status_server.proofs.server.serve.Given as goal

-- the zone that is handed over is shown, under the name that is
abbrev pub ghosts-serve_site : goal.ghosts-serve_site
ghosts-serve_site g a = record { site = Some (a.about, a.zone.now) }
