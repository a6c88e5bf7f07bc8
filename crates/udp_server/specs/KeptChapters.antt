-- The chapters that a server keeps.
use Rattle.udp_server.specs.LatestChapters.{Kept, kept}
use Rattle.udp_server.specs.declared.chapters.Chapters.{Chapters}

-- the chapters that are kept, and the place of the first entry behind them
abbrev pub kept_of : Chapters → Kept
kept_of chapters = kept chapters.latest.items chapters.first
