-- Until when the reply to a request of a moment is kept, and when and how often a request that
-- waits is served again.
use Rattle.std.specs.Prelude.{ℕ, ◌+◌}
use Rattle.zone_config.specs.declared.config.ConfigParts.{ConfigParts}
use Rattle.zone_config.specs.declared.term.Term.{Term}

abbrev pub term_of : ConfigParts → ℕ → Term
term_of config now = record {
  until = now + config.window;
  retry = now + config.delay;
  times = config.retries;
}
