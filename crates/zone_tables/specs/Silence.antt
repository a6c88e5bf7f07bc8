-- How long an endpoint in a call may be silent (H.225.0, InfoRequest).
use Rattle.registrations.specs.declared.times.Times.{Times}
use Rattle.zone_config.specs.declared.config.ConfigParts.{ConfigParts}

-- as it is set for a zone
abbrev pub times_of : ConfigParts → Times
times_of config = record {
  silence = config.silence;
  asks = config.asks;
  ask_wait = config.ask_wait;
}
