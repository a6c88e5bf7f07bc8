-- The zone that is served.
use Rattle.std.specs.Prelude.{map}
use Rattle.pools.specs.Specs.{account_of}
use Rattle.ras_core.specs.Running.{Running}
use Rattle.script.specs.Runs.{start_of}
use Rattle.settings.specs.declared.settings.Settings.{Settings}

-- the zone of these settings before its first event, over their pools, which were asked nothing yet
abbrev pub zone_set : Settings → Running
zone_set settings = start_of settings.config (map account_of settings.pools)
