use Rattle.std.proofs.Common.{◌≡◌, fold, take}
use Rattle.script.specs.Scripts.{with_setting}
use Rattle.script.proofs.draft_config.with_settings.Given as goal

abbrev pub invariant-loop-setting : goal.invariant-loop-setting
invariant-loop-setting l =
    l.config ≡ fold with_setting l.initial.config (take l.setting-index l.settings)
