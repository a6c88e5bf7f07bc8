use Rattle.settings.proofs.NearKeys.{behind_next, is_nearest}
use Rattle.settings.proofs.unknown_key.nearest_of.Goals as goal

pub loop-key-preserved : goal.loop-key-preserved
loop-key-preserved c =
    behind_next c.args.keys.now c.args.path.now c.loop-key.key-index _ c.loop-key-test.true _
    c.in_ok-edits.ensures c.loop-key.nearest _ c.loop-key.invariant c.look_at.ensures.nearer c.look_at.ensures.kept

pub returns : goal.returns
returns c =
    is_nearest c.args.keys.now c.args.path.now c.loop-key.key-index c.loop-key.nearest.fewest
    c.loop-key.nearest.key c.loop-key-test.false c.loop-key.invariant.0 c.loop-key.invariant.1
