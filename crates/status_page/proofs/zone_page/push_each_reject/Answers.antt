use Rattle.std.proofs.Common.{[], ◌∷◌, codes, refl}
use Rattle.status_page.specs.JsonZone.{reject_json}
use Rattle.status_page.proofs.Written.{comma, next_listed_at}
use Rattle.status_page.proofs.zone_page.push_each_reject.Goals as goal

pub loop-reject-preserved : goal.loop-reject-preserved
loop-reject-preserved c = record {
  text = next_listed_at (codes ",") (reject_json c.args.counts.now) c.loop-reject.before.now _ _ _ c.args.rejects.now c.loop-reject.reject-index _
      c.loop-reject-test.true c.in_ok-push_reject.ensures c.loop-reject.invariant.text;
  is_text = (44 ∷ [], (refl, comma));
}
