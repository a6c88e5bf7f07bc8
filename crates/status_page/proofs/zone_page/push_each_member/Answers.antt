use Rattle.std.proofs.Common.{[], ◌∷◌, codes, refl}
use Rattle.status_page.specs.JsonZone.{member_json}
use Rattle.status_page.proofs.Written.{comma, next_listed_at}
use Rattle.status_page.proofs.zone_page.push_each_member.Goals as goal

pub loop-kind-preserved : goal.loop-kind-preserved
loop-kind-preserved c = record {
  text = next_listed_at (codes ",") (member_json c.args.counts.now) c.loop-kind.before.now _ _ _ c.args.kinds.now c.loop-kind.kind-index _
      c.loop-kind-test.true c.in_ok-push_member.ensures c.loop-kind.invariant.text;
  is_text = (44 ∷ [], (refl, comma));
}
