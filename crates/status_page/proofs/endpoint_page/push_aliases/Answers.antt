use Rattle.std.proofs.Common.{◌≡◌, ◌++◌, [], ◌∷◌, codes, refl}
use Rattle.std.specs.String.{string_bytes}
use Rattle.status_page.specs.JsonRows.{alias_json}
use Rattle.status_page.proofs.Written.{comma, next_listed}
use Rattle.status_page.proofs.endpoint_page.push_aliases.Goals as goal

pub loop-alias-preserved : goal.loop-alias-preserved
loop-alias-preserved c =
    let written : string_bytes c.push_alias.new.out ≡ string_bytes c.loop-alias.out ++ (c.loop-alias.before.now ++ alias_json c.alias-item.result) = cc c.in_ok-push_alias.ensures in
    record {
      text = next_listed (codes ",") alias_json c.loop-alias.before.now _ _ _ c.args.aliases.now c.loop-alias.alias-index
          c.alias-item.result c.loop-alias-test.true c.alias-item.is written c.loop-alias.invariant.text;
      is_text = (44 ∷ [], (refl, comma));
    }
