use Rattle.std.proofs.Common.{◌≡◌, ◌++◌, [], ◌∷◌, codes, refl}
use Rattle.std.specs.String.{string_bytes}
use Rattle.status_page.specs.HomeRows.{alias_html}
use Rattle.status_page.proofs.Written.{comma_space, next_listed}
use Rattle.status_page.proofs.home_rows.push_each_alias.Goals as goal

pub loop-alias-preserved : goal.loop-alias-preserved
loop-alias-preserved c =
    let written : string_bytes c.push_alias.new.out
    ≡ string_bytes c.loop-alias.out ++ (c.loop-alias.before.now ++ alias_html c.alias-item.result) =
    cc c.in_ok-push_alias.ensures in
    record {
      text = next_listed (codes ", ") alias_html c.loop-alias.before.now _ _ _ c.args.aliases.now c.loop-alias.alias-index
          c.alias-item.result c.loop-alias-test.true c.alias-item.is written c.loop-alias.invariant.text;
      is_text = (44 ∷ 32 ∷ [], (refl, comma_space));
    }
