use denote.Shadow.{shadow}
use denote.Text.{Utf8}
use Rattle.std.proofs.Common.{◌≡◌, ◌++◌, drop, codes}
use Rattle.std.specs.String.{string_bytes}
use Rattle.status_page.specs.JsonZone.{pool_json}
use Rattle.status_page.specs.Texts.{listed, with_commas}
use Rattle.status_page.proofs.zone_page.push_pools.Given as goal

-- what was written, with what is left to be written, is the whole text
abbrev pub invariant-loop-pool : goal.invariant-loop-pool
invariant-loop-pool l = record {
  text : string_bytes l.out ++ listed l.before (codes ",") pool_json (drop l.pool-index l.pools)
      ≡ string_bytes l.initial.out ++ with_commas pool_json l.pools;
  is_text : shadow (Utf8 l.before);
}
