use Rattle.std.proofs.Common.{rules}
use Rattle.indexmap.proofs.CallerLemmas.{filter-RetainsPairs}
use Rattle.aliases.proofs.table.retain_others.Goals as goal

pub returns : goal.returns
returns c = record {
  entries = filter-RetainsPairs _ _ _ (λ k v b w g call. search rules) _ _
      c.retain.ensures.filtered;
  room = c.retain.ensures.room;
  unique = c.retain.ensures.unique;
}
