use denote.Shadow.{shadow}
use denote.Text.{Utf8}
use Rattle.std.proofs.Common.{◌≡◌, ◌++◌, drop, codes}
use Rattle.std.specs.String.{string_bytes}
use Rattle.status_page.specs.JsonZone.{reject_json}
use Rattle.status_page.specs.Texts.{listed, with_commas}
use Rattle.status_page.proofs.zone_page.push_each_reject.Given as goal

-- what was written, with what is left to be written, is the whole text
abbrev pub invariant-loop-reject : goal.invariant-loop-reject
invariant-loop-reject l = record {
  text : string_bytes l.out ++ listed l.before (codes ",") (reject_json l.counts) (drop l.reject-index l.rejects)
      ≡ string_bytes l.initial.out ++ with_commas (reject_json l.counts) l.rejects;
  is_text : shadow (Utf8 l.before);
}
