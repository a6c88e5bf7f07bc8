use denote.Shadow.{shadow}
use denote.Text.{Utf8}
use Rattle.std.proofs.Common.{◌≡◌, ◌++◌, drop, codes}
use Rattle.std.specs.String.{string_bytes}
use Rattle.status_page.specs.JsonZone.{member_json}
use Rattle.status_page.specs.Texts.{listed, with_commas}
use Rattle.status_page.proofs.zone_page.push_each_member.Given as goal

-- what was written, with what is left to be written, is the whole text
abbrev pub invariant-loop-kind : goal.invariant-loop-kind
invariant-loop-kind l = record {
  text : string_bytes l.out ++ listed l.before (codes ",") (member_json l.counts) (drop l.kind-index l.kinds)
      ≡ string_bytes l.initial.out ++ with_commas (member_json l.counts) l.kinds;
  is_text : shadow (Utf8 l.before);
}
