use denote.Shadow.{shadow}
use denote.Text.{Utf8}
use Rattle.std.proofs.Common.{◌≡◌, ◌++◌, drop, codes}
use Rattle.std.specs.String.{string_bytes}
use Rattle.status_page.specs.JsonRows.{alias_json}
use Rattle.status_page.specs.Texts.{listed, with_commas}
use Rattle.status_page.proofs.endpoint_page.push_aliases.Given as goal

-- what was written, with what is left to be written, is the whole text
abbrev pub invariant-loop-alias : goal.invariant-loop-alias
invariant-loop-alias l = record {
  text : string_bytes l.out ++ listed l.before (codes ",") alias_json (drop l.alias-index l.aliases)
      ≡ string_bytes l.initial.out ++ with_commas alias_json l.aliases;
  is_text : shadow (Utf8 l.before);
}
