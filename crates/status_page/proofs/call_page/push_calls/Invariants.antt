use denote.Shadow.{shadow}
use denote.Text.{Utf8}
use Rattle.std.proofs.Common.{◌≡◌, ◌++◌, drop, codes}
use Rattle.std.specs.String.{string_bytes}
use Rattle.status_page.specs.JsonRows.{call_json}
use Rattle.status_page.specs.Texts.{listed, with_commas}
use Rattle.status_page.proofs.call_page.push_calls.Given as goal

-- what was written, with what is left to be written, is the whole text
abbrev pub invariant-loop-row : goal.invariant-loop-row
invariant-loop-row l = record {
  text : string_bytes l.out ++ listed l.before (codes ",") (λ row. call_json row.value) (drop l.row-index l.rows)
      ≡ string_bytes l.initial.out ++ with_commas (λ row. call_json row.value) l.rows;
  is_text : shadow (Utf8 l.before);
}
