use Rattle.std.proofs.Common.{rules, ◌<◌, sym, subst, List, ℕ, length, get_or, take}
use Rattle.std.specs.Prelude.{encode_utf8}
use Rattle.std.specs.Io.KnownBytes.{Appends}
use Rattle.script.specs.Prints.{character_of, identifier_text}
use Rattle.std.proofs.KnownBytes.{Appends-trans}
use Rattle.script.proofs.Printing.{identifier_more}
use Rattle.recording.proofs.zone_lines.write_name.Goals as goal

pub loop-code-preserved : goal.loop-code-preserved
loop-code-preserved g c =
    let i = c.loop-code.code-index in
    let name = c.as_slice-code-items.result.now in
    let below : i < length name = search rules in
    let start = g.W.Write.contents c.args.out.now in
    let before = g.W.Write.contents c.loop-code.out in
    let after = g.W.Write.contents c.write.new.self in
    let wrote : Appends before after (encode_utf8 (character_of (get_or name i 0))) =
    subst (λ (code : ℕ). Appends before after (encode_utf8 code)) c.character_of.ensures
    c.in_ok-write.ensures.bytes in
    subst (λ (t : List ℕ). Appends start after t) (sym (identifier_more name i below))
    (Appends-trans start before after (identifier_text (take i name)) _ c.loop-code.invariant wrote)
