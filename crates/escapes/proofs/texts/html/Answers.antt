use Rattle.std.proofs.Common.{◌≡◌, ◌++◌, arith}
use Rattle.std.specs.Char.Utf16.{utf16_lossy_chars}
use Rattle.std.specs.List.{flat_map}
use Rattle.std.specs.Str.{encode_utf8_all}
use Rattle.std.specs.String.{string_bytes}
use Rattle.std.proofs.lemmas.Grind.{common_steps}
use Rattle.escapes.specs.Escapes.{html_piece}
use Rattle.escapes.proofs.Escaped.{html_text}
use Rattle.escapes.proofs.texts.html.Goals as goal

pub returns : goal.returns
returns c =
    let written : string_bytes c.loop-c.out ≡ string_bytes c.args.out.now
    ++ encode_utf8_all (flat_map html_piece (utf16_lossy_chars c.args.units.now)) =
    grind (arith, common_steps) in
    record {
      text = written;
      escaped = (flat_map html_piece (utf16_lossy_chars c.args.units.now), written, html_text (utf16_lossy_chars c.args.units.now));
    }
