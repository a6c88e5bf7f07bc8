use Rattle.std.proofs.Common.{◌≡◌, ◌++◌, length}
use Rattle.std.specs.Char.Utf16.{utf16_lossy_chars}
use Rattle.std.specs.List.{flat_map}
use Rattle.std.specs.Str.{encode_utf8_all}
use Rattle.std.specs.String.{string_bytes}
use Rattle.escapes.specs.Escapes.{json_piece}
use Rattle.escapes.proofs.texts.json_string.Given as goal

-- what was written, with what is left to be written, is the whole text
abbrev pub invariant-loop-c : goal.invariant-loop-c
invariant-loop-c l = string_bytes l.out
    ++ encode_utf8_all (flat_map json_piece (utf16_lossy_chars l.rest))
    ≡ string_bytes l.initial.out
    ++ encode_utf8_all (flat_map json_piece (utf16_lossy_chars l.initial.rest))

abbrev pub decreases-loop-c : goal.decreases-loop-c
decreases-loop-c l = length l.rest
