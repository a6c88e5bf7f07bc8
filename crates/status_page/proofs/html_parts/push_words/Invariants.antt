use Rattle.std.proofs.Common.{◌≡◌, ◌++◌, map}
use Rattle.std.specs.Str.{encode_utf8_all}
use Rattle.std.specs.String.{string_bytes}
use Rattle.status_page.specs.HomeParts.{spaced}
use Rattle.status_page.proofs.html_parts.push_words.Given as goal

-- the words of the characters so far were written
abbrev pub invariant-loop-character : goal.invariant-loop-character
invariant-loop-character l =
    string_bytes l.out ≡ string_bytes l.initial.out ++ encode_utf8_all (map spaced l.yielded)
