-- Octets that a word of a line writes.
use Rattle.std.specs.Prelude.{ℕ, List, Option}
use Rattle.std.specs.Result.{result_ok}
use Rattle.hex.specs.Hex.{decode_of}

-- octets, each written as two hexadecimal digits in either case; none if it is not understood
abbrev pub octets_of : List ℕ → Option (List ℕ)
octets_of word = result_ok (decode_of word)
