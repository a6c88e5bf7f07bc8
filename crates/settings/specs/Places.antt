-- Where in a text something stands, by the octets before it; and where a text is refused.
use Rattle.std.specs.Prelude.{ℕ, ◌≡◌, ◌+◌, ◌==◌, List, count_by, take}
use Rattle.std.specs.Fmt.{is_char_start}
use Rattle.std.specs.List.{after_last}
use Rattle.toml.specs.Errors.{span_start}
use Rattle.settings.specs.declared.fault.SettingsFault.{SettingsFault}
use Rattle.settings.specs.declared.fault.SettingsFault.TheVariants.{Syntax}
use Rattle.settings.specs.declared.fault.SyntaxError.{SyntaxError}

-- the line, from 1: so many line ends stand before it
abbrev pub line_behind : List ℕ → ℕ
line_behind before = count_by (λ octet. octet == 10) before + 1

-- the character in its line, from 1: so many characters begin behind the last line end
abbrev pub column_behind : List ℕ → ℕ
column_behind before = count_by is_char_start (after_last (λ octet. octet == 10) before) + 1

-- it tells the place of its error: behind the octets that come before the refused ones
pub record IsPlaced (text : List ℕ) (fault : SyntaxError) : Type 0 where
  pub line : fault.line ≡ line_behind (take (span_start fault.error) text)
  pub column : fault.column ≡ column_behind (take (span_start fault.error) text)

-- If the text is no TOML document, the fault tells the place in it.
abbrev pub TellsPlace : List ℕ → SettingsFault → Type 0
TellsPlace text (Syntax fault) = IsPlaced text fault
TellsPlace text fault = Unit {0}
