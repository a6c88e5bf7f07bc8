-- The values that texts write; none if a text writes no such value.
use Rattle.std.specs.Prelude.{ℕ, ◌&&◌, List, [], ◌∷◌, length, nat_lt, nat_le, Option, Some, None}
use Rattle.std.specs.Prelude.{codes, option_and_then, if◌then◌else◌}
use Rattle.std.specs.List.{list_all}
use Rattle.std.specs.Char.{is_ascii_digit}
use Rattle.std.specs.Str.{bytes_eq, chars, is_utf8}
use Rattle.std.specs.Str.Parse.{digits_value}
use Rattle.zone_config.specs.declared.network.Network.{Network}
use Rattle.ras_module.specs.declared.address.Address.{Address}
use Rattle.value_texts.specs.Parts.{front_part, rest_part}
use Rattle.value_texts.specs.declared.pool_kind.PoolKind.{PoolKind}
use Rattle.value_texts.specs.declared.pool_kind.PoolKind.TheVariants.{Fixed, Step, Paced}

infixl 10 ◌>>=◌
abbrev pub ◌>>=◌ : {A B : Type 0} → Option A → (A → Option B) → Option B
first >>= next = option_and_then next first

-- a number that is written by one decimal digit or more, without a sign, and lies from low to high
abbrev pub number_of : ℕ → ℕ → List ℕ → Option ℕ
number_of low high word =
    let number = digits_value 10 word in
    if nat_lt 0 (length word) && list_all is_ascii_digit word
    && nat_le low number && nat_le number high
    then Some number
    else None

-- `A.B.C.D:PORT`
abbrev pub address_of : List ℕ → Option Address
address_of word =
    let behind_a = rest_part 46 word in
    let behind_b = rest_part 46 behind_a in
    let behind_c = rest_part 46 behind_b in
    do
      a ← number_of 0 255 (front_part 46 word)
      b ← number_of 0 255 (front_part 46 behind_a)
      c ← number_of 0 255 (front_part 46 behind_b)
      d ← number_of 0 255 (front_part 58 behind_c)
      port ← number_of 0 65535 (rest_part 58 behind_c)
      Some (record { ip = a ∷ b ∷ c ∷ d ∷ []; port = port })

-- `A.B.C.D/BITS`
abbrev pub network_of : List ℕ → Option Network
network_of word =
    let behind_a = rest_part 46 word in
    let behind_b = rest_part 46 behind_a in
    let behind_c = rest_part 46 behind_b in
    do
      a ← number_of 0 255 (front_part 46 word)
      b ← number_of 0 255 (front_part 46 behind_a)
      c ← number_of 0 255 (front_part 46 behind_b)
      d ← number_of 0 255 (front_part 47 behind_c)
      bits ← number_of 0 32 (rest_part 47 behind_c)
      Some (record { ip = a ∷ b ∷ c ∷ d ∷ []; bits = bits })

-- 1 to 128 characters of 16 bits each, in UTF-8
abbrev pub name_of : List ℕ → Option (List ℕ)
name_of word =
    let name = chars word in
    if is_utf8 word && list_all (λ c. nat_lt c 65536) name
    && nat_le 1 (length name) && nat_le (length name) 128
    then Some name
    else None

-- a kind of pool
abbrev pub kind_of : List ℕ → Option PoolKind
kind_of word =
    if bytes_eq word (codes "fixed") then Some Fixed
    else if bytes_eq word (codes "step") then Some Step
    else if bytes_eq word (codes "paced") then Some Paced
    else None
