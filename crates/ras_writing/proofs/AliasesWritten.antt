-- What is written for aliases is an encoding of them.
use Rattle.std.proofs.Common.{◌≡◌, ℕ, ◌+◌, ◌%◌, ◌≤◌, ◌<◌, List, [], ◌∷◌, ◌++◌, false, length}
use Rattle.std.proofs.Common.{nat_lt, refl, sym, ap, append-nil, arith, Some, map}
use Rattle.std.specs.Prelude.{IsTrue}
use Rattle.std.specs.List.{AllByRecursion}
use Rattle.std.proofs.lemmas.List.{length-replicate}
use Rattle.std.proofs.lemmas.Bool.{le-ltb}
use Rattle.std.proofs.lemmas.Bool.Decides.{nat_tests}
use Rattle.per_bits.specs.Bits.{binary, pad_length}
use Rattle.per_bits.specs.Canonical as canonical
use Rattle.per_bits.proofs.Agreement.{whole_encodes, length_encodes, binary_encodes}
use Rattle.ras_module.specs.declared.alias.Alias.{Alias}
use Rattle.ras_module.specs.declared.alias.Alias.TheVariants.{Digits, H323Id}
use Rattle.ras_module.specs.DialledDigits.{AreDialled, is_dialled}
use Rattle.ras_grammar.specs.Grammar as grammar
use Rattle.ras_grammar.specs.Aliases as aliases
use Rattle.ras_grammar.specs.Aliases.{digit_of, served_in}
use Rattle.ras_writing.specs.Encoding.{in_order}
use Rattle.ras_writing.specs.Encoding as encoding
use Rattle.ras_writing.specs.Replies.{digit_code, digits, bmp_string, alias_address}
use Rattle.ras_writing.specs.Replies.{alias_addresses, alias_list}
use Rattle.ras_writing.specs.Properties.{IsAlias, IsDigits, AreAliases}
use Rattle.ras_grammar.proofs.Dialled.{both_true}
use Rattle.ras_writing.proofs.Written.{AreEncodings, in_order-append}
use Rattle.ras_writing.proofs.TextsWritten.{bmp_written}

code_few : (c : ℕ) → IsTrue (is_dialled c) → digit_code c ≤ 12
code_few c h = grind (arith, nat_tests)

code_back : (c : ℕ) → IsTrue (is_dialled c) → digit_of (digit_code c) ≡ c
code_back c h = grind (arith, nat_tests)

digit_here : (c place : ℕ) → IsTrue (is_dialled c) → aliases.digit.encodes c place (binary 4
    (digit_code c))
unfolding aliases.digit
digit_here c place h =
    let code = digit_code c in
    let few = code_few c h in
    let bits = binary 4 code in
    let test : nat_lt 12 code ≡ false = le-ltb 12 code few in (
      code,
      (
        bits,
        [],
        sym (append-nil bits),
        binary_encodes 4 code place (omega arith),
        rw test
            (sym (code_back c h), refl),
      ),
    )

digits_here : (text : List ℕ) → AreDialled text → (place : ℕ) → (grammar.each
    (length text) aliases.digit).encodes text place (in_order (digits text) place)
digits_here [] h place = (refl, refl)
digits_here (x ∷ xs) h place =
    let p = both_true (is_dialled x) _ h in
    let here = binary 4 (digit_code x) in
    let after = (place + length here) % 8 in
    let rest = in_order (digits xs) after in (
      x,
      (
        here,
        rest,
        refl,
        digit_here x place p.0,
        (
          xs,
          (
            rest,
            [],
            sym
                (append-nil rest),
            digits_here xs p.1 after,
            (refl, refl),
          ),
        ),
      ),
    )

dialled_here : (text : List ℕ) → IsDigits text → (place : ℕ)
    → aliases.dialled_digits.encodes text place (in_order (encoding.whole 1 128
    (length text) ∷ encoding.align ∷ digits text) place)
unfolding aliases.dialled_digits
dialled_here text h place =
    let count = canonical.whole_encoding 1 128 (length text) place in
    let after = (place + length count) % 8 in
    let pad = canonical.pad after in
    let then = (after + length pad) % 8 in (
      length text,
      (
        count,
        pad ++ in_order (digits text) then,
        refl,
        whole_encodes 1 128 (length text) place h.some h.few (omega arith),
        (
          pad,
          in_order (digits text) then,
          refl,
          length-replicate
              (pad_length after) false,
          digits_here text h.dialled then,
        ),
      ),
    )

pub alias_here : (alias : Alias) → IsAlias alias → (place : ℕ) → aliases.alias_address.encodes
    (Some alias) place (in_order (alias_address alias) place)
unfolding aliases.alias_address alias_address
alias_here (Digits text) h place =
    let place1 = (place + 1) % 8 in
    let index = canonical.whole_encoding 0 1 0 place1 in
    let place2 = (place1 + length index) % 8 in
    let rest = in_order (encoding.whole 1 128 (length text) ∷ encoding.align ∷ digits text) place2
    in (
      false,
      (
        false ∷ [],
        index ++ rest,
        refl,
        refl,
        (
          0,
          (
            index,
            rest,
            refl,
            whole_encodes 0 1 0 place1 (omega arith) (omega arith) (omega arith),
            (text, (rest, [], sym (append-nil rest), dialled_here text h place2, (refl, refl))),
          ),
        ),
      ),
    )
alias_here (H323Id text) h place =
    let place1 = (place + 1) % 8 in
    let index = canonical.whole_encoding 0 1 1 place1 in
    let place2 = (place1 + length index) % 8 in
    let rest = in_order (bmp_string 256 text) place2 in (
      false,
      (
        false ∷ [],
        index ++ rest,
        refl,
        refl,
        (
          1,
          (
            index,
            rest,
            refl,
            whole_encodes 0 1 1 place1 (omega arith) (omega arith) (omega arith),
            (
              text,
              (
                rest,
                [],
                sym (append-nil rest),
                (bmp_written 256 text h.some h.few
                    (omega arith) h.fit).here place2 (omega arith),
                (refl, refl),
              ),
            ),
          ),
        ),
      ),
    )

each_here : (list : List Alias) → AllByRecursion IsAlias list → (place : ℕ) → place < 8
    → (grammar.each (length list) aliases.alias_address).encodes (map Some list) place (in_order
    (alias_addresses list) place)
each_here [] h place small = (refl, refl)
each_here (x ∷ xs) h place small =
    let here = in_order (alias_address x) place in
    let after = (place + length here) % 8 in
    let rest = in_order (alias_addresses xs) after in (
      Some x,
      (
        here,
        rest,
        in_order-append (alias_address x) (alias_addresses xs) place small,
        alias_here x h.0 place,
        (
          map Some xs,
          (
            rest,
            [],
            sym (append-nil rest),
            each_here xs h.1 after (omega arith),
            (refl, refl),
          ),
        ),
      ),
    )

served_in-all : (list : List Alias) → served_in (map Some list) ≡ list
served_in-all [] = refl
served_in-all (x ∷ xs) = ap (λ (t : List Alias). x ∷ t) (served_in-all xs)

pub aliases_written : (list : List Alias) → AreAliases list → AreEncodings aliases.alias_list list
    (alias_list list)
unfolding aliases.alias_list
aliases_written list h = record {
  here = λ place _.
      let front = canonical.length_encoding (length list) place in
      let after = (place + length front) % 8 in
      let rest = in_order (alias_addresses list) after in (
        length list,
        (
          front,
          rest,
          refl,
          length_encodes (length list) place (omega (arith, h.few)),
          (
            map Some list,
            (
              rest,
              [],
              sym (append-nil rest),
              each_here list h.each after
                  (omega arith),
              (sym (served_in-all list), refl),
            ),
          ),
        ),
      );
}
