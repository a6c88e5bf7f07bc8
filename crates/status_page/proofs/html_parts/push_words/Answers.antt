use Rattle.std.proofs.Common.{◌≡◌, ◌++◌, ◌∙◌, ap, sym, map, encode_utf8, rules, List, ℕ}
use Rattle.std.specs.Str.{encode_utf8_all}
use Rattle.std.specs.String.{string_bytes}
use Rattle.std.proofs.lemmas.Iterator.{YieldsList-from_chars}
use Rattle.std.proofs.lemmas.Iterator.Consumers.{YieldsList-end}
use Rattle.std.proofs.lemmas.List.{map-id}
use Rattle.status_page.specs.HomeParts.{spaced, words_of}
use Rattle.status_page.proofs.Written.{next_character}
use Rattle.status_page.proofs.html_parts.push_words.Goals as goal

pub loop-character-preserved : goal.loop-character-preserved
loop-character-preserved c =
    let pushed : string_bytes c.push.new.self
    ≡ string_bytes c.loop-character.out ++ encode_utf8 (spaced c.in-Some.character) =
    cc (c.in_ok-push.ensures.bytes, c.spaced.ensures) in
    next_character spaced (string_bytes c.args.out.now) (string_bytes c.loop-character.out) _
    c.loop-character.yielded c.in-Some.character c.loop-character.invariant pushed

pub returns : goal.returns
unfolding words_of
returns c =
    let all = YieldsList-end (YieldsList-from_chars c.args.label.now c.utf8.label (search rules))
    c.loop-character.yielded _ c.loop-character.yielded_by _ _ c.in-None.is c.next.ensures.steps in
    c.loop-character.invariant
    ∙ ap (λ (cs : List ℕ). string_bytes c.args.out.now ++ encode_utf8_all (map spaced cs))
    (sym (map-id c.loop-character.yielded) ∙ all.0)
