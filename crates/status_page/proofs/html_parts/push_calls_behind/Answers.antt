use Rattle.std.proofs.Common.{codes, sym, append_assoc}
use Rattle.std.specs.String.{string_bytes}
use Rattle.status_page.specs.HomeParts.{calls_behind}
use Rattle.status_page.specs.Texts.{key_text}
use Rattle.status_page.proofs.html_parts.push_calls_behind.Goals as goal

pub returns-in-Some : goal.returns-in-Some
unfolding calls_behind
returns-in-Some c =
    rw (c.in-Some.is, sym (append_assoc (string_bytes c.args.out.now) (codes "&amp;calls=") (key_text c.in-Some.key))) c.push_key.ensures
