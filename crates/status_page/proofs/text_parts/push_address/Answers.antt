use Rattle.std.proofs.Common.{◌++◌}
use Rattle.std.specs.String.{string_bytes}
use Rattle.status_page.specs.Texts.{address_parts, address_text}
use Rattle.status_page.proofs.Written.{glued}
use Rattle.status_page.proofs.text_parts.push_address.Goals as goal

pub returns : goal.returns
unfolding address_text
returns c = cc (
  glued (string_bytes c.args.out.now ++ c.args.before.now) (address_parts c.args.address),
  c.in_ok-push_number-5.ensures,
  c.in_ok-push_number-4.ensures,
  c.in_ok-push_number-3.ensures,
  c.in_ok-push_number-2.ensures,
  c.in_ok-push_number.ensures,
  c.from.ensures,
  c.from-2.ensures,
  c.from-3.ensures,
  c.from-4.ensures,
  c.from-5.ensures,
)
