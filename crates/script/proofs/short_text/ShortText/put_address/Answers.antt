use Rattle.std.proofs.Common.{slice_index}
use Rattle.std.specs.Fmt.{decimal}
use Rattle.script.proofs.Printing.{address_flat}
use Rattle.script.proofs.short_text.ShortText.put_address.Goals as goal

pub returns-clause-text : goal.returns-clause-text
returns-clause-text c =
    let a = c.args.address.now in
    rw (
      c.put_number-5.ensures.text,
      c.put_mark-4.ensures.text,
      c.put_number-4.ensures.text,
      c.put_mark-3.ensures.text,
      c.put_number-3.ensures.text,
      c.put_mark-2.ensures.text,
      c.put_number-2.ensures.text,
      c.put_mark.ensures.text,
      c.put_number.ensures.text,
      c.from-5.ensures,
      c.from-4.ensures,
      c.from-3.ensures,
      c.from-2.ensures,
      c.from.ensures,
    )
    (address_flat (decimal (slice_index a.ip 0)) (decimal (slice_index a.ip 1))
    (decimal (slice_index a.ip 2)) (decimal (slice_index a.ip 3)) (decimal a.port)
    c.args.self.now 46 58)
