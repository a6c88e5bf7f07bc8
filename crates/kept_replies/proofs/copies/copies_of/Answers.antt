use Rattle.std.proofs.Common.{ap, sym, ◌∙◌}
use Rattle.std.specs.Map.Iter.{deref_pair}
use Rattle.std.specs.Option.{option_map}
use Rattle.indexmap.specs.IndexMap.{insert_entry}
use Rattle.keyed.proofs.Entries.{AreApart-entries}
use Rattle.keyed.proofs.Inserted.{insert_next}
use Rattle.kept_replies.specs.Keys.{same_key}
use Rattle.kept_replies.proofs.KeyOrder.{key_decides}
use Rattle.kept_replies.proofs.copies.copies_of.Goals as goal

pub loop-i-preserved : goal.loop-i-preserved
loop-i-preserved c =
    let row = deref_pair c.unwrap.result in
    let here = sym c.get_index.ensures.entry ∙ ap (option_map deref_pair) c.unwrap.ensures in
    c.in_ok-put.ensures
    ∙ (ap (λ key. insert_entry same_key c.loop-i.copies.entries key c.in_ok-copy-2.field-0)
    c.in_ok-copy.ensures
    ∙ (ap (λ entry. insert_entry same_key c.loop-i.copies.entries row.0 entry)
    c.in_ok-copy-2.ensures
    ∙ (ap (λ es. insert_entry same_key es row.0 row.1) c.loop-i.invariant
    ∙ insert_next key_decides c.args.rows.now.entries c.loop-i.i row
    (AreApart-entries key_decides c.args.rows.now.entries c.len.ensures.unique) here)))
