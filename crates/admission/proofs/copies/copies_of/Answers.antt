use Rattle.std.proofs.Common.{ap, sym, ◌∙◌}
use Rattle.std.specs.Map.Iter.{deref_pair}
use Rattle.std.specs.Option.{option_map}
use Rattle.indexmap.specs.IndexMap.{insert_entry}
use Rattle.ras_module.specs.CallKeys.{same_call_key}
use Rattle.ras_module.specs.Same.{call_key_decides}
use Rattle.keyed.proofs.Inserted.{insert_next}
use Rattle.admission.proofs.copies.copies_of.Goals as goal

pub loop-i-preserved : goal.loop-i-preserved
loop-i-preserved c =
    let row = deref_pair c.unwrap.result in
    let here = sym c.get_index.ensures.entry ∙ ap (option_map deref_pair) c.unwrap.ensures in
    c.in_ok-put.ensures
    ∙ (ap (λ call. insert_entry same_call_key c.loop-i.copies.entries row.0 call) c.copy.ensures
    ∙ (ap (λ es. insert_entry same_call_key es row.0 row.1) c.loop-i.invariant
    ∙ insert_next call_key_decides c.args.calls.now.entries c.loop-i.i row c.requires here))
