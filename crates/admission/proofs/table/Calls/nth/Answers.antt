use Rattle.std.proofs.Common.{◌≡◌, Some, ap, arith, sym, ◌∙◌}
use Rattle.std.specs.FinMap as map
use Rattle.indexmap.specs.IndexMap.{get}
use Rattle.ras_module.specs.CallKeys.{same_call_key}
use Rattle.admission.proofs.StoredCalls.{IsConsistent-stored, get_call, in_other_words, len_stored}
use Rattle.admission.proofs.table.Calls.nth.Goals as goal

pub returns-clause-some : goal.returns-clause-some
returns-clause-some c =
    let same = len_stored c.self.inside.calls c.self.inside.most c.args.self.now
    c.self.invariant.stored c.self.view_is in (
      λ some. omega (arith, c.get_index.ensures.found.0 some, same),
      λ below. c.get_index.ensures.found.1 (omega (arith, below, same)),
    )

pub returns-clause-call : goal.returns-clause-call
returns-clause-call c = in_other_words c.get_index.result
    (λ p. get same_call_key c.self.inside.calls p.0.now ≡ Some p.1.now)
    (λ p. map.get c.args.self.now.calls p.0.now ≡ Some p.1.now) c.get_index.ensures.value
    (λ p found. ap (λ t. map.get t.calls p.0.now) (sym c.self.view_is)
    ∙ (sym (get_call c.self.inside.calls p.0.now) ∙ found))

pub returns-clause-sound : goal.returns-clause-sound
returns-clause-sound c = IsConsistent-stored c.self.inside.calls c.self.inside.most c.args.self.now
    c.self.invariant.stored c.self.view_is
