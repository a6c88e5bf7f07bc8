-- One value and then another, as in Grammar. Proofs about replies see the chain of components,
-- and not what it computes to.
use Rattle.ras_grammar.specs.Grammar.{Grammar}
use Rattle.ras_grammar.specs.Forms.{EncodesBoth, both_reading}
use Rattle.ras_grammar.specs.Exact.{both_exact}

infixl 10 ◌>>=◌
unfoldable pub ◌>>=◌ : {A B : Type 0} → Grammar A → (A → Grammar B) → Grammar B
first >>= next = record {
  encodes = EncodesBoth first.encodes (λ x. (next x).encodes);
  reading = both_reading first.reading (λ x. (next x).reading);
  exact = both_exact first.encodes first.reading (λ x. (next x).encodes) (λ x.
      (next x).reading) first.exact (λ x. (next x).exact);
}
