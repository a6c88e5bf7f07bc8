-- How the totals of a history grow with an entry.
use Rattle.std.proofs.Common.{◌≡◌, ◌+◌, List, [], ◌∷◌, ◌++◌}
use Rattle.std.proofs.Common.{length, refl, arith}
use Rattle.std.proofs.lemmas.List.Sums.{sum_by-append, sum_by-cons}
use Rattle.zone_events.specs.declared.change.Change.{Change}
use Rattle.zone_events.specs.declared.change.Change.TheVariants.{Event, PoolChange}
use Rattle.zone_events.specs.declared.event.Event.TheVariants.{Datagram, Turn}
use Rattle.books.specs.declared.book.Entry.{Entry}
use Rattle.books.specs.declared.totals.Totals.{Totals}
use Rattle.books.specs.Totals.{changes_in, changes_of, datagrams_in, datagrams_of, lent_of}
use Rattle.books.specs.Totals.{turns_in, turns_of, units_lent}

pub datagrams_more : (es : List Entry) (e : Entry)
    → datagrams_of (es ++ e ∷ []) ≡ datagrams_of es + datagrams_in e.event
datagrams_more es e = omega (arith, sum_by-append (λ (x : Entry). datagrams_in x.event) es (e ∷ []))

pub turns_more : (es : List Entry) (e : Entry)
    → turns_of (es ++ e ∷ []) ≡ turns_of es + turns_in e.event
turns_more es e = omega (arith, sum_by-append (λ (x : Entry). turns_in x.event) es (e ∷ []))

pub changes_more : (es : List Entry) (e : Entry)
    → changes_of (es ++ e ∷ []) ≡ changes_of es + changes_in e.event
changes_more es e = omega (arith, sum_by-append (λ (x : Entry). changes_in x.event) es (e ∷ []))

pub lent_more : (es : List Entry) (e : Entry)
    → lent_of (es ++ e ∷ []) ≡ lent_of es + units_lent e.outcome.answer
lent_more es e =
    omega (arith, sum_by-append (λ (x : Entry). units_lent x.outcome.answer) es (e ∷ []))

-- each is of a datagram, of a turn, or of a pool that took the place of another one
pub one_of : (event : Change) → datagrams_in event + turns_in event + changes_in event ≡ 1
one_of (Event (Datagram source bytes moment)) = refl
one_of (Event (Turn moment)) = refl
one_of (PoolChange replacement) = refl

pub all_counted : (es : List Entry) → datagrams_of es + turns_of es + changes_of es ≡ length es
all_counted [] = refl
all_counted (e ∷ es) =
    let d : datagrams_of (e ∷ es) ≡ datagrams_in e.event + datagrams_of es =
    sum_by-cons (λ (x : Entry). datagrams_in x.event) e es in
    let t : turns_of (e ∷ es) ≡ turns_in e.event + turns_of es =
    sum_by-cons (λ (x : Entry). turns_in x.event) e es in
    let c : changes_of (e ∷ es) ≡ changes_in e.event + changes_of es =
    sum_by-cons (λ (x : Entry). changes_in x.event) e es in
    omega (arith, d, t, c, one_of e.event, all_counted es)

pub same_totals : (a b : Totals) → a.datagrams ≡ b.datagrams → a.turns ≡ b.turns → a.lent ≡ b.lent
    → a.returned ≡ b.returned → a.changes ≡ b.changes → a ≡ b
same_totals a b d t u r c = λ i. record {
  datagrams = d i;
  turns = t i;
  lent = u i;
  returned = r i;
  changes = c i;
}
