-- The derived test of equality of outcomes decides whether they are equal.
use Rattle.std.proofs.Common.{◌≡◌, ℕ, false, true, List, Option, nat_eq, ap, rules}
use Rattle.std.specs.Bool.{Decides}
use Rattle.std.specs.Option.{option_eq}
use Rattle.std.specs.Cmp.Lexicographic.{pointwise}
use Rattle.std.proofs.lemmas.Bool.{and_parts, and_from}
use Rattle.std.proofs.lemmas.Bool.Decides.{Decides-eqb}
use Rattle.pools.specs.declared.interface.Lend.{Lend}
use Rattle.pools.specs.declared.interface.Lend.TheVariants.{Lent, Refused, Wait}
use Rattle.pools.specs.contracts.interface.LendPartialEq.TheImpl as lend_eq
use Rattle.ras_module.specs.Same.{texts_decide, address_decides}
use Rattle.ras_module.proofs.Deciding.{options_decide}
use Rattle.zone_events.specs.declared.due_item.DueItem.{DueItem}
use Rattle.zone_events.specs.declared.due_item.DueItem.TheVariants as item
use Rattle.zone_events.specs.contracts.due_item.DueItemPartialEq.TheImpl as item_eq
use Rattle.zone_events.specs.declared.outcome.Datagram.{Datagram}
use Rattle.zone_events.specs.contracts.outcome.DatagramPartialEq.TheImpl as datagram_eq
use Rattle.zone_events.specs.declared.outcome.IgnoredCause.{IgnoredCause}
use Rattle.zone_events.specs.declared.outcome.IgnoredCause.TheVariants as cause
use Rattle.zone_events.specs.contracts.outcome.IgnoredCausePartialEq.TheImpl as cause_eq
use Rattle.zone_events.specs.declared.outcome.Note.{Note}
use Rattle.zone_events.specs.declared.outcome.Note.TheVariants as note
use Rattle.zone_events.specs.contracts.outcome.NotePartialEq.TheImpl as note_eq
use Rattle.zone_events.specs.declared.outcome.Outcome.{Outcome}
use Rattle.zone_events.specs.contracts.outcome.OutcomePartialEq.TheImpl as outcome_eq

never : {A : Type 0} → false ≡ true → A
never h = absurd (cc h)

lends_decide : (a b : Lend) → Decides ((lend_eq.ghosts).eq a b) (a ≡ b)
lends_decide (Lent a) (Lent b) = search rules
lends_decide Refused Refused = search rules
lends_decide Wait Wait = search rules
lends_decide a b = (λ h. never h, λ e. absurd (cc e))

datagrams_decide : (a b : Datagram) → Decides ((datagram_eq.ghosts).eq a b) (a ≡ b)
datagrams_decide a b = (
  λ h.
      (let both = and_parts _ _ h in
      let to = (address_decides a.to b.to).0 both.0 in
      let bytes = (texts_decide a.bytes b.bytes).0 both.1 in
      λ i. record { to = to i; bytes = bytes i }),
  λ e. and_from _ _ ((address_decides a.to b.to).1 (ap (λ d. d.to) e))
      ((texts_decide a.bytes b.bytes).1 (ap (λ d. d.bytes) e)),
)

causes_decide : (a b : IgnoredCause) → Decides ((cause_eq.ghosts).eq a b) (a ≡ b)
causes_decide cause.TooLong cause.TooLong = search rules
causes_decide cause.Unreadable cause.Unreadable = search rules
causes_decide cause.NotServed cause.NotServed = search rules
causes_decide cause.Busy cause.Busy = search rules
causes_decide cause.UnknownEndpoint cause.UnknownEndpoint = search rules
causes_decide a b = (λ h. never h, λ e. absurd (cc e))

items_decide : (a b : DueItem) → Decides ((item_eq.ghosts).eq a b) (a ≡ b)
items_decide (item.RegistrationOver a) (item.RegistrationOver b) =
    (λ h. ap item.RegistrationOver ((texts_decide a b).0 h), λ e. (texts_decide a b).1 (cc e))
items_decide (item.Interrogate a) (item.Interrogate b) =
    (λ h. ap item.Interrogate ((texts_decide a b).0 h), λ e. (texts_decide a b).1 (cc e))
items_decide (item.Silent a) (item.Silent b) =
    (λ h. ap item.Silent ((texts_decide a b).0 h), λ e. (texts_decide a b).1 (cc e))
items_decide (item.Retry a) (item.Retry b) = search rules
items_decide (item.KeptOver a) (item.KeptOver b) = search rules
items_decide item.PoolTurn item.PoolTurn = search rules
items_decide a b = (λ h. never h, λ e. absurd (cc e))

notes_decide : (a b : Note) → Decides ((note_eq.ghosts).eq a b) (a ≡ b)
notes_decide note.Served note.Served = search rules
notes_decide note.Kept note.Kept = search rules
notes_decide (note.Ignored a) (note.Ignored b) =
    (λ h. ap note.Ignored ((causes_decide a b).0 h), λ e. (causes_decide a b).1 (cc e))
notes_decide (note.Done a) (note.Done b) =
    (λ h. ap note.Done ((items_decide a b).0 h), λ e. (items_decide a b).1 (cc e))
notes_decide note.Idle note.Idle = search rules
notes_decide (note.Replaced a) (note.Replaced b) = search rules
notes_decide a b = (λ h. never h, λ e. absurd (cc e))

answers : (a b : Option Lend) → Decides (option_eq (lend_eq.ghosts).eq a b) (a ≡ b)
answers a b = options_decide (lend_eq.ghosts).eq lends_decide a b

outputs : (a b : Option Datagram) → Decides (option_eq (datagram_eq.ghosts).eq a b) (a ≡ b)
outputs a b = options_decide (datagram_eq.ghosts).eq datagrams_decide a b

births : (a b : Option ℕ) → Decides (option_eq nat_eq a b) (a ≡ b)
births a b = options_decide nat_eq Decides-eqb a b

identifiers : (a b : Option (List ℕ)) → Decides (option_eq (pointwise nat_eq) a b) (a ≡ b)
identifiers a b = options_decide (pointwise nat_eq) texts_decide a b

pub outcomes_decide : (a b : Outcome) → Decides ((outcome_eq.ghosts).eq a b) (a ≡ b)
outcomes_decide a b = (
  λ h.
      (let h1 = and_parts _ _ h in
      let h2 = and_parts _ _ h1.1 in
      let h3 = and_parts _ _ h2.1 in
      let h4 = and_parts _ _ h3.1 in
      let answer = (answers a.answer b.answer).0 h1.0 in
      let output = (outputs a.output b.output).0 h2.0 in
      let what = (notes_decide a.note b.note).0 h3.0 in
      let dropped = (births a.dropped b.dropped).0 h4.0 in
      let given = (identifiers a.given b.given).0 h4.1 in
      λ i. record {
        answer = answer i;
        output = output i;
        note = what i;
        dropped = dropped i;
        given = given i;
      }),
  λ e.
      (and_from _ _ ((answers a.answer b.answer).1 (ap (λ o. o.answer) e))
      (and_from _ _ ((outputs a.output b.output).1 (ap (λ o. o.output) e))
      (and_from _ _ ((notes_decide a.note b.note).1 (ap (λ o. o.note) e))
      (and_from _ _ ((births a.dropped b.dropped).1 (ap (λ o. o.dropped) e))
      ((identifiers a.given b.given).1 (ap (λ o. o.given) e)))))),
)
