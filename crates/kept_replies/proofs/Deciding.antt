-- The derived test of equality of kept entries decides whether they are equal.
use Rattle.std.proofs.Common.{◌≡◌, false, true, ap}
use Rattle.std.specs.Bool.{Decides}
use Rattle.std.proofs.lemmas.Bool.{and_parts, and_from}
use Rattle.std.proofs.lemmas.Bool.Decides.{Decides-eqb}
use Rattle.kept_replies.specs.Kept.{reply_in}
use Rattle.ras_module.proofs.Deciding.{reply_decides, request_decides}
use Rattle.kept_replies.specs.declared.entry.KeptEntry.{KeptEntry}
use Rattle.kept_replies.specs.declared.entry.KeptState.{KeptState}
use Rattle.kept_replies.specs.declared.entry.KeptState.TheVariants.{Done, Pending}
use Rattle.kept_replies.specs.contracts.entry.KeptEntryPartialEq.TheImpl as entry_eq
use Rattle.kept_replies.specs.contracts.entry.KeptStatePartialEq.TheImpl as state_eq

never : {A : Type 0} → false ≡ true → A
never h = absurd (cc h)

states_decide : (a b : KeptState) → Decides ((state_eq.ghosts).eq a b) (a ≡ b)
states_decide (Done r u) (Done s v) = (
  λ h.
      (let both = and_parts _ _ h in
      let reply = (reply_decides r s).0 both.0 in
      let until = (Decides-eqb u v).0 both.1 in
      λ i. Done (reply i) (until i)),
  λ e. and_from _ _ ((reply_decides r s).1 (ap reply_in e)) ((Decides-eqb u v).1 (cc e)),
)
states_decide (Pending q r t l) (Pending p s u m) = (
  λ h.
      (let h1 = and_parts _ _ h in
      let h2 = and_parts _ _ h1.1 in
      let h3 = and_parts _ _ h2.1 in
      let request = (request_decides q p).0 h1.0 in
      let reply = (reply_decides r s).0 h2.0 in
      let retry = (Decides-eqb t u).0 h3.0 in
      let left = (Decides-eqb l m).0 h3.1 in
      λ i. Pending (request i) (reply i) (retry i) (left i)),
  λ e. and_from _ _ ((request_decides q p).1 (cc e)) (and_from _ _ ((reply_decides r s).1 (cc e))
      (and_from _ _ ((Decides-eqb t u).1 (cc e)) ((Decides-eqb l m).1 (cc e)))),
)
states_decide a b = (λ h. never h, λ e. absurd (cc e))

pub entries_decide : (a b : KeptEntry) → Decides ((entry_eq.ghosts).eq a b) (a ≡ b)
entries_decide a b = (
  λ h.
      (let both = and_parts _ _ h in
      let born = (Decides-eqb a.born b.born).0 both.0 in
      let state = (states_decide a.state b.state).0 both.1 in
      λ i. record { born = born i; state = state i }),
  λ e. and_from _ _ ((Decides-eqb a.born b.born).1 (ap (λ k. k.born) e))
      ((states_decide a.state b.state).1 (ap (λ k. k.state) e)),
)
