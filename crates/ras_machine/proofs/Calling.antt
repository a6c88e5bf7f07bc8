-- What a request calls for as it comes, case by case.
use Rattle.std.proofs.Common.{Bor, ◌≡◌, ◌≢◌, ℕ, Bool, true, false, refl, sym, ◌∙◌, ap}
use Rattle.std.proofs.Common.{Some, None, arith}
use Rattle.std.specs.Prelude.{Option, IfSome, ◌==◌, is_some, if◌then◌else◌}
use Rattle.std.specs.Option.{option_copied}
use Rattle.std.specs.FinMap as fin
use Rattle.std.proofs.lemmas.Bool.Decides.{nat_tests}
use Rattle.ras_module.specs.declared.request.Request.{Request}
use Rattle.kept_replies.specs.declared.entry.KeptEntry.{KeptEntry}
use Rattle.kept_replies.specs.declared.key.KeptKey.{KeptKey}
use Rattle.kept_replies.specs.Kept.{AreBornApart, Passes, is_over, reply_in}
use Rattle.ras_writing.specs.Replies.{encoding_of}
use Rattle.ras_requests.specs.Plans.{Plan}
use Rattle.ras_requests.specs.Requests.{HasReply, plan_of}
use Rattle.ras_machine.specs.State.{State}
use Rattle.ras_machine.specs.Keeping.{is_repeat}
use Rattle.ras_machine.specs.Machine.{Repeating, Place, Answered, Free, Full, Own, anew, first}
use Rattle.ras_machine.specs.Machine.{place_by, place_of, request_case, request_course, serving}
use Rattle.ras_machine.specs.Courses.{IsPlacedIn}
use Rattle.ras_machine.proofs.Dropping.{fits_of}
use Rattle.ras_machine.proofs.Retrying.{plan_there}

module _ (s : State) (now : ℕ) (key : KeptKey) (request : Request) (dropped : Option ℕ)
    (served : HasReply request) where
  abbrev pub its_plan : (plan : Plan) × (plan_of s.tables now request ≡ Some plan)
  its_plan = plan_there s.tables now request served

  by_place : (place : Place) → place_of s now key ≡ place
      → request_course s now key dropped request
      ≡ request_case s now key request (Some its_plan.0) place dropped
  by_place place is =
      ap (λ p. request_case s now key request p (place_of s now key) dropped) its_plan.1
      ∙ ap (λ w. request_case s now key request (Some its_plan.0) w dropped) is

  place_known : (entry : KeptEntry) (repeat : Bool) → fin.get s.kept key ≡ Some entry
      → is_repeat s now entry ≡ repeat
      → place_of s now key ≡ (if repeat then Answered (reply_in entry.state) else Own)
  place_known entry repeat there is =
      ap (place_by s now) there
      ∙ ap (λ b. if b then Answered (reply_in entry.state) else Own) is

  place_unknown : (full : Bool) → fin.get s.kept key ≡ None
      → (fin.len s.kept == s.tables.config.kept) ≡ full
      → place_of s now key ≡ (if full then Full else Free)
  place_unknown full there is =
      ap (place_by s now) there ∙ ap (λ b. if b then Full else Free) is

  pub repeats : (entry : KeptEntry) → fin.get s.kept key ≡ Some entry
      → is_repeat s now entry ≡ true → request_course s now key dropped request
      ≡ Repeating (record { to = key.source; bytes = encoding_of (reply_in entry.state) })
  repeats entry there repeat =
      by_place (Answered (reply_in entry.state)) (place_known entry true there repeat)

  pub known : (entry : KeptEntry) → fin.get s.kept key ≡ Some entry
      → is_repeat s now entry ≡ false → request_course s now key dropped request
      ≡ serving (anew key) now request its_plan.0
  known entry there repeat = by_place Own (place_known entry false there repeat)

  pub has_place : fin.get s.kept key ≡ None → fin.len s.kept ≢ s.tables.config.kept
      → request_course s now key dropped request
      ≡ serving (first key None) now request its_plan.0
  has_place there room =
      by_place Free (place_unknown false there (grind (arith, nat_tests)))

  all_taken : fin.get s.kept key ≡ None → fin.len s.kept ≡ s.tables.config.kept
      → request_course s now key dropped request
      ≡ request_case s now key request (Some its_plan.0) Full dropped
  all_taken there full = by_place Full (place_unknown true there (grind (arith, nat_tests)))

  pub takes_place : fin.get s.kept key ≡ None → fin.len s.kept ≡ s.tables.config.kept
      → is_some dropped ≡ true → request_course s now key dropped request
      ≡ serving (first key dropped) now request its_plan.0
  takes_place there full is = all_taken there full ∙ cases dropped is where
    cases : (w : Option ℕ) → is_some w ≡ true
        → request_case s now key request (Some its_plan.0) Full w
        ≡ serving (first key w) now request its_plan.0
    cases None is = absurd (cc is)
    cases (Some born) is = refl

-- an entry that is over makes place for another
pub placed_by : (s : State) (now : ℕ) (key : KeptKey) (dropped : Option ℕ) → AreBornApart s.kept
    → fin.len s.kept ≡ s.tables.config.kept → fin.get s.kept key ≡ None → is_some dropped ≡ true
    → IfSome dropped (Passes (is_over now) s.kept) → IsPlacedIn s (first key dropped)
placed_by s now key None apart full absent is over = absurd (cc is)
placed_by s now key (Some born) apart full absent is over = (
  absent,
  fits_of (record { kept = s.kept; most = s.tables.config.kept; room = 0 }) now born apart full
      over,
)

-- a look-up that finds nothing
pub absent_of : {A : Type 0} {v : Option A} (w : Option (Bor A)) → option_copied w ≡ v
    → ((x : Bor A) → w ≡ Some x → ⊥) → v ≡ None
absent_of None is none = sym is
absent_of (Some x) is none = absurd (none x refl)
