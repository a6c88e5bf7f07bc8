-- Whether what was chosen may be done.
use Rattle.std.proofs.Common.{rules, ◌≡◌, ℕ, Bool, true, false, List, Some, None, refl, sym, ◌∙◌}
use Rattle.std.specs.Prelude.{Option, Contains, IsTrue, MatchOption, is_some, not, ◌↔◌}
use Rattle.std.specs.FinMap as fin
use Rattle.ras_module.specs.Texts.{IsText}
use Rattle.kept_replies.specs.declared.entry.KeptEntry.{KeptEntry}
use Rattle.kept_replies.specs.Kept.{IsConsistent, IsNamed, KeptReplies}
use Rattle.kept_replies.specs.Kept.{KeptTable, NonePasses, Passes}
use Rattle.kept_replies.proofs.Births.{none_passes}
use Rattle.registrations.specs.Registry.{Live, IsUnused}
use Rattle.ras_machine.specs.Unused.{IsUnusedFor}

-- none was found if and only if none passes
pub none_found : (t : KeptTable) → IsConsistent t → (test : KeptEntry → Bool) (found : Option ℕ)
    → MatchOption found (NonePasses test t.kept) (Passes test t.kept) → (none : Bool)
    → is_some found ≡ not none → IsTrue none ↔ NonePasses test t.kept
none_found t sound test None nothing true is = (λ h. nothing, λ h. refl)
none_found t sound test None nothing false is = absurd (cc is)
none_found t sound test (Some born) passes true is = absurd (cc is)
none_found t sound test (Some born) passes false is =
    (λ h. absurd (cc h), λ h. absurd (none_passes t sound test born h passes))

-- nobody is registered under it
pub nobody_has : {A B : Type 0} (read : Option A → Option B) (found : Option A) (w : Option B)
    → read None ≡ None → read found ≡ w → (none : Bool) → is_some found ≡ not none → IsTrue none
    → w ≡ None
nobody_has read None w nothing is none none_is h = sym is ∙ nothing
nobody_has read (Some r) w nothing is true none_is h = absurd (cc none_is)
nobody_has read (Some r) w nothing is false none_is h = absurd (cc h)

-- an identifier that nobody has is unused if and only if no kept reply tells it
pub unused_by : (live : Live) (kept : KeptReplies) (id : List ℕ) → fin.get live id ≡ None
    → IsText 128 id → (named : Bool) → IsTrue named ↔ IsNamed kept id
    → IsTrue (not named) ↔ IsUnusedFor live kept id
unused_by live kept id absent text named is = (
  λ h. record {
    unused = record { not_live = absent; not_taken = λ has. search rules; text = text };
    unnamed = λ n. absurd (cc (h, is.1 n));
  },
  λ u. not_so named (λ h. u.unnamed (is.0 h)),
) where
  not_so : (b : Bool) → (IsTrue b → ⊥) → IsTrue (not b)
  not_so true never = absurd (never refl)
  not_so false never = refl

-- an identifier that nobody has and that isn't among those that kept replies tell is unused
pub unused_of_told : (live : Live) (kept : KeptReplies) (id : List ℕ) (told : List (List ℕ))
    → IsUnused live told id → ((other : List ℕ) → Contains told other ↔ IsNamed kept other)
    → IsUnusedFor live kept id
unused_of_told live kept id told unused is = record {
  unused = record {
    not_live = unused.not_live;
    not_taken = λ has. search rules;
    text = unused.text;
  };
  unnamed = λ n. unused.not_taken ((is id).1 n);
}
