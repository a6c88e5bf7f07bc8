-- Which identifiers may be handed out: what the test of one says.
use Rattle.std.proofs.Common.{Bor, ◌≡◌, ◌↔◌, ℕ, Bool, true, false, not, List, nat_eq, refl, sym}
use Rattle.std.proofs.Common.{◌∙◌}
use Rattle.std.proofs.Common.{Some, None}
use Rattle.std.specs.Prelude.{IsTrue, Option, is_some}
use Rattle.std.specs.Option.{option_copied}
use Rattle.std.specs.FinMap as fin
use Rattle.std.specs.Cmp.Lexicographic.{pointwise}
use Rattle.keyed.proofs.Decide.{any_decides}
use Rattle.ras_module.specs.Same.{texts_decide}
use Rattle.ras_module.specs.Texts.{IsText}
use Rattle.registrations.specs.declared.registration.Registration.{Registration}
use Rattle.registrations.specs.Registry.{Live, IsUnused}
use Rattle.registrations.proofs.Covering.{has_id}

-- if no registration has the identifier, it may be handed out if and only if it isn't taken
pub unused_if : (live : Live) (taken : List (List ℕ)) (id : List ℕ) (b : Bool)
    → fin.get live id ≡ None → b ≡ has_id taken id → IsText 128 id
    → IsTrue (not b) ↔ IsUnused live taken id
unused_if live taken id true none is text = (
  λ h. absurd (cc h),
  λ u. absurd (u.not_taken ((any_decides (pointwise nat_eq) texts_decide taken id).0 (sym is))),
)
unused_if live taken id false none is text = (
  λ h. record {
    not_live = none;
    not_taken = λ has. absurd (cc
        (is ∙ (any_decides (pointwise nat_eq) texts_decide taken id).1 has));
    text = text;
  },
  λ u. refl,
)

-- a look-up that found nothing
pub none_copied : (w : Option (Bor Registration)) → is_some w ≡ false → option_copied w ≡ None
none_copied None h = refl
none_copied (Some x) h = absurd (cc h)
