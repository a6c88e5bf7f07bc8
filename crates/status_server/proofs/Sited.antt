-- What holds of a site, and of what it is known to be.
use Rattle.std.proofs.Common.{◌≡◌, sym, subst, Option, Some}
use Rattle.std.specs.Prelude.{IsSomeAnd}
use Rattle.std.proofs.Math.Logic.{∥∥₁_elim, ∥∥₁_map, ∥∥₁_prop}

module _ {A : Type 0} (site : Option A) (it : A) (P : A → Type 0) (is : ∥ site ≡ Some it ∥₁) where
  pub holds_of-it : ∥ IsSomeAnd site P ∥₁ → ∥ P it ∥₁
  holds_of-it holds = ∥∥₁_elim is ∥∥₁_prop (λ same. ∥∥₁_map holds (λ h. subst (λ o. IsSomeAnd o P) same h))

  pub holds_of-site : ∥ P it ∥₁ → ∥ IsSomeAnd site P ∥₁
  holds_of-site holds = ∥∥₁_elim is ∥∥₁_prop (λ same. ∥∥₁_map holds (λ h. subst (λ o. IsSomeAnd o P) (sym same) h))
