-- The aliases that an endpoint holds are those of its registration.
use Rattle.std.proofs.Common.{◌≡◌, ℕ, true, List, [], refl, sym, ◌∙◌, ap, subst, Some, None}
use Rattle.std.specs.Prelude.{Option, Contains}
use Rattle.std.specs.FinMap as fin
use Rattle.keyed.proofs.Decide.{some_none, same_some}
use Rattle.ras_module.specs.declared.alias.Alias.{Alias}
use Rattle.ras_module.specs.Same.{texts_decide}
use Rattle.aliases.specs.Held.{Held, Holding, is_held_by, without_aliases, without_holder}
use Rattle.aliases.proofs.Leaving.{without_all}
use Rattle.registrations.specs.declared.registration.Registration.{Registration}
use Rattle.registrations.specs.Registry.{Live}
use Rattle.registrations.specs.Agreement.{Agree}

module _ (live : Live) (held : Held) (id : List ℕ) (agree : Agree live held) where
  -- an alias that the endpoint holds is one of its registration's
  own_alias : (alias : Alias) (w : Option Holding) → fin.get held alias ≡ w
      → is_held_by id w ≡ true
      → (r : Registration) × (fin.get live id ≡ Some r) × Contains r.aliases alias
  own_alias alias None is own = absurd (cc own)
  own_alias alias (Some h) is own =
      let by = agree.held_by alias h is in
      (by.0, sym (ap (fin.get live) ((texts_decide h.holder id).0 own)) ∙ by.1.live_is, by.1.has)

  -- so all of them go with those of its registration
  pub own_go : (r : Registration) → fin.get live id ≡ Some r
      → without_aliases held r.aliases id ≡ without_holder held id
  own_go r there = without_all held r.aliases id
      (λ alias own. (let by = own_alias alias (fin.get held alias) refl own in
      subst (λ (x : Registration). Contains x.aliases alias)
      (same_some by.0 r (sym by.1 ∙ there)) by.2))

  -- and an endpoint that isn't registered holds none
  pub none_go : fin.get live id ≡ None → held ≡ without_holder held id
  none_go none = without_all held [] id
      (λ alias own. (let by = own_alias alias (fin.get held alias) refl own in
      some_none (sym by.1 ∙ none)))
