-- A registration that is kept alive.
use Rattle.std.proofs.Common.{◌≡◌, ℕ, List, Some, None, ap, refl, subst, sym}
use Rattle.std.specs.Prelude.{IsSome, Option}
use Rattle.std.specs.Option.{IsSomeAnd}
use Rattle.std.specs.FinMap.{get}
use Rattle.registrations.specs.declared.registration.Registration.{Registration}
use Rattle.zone_tables.specs.declared.change.Change.{Change}
use Rattle.zone_tables.specs.Changes.{IsPossible}
use Rattle.zone_tables.specs.Tables.{Tables}
use Rattle.zone_tables.proofs.Answered.{is_there}
use Rattle.ras_requests.specs.declared.plan.GrantedTime.{GrantedTime}
use Rattle.ras_requests.specs.declared.plan.Settlement.{Settlement}
use Rattle.ras_machine.specs.declared.served_request.Written as code
use Rattle.ras_machine.specs.inside.Written.{IsRenewal}

-- its change can be made for the endpoint that is named
module _ (z : Tables) (who : Option (List ℕ)) (id : List ℕ) (names : who ≡ Some id)
    (time : GrantedTime) (change : Change) (written : code.Written)
    (is : IsRenewal z time id change written) where
  found : (w : Option Registration) → get z.live id ≡ w → IsSome w → IsPossible z who change
  found None there some = absurd (cc some)
  found (Some r) there some =
      subst (IsPossible z who) (sym (ap (λ (d : Settlement). d.change) (is r there))) (
        subst (λ w. IsSomeAnd w (λ i. IsSome (get z.live i))) (sym names)
            (is_there (get z.live id) r there),
        tt,
      )

  pub possible_renewal : IsSome (get z.live id) → IsPossible z who change
  possible_renewal = found (get z.live id) refl
