use Rattle.std.proofs.Common.{◌≡◌, ◌∙◌, ◌^◌, ℕ, All, List, ap, refl, sym, subst}
use Rattle.std.specs.Prelude.{IfSome}
use Rattle.std.proofs.lemmas.List.{length-set}
use Rattle.pools.specs.Account.{IsAnswer, figures_after_least}
use Rattle.pools.specs.declared.interface.Figures.{Figures}
use Rattle.zone_tables.specs.Parts.{AreParts, AreSoundParts, Roster, Usage, usage_of, with_usage}
use Rattle.zone_tables.specs.Pools.{MayBeAsked, RequestedUnits, figures_at, pools_after_answer}
use Rattle.zone_tables.specs.Changes.{IsRegistered}
use Rattle.zone_tables.specs.Soundness.{HasCounts}
use Rattle.zone_tables.specs.Tables.{Tables}
use Rattle.zone_tables.specs.UnitRequests.{IsUnitRequest, calls_after_answer, leg_of_purpose}
use Rattle.zone_tables.specs.UnitRequests.{units_requested}
use Rattle.zone_tables.specs.declared.change.Move.{Move}
use Rattle.zone_tables.specs.inside.Counted.{IsMove, legs_after_move}
use Rattle.zone_tables.proofs.Backing.{may_request}
use Rattle.zone_tables.proofs.Counting.{IsMove-answer, counted_answer, counted_so}
use Rattle.zone_tables.proofs.Legs.{AreParts-calls, legs-answer, usage_is}
use Rattle.zone_tables.proofs.SoundParts.{SoundTables-parts}
use Rattle.zone_tables.proofs.tables.ZoneTables.request_units.Goals as goal

pub returns-in_err-reserve-clause-sound : goal.returns-in_err-reserve-clause-sound
returns-in_err-reserve-clause-sound g c =
    let i = c.self.inside in
    SoundTables-parts _ _ _
    (subst (λ (u : Usage). AreSoundParts i.config i.endpoints u)
    (sym c.reserve.ensures.usage) c.self.invariant)

-- whoever lends does so for the pools' figures, which the room that was made left as they were
pub ask-answer-requires-clause-figures : goal.ask-answer-requires-clause-figures
ask-answer-requires-clause-figures g c =
    let same : c.args.self.now.pools ≡ c.pools.result.now =
    sym (ap (λ (m : Tables). m.pools) c.self.view_is)
    ∙ sym (ap (λ (u : Usage). u.pools) c.reserve.ensures.usage) ∙ sym c.pools.ensures in
    subst (λ (pools : List Figures). g.L.Lender.lends_for c.args.lender.now pools) same
    c.requires.figures

pub ask-answer-requires-clause-may : goal.ask-answer-requires-clause-may
ask-answer-requires-clause-may g c =
    let i = c.self.inside in
    let q = c.args.request.now in
    let u = i.bandwidth.usage in
    let may = subst (λ (u : Usage). IsUnitRequest u q)
    (sym (usage_is i.config i.endpoints.roll u c.self.invariant.parts))
    (subst (λ (m : Tables). IsUnitRequest (usage_of m) q) (sym c.self.view_is) c.requires.may) in
    let counts = subst (λ (m : Tables). All (HasCounts (2 ^ 63)) m.pools)
    (sym c.self.view_is) c.requires.counts in
    let same : u.pools ≡ c.pools.result.now =
    sym (ap (λ (u : Usage). u.pools) c.reserve.ensures.usage) ∙ sym c.pools.ensures in
    subst (λ (n : ℕ). MayBeAsked c.pools.result.now q.pool n) (sym c.from-units.ensures)
    (subst (λ (pools : List Figures). MayBeAsked pools q.pool q.units) same
    (may_request u c.self.invariant.calls.backed c.args.endpoint.now q may counts))

pub note_answer-requires-clause-answer : goal.note_answer-requires-clause-answer
note_answer-requires-clause-answer g c =
    let q = c.args.request.now in
    let answer = c.ask-answer.result in
    subst (λ (pools : List Figures). IsAnswer (figures_at pools q.pool) q.units answer)
    c.pools.ensures
    (subst (λ (n : ℕ). IsAnswer (figures_at c.pools.result.now q.pool) n answer)
    c.from-units.ensures c.ask-answer.ensures.answer)

pub count-requires : goal.count-requires
count-requires g c =
    let i = c.self.inside in
    let q = c.args.request.now in
    let leg =
    subst (λ (z : Tables). IfSome (leg_of_purpose c.args.endpoint.now q.purpose)
    (IsRegistered z.live)) (sym c.self.view_is) c.requires.leg in
    subst (λ (m : Move). IsMove i.endpoints.roll.live i.endpoints.legs c.args.endpoint.now m)
    (sym c.movement.ensures)
    (IsMove-answer i.endpoints.roll.live i.bandwidth.usage i.endpoints.legs
    c.self.invariant.counted c.self.invariant.calls c.args.endpoint.now q
    c.ask-answer.result leg)

pub invariant_of-self-2 : goal.invariant_of-self-2
invariant_of-self-2 g c =
    let i = c.self.inside in
    let id = c.args.endpoint.now in
    let q = c.args.request.now in
    let parts = c.self.invariant.parts in
    let old = i.bandwidth.usage in
    let answer = c.ask-answer.result in
    let leg =
    subst (λ (z : Tables). IfSome (leg_of_purpose c.args.endpoint.now q.purpose)
    (IsRegistered z.live)) (sym c.self.view_is) c.requires.leg in
    let pools = pools_after_answer old.pools (units_requested q) answer in
    let usage = c.note_answer.ensures.usage
    ∙ ap (λ (u : Usage). with_usage u (calls_after_answer id q answer u.calls)
    (pools_after_answer u.pools (units_requested q) answer)) c.reserve.ensures.usage in
    let may = subst (λ (u : Usage). IsUnitRequest u q)
    (sym (usage_is i.config i.endpoints.roll old parts))
    (subst (λ (m : Tables). IsUnitRequest (usage_of m) q) (sym c.self.view_is) c.requires.may) in
    subst (λ (e : Roster). AreSoundParts i.config e c.note_answer.new.self.usage)
    (sym c.count.ensures) (record {
      settings = c.self.invariant.settings;
      endpoints = c.self.invariant.endpoints;
      calls = c.note_answer.ensures.sound;
      parts = subst (λ (u : Usage). AreParts i.config i.endpoints.roll u) (sym usage)
          (AreParts-calls i.config i.endpoints.roll old parts
          (calls_after_answer id q answer old.calls) pools
          (length-set old.pools q.pool
          (figures_after_least (figures_at old.pools q.pool) q.least answer))
          (legs-answer i.endpoints.roll.live old.calls id q answer parts.legs leg));
      counted = counted_so i.endpoints.roll.live i.endpoints.roll.live
          (calls_after_answer id q answer old.calls) c.note_answer.new.self.usage.calls _ _
          (counted_answer i.endpoints.roll.live old i.endpoints.legs c.self.invariant.counted id q
          answer may.purpose) refl (ap (λ (u : Usage). u.calls) usage)
          (ap (λ (m : Move). legs_after_move id m i.endpoints.legs) c.movement.ensures);
      times = c.self.invariant.times;
    })

pub returns-clause-sound : goal.returns-clause-sound
returns-clause-sound g c = SoundTables-parts _ _ _ (invariant_of-self-2 g c)

pub returns-clause-answer : goal.returns-clause-answer
returns-clause-answer g c =
    let q = c.args.request.now in
    let answer = c.ask-answer.result in
    let same : c.pools.result.now ≡ c.args.self.now.pools =
    c.pools.ensures ∙ ap (λ (u : Usage). u.pools) c.reserve.ensures.usage
    ∙ ap (λ (m : Tables). m.pools) c.self.view_is in
    subst (λ (pools : List Figures). IsAnswer (figures_at pools q.pool) q.units answer) same
    (subst (λ (n : ℕ). IsAnswer (figures_at c.pools.result.now q.pool) n answer)
    c.from-units.ensures c.ask-answer.ensures.answer)

-- the lender was asked for the units of the request, for the pools' figures
pub returns-clause-lends : goal.returns-clause-lends
returns-clause-lends g c =
    let q = c.args.request.now in
    let answer = c.ask-answer.result in
    let same : c.pools.result.now ≡ c.args.self.now.pools =
    c.pools.ensures ∙ ap (λ (u : Usage). u.pools) c.reserve.ensures.usage
    ∙ ap (λ (m : Tables). m.pools) c.self.view_is in
    let requested : RequestedUnits = record {
      pool = q.pool;
      units = c.from-units.result;
      least = c.from-least.result;
    } in
    let requested_is : requested ≡ units_requested q = λ j. record {
      pool = q.pool;
      units = c.from-units.ensures j;
      least = c.from-least.ensures j;
    } in
    subst (λ (pools : List Figures). g.L.Lender.lends c.args.lender.now pools (units_requested q)
    answer c.ask-answer.new.self) same
    (subst (λ (r : RequestedUnits). g.L.Lender.lends c.args.lender.now c.pools.result.now r answer
    c.ask-answer.new.self) requested_is c.ask-answer.ensures.lends)
