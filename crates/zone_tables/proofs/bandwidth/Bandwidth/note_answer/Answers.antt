use Rattle.std.proofs.Common.{◌≡◌, ◌∙◌, ◌^◌, ℕ, All, sym, subst}
use Rattle.zone_tables.specs.UnitRequests.{IsUnitRequest, calls_after_answer, units_requested}
use Rattle.pools.specs.Account.{IsAnswer}
use Rattle.zone_tables.specs.Soundness.{HasCounts}
use Rattle.zone_tables.specs.Parts.{Lending, with_usage}
use Rattle.zone_tables.specs.Pools.{MayBeAsked, figures_at, pools_after_answer}
use Rattle.zone_tables.proofs.Backing.{IsSoundUsage-held}
use Rattle.zone_tables.proofs.Backing.{IsBacked-answer, IsBacked-is, may_request, usage_in}
use Rattle.zone_tables.proofs.bandwidth.Bandwidth.note_answer.Goals as goal

pub note_answer-requires-clause-asked : goal.note_answer-requires-clause-asked
note_answer-requires-clause-asked c =
    let i = c.self.inside in
    let u = usage_in i.calls i.pools i.limit i.call_limit in
    let q = c.args.request.now in
    let may =
    subst (λ (l : Lending). IsUnitRequest l.usage q) (sym c.self.view_is) c.requires.may in
    let counts = subst (λ (l : Lending). All (HasCounts (2 ^ 63)) l.usage.pools)
    (sym c.self.view_is) c.requires.counts in
    subst (MayBeAsked i.pools q.pool) (sym c.from-units.ensures)
    (may_request u c.self.invariant.backed c.args.endpoint.now q may counts)

pub note_answer-requires-clause-answer : goal.note_answer-requires-clause-answer
note_answer-requires-clause-answer c =
    let i = c.self.inside in
    let q = c.args.request.now in
    let answer = c.args.answer in
    let fits = subst (λ (l : Lending). IsAnswer (figures_at l.usage.pools q.pool) q.units answer)
    (sym c.self.view_is) c.requires.answer in
    subst (λ (n : ℕ). IsAnswer (figures_at i.pools q.pool) n answer) (sym c.from-units.ensures) fits

pub invariant_of-self : goal.invariant_of-self
invariant_of-self c =
    let i = c.self.inside in
    let u = usage_in i.calls i.pools i.limit i.call_limit in
    let q = c.args.request.now in
    let answer = c.args.answer in
    let may =
    subst (λ (l : Lending). IsUnitRequest l.usage q) (sym c.self.view_is) c.requires.may in
    let fits = subst (λ (l : Lending). IsAnswer (figures_at l.usage.pools q.pool) q.units answer)
    (sym c.self.view_is) c.requires.answer in
    let after : c.note_answer.new.self ≡ pools_after_answer u.pools (units_requested q) answer =
    c.note_answer.ensures.after
    ∙ (λ j. pools_after_answer u.pools (record {
      pool = q.pool;
      units = c.from-units.ensures j;
      least = c.from-least.ensures j;
    }) answer) in
    IsSoundUsage-held c.enter.new.calls c.note_answer.new.self i.limit i.call_limit
    (IsBacked-is (with_usage u (calls_after_answer c.args.endpoint.now q answer u.calls)
    (pools_after_answer u.pools (units_requested q) answer))
    c.enter.new.calls.calls c.note_answer.new.self c.enter.new.calls.most
    (IsBacked-answer u c.self.invariant.backed c.args.endpoint.now q may answer fits)
    c.enter.ensures.calls after c.enter.ensures.most)
    (c.enter.ensures.sound (record {
      each = c.self.invariant.each;
      few = c.self.invariant.few;
      most = c.self.invariant.most;
    })) c.note_answer.ensures.within

pub returns-clause-sound : goal.returns-clause-sound
returns-clause-sound c = invariant_of-self c
