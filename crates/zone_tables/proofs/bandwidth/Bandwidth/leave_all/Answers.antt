use Rattle.std.proofs.Common.{◌∙◌, ap, arith, refl, subst, sym, None, Some}
use Rattle.std.specs.Prelude.{IsSome, MatchOption, Option}
use Rattle.ras_module.specs.declared.call_key.CallKey.{CallKey}
use Rattle.admission.proofs.Soundness.{IsInNoCall-zero, legs_of-none}
use Rattle.std.specs.FinMap as fin
use Rattle.admission.specs.Calls.{EachCall, IsCall, IsInNoCall, leg_at, legs_of}
use Rattle.zone_tables.specs.Leaving.{AreSameButLent, rest_of}
use Rattle.zone_tables.specs.Parts.{IsSoundUsage, Lending, Usage}
use Rattle.zone_tables.proofs.ButLent.{same_after_end, same_through}
use Rattle.zone_tables.proofs.Departing.{all_left, rest_after, same_after_leave}
use Rattle.zone_tables.proofs.Counting.{legs_after_leave, one_fewer}
use Rattle.zone_tables.proofs.bandwidth.Bandwidth.leave_all.Goals as goal

pub loop-gone-init : goal.loop-gone-init
loop-gone-init c = record {
  calls = λ key. refl;
  others = λ q differ. refl;
  pools = same_after_end c.args.self.now.usage.pools None;
  most = refl;
  limit = refl;
  call_limit = refl;
  left = omega (arith, c.requires);
}

pub unwrap-call-requires : goal.unwrap-call-requires
unwrap-call-requires c = cases c.call_of.result c.call_of.ensures where
  cases : (w : Option CallKey)
      → MatchOption w (IsInNoCall c.self.inside.calls.calls c.args.endpoint.now)
      (λ key. IsSome (leg_at c.self.inside.calls.calls key c.args.endpoint.now)) → IsSome w
  cases None none = absurd (omega (
    arith,
    legs_of-none c.self.inside.calls.calls c.args.endpoint.now none,
    ap (λ (l : Lending). legs_of l.usage.calls c.args.endpoint.now) c.self.view_is,
    c.loop-gone.invariant.left,
    c.loop-gone-test.true,
  ))
  cases (Some key) has = refl

pub loop-gone-preserved : goal.loop-gone-preserved
loop-gone-preserved c =
    let e = c.args.endpoint.now in
    let old = c.args.self.now.usage in
    let now = c.loop-gone.self.usage in
    let so_far = c.loop-gone.invariant in
    let usage = c.leave.ensures in
    let call = c.unwrap-call.result in
    let has = subst (λ (l : Lending). IsSome (leg_at l.usage.calls call e)) c.self.view_is
    (subst (λ (w : Option CallKey). MatchOption w (IsInNoCall c.self.inside.calls.calls e)
    (λ key. IsSome (leg_at c.self.inside.calls.calls key e))) c.unwrap-call.ensures
    c.call_of.ensures) in
    record {
      others = λ q differ. ap (λ (u : Usage). legs_of u.calls q) usage
          ∙ (legs_after_leave now.calls call e has q (λ is. differ (sym is))
          ∙ so_far.others q differ);
      calls = λ key. ap (λ (u : Usage). rest_of e (fin.get u.calls key)) usage
          ∙ (rest_after e now.calls call key ∙ so_far.calls key);
      pools = same_through old.pools now.pools c.leave.new.self.usage.pools so_far.pools
          (subst (λ (u : Usage). AreSameButLent now.pools u.pools) (sym usage)
          (same_after_leave e now.calls now.pools call));
      most = ap (λ (u : Usage). u.most) usage ∙ so_far.most;
      limit = ap (λ (u : Usage). u.limit) usage ∙ so_far.limit;
      call_limit = ap (λ (u : Usage). u.call_limit) usage ∙ so_far.call_limit;
      left = omega (
        arith,
        so_far.left,
        one_fewer e now.calls call has,
        ap (λ (u : Usage). legs_of u.calls e) usage,
      );
    }

pub returns-clause-left : goal.returns-clause-left
returns-clause-left c =
    let e = c.args.endpoint.now in
    let none = IsInNoCall-zero c.loop-gone.self.usage.calls e (omega (
      arith,
      c.loop-gone.invariant.left,
      c.loop-gone-test.false,
    )) in
    let each = subst (λ (l : Lending). EachCall IsCall l.usage.calls) c.self-2.view_is
    c.self-2.invariant.each in
    record {
      calls = all_left e c.args.self.now.usage.calls c.loop-gone.self.usage.calls
          c.loop-gone.invariant.calls each none;
      pools = c.loop-gone.invariant.pools;
      most = c.loop-gone.invariant.most;
      limit = c.loop-gone.invariant.limit;
      call_limit = c.loop-gone.invariant.call_limit;
    }

pub returns-clause-sound : goal.returns-clause-sound
returns-clause-sound c =
    subst (λ (l : Lending). IsSoundUsage l.usage) c.self-2.view_is c.self-2.invariant
