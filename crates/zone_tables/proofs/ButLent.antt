-- Pools to which units may come back. Nothing else of them changes.
use Rattle.std.proofs.Common.{◌<◌, ◌+◌, ℕ, List, length, refl, sym, ◌∙◌, subst, Some, None, arith}
use Rattle.std.specs.Prelude.{Option, []}
use Rattle.std.specs.Option.{unwrap_or}
use Rattle.std.proofs.lemmas.List.{get_or_default, length-set}
use Rattle.keyed.proofs.Decide.{by_place}
use Rattle.pools.specs.declared.interface.Figures.{Figures}
use Rattle.pools.specs.Account.{opening_account}
use Rattle.zone_tables.specs.declared.change.CallChange.TheVariants.{Opening, Joining, Lowering}
use Rattle.zone_tables.specs.declared.change.CallChange.TheVariants.{Leaving}
use Rattle.zone_tables.specs.declared.change.Change.{Change}
use Rattle.zone_tables.specs.declared.change.Change.TheVariants.{Nothing, Endpoint, Calls}
use Rattle.admission.specs.Calls.{freed_by_leave}
use Rattle.zone_tables.specs.Tables.{Tables}
use Rattle.zone_tables.specs.Pools.{figures_at, figures_after_return, pools_after_end}
use Rattle.zone_tables.specs.Changes.{after_change}
use Rattle.zone_tables.specs.Leaving.{AreSameButLent, IsSameButLent}
use Rattle.zone_tables.specs.Soundness.{HasCounts, CountsOneMore}
use Rattle.zone_tables.proofs.OnePool.{figures_here, figures_elsewhere}

-- units come back
pub same_after_end : (pools : List Figures) (freed : Option (ℕ × ℕ))
    → AreSameButLent pools (pools_after_end pools freed)
same_after_end pools None = record {
  each = refl;
  same = λ p below. record { lent = omega arith; limit = refl; refusals = refl; waits = refl };
}
same_after_end pools (Some freed) =
    let back = figures_after_return (figures_at pools freed.0) freed.1 in
    record {
      each = length-set pools freed.0 back;
      same = λ p below. by_place p freed.0
          (IsSameButLent (figures_at pools p) (figures_at (pools_after_end pools (Some freed)) p))
          (λ here. subst (λ (f : Figures). IsSameButLent (figures_at pools p) f)
          (sym (figures_here pools freed.0 back p here (omega (arith, here, below))))
          (subst (λ (q : ℕ). IsSameButLent (figures_at pools p)
          (figures_after_return (figures_at pools q) freed.1)) here
          (record { lent = omega arith; limit = refl; refusals = refl; waits = refl })))
          (λ differ. subst (λ (f : Figures). IsSameButLent (figures_at pools p) f)
          (sym (figures_elsewhere pools freed.0 back p differ))
          (record { lent = omega arith; limit = refl; refusals = refl; waits = refl }));
    }

pub same_through : (a b c : List Figures) → AreSameButLent a b
    → AreSameButLent b c → AreSameButLent a c
same_through a b c f g = record {
  each = g.each ∙ f.each;
  same = λ p below.
      let x = f.same p below in
      let y = g.same p (omega (arith, below, f.each)) in
      record {
        lent = omega (arith, x.lent, y.lent);
        limit = y.limit ∙ x.limit;
        refusals = y.refusals ∙ x.refusals;
        waits = y.waits ∙ x.waits;
      };
}

pub same_after_change : (now : ℕ) (who : Option (List ℕ)) (change : Change) (z : Tables)
    → AreSameButLent z.pools (after_change now who change z).pools
same_after_change now who Nothing z = same_after_end z.pools None
same_after_change now who (Endpoint change) z = same_after_end z.pools None
same_after_change now who (Calls (Opening key pool told)) z = same_after_end z.pools None
same_after_change now who (Calls (Joining key told)) z = same_after_end z.pools None
same_after_change now who (Calls (Lowering key units pool back)) z =
    same_after_end z.pools (Some (pool, back))
same_after_change now who (Calls (Leaving key)) z =
    same_after_end z.pools (freed_by_leave z.calls key (unwrap_or who []))

-- so they counted nothing more
pub counts_same : (old new : List Figures) → AreSameButLent old new → CountsOneMore old new
counts_same old new same most h k d below =
    let here : k < length old = omega (arith, below, same.each) in
    let f = h k (opening_account 0).figures here in
    let s = same.same k here in
    subst (λ (g : Figures). HasCounts (most + 1) g)
    (get_or_default new k (opening_account 0).figures d below)
    (record {
      refusals = omega (arith, s.refusals, f.refusals);
      waits = omega (arith, s.waits, f.waits);
    })
