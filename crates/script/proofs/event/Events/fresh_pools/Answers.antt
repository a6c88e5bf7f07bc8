use Rattle.std.proofs.Common.{rules, ◌∙◌, ◌++◌, ◌∷◌, [], List, ◌<◌, length, ap, sym}
use Rattle.std.proofs.Common.{Vec, Global}
use Rattle.pools.specs.declared.pool_spec.PoolSpec.{PoolSpec}
use Rattle.script.proofs.Offers.{pool_named, no_pool_named}
use Rattle.script.proofs.event.Events.fresh_pools.Goals as goal

pub loop-event-preserved : goal.loop-event-preserved
loop-event-preserved c =
    let i = c.loop-event.event-index in
    let events = c.deref-event-items.result.now in
    let event = c.event-item.result in
    let below : i < length events = search rules in
    elim c.match-fresh_pool.branch [
      | goal.in-Some+in_ok-map_err w ↦
          ap (λ (specs : Vec PoolSpec Global). specs.items) w.specs-is
          ∙ search (rules, w.push.ensures.items)
          ∙ ap (λ (specs : List PoolSpec). specs ++ w.in-Some.spec ∷ []) c.loop-event.invariant
          ∙ sym (pool_named events i event w.in-Some.spec below c.event-item.is
          (sym c.fresh_pool.ensures ∙ w.in-Some.is))
      | goal.in_default w ↦
          ap (λ (specs : Vec PoolSpec Global). specs.items) w.specs-is
          ∙ c.loop-event.invariant
          ∙ sym (no_pool_named events i event below c.event-item.is
          (sym c.fresh_pool.ensures ∙ w.in_default.is))
    ]
