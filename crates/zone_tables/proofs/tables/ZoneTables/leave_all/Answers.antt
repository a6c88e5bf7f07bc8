use Rattle.std.proofs.Common.{◌≡◌, ◌∙◌, ap, subst, sym}
use Rattle.std.specs.Option.{unwrap_or}
use Rattle.std.specs.FinMap as fin
use Rattle.registrations.specs.Registry.{LegCounts}
use Rattle.zone_tables.specs.Tables.{Tables}
use Rattle.zone_tables.specs.Parts.{AreSoundParts, IsBacked, Roster, Usage, usage_of}
use Rattle.zone_tables.specs.Changes.{IsRegistered}
use Rattle.zone_tables.specs.Leaving.{HaveLeft, IsOther}
use Rattle.zone_tables.specs.Disengaging.{without_legs_of}
use Rattle.zone_tables.proofs.Counting.{count_or_none, counted_moved, no_legs_left}
use Rattle.zone_tables.proofs.Departing.{all_gone, legs_left}
use Rattle.zone_tables.proofs.Legs.{usage_is}
use Rattle.zone_tables.proofs.tables.ZoneTables.leave_all.Goals as goal

pub leave_all-requires : goal.leave_all-requires
leave_all-requires c =
    let i = c.self.inside in
    c.unwrap_or-legs.ensures ∙ (ap (λ w. unwrap_or w 0) (c.legs.ensures.legs
    ∙ ap (λ (n : LegCounts). fin.get n c.args.id.now) c.table.ensures.legs)
    ∙ count_or_none i.endpoints.roll.live i.bandwidth.usage.calls i.endpoints.legs
    c.self.invariant.counted c.self.invariant.parts.legs c.args.id.now)

pub invariant_of-self : goal.invariant_of-self
invariant_of-self c =
    let i = c.self.inside in
    let id = c.args.id.now in
    let parts = c.self.invariant.parts in
    let left = c.leave_all.ensures.left in
    let gone = legs_left id (λ leg. Unit {0}) (IsOther id) (λ leg other is. other)
    i.bandwidth.usage.calls c.leave_all.new.self.usage.calls left.calls
    (λ key call there k d below. tt) in
    subst (λ (e : Roster). AreSoundParts i.config e c.leave_all.new.self.usage)
    (sym c.no_legs.ensures) (record {
      settings = c.self.invariant.settings;
      endpoints = c.self.invariant.endpoints;
      calls = c.leave_all.ensures.sound;
      parts = record {
        endpoints = parts.endpoints;
        calls = left.most ∙ parts.calls;
        limit = left.limit ∙ parts.limit;
        call_limit = left.call_limit ∙ parts.call_limit;
        pools = left.pools.each ∙ parts.pools;
        legs = legs_left id (IsRegistered i.endpoints.roll.live)
            (IsRegistered i.endpoints.roll.live) (λ leg other is. is) i.bandwidth.usage.calls
            c.leave_all.new.self.usage.calls left.calls parts.legs;
      };
      counted = counted_moved i.endpoints.roll.live i.bandwidth.usage.calls i.endpoints.legs
          c.self.invariant.counted c.leave_all.new.self.usage.calls id (λ n. 0)
          (no_legs_left c.leave_all.new.self.usage.calls id gone) c.leave_all.ensures.others;
      times = c.self.invariant.times;
    })

pub returns-clause-tables : goal.returns-clause-tables
returns-clause-tables c =
    let i = c.self.inside in
    let z : Tables = record {
      config = i.config;
      live = i.endpoints.roll.live;
      calls = i.bandwidth.usage.calls;
      pools = i.bandwidth.usage.pools;
    } in
    let u_is : i.bandwidth.usage ≡ usage_of z =
    usage_is i.config i.endpoints.roll i.bandwidth.usage c.self.invariant.parts in
    subst (λ (m : Tables). record {
      config = i.config;
      live = c.no_legs.new.self.roll.live;
      calls = c.leave_all.new.self.usage.calls;
      pools = c.leave_all.new.self.usage.pools;
    }
    ≡ without_legs_of m c.args.id.now) c.self.view_is
    (ap (λ (e : Roster). record {
      config = i.config;
      live = e.roll.live;
      calls = c.leave_all.new.self.usage.calls;
      pools = c.leave_all.new.self.usage.pools;
    }) c.no_legs.ensures ∙
    (sym (all_gone c.args.id.now z c.leave_all.new.self.usage
    (subst IsBacked u_is c.self.invariant.calls.backed) c.leave_all.ensures.sound.backed
    (subst (λ (u : Usage). HaveLeft c.args.id.now u c.leave_all.new.self.usage) u_is
    c.leave_all.ensures.left))))

pub returns-clause-gone : goal.returns-clause-gone
returns-clause-gone c =
    legs_left c.args.id.now (λ leg. Unit {0}) (IsOther c.args.id.now) (λ leg other is. other)
    c.self.inside.bandwidth.usage.calls c.leave_all.new.self.usage.calls
    c.leave_all.ensures.left.calls
    (λ key call there k d below. tt)
