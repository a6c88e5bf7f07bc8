-- What holds of the tables of a zone, by what holds of their parts.
use Rattle.std.proofs.Common.{◌≡◌, ◌≤◌, ◌<◌, ◌^◌, ℕ, subst, sym}
use Rattle.std.specs.Prelude.{Err, Ok, OnErr, OnOk, Result}
use Rattle.std.specs.FinMap as map
use Rattle.admission.specs.Calls.{EachCall, in_use}
use Rattle.zone_config.specs.declared.config.ConfigParts.{ConfigParts}
use Rattle.zone_tables.specs.Parts.{AreSoundParts, Roster, Usage}
use Rattle.zone_tables.specs.Soundness.{SoundTables}

pub SoundTables-parts : (config : ConfigParts) (roster : Roster) (u : Usage)
    → AreSoundParts config roster u → SoundTables (record {
      config = config;
      live = roster.roll.live;
      calls = u.calls;
      pools = u.pools;
    })
SoundTables-parts config roster u sound =
    let roll = roster.roll in
    let parts = sound.parts in
    let backed = sound.calls.backed in
    record {
      settings = sound.settings;
      endpoints = sound.endpoints.consistent;
      aliases = sound.endpoints.aliases;
      few_endpoints =
          subst (λ (most : ℕ). map.len roll.live ≤ most) parts.endpoints sound.endpoints.few;
      calls = sound.calls.each;
      few_calls = subst (λ (most : ℕ). map.len u.calls ≤ most) parts.calls sound.calls.few;
      legs = parts.legs;
      call_limit = subst (λ (most : ℕ). EachCall (λ call. call.units ≤ most) u.calls)
          parts.call_limit backed.call_limit;
      call_pools = backed.pools;
      lent = backed.lent;
      pool_limits = sound.calls.within;
      limit = subst (λ (most : ℕ). in_use u.calls ≤ most) parts.limit backed.limit;
      pools = parts.pools;
    }

-- the bandwidth of a call fits into a BandWidth
pub small_call_limit : (config : ConfigParts) (roster : Roster) (u : Usage)
    → AreSoundParts config roster u → config.call_limit < 2 ^ 32
small_call_limit config roster u sound =
    subst (λ (most : ℕ). most < 2 ^ 32) sound.parts.call_limit sound.calls.backed.small

-- what holds before a change and after it holds whether the change was made or not
pub either_way : {A F S : Type 0} (P : S → Type 0) (result : Result A F) (old new : S)
    → OnOk result (P new) → OnErr result (new ≡ old) → P old → P new
either_way P (Ok done) old new ok err was = ok
either_way P (Err fault) old new ok err was = subst P (sym err) was
