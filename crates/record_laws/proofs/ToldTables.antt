-- Tables whose registrations can be told, through each change of them.
use Rattle.std.proofs.Common.{◌≡◌, ℕ, List, sym, ◌∙◌, subst, Some, inl, inr}
use Rattle.std.specs.Cmp.Lexicographic.{slice_cmp}
use Rattle.std.specs.Ordering.{nat_cmp}
use Rattle.std.specs.FinMap as fin
use Rattle.std.proofs.lemmas.Cmp.{nat_list_cmp_total}
use Rattle.std.proofs.lemmas.Map.Lookups.{exact_bytes}
use Rattle.keyed.specs.Maps.{update}
use Rattle.keyed.proofs.Decide.{some_none}
use Rattle.registrations.specs.declared.registration.Registration.{Registration}
use Rattle.registrations.specs.Registry.{Live, after_ask, after_calm, after_hear}
use Rattle.registrations.proofs.Consistent.{was_there}
use Rattle.ras_writing.specs.Properties.{AreAliases, IsAddress, IsName}
use Rattle.pools.specs.declared.interface.Figures.{Figures}
use Rattle.zone_config.specs.declared.config.ConfigParts.{ConfigParts}
use Rattle.zone_tables.specs.Disengaging.{without_endpoint, without_legs_of, without_silent}
use Rattle.zone_tables.specs.Tables.{Tables, empty_tables, heard_now, with_live}
use Rattle.zone_tables.proofs.Departing.{settings_stay}
use Rattle.sound_steps.proofs.Lookups.{was_left, was_or_put}

-- a registration with what its types keep, of which an endpoint is told
pub record IsTellable (r : Registration) : Type 0 where
  pub located : IsAddress r.call_signal
  pub named : AreAliases r.aliases
  pub identified : IsName r.identifier

abbrev pub AreTellable : Live → Type 0
AreTellable live = (id : List ℕ) (r : Registration) → fin.get live id ≡ Some r → IsTellable r

-- the same of tables, with the gatekeeper's name
pub record HasTellable (z : Tables) : Type 0 where
  pub answered : IsName z.config.identifier
  pub each : AreTellable z.live

module _ (live : Live) (each : AreTellable live) where
  -- one changes, and can be told then
  pub tellable_changed : (id : List ℕ) (f : Registration → Registration)
      → ((r : Registration) → IsTellable r → IsTellable (f r)) → AreTellable (update live id f)
  tellable_changed id f keeps i s there =
      let was = was_there live id f i s there in
      let old = each i was.0 was.1.there in
      elim was.1.is [
        | inl same ↦ subst IsTellable (sym same) old
        | inr changed ↦ subst IsTellable (sym changed.1) (keeps was.0 old)
      ]

  -- one comes
  pub tellable_came : (id : List ℕ) (r : Registration) → IsTellable r
      → AreTellable (fin.insert live id r)
  tellable_came id r fits i s there =
      was_or_put nat_list_cmp_total exact_bytes live id r i s (IsTellable s) there
      (λ here same. subst IsTellable same fits) (λ was. each i s was)

  -- one goes
  pub tellable_went : (id : List ℕ) → AreTellable (fin.remove live id)
  tellable_went id i s there =
      each i s (was_left nat_list_cmp_total exact_bytes live id i s there)

-- the endpoint is told the same of it, whatever else changes
abbrev pub KeepsTold : (Registration → Registration) → Type 0
KeepsTold f = (r : Registration) → IsTellable r → IsTellable (f r)

-- other parts change that are never told
hear_keeps : (now : ℕ) → KeepsTold (after_hear now)
hear_keeps now r h =
    record { located = h.located; named = h.named; identified = h.identified }

ask_keeps : (now : ℕ) → KeepsTold (after_ask now)
ask_keeps now r h =
    record { located = h.located; named = h.named; identified = h.identified }

calm_keeps : KeepsTold after_calm
calm_keeps r h = record { located = h.located; named = h.named; identified = h.identified }

module _ (z : Tables) (has : HasTellable z) where
  -- these are registered instead
  pub tables_with : (live : Live) → AreTellable live → HasTellable (with_live z live)
  tables_with live each = record { answered = has.answered; each = each }

  pub tables_changed : (id : List ℕ) (f : Registration → Registration) → KeepsTold f
      → HasTellable (with_live z (update z.live id f))
  tables_changed id f keeps =
      tables_with (update z.live id f) (tellable_changed z.live has.each id f keeps)

  -- an endpoint was heard
  pub tables_heard : (now : ℕ) (id : List ℕ) → HasTellable (with_live z (heard_now now id z.live))
  tables_heard now id = tables_changed id (after_hear now) (hear_keeps now)

  -- it was asked for a sign of life
  pub tables_asked : (now : ℕ) (id : List ℕ)
      → HasTellable (with_live z (update z.live id (after_ask now)))
  tables_asked now id = tables_changed id (after_ask now) (ask_keeps now)

  pub tables_removed : (id : List ℕ) → HasTellable (with_live z (fin.remove z.live id))
  tables_removed id = tables_with (fin.remove z.live id) (tellable_went z.live has.each id)

  module _ (id : List ℕ) where
    -- it left its calls, and the settings stayed
    left_with : (live : Live) → AreTellable live
        → HasTellable (with_live (without_legs_of z id) live)
    left_with live each = record {
      answered = subst (λ (config : ConfigParts). IsName config.identifier)
          (sym (settings_stay z id)) has.answered;
      each = each;
    }

    pub tables_without_endpoint : HasTellable (without_endpoint z id)
    tables_without_endpoint =
        left_with (fin.remove z.live id) (tellable_went z.live has.each id)

    pub tables_without_silent : HasTellable (without_silent z id)
    tables_without_silent =
        left_with (update z.live id after_calm)
        (tellable_changed z.live has.each id after_calm calm_keeps)

-- in a zone in which nobody is registered yet
pub tables_opening : (config : ConfigParts) (pools : List Figures) → IsName config.identifier
    → HasTellable (empty_tables config pools)
tables_opening config pools name = record {
  answered = name;
  each = λ id r there. some_none (sym there ∙ fin.get-empty (slice_cmp nat_cmp) id);
}
