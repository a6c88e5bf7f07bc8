-- The endpoint that is registered with an alias is the one that holds it in the table.
use Rattle.std.proofs.Common.{◌≡◌, ◌<◌, ◌+◌, ℕ, true, List, ◌∷◌, drop, length, get_or}
use Rattle.std.proofs.Common.{refl, sym, ◌∙◌, ap, Some, None}
use Rattle.std.specs.Prelude.{Option}
use Rattle.std.specs.Option.{option_map}
use Rattle.std.specs.FinMap as fin
use Rattle.std.proofs.lemmas.Bool.{false_from_ne_true}
use Rattle.std.proofs.lemmas.Cmp.{nat_list_cmp_total}
use Rattle.std.proofs.lemmas.Map.Lookups.{exact_bytes}
use Rattle.std.proofs.lemmas.List.{drop_more}
use Rattle.keyed.proofs.Decide.{any_decides, some_none, same_some}
use Rattle.keyed.proofs.Values.{find_one, find_none}
use Rattle.ras_module.specs.declared.address.Address.{Address}
use Rattle.ras_module.specs.declared.alias.Alias.{Alias}
use Rattle.ras_module.specs.Aliases.{same_alias, has_alias}
use Rattle.ras_module.specs.Same.{alias_decides}
use Rattle.aliases.specs.Held.{Held, Holding, holder_of}
use Rattle.registrations.specs.declared.registration.Registration.{Registration}
use Rattle.registrations.specs.Registry.{Live}
use Rattle.registrations.specs.Agreement.{Agree}
use Rattle.zone_tables.specs.Translation.{registered_with, translation, address_or}

module _ (live : Live) (held : Held) (agree : Agree live held) (alias : Alias) where
  -- each registration with the alias is its holder's
  is_held : (id : List ℕ) (r : Registration) → fin.get live id ≡ Some r
      → has_alias r.aliases alias ≡ true → holder_of held alias ≡ Some id
  is_held id r there has =
      ap (λ w. option_map (λ (h : Holding). h.holder) w)
      (agree.holds id r alias there ((any_decides same_alias alias_decides r.aliases alias).0 has))

  pub none_registered : holder_of held alias ≡ None → registered_with live alias ≡ None
  none_registered none =
      find_none nat_list_cmp_total exact_bytes (λ r. has_alias r.aliases alias) live
      (λ id r there. false_from_ne_true (has_alias r.aliases alias)
      (λ has. some_none (sym (is_held id r there has) ∙ none)))

  pub holder_registered : (id : List ℕ) → holder_of held alias ≡ Some id
      → registered_with live alias ≡ fin.get live id
  holder_registered id is = cases (fin.get held alias) refl where
    cases : (w : Option Holding) → fin.get held alias ≡ w
        → registered_with live alias ≡ fin.get live id
    cases None none = some_none (sym is ∙ ap (λ w. option_map (λ (h : Holding). h.holder) w) none)
    cases (Some h) there =
        let by = agree.held_by alias h there in
        let same : h.holder ≡ id =
        same_some h.holder id (sym (ap (λ w. option_map (λ (h : Holding). h.holder) w) there)
        ∙ is) in
        find_one nat_list_cmp_total exact_bytes
        (λ r. has_alias r.aliases alias) live h.holder by.0 by.1.live_is
        ((any_decides same_alias alias_decides (by.0).aliases alias).1 by.1.has)
        (λ q s s_there has. same_some s by.0 (sym s_there
        ∙ (ap (fin.get live)
        (same_some q h.holder (sym (is_held q s s_there has) ∙ (is ∙ ap Some (sym same))))
        ∙ by.1.live_is)))
        ∙ (sym by.1.live_is ∙ ap (fin.get live) same)

-- the translation of what is left of a list
module _ (live : Live) (aliases : List Alias) (other : Option Address) (i : ℕ) (alias : Alias)
    (below : i < length aliases) (is : alias ≡ get_or aliases i alias) where
  pub translation-next : translation live (drop i aliases) other
      ≡ address_or (translation live (drop (i + 1) aliases) other) (registered_with live alias)
  translation-next =
      ap (λ xs. translation live xs other)
      (drop_more aliases i alias below ∙ ap (λ x. x ∷ drop (i + 1) aliases) (sym is))
