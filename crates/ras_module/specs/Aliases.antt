-- Aliases, compared and in order.
use Rattle.std.specs.Prelude.{ℕ, List, [], ◌∷◌, Bool, false, not, nat_eq, filter}
use Rattle.std.specs.List.{list_any}
use Rattle.std.specs.declared.cmp.Ordering.{Ordering}
use Rattle.std.specs.Ordering.{nat_cmp, ordering_then}
use Rattle.std.specs.Cmp.Lexicographic.{pointwise, slice_cmp}
use Rattle.std.specs.Hash as fed
use Rattle.std.specs.Hash.{HashWrites}
use Rattle.ras_module.specs.declared.alias.Alias.{Alias}
use Rattle.ras_module.specs.declared.alias.Alias.TheVariants.{Digits, H323Id}

-- aliases are compared by their characters, and by their kind
abbrev pub same_alias : Alias → Alias → Bool
same_alias (Digits a) (Digits b) = pointwise nat_eq a b
same_alias (H323Id a) (H323Id b) = pointwise nat_eq a b
same_alias (Digits a) (H323Id b) = false
same_alias (H323Id a) (Digits b) = false

abbrev pub has_alias : List Alias → Alias → Bool
has_alias aliases alias = list_any (λ a. same_alias a alias) aliases

-- later doubles are dropped: the first alias, and then the rest without those equal to it
abbrev pub without_doubles : List Alias → List Alias
without_doubles [] = []
without_doubles (alias ∷ aliases) =
    alias ∷ filter (λ a. not (same_alias alias a)) (without_doubles aliases)

abbrev pub kind_of : Alias → ℕ
kind_of (Digits a) = 0
kind_of (H323Id a) = 1

abbrev pub characters_of : Alias → List ℕ
characters_of (Digits a) = a
characters_of (H323Id a) = a

-- an order in which aliases are keys of a finite map: digits first, then character by character
abbrev pub alias_cmp : Alias → Alias → Ordering
alias_cmp a b =
    ordering_then (nat_cmp (kind_of a) (kind_of b))
    (slice_cmp nat_cmp (characters_of a) (characters_of b))

-- what a hasher is fed of an alias
abbrev pub fed_alias : Alias → HashWrites
fed_alias alias = fed.slice fed.u16 (characters_of alias)
