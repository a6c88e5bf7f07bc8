-- The served aliases of a list, kept in a loop.
use Rattle.std.proofs.Common.{◌≡◌, List, [], ◌∷◌, ◌++◌, Option, Some, None, sym, ◌∙◌, append_assoc}
use Rattle.std.proofs.Common.{append-nil}
use Rattle.ras_module.specs.declared.alias.Alias.{Alias}
use Rattle.ras_grammar.specs.Aliases.{served_in, keeping}
use Rattle.ras_reading.proofs.Each.{fold_list}

fold_list-keeping_to : (front : List Alias) (xs : List (Option Alias))
    → fold_list keeping front xs ≡ front ++ served_in xs
fold_list-keeping_to front [] = sym (append-nil front)
fold_list-keeping_to front (None ∷ xs) = fold_list-keeping_to front xs
fold_list-keeping_to front (Some alias ∷ xs) = fold_list-keeping_to (front ++ alias ∷ []) xs
    ∙ append_assoc front (alias ∷ []) (served_in xs)

pub fold_list-keeping : (xs : List (Option Alias)) → fold_list keeping [] xs ≡ served_in xs
fold_list-keeping xs = fold_list-keeping_to [] xs
