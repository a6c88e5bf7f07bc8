-- The first address of a list, found in a loop.
use Rattle.std.proofs.Common.{◌≡◌, List, [], ◌∷◌, Some, None, refl}
use Rattle.std.specs.Option.{option_or}
use Rattle.ras_module.specs.declared.address.Address.{Address}
use Rattle.ras_grammar.specs.Addresses.{first_of}
use Rattle.std.proofs.Common.{Option}
use Rattle.ras_reading.proofs.Each.{fold_list}

fold_list-option_or-some : (a : Address) (xs : List (Option Address)) → fold_list option_or
    (Some a) xs ≡ Some a
fold_list-option_or-some a [] = refl
fold_list-option_or-some a (x ∷ xs) = fold_list-option_or-some a xs

pub fold_list-option_or : (xs : List (Option Address)) → fold_list option_or None xs ≡ first_of xs
fold_list-option_or [] = refl
fold_list-option_or (Some a ∷ xs) = fold_list-option_or-some a xs
fold_list-option_or (None ∷ xs) = fold_list-option_or xs
