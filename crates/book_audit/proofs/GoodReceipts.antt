-- Receipts, one after the other.
use Rattle.std.proofs.Common.{◌≡◌, ◌<◌, ◌≤◌, ◌+◌, ◌==◌, ◌&&◌, ◌∙◌, ℕ, Bool, true, false}
use Rattle.std.proofs.Common.{List, length, take}
use Rattle.std.proofs.Common.{get_or, refl, sym, ap, subst, arith, Some, nat_le}
use Rattle.std.specs.Prelude.{All, ◌≢◌, slice_get}
use Rattle.std.specs.List.{list_any}
use Rattle.std.proofs.lemmas.Bool.{and_parts}
use Rattle.std.proofs.lemmas.Bool.Decides.{Decides-eqb, nat_tests, not_from_Decides}
use Rattle.std.proofs.lemmas.List.Folds.{Any-from_list_any, list_any_at}
use Rattle.std.proofs.lemmas.Option.{slice_get-get_or}
use Rattle.books.specs.declared.book.Entry.{Entry}
use Rattle.books.specs.declared.book.Receipt.{Receipt}
use Rattle.book_audit.specs.Receipts.{AreGoodBelow, IsGood, IsOvertaken, IsTaken}

pub good_more : (entries : List Entry) (receipts : List Receipt) (i : ℕ) (x : Receipt)
    → i < length receipts → x ≡ get_or receipts i x → AreGoodBelow entries receipts i
    → IsGood entries (take i receipts) x → AreGoodBelow entries receipts (i + 1)
good_more entries receipts i x below is before good k r small at = by_place (k == i) refl where
  here : slice_get receipts i ≡ Some x
  here = slice_get-get_or receipts i x below ∙ ap Some (sym is)

  by_place : (b : Bool) → (k == i) ≡ b → IsGood entries (take k receipts) r
  by_place true same =
      let place : k ≡ i = (Decides-eqb k i).0 same in
      let found : Some r ≡ Some x = sym at ∙ (ap (slice_get receipts) place ∙ here) in
      let value : r ≡ x = cc found in
      subst (λ (n : ℕ). IsGood entries (take n receipts) r) (sym place)
      (subst (IsGood entries (take i receipts)) (sym value) good)
  by_place false other =
      let differ = not_from_Decides (k == i) (Decides-eqb k i) other in
      before k r (omega (arith, differ)) at

at_most : (n most : ℕ) → nat_le n most ≡ true → n ≤ most
at_most n most is = grind (arith, nat_tests)

pub taken : (earlier : List Receipt) (place : ℕ)
    → list_any (λ (e : Receipt). e.place == place) earlier ≡ true → IsTaken earlier place
taken earlier place is =
    let any = Any-from_list_any (λ (e : Receipt). e.place == place) earlier is in
    (any.0, any.1, any.2, any.3, (Decides-eqb any.1.place place).0 any.4)

pub not_taken : (earlier : List Receipt) (place : ℕ)
    → list_any (λ (e : Receipt). e.place == place) earlier ≡ false
    → All (λ (e : Receipt). e.place ≢ place) earlier
not_taken earlier place is k d below same =
    let here = (Decides-eqb (get_or earlier k d).place place).1 same in
    let any = list_any_at (λ (e : Receipt). e.place == place) earlier k d below here in
    absurd (cc (sym is ∙ any))

pub overtaken : (earlier : List Receipt) (r : Receipt)
    → list_any (λ (e : Receipt). e.seat == r.seat && nat_le r.place e.place) earlier ≡ true
    → IsOvertaken earlier r
overtaken earlier r is =
    let any = Any-from_list_any (λ (e : Receipt). e.seat == r.seat && nat_le r.place e.place)
    earlier is in
    let tests = and_parts _ _ any.4 in (
      any.0,
      any.1,
      any.2,
      any.3,
      ((Decides-eqb any.1.seat r.seat).0 tests.0, at_most r.place any.1.place tests.1),
    )
