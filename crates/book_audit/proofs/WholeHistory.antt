-- As many good receipts as entries tell of each entry.
use Rattle.std.proofs.Common.{◌≡◌, ◌≢◌, ◌<◌, ◌≤◌, ◌==◌, ◌∙◌, ℕ, zero, suc, Bool, true, false, List}
use Rattle.std.proofs.Common.{◌∷◌, refl}
use Rattle.std.proofs.Common.{length, map, take, get_or, sym, ap, subst, arith, Some}
use Rattle.std.specs.Prelude.{Any, slice_get}
use Rattle.std.specs.List.{list_any}
use Rattle.std.specs.Option.{option_map}
use Rattle.std.proofs.lemmas.Bool.Decides.{Decides-eqb, nat_tests}
use Rattle.std.proofs.lemmas.List.{get_or-take, length-map, length-take-le}
use Rattle.std.proofs.lemmas.List.Folds.{Any-from_list_any, list_any_at}
use Rattle.std.proofs.lemmas.Map.Keys.{IsDistinct-from_apart}
use Rattle.std.proofs.lemmas.Map.Steps.{length-le_from_distinct_below}
use Rattle.std.proofs.lemmas.Option.{slice_get-get_or, slice_get-map, slice_get_within}
use Rattle.books.specs.declared.book.Entry.{Entry}
use Rattle.books.specs.declared.book.Receipt.{Receipt}
use Rattle.book_audit.specs.Receipts.{AreGoodBelow, AreTold, IsGood, receipt_entry}

abbrev is_number : ℕ → ℕ → Bool
is_number a b = a == b

abbrev place_of : Receipt → ℕ
place_of r = r.place

-- what stands at a place doesn't hang on what would stand past the end
get_or_any : (receipts : List Receipt) (k : ℕ) (d e : Receipt) → k < length receipts
    → get_or receipts k e ≡ get_or receipts k d
get_or_any receipts k d e below =
    let same : Some (get_or receipts k e) ≡ Some (get_or receipts k d) =
    sym (slice_get-get_or receipts k e below) ∙ slice_get-get_or receipts k d below in
    cc same

-- `any` is some receipt: it stands where there is none
module _ (entries : List Entry) (receipts : List Receipt) (any : Receipt)
    (good : AreGoodBelow entries receipts (length receipts)) where
  abbrev places : List ℕ
  places = map place_of receipts

  abbrev at : ℕ → Receipt
  at k = get_or receipts k any

  is_good : (k : ℕ) → k < length receipts → IsGood entries (take k receipts) (at k)
  is_good k below = good k (at k) below (slice_get-get_or receipts k any below)

  place_there : (k d : ℕ) → k < length receipts → get_or places k d ≡ (at k).place
  place_there k d below =
      let here : k < length places = omega (arith, below, length-map receipts place_of) in
      let found : Some (get_or places k d) ≡ Some (at k).place =
      sym (slice_get-get_or places k d here)
      ∙ (slice_get-map place_of receipts k
      ∙ ap (option_map place_of) (slice_get-get_or receipts k any below)) in
      cc found

  -- no two receipts have one place
  apart : (i j d : ℕ) → i < j → j < length places
      → is_number (get_or places i d) (get_or places j d) ≡ false
  apart i j d less below =
      let many = length-map receipts place_of in
      let j_below : j < length receipts = omega (arith, below, many) in
      let i_below : i < length receipts = omega (arith, less, j_below) in
      let j_most : j ≤ length receipts = omega (arith, j_below) in
      let i_taken : i < length (take j receipts) =
      omega (arith, less, length-take-le j receipts j_most) in
      let once : (get_or (take j receipts) i any).place ≢ (at j).place =
      (is_good j j_below).once i any i_taken in
      let differ : (at i).place ≢ (at j).place =
      subst (λ (r : Receipt). r.place ≢ (at j).place) (get_or-take j receipts i any less) once in
      let i_is = place_there i d i_below in
      let j_is = place_there j d j_below in
      grind (arith, nat_tests, differ, i_is, j_is)

  -- each stands in the history
  within : (k : ℕ) → k < length receipts → (at k).place < length entries
  within k below =
      slice_get_within entries (at k).place (receipt_entry (at k)) (is_good k below).entry

  -- a place of which no receipt tells: with it there is one place more
  module _ (i : ℕ) (below : i < length entries) (none : list_any (is_number i) places ≡ false)
    where
      other : (k d : ℕ) → k < length places → (b : Bool) → is_number i (get_or places k d) ≡ b
          → b ≡ false
      other k d here false is = refl
      other k d here true is =
          absurd (cc (none, list_any_at (is_number i) places k d here is))

      all_apart : (a b d : ℕ) → a < b → b < length (i ∷ places)
          → is_number (get_or (i ∷ places) a d) (get_or (i ∷ places) b d) ≡ false
      all_apart a zero d less here = absurd (omega (arith, less))
      all_apart zero (suc b) d less here =
          let test = is_number i (get_or places b d) in
          other b d (omega (arith, here)) test refl
      all_apart (suc a) (suc b) d less here =
          apart a b d (omega (arith, less)) (omega (arith, here))

      all_within : (k d : ℕ) → k < length (i ∷ places) → get_or (i ∷ places) k d < length entries
      all_within zero d here = below
      all_within (suc k) d here =
          let k_below : k < length receipts = omega (arith, here, length-map receipts place_of) in
          subst (λ (n : ℕ). n < length entries) (sym (place_there k d k_below)) (within k k_below)

      is_within : (q : ℕ) → list_any (is_number q) (i ∷ places) ≡ true → q < length entries
      is_within q is =
          let found = Any-from_list_any (is_number q) (i ∷ places) is in
          let same : q ≡ found.1 = (Decides-eqb q found.1).0 found.4 in
          subst (λ (n : ℕ). n < length entries) (sym (same ∙ sym found.3))
          (all_within found.0 found.1 found.2)

      fewer : suc (length receipts) ≤ length entries
      fewer =
          omega (
            arith,
            length-map receipts place_of,
            length-le_from_distinct_below (i ∷ places) (length entries)
                (IsDistinct-from_apart is_number (i ∷ places) all_apart) is_within,
          )

  told : (i : ℕ) (entry : Entry) → slice_get entries i ≡ Some entry
      → list_any (is_number i) places ≡ true
      → Any (λ r. (r.place ≡ i) × (receipt_entry r ≡ entry)) receipts
  told i entry there is =
      let found = Any-from_list_any (is_number i) places is in
      let k = found.0 in
      let below : k < length receipts =
      omega (arith, found.2, length-map receipts place_of) in
      let place : (at k).place ≡ i =
      sym (place_there k found.1 below) ∙ (found.3 ∙ sym ((Decides-eqb i found.1).0 found.4)) in
      let here = subst (λ (n : ℕ). slice_get entries n ≡ Some (receipt_entry (at k))) place
      (is_good k below).entry in
      let same : Some (receipt_entry (at k)) ≡ Some entry = sym here ∙ there in
      (k, at k, below, get_or_any receipts k any (at k) below, (place, cc same))

  pub whole_told : length receipts ≡ length entries → (i : ℕ) (entry : Entry)
      → slice_get entries i ≡ Some entry
      → Any (λ r. (r.place ≡ i) × (receipt_entry r ≡ entry)) receipts
  whole_told many i entry there = by_test (list_any (is_number i) places) refl where
    by_test : (b : Bool) → list_any (is_number i) places ≡ b
        → Any (λ r. (r.place ≡ i) × (receipt_entry r ≡ entry)) receipts
    by_test true is = told i entry there is
    by_test false is =
        absurd (omega (
          arith,
          many,
          fewer i (slice_get_within entries i entry there) is,
        ))

-- whatever stands for a receipt where there is none
pub are_told : (entries : List Entry) (receipts : List Receipt)
    → AreGoodBelow entries receipts (length receipts) → length receipts ≡ length entries
    → AreTold entries receipts
are_told entries receipts good many i entry there =
    let any : Receipt = record {
      seat = entry.seat;
      call = entry.call;
      place = i;
      event = entry.event;
      outcome = entry.outcome;
    } in
    whole_told entries receipts any good many i entry there
