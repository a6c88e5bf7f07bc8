-- A loop that reads a number of values, and folds them into one, reads as `each` does.
use Rattle.std.proofs.Common.{◌≡◌, ℕ, zero, suc, ◌+◌, ◌-◌, ◌<◌, List, [], ◌∷◌, ◌++◌, Bool, length}
use Rattle.std.proofs.Common.{take, set, arith, ◌∙◌, append_assoc, append-nil, Result, Ok, Err}
use Rattle.std.proofs.Common.{refl, sym, ap}
use Rattle.std.proofs.lemmas.List.{take_more_set}
use Rattle.per_bits.specs.Readings.{◌>>=◌}
use Rattle.ras_grammar.specs.declared.fault.ReadFault.{ReadFault}
use Rattle.ras_grammar.specs.Grammar.{Grammar, each}

abbrev pub folded : {A B : Type 0} → (B → A → B) → (List Bool → Result (A × List Bool) ReadFault)
    → ℕ → B → List Bool
    → Result (B × List Bool) ReadFault
folded f read zero y bits = Ok (y, bits)
folded f read (suc count) y bits = read bits >>= λ x. folded f read count (f y x.0) x.1

abbrev pub fold_list : {A B : Type 0} → (B → A → B) → B → List A → B
fold_list f y [] = y
fold_list f y (x ∷ xs) = fold_list f (f y x) xs

same_steps : {A B : Type 0} (r : Result A ReadFault) (k m : A → Result B ReadFault) → ((x : A)
    → k x ≡ m x) → (r >>= k) ≡ (r >>= m)
same_steps (Ok x) k m h = h x
same_steps (Err fault) k m h = refl

in_steps : {A B C : Type 0} (r : Result A ReadFault) (k : A → Result B ReadFault) (m : B
    → Result C ReadFault) → ((r >>= k) >>= m) ≡ (r >>= λ x. k x >>= m)
in_steps (Ok x) k m = refl
in_steps (Err fault) k m = refl

pub folded-each : {A B : Type 0} (f : B → A → B) (g : Grammar A) (count : ℕ) (y : B)
    (bits : List Bool)
    → folded f g.reading count y bits ≡ ((each count g).reading bits >>= λ xs. Ok
    (fold_list f y xs.0, xs.1))
folded-each f g zero y bits = refl
folded-each {A} {B} f g (suc count) y bits =
    same_steps (g.reading bits) (λ x. folded f g.reading count (f y x.0) x.1) (λ x.
    (each count g).reading x.1 >>= λ xs. Ok (fold_list f (f y x.0) xs.0, xs.1))
    (λ x. folded-each f g count (f y x.0) x.1)
    ∙ same_steps (g.reading bits) (λ x. (each count g).reading x.1 >>= λ xs. Ok (
      fold_list f
          (f y x.0) xs.0,
      xs.1,
    )) (λ x. ((each count g).reading x.1 >>= λ xs. Ok
    (x.0 ∷ xs.0, xs.1)) >>= λ ys. Ok (fold_list f y ys.0, ys.1))
    (λ x. sym (in_steps ((each count g).reading x.1) (λ xs. Ok (x.0 ∷ xs.0, xs.1)) (λ ys. Ok
    (fold_list f y ys.0, ys.1))))
    ∙ sym (in_steps (g.reading bits) (λ x. (each count g).reading x.1 >>= λ xs. Ok
    (x.0 ∷ xs.0, xs.1)) (λ ys. Ok (fold_list f y ys.0, ys.1)))

module _ {A B : Type 0} (f : B → A → B) (read : List Bool → Result (A × List Bool) ReadFault)
    (count i : ℕ) (y : B) (bits : List Bool) where
  pub folded-more : (x : A) (after : List Bool) → i < count → read bits ≡ Ok (x, after)
      → folded f read (count - (i + 1)) (f y x) after ≡ folded f read (count - i) y bits
  folded-more x after lt e =
      let more : count - i ≡ suc (count - (i + 1)) = omega arith in
      rw (more, e) refl

  pub folded-fault : (fault : ReadFault) → i < count → read bits ≡ Err fault → folded f read
      (count - i) y bits ≡ Err fault
  folded-fault fault lt e =
      let more : count - i ≡ suc (count - (i + 1)) = omega arith in
      rw (more, e) refl

  pub folded-done : i ≡ count → folded f read (count - i) y bits ≡ Ok (y, bits)
  folded-done e =
      let none : count - i ≡ 0 = omega arith in
      rw none refl

-- the folds that are used

abbrev pub dropping : {A : Type 0} → Unit {0} → A → Unit {0}
dropping y x = tt

pub fold_list-dropping : {A : Type 0} (xs : List A) → fold_list dropping tt xs ≡ tt
fold_list-dropping [] = refl
fold_list-dropping (x ∷ xs) = fold_list-dropping xs

abbrev pub adding : {A : Type 0} → List A → A → List A
adding front x = front ++ x ∷ []

fold_list-adding_to : {A : Type 0} (front xs : List A) → fold_list adding front xs ≡ front ++ xs
fold_list-adding_to front [] = sym (append-nil front)
fold_list-adding_to front (x ∷ xs) = fold_list-adding_to (front ++ x ∷ []) xs ∙ append_assoc front
    (x ∷ []) xs

pub fold_list-adding : {A : Type 0} (xs : List A) → fold_list adding [] xs ≡ xs
fold_list-adding xs = fold_list-adding_to [] xs

abbrev done : {A : Type 0} → A → Result A ReadFault
done x = Ok x

-- what is made of the values that were read
abbrev pub made : {A B : Type 0} → (A → B) → A × List Bool → Result (B × List Bool) ReadFault
made s xs = Ok (s xs.0, xs.1)

-- ---- what is given by a loop that has read i of the values so far

dropped_fault : {A B : Type 0} (r : Result A ReadFault) (k : A → B) (fault : ReadFault) →
    (r >>= λ x. Ok (k x)) ≡ Err fault → r ≡ Err fault
dropped_fault (Ok x) k fault e = absurd cc
dropped_fault (Err other) k fault e = cc

module _ {A B : Type 0} (f : B → A → B) (g : Grammar A) (count i : ℕ) (first y : B)
    (start bits : List Bool)
    (so_far : folded f g.reading (count - i) y bits ≡ folded f g.reading count first start) where
  pub each-fault : (fault : ReadFault) → i < count → g.reading bits ≡ Err fault →
      (each count g).reading start ≡ Err fault
  each-fault fault lt e =
      dropped_fault ((each count g).reading start) (λ xs. (fold_list f first xs.0, xs.1)) fault
      (sym (folded-each f g count first start) ∙ sym so_far
      ∙ folded-fault f g.reading count i y bits fault lt e)

  pub each-more : (x : A) (after : List Bool) → i < count → g.reading bits ≡ Ok (x, after)
      → folded f g.reading (count - (i + 1)) (f y x) after ≡ folded f g.reading count first start
  each-more x after lt e = folded-more f g.reading count i y bits x after lt e ∙ so_far

  pub each-done : i ≡ count → ((each count g).reading start >>= made (fold_list f first)) ≡ Ok
      (y, bits)
  each-done e = sym (folded-each f g count first start) ∙ sym so_far
      ∙ folded-done f g.reading count i y bits e

made_ok : {A B : Type 0} (r : Result (A × List Bool) ReadFault) (k m : A → B) (y : B × List Bool)
    → ((x : A) → k x ≡ m x)
    → (r >>= made k) ≡ Ok y → (r >>= made m) ≡ Ok y
made_ok {A} {B} (Ok x) k m y h e = ap (λ (z : B). done (z, x.1)) (sym (h x.0)) ∙ e
made_ok (Err other) k m y h e = absurd cc

whole_again : {A : Type 0} (r : Result (A × List Bool) ReadFault) (y : A × List Bool) →
    (r >>= made (λ x. x)) ≡ Ok y → r ≡ Ok y
whole_again (Ok x) y e = e
whole_again (Err other) y e = absurd cc

-- an array whose front has been filled
module _ {A : Type 0} (g : Grammar A) (count i : ℕ) (array : List A) (start bits : List Bool)
    (so_far : folded adding g.reading (count - i) (take i array) bits
    ≡ folded adding g.reading count [] start) where
  pub array-more : (x : A) (after : List Bool) → i < count → i < length array → g.reading bits
      ≡ Ok (x, after)
      → folded adding g.reading (count - (i + 1)) (take (i + 1) (set array i x)) after
      ≡ folded adding g.reading count [] start
  array-more x after lt within e = rw (take_more_set array i x within)
      (each-more adding g count i [] (take i array) start bits so_far x after lt e)

  pub array-done : i ≡ count → (each count g).reading start ≡ Ok (take count array, bits)
  array-done e =
      whole_again ((each count g).reading start) (take count array, bits)
      (made_ok ((each count g).reading start) (fold_list adding []) (λ xs. xs)
      (take count array, bits) fold_list-adding
      (each-done adding g count i [] (take i array) start bits so_far e ∙ ap (λ (n : ℕ). done
      (take n array, bits)) e))

-- values that are dropped
module _ {A : Type 0} (g : Grammar A) (count i : ℕ) (start bits : List Bool)
    (so_far : folded dropping g.reading (count - i) tt bits
    ≡ folded dropping g.reading count tt start) where
  pub dropped-fault : (fault : ReadFault) → i < count → g.reading bits ≡ Err fault →
      ((each count g).reading start >>= made (λ xs. tt {0})) ≡ Err fault
  dropped-fault fault lt e = rw (each-fault dropping g count i tt tt start bits so_far fault lt e)
      refl

  pub dropped-done : i ≡ count → ((each count g).reading start >>= made (λ xs. tt {0})) ≡ done
      (tt {0}, bits)
  dropped-done e =
      made_ok ((each count g).reading start) (fold_list dropping tt) (λ xs. tt {0})
      (tt {0}, bits) fold_list-dropping
      (each-done dropping g count i tt tt start bits so_far e)

-- values that are made into one
module _ {A B : Type 0} (f : B → A → B) (g : Grammar A) (count i : ℕ) (first y : B)
    (start bits : List Bool)
    (so_far : folded f g.reading (count - i) y bits ≡ folded f g.reading count first start)
    (s : List A → B) (is : (xs : List A) → fold_list f first xs ≡ s xs) where
  pub each-made : i ≡ count → ((each count g).reading start >>= made s) ≡ Ok (y, bits)
  each-made e = made_ok ((each count g).reading start) (fold_list f first) s (y, bits) is
      (each-done f g count i first y start bits so_far e)
