-- If there are more numbers than texts, one of the numbers is not among the texts.
use Rattle.std.proofs.Common.{◌≡◌, ◌≢◌, ℕ, zero, suc, ◌+◌, ◌<◌, ◌≤◌, ◌==◌, Bool, true, false, not}
use Rattle.std.proofs.Common.{◌||◌, List, [], ◌∷◌, ◌++◌, length, map, nat_eq, refl, ◌∙◌, ap, subst}
use Rattle.std.proofs.Common.{arith, sym}
use Rattle.std.specs.Prelude.{filter, Contains, ◌-◌, nat_lt, if◌then◌else◌}
use Rattle.std.specs.List.{list_any}
use Rattle.std.specs.Cmp.Lexicographic.{pointwise}
use Rattle.std.proofs.lemmas.Bool.Decides.{nat_tests, Decides-eqb}
use Rattle.std.proofs.lemmas.Bool.{or_parts}
use Rattle.std.proofs.lemmas.List.{length-map, length-append}
use Rattle.std.proofs.Math.Bool.{or_assoc}
use Rattle.keyed.proofs.Decide.{any_decides}
use Rattle.ras_module.specs.Same.{texts_decide}
use Rattle.registrations.specs.declared.registration.Registration.{Registration}
use Rattle.registrations.specs.Numbers.{number_of, next_number}
use Rattle.registrations.specs.Registry.{identifier_of, IsUnused, live_of}
use Rattle.registrations.proofs.Rows.{none_named}
use Rattle.ras_module.specs.Texts.{IsText}

abbrev pub has_number : List ℕ → ℕ → Bool
has_number ns n = list_any (λ m. m == n) ns

abbrev without : ℕ → List ℕ → List ℕ
without n ns = filter (λ m. not (m == n)) ns

length-without : (n : ℕ) (ns : List ℕ) → length (without n ns) ≤ length ns
length-without n [] = omega arith
length-without n (m ∷ ns) = grind (arith, nat_tests, length-without n ns)

length-without_one : (n : ℕ) (ns : List ℕ) → has_number ns n ≡ true
    → length (without n ns) < length ns
length-without_one n [] has = absurd (cc has)
length-without_one n (m ∷ ns) has = grind
    (arith, nat_tests, length-without_one n ns, length-without n ns)

has-without : (n k : ℕ) (ns : List ℕ) → k ≢ n → has_number ns k ≡ true
    → has_number (without n ns) k ≡ true
has-without n k [] differ has = has
has-without n k (m ∷ ns) differ has = grind (arith, nat_tests, has-without n k ns)

-- a list that has n different numbers has at least n members
covers : (f : ℕ → ℕ) (n : ℕ) (ns : List ℕ)
    → ((i j : ℕ) → i < n → j < n → f i ≡ f j → i ≡ j)
    → ((k : ℕ) → k < n → has_number ns (f k) ≡ true) → n ≤ length ns
covers f zero ns apart each = omega arith
covers f (suc n) ns apart each =
    let here : has_number ns (f n) ≡ true = each n (omega arith) in
    let fewer = length-without_one (f n) ns here in
    let rest = covers f n (without (f n) ns)
    (λ i j p q e. apart i j (omega arith) (omega arith) e)
    (λ k below. has-without (f n) (f k) ns
    (λ e. (let same : k ≡ n = apart k n (omega arith) (omega arith) e in omega (arith, same)))
    (each k (omega arith))) in
    omega (arith, fewer, rest)

either : (a b c d : Bool) → (a ≡ true → c ≡ true) → (b ≡ true → d ≡ true) → (a || b) ≡ true
    → (c || d) ≡ true
either true b c d first rest h = ap (λ x. x || d) (first refl)
either false b true d first rest h = refl
either false b false d first rest h = rest h

abbrev pub has_id : List (List ℕ) → List ℕ → Bool
has_id ids id = list_any (λ i. pointwise nat_eq i id) ids

has_its_number : (ids : List (List ℕ)) (id : List ℕ) → has_id ids id ≡ true
    → has_number (map number_of ids) (number_of id) ≡ true
has_its_number [] id has = has
has_its_number (i ∷ ids) id has =
    either (pointwise nat_eq i id) (has_id ids id) (number_of i == number_of id) _
    (λ same. (Decides-eqb (number_of i) (number_of id)).1
    (ap number_of ((texts_decide i id).0 same)))
    (has_its_number ids id) has

-- all identifiers that may not be handed out
abbrev pub used : List Registration → List (List ℕ) → List (List ℕ)
used rows taken = map identifier_of rows ++ taken

used_any : (rows : List Registration) (taken : List (List ℕ)) (id : List ℕ)
    → has_id (used rows taken) id
    ≡ (list_any (λ r. pointwise nat_eq r.identifier id) rows || has_id taken id)
used_any [] taken id = refl
used_any (r ∷ rows) taken id =
    ap (λ b. pointwise nat_eq r.identifier id || b) (used_any rows taken id)
    ∙ sym (or_assoc (pointwise nat_eq r.identifier id)
    (list_any (λ (i : Registration). pointwise nat_eq i.identifier id) rows) (has_id taken id))

-- a number whose text is used is among their numbers
number_used : (rows : List Registration) (taken : List (List ℕ)) (id : List ℕ) (n : ℕ)
    → number_of id ≡ n
    → (list_any (λ r. pointwise nat_eq r.identifier id) rows || has_id taken id) ≡ true
    → has_number (map number_of (used rows taken)) n ≡ true
number_used rows taken id n is has =
    subst (λ (m : ℕ). has_number (map number_of (used rows taken)) m ≡ true) is
    (has_its_number (used rows taken) id (used_any rows taken id ∙ has))

-- the k-th number that is tried, if the search begins here: after the last of 64 bits comes 1
abbrev pub number_at : ℕ → ℕ → ℕ
number_at start k =
    if nat_lt (start + k) 18446744073709551616 then start + k
    else start + k - 18446744073709551615

pub next_tried : (start k : ℕ) → start < 18446744073709551616 → k < 18446744073709551615
    → next_number (number_at start k) ≡ number_at start (k + 1)
next_tried start k few below = grind (arith, nat_tests)

tried_apart : (start i j : ℕ) → i < 18446744073709551615 → j < 18446744073709551615
    → number_at start i ≡ number_at start j → i ≡ j
tried_apart start i j p q e = grind (arith, nat_tests)

-- if there is one number more than there are texts, not all of them are used
pub not_all : (rows : List Registration) (taken : List (List ℕ)) (start : ℕ)
    → length rows + length taken + 1 < 18446744073709551615
    → ((k : ℕ) → k < length rows + length taken + 1
    → has_number (map number_of (used rows taken)) (number_at start k) ≡ true)
    → ⊥
not_all rows taken start few each =
    let most = covers (number_at start) (length rows + length taken + 1)
    (map number_of (used rows taken))
    (λ i j p q e. tried_apart start i j (omega (arith, few, p)) (omega (arith, few, q)) e) each in
    omega (
      arith,
      most,
      length-map (used rows taken) number_of,
      length-append (map identifier_of rows) taken,
      length-map rows identifier_of,
    )

-- what the test doesn't find is not in the list
not_among : (ids : List (List ℕ)) (id : List ℕ) → has_id ids id ≡ false → Contains ids id → ⊥
not_among ids id e h = cc (e, (any_decides (pointwise nat_eq) texts_decide ids id).1 h)

-- a number whose text may not be handed out is in use
pub number_tried : (rows : List Registration) (taken : List (List ℕ)) (id : List ℕ) (n : ℕ)
    → number_of id ≡ n → IsText 128 id → (IsUnused (live_of rows) taken id → ⊥)
    → has_number (map number_of (used rows taken)) n ≡ true
number_tried rows taken id n is text not_unused =
    cases (list_any (λ r. pointwise nat_eq r.identifier id) rows || has_id taken id) refl where
      cases : (b : Bool)
          → (list_any (λ (r : Registration). pointwise nat_eq r.identifier id) rows
          || has_id taken id) ≡ b
          → has_number (map number_of (used rows taken)) n ≡ true
      cases true has = number_used rows taken id n is has
      cases false none =
          let parts = or_parts _ _ none in
          absurd (not_unused (record {
            not_live = none_named rows id parts.0;
            not_taken = not_among taken id parts.1;
            text = text;
          }))
