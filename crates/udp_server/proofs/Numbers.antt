-- What comes back of orders, and which pools they name.
use Rattle.std.proofs.Common.{◌≡◌, ◌∙◌, ◌++◌, ◌∷◌, [], List, ℕ, ap, length, refl, sym}
use Rattle.std.proofs.lemmas.List.{append-nil, append_assoc, map-append, nil_from_length}
use Rattle.std.proofs.lemmas.List.{reverse-append, reverse-reverse}
use Rattle.std.specs.Prelude.{Bool, map, reverse}
use Rattle.udp_server.specs.declared.orders.PoolOrder.{PoolOrder}
use Rattle.udp_server.specs.Orders.{all_back, numbers_back, numbers_of, numbers_ordered, untried}

numbers_untried : {P : Type 0} (orders : List (PoolOrder P))
    → numbers_back (map untried orders) ≡ numbers_ordered orders
numbers_untried [] = refl
numbers_untried (order ∷ rest) = ap (λ (l : List ℕ). order.pool ∷ l) (numbers_untried rest)

-- none was tried yet of orders that wait in the other order
pub none_tried : {P : Type 0} (orders waiting : List (PoolOrder P)) (boxes : List (ℕ × P × Bool))
    → waiting ≡ reverse orders → boxes ≡ [] → numbers_of waiting boxes ≡ numbers_ordered orders
none_tried {P} orders waiting boxes turned none =
    ap (λ (l : List (ℕ × P × Bool)). numbers_of waiting l) none
    ∙ ap (λ (l : List (PoolOrder P)). numbers_of l []) turned
    ∙ ap (λ (l : List (PoolOrder P)). numbers_back (map untried l)) (reverse-reverse orders)
    ∙ numbers_untried orders

-- the next order waits no more, and a pool came back beside its number
pub one_back : {P : Type 0} (old new : List (PoolOrder P)) (order : PoolOrder P)
    (before after : List (ℕ × P × Bool)) (back : P) (is_old : Bool) → old ≡ new ++ order ∷ []
    → after ≡ before ++ (order.pool, back, is_old) ∷ []
    → numbers_of new after ≡ numbers_of old before
one_back {P} old new order before after back is_old taken kept =
    let rest : List (ℕ × P × Bool) = map untried (reverse new) in
    ap (λ (l : List (ℕ × P × Bool)). numbers_of new l) kept
    ∙ ap (λ (l : List (ℕ × P × Bool)). numbers_back l)
    (append_assoc before ((order.pool, back, is_old) ∷ []) rest)
    ∙ map-append (λ (box : ℕ × P × Bool). box.0) before ((order.pool, back, is_old) ∷ rest)
    ∙ sym (map-append (λ (box : ℕ × P × Bool). box.0) before (untried order ∷ rest))
    ∙ ap (λ (l : List (PoolOrder P)). numbers_back (before ++ map untried l))
    (sym (reverse-append new (order ∷ [])))
    ∙ ap (λ (l : List (PoolOrder P)). numbers_of l before) (sym taken)

-- the next order isn't tried, and its fresh pool came back
pub one_untried : {P : Type 0} (old new : List (PoolOrder P)) (order : PoolOrder P)
    (before after : List (ℕ × P × Bool)) → old ≡ new ++ order ∷ []
    → after ≡ before ++ untried order ∷ [] → all_back new after ≡ all_back old before
one_untried {P} old new order before after taken kept =
    ap (λ (l : List (ℕ × P × Bool)). all_back new l) kept
    ∙ append_assoc before (untried order ∷ []) (map untried (reverse new))
    ∙ ap (λ (l : List (PoolOrder P)). before ++ map untried l)
    (sym (reverse-append new (order ∷ [])))
    ∙ ap (λ (l : List (PoolOrder P)). all_back l before) (sym taken)

-- once none waits, all came back
pub none_waits : {P : Type 0} (waiting : List (PoolOrder P)) (boxes : List (ℕ × P × Bool))
    → length waiting ≡ 0 → boxes ≡ all_back waiting boxes
none_waits {P} waiting boxes none =
    sym (ap (λ (l : List (PoolOrder P)). all_back l boxes) (nil_from_length waiting none)
    ∙ append-nil boxes)
