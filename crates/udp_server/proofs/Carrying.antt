-- Orders, tried one after the other.
use Rattle.std.proofs.Common.{◌≡◌, ◌+◌, ◌∷◌, [], List, ℕ, ap, arith}
use Rattle.std.proofs.Common.{◌∙◌, inl, inr, length, refl}
use Rattle.std.proofs.lemmas.List.{nil_from_length, length_push}
use Rattle.pools.specs.Account.{Account}
use Rattle.ras_machine.specs.State.{State}
use Rattle.udp_server.specs.declared.orders.PoolOrder.{PoolOrder}
use Rattle.udp_server.specs.Orders.{AreCarriedOut, AreOrdersTried, IsNextTried, IsNoneDue}
use Rattle.udp_server.specs.Orders.{Ordering}
use Rattle.udp_server.specs.Working.{IsTold}

-- this many orders were tried so far
pub record AreTried {P C : Type 0} (opened : State) (account : P → Account)
    (tells : C → ℕ → C → Type 0) (count : ℕ) (old new : Ordering P) : Type 0 where
  pub orders : List (PoolOrder P)
  pub tried : AreOrdersTried opened account tells orders old new
  pub left : length new.waiting + count ≡ length old.waiting

pub none_tried : {P C : Type 0} (opened : State) (account : P → Account)
    (tells : C → ℕ → C → Type 0) (old : Ordering P) → AreTried opened account tells 0 old old
none_tried opened account tells old = record {
  orders = [];
  tried = refl;
  left = omega arith;
}

pub one_tried : {P C : Type 0} (opened : State) (account : P → Account)
    (tells : C → ℕ → C → Type 0) (count : ℕ) (old mid new : Ordering P) (clock : C)
    → AreTried opened account tells count old mid
    → IsNextTried opened account (IsTold tells clock) mid new
    → AreTried opened account tells (count + 1) old new
one_tried opened account tells count old mid new clock so_far next = record {
  orders = next.0 ∷ so_far.orders;
  tried = (mid, clock, so_far.tried, next.1);
  left = let fewer : length mid.waiting ≡ length new.waiting + 1 =
      ap length next.1.next.0 ∙ length_push new.waiting next.0 in
      omega (arith, so_far.left, fewer);
}

pub until_none_due : {P C : Type 0} (opened : State) (account : P → Account)
    (tells : C → ℕ → C → Type 0) (count : ℕ) (old mid new : Ordering P) (clock : C)
    → AreTried opened account tells count old mid → new ≡ mid
    → IsNoneDue (IsTold tells clock) new.waiting → AreCarriedOut opened account tells old new
until_none_due opened account tells count old mid new clock so_far same due = record {
  orders = so_far.orders;
  tried = rw same so_far.tried;
  until = inr (clock, due);
}

pub until_none_left : {P C : Type 0} (opened : State) (account : P → Account)
    (tells : C → ℕ → C → Type 0) (count : ℕ) (old new : Ordering P)
    → AreTried opened account tells count old new → count ≡ length old.waiting
    → AreCarriedOut opened account tells old new
until_none_left opened account tells count old new so_far all = record {
  orders = so_far.orders;
  tried = so_far.tried;
  until = inl (nil_from_length new.waiting (omega (arith, so_far.left, all)));
}
