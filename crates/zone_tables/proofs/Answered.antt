-- What is known of an answer, once its kind is known.
use Rattle.std.proofs.Common.{◌≡◌, sym, subst, refl, Some}
use Rattle.std.specs.Prelude.{Option, Result, Ok, Err, IsSome, IfOk, OnOk}

-- what holds if a call succeeded
pub on_ok : {A B P : Type 0} (r : Result A B) (x : A) → r ≡ Ok x → OnOk r P → P
on_ok {A} {B} {P} r x is h = subst (λ (w : Result A B). OnOk w P) is h

pub if_ok : {A B : Type 0} (P : A → Type 0) (r : Result A B) (x : A) → r ≡ Ok x → IfOk r P → P x
if_ok {A} {B} P r x is h = subst (λ (w : Result A B). IfOk w P) is h

pub if_ok_with : {A B : Type 0} (P Q : A → Type 0) (r : Result A B) → IfOk r P
    → ((x : A) → P x → Q x) → IfOk r Q
if_ok_with P Q (Ok x) h f = f x h
if_ok_with P Q (Err e) h f = tt

pub is_there : {A : Type 0} (w : Option A) (x : A) → w ≡ Some x → IsSome w
is_there w x is = subst (λ w. IsSome w) (sym is) refl
