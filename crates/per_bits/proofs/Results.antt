-- What a result tells of the step that gave it.
use Rattle.std.proofs.Common.{◌≡◌, Bool, true, false, cond, refl, Result, Ok, Err}
use Rattle.per_bits.specs.Readings.{◌>>=◌}

abbrev done : {A F : Type 0} → A → Result A F
done x = Ok x

abbrev failed : {A F : Type 0} → F → Result A F
failed fault = Err fault

pub ok_is : {A F : Type 0} (x y : A) → done {A = A} {F = F} x ≡ done {A = A} {F = F} y → x ≡ y
ok_is x y e = cc

pub err_is : {A F : Type 0} (c d : F)
    → failed {A = A} {F = F} c ≡ failed {A = A} {F = F} d → c ≡ d
err_is c d e = cc

pub ok_not_err : {A F : Type 0} {x : A} {fault : F} → Ok x ≡ Err fault → ⊥
ok_not_err e = cc

-- the value of a step that did not fail
pub bind_ok : {A B F : Type 0} (r : Result A F) (f : A → Result B F) (y : B)
    → (r >>= f) ≡ Ok y → (x : A) × (r ≡ Ok x) × (f x ≡ Ok y)
bind_ok (Ok x) f y e = (x, refl, e)
bind_ok (Err d) f y e = absurd cc

-- a test that did not fail
pub guard_ok : {A F : Type 0} (b : Bool) (d : F) (x y : A)
    → cond b (Err d) (Ok x) ≡ Ok y → (b ≡ false) × (x ≡ y)
guard_ok true d x y e = absurd cc
guard_ok false d x y e = (refl, ok_is x y e)

-- a test that failed
pub guard_err : {A F : Type 0} (b : Bool) (d : F) (x : A) (fault : F)
    → cond b (Err d) (Ok x) ≡ Err fault → (b ≡ true) × (d ≡ fault)
guard_err true d x fault e = (refl, err_is d fault e)
guard_err false d x fault e = absurd cc
