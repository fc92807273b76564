-- Results that are a value or a fault.
use Rattle.std.proofs.Common.{◌≡◌, Ok, Err, Result, refl}
use Rattle.markup.specs.declared.fault.Fault.{Fault}
use Rattle.markup.specs.Faults.{and_then}

pub ok_same : {X : Type 0} (x y : X) → ◌≡◌ {A = Result X Fault} (Ok x) (Ok y) → x ≡ y
ok_same x y e = cc

pub err_same : {X : Type 0} (f g : Fault) → ◌≡◌ {A = Result X Fault} (Err f) (Err g) → f ≡ g
err_same f g e = cc

pub ok_or_err : {X : Type 0} (x : X) (f : Fault) → ◌≡◌ {A = Result X Fault} (Err f) (Ok x) → ⊥
ok_or_err x f e = cc

pub then_ok : {X Y : Type 0} (r : Result X Fault) (k : X → Result Y Fault) (y : Y) → and_then r k ≡ Ok y → (x : X) × (r ≡ Ok x) × (k x ≡ Ok y)
then_ok (Ok x) k y e = (x, refl, e)
then_ok (Err f) k y e = absurd (ok_or_err y f e)
