-- What holds of each granted answer, by the form of the answer's definition.
use Rattle.std.proofs.Common.{◌≡◌, Bool, true, false, cond, IfOk, Ok, Err, Result, refl}
use Rattle.std.proofs.lemmas.Bool.{cond_both}
use Rattle.markup.specs.declared.fault.Fault.{Fault}
use Rattle.markup.specs.Faults.{and_then}

-- P holds of what is granted (a record, so that antt finds the arguments of the rules below)
pub record Granted {X : Type 0} (P : X → Type 0) (r : Result X Fault) : Type 0 where
  pub granted : IfOk r P

pub grant : {X : Type 0} {P : X → Type 0} (x : X) → P x → Granted P (Ok x)
grant x h = record { granted = h }

pub refuse : {X : Type 0} {P : X → Type 0} (f : Fault) → Granted P (Err f)
refuse f = record { granted = tt }

pub either : {X : Type 0} {P : X → Type 0} (b : Bool) (x y : Result X Fault) → (b ≡ true → Granted P x) → (b ≡ false → Granted P y) → Granted P (cond b x y)
either b x y h k = cond_both b x y (Granted _) h k

pub chain : {X Y : Type 0} {Q : Y → Type 0} (P : X → Type 0) (r : Result X Fault) (k : X → Result Y Fault) → Granted P r → ((x : X) → P x → Granted Q (k x)) → Granted Q (and_then r k)
chain P (Ok x) k h f = f x h.granted
chain P (Err e) k h f = refuse e

pub weaker : {X : Type 0} {P Q : X → Type 0} (r : Result X Fault) → ((x : X) → P x → Q x) → Granted P r → Granted Q r
weaker (Ok x) f h = grant x (f x h.granted)
weaker (Err e) f h = refuse e

pub granted_each : {X : Type 0} {P : X → Type 0} (r : Result X Fault) → ((x : X) → r ≡ Ok x → P x) → Granted P r
granted_each (Ok x) h = grant x (h x refl)
granted_each (Err f) h = refuse f

-- what follows is the same where it is the same for what is granted
pub then_same : {X Y : Type 0} (P : X → Type 0) (r : Result X Fault) (f g : X → Result Y Fault) → Granted P r → ((x : X) → P x → f x ≡ g x) → and_then r f ≡ and_then r g
then_same P (Ok x) f g h e = e x h.granted
then_same P (Err k) f g h e = λ i. Err k
