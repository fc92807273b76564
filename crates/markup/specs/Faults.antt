-- Answers that are a value or a fault.
use Rattle.std.specs.Prelude.{ℕ, Ok, Err, Result}
use Rattle.markup.specs.declared.fault.Refusal.{Refusal}
use Rattle.markup.specs.declared.fault.Fault.{Fault}

-- a refusal at a place
abbrev pub fault : Refusal → ℕ → Fault
fault refusal place = record { refusal = refusal; place = place }

-- what follows a fault is not reached
abbrev pub and_then : {X Y : Type 0} → Result X Fault → (X → Result Y Fault) → Result Y Fault
and_then (Ok x) k = k x
and_then (Err f) k = Err f
