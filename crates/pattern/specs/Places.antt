-- Where a text ceases to be a pattern, which is the place of its refusal.
use Rattle.std.specs.Prelude.{◌≡◌, ℕ, ◌+◌, ◌<◌, ◌≤◌, List, ◌++◌, length, take}
use Rattle.markup.specs.declared.fault.Refusal.TheVariants.{Misfit, TooManySteps, PatternNameTooLong}
use Rattle.pattern.specs.Shape.{Shape}
use Rattle.pattern.specs.Reading.{Limits, limits, refused, read_pattern}
use Rattle.pattern.specs.Grammar.{Derives}

-- a pattern within the limits begins with these bytes
abbrev pub BeginsIn : Limits → List ℕ → Type 0
BeginsIn l t = (more : List ℕ) × (w : Shape) × Derives l (t ++ more) w

-- a pattern of any size begins with these bytes
abbrev pub Begins : List ℕ → Type 0
Begins t = (l : Limits) × BeginsIn l t

-- a pattern of any size
abbrev pub Pattern : List ℕ → Type 0
Pattern t = (l : Limits) × (w : Shape) × Derives l t w

-- A misfit stands at the first byte that does not fit: the bytes before it begin a pattern, and with it they begin none; or the text
-- ends there and is no pattern.
abbrev pub MisfitIsWhereNoPatternGoesOn : Type 0
MisfitIsWhereNoPatternGoesOn =
    (t : List ℕ) (k : ℕ) → read_pattern t ≡ refused Misfit k
    → (k ≤ length t) × Begins (take k t) × (k < length t → Begins (take (k + 1) t) → ⊥) × (length t ≤ k → Pattern t → ⊥)

-- Too many steps: with the byte at the place the text begins a pattern of more names or more open brackets, but none within the limits.
abbrev pub TooManyIsWhereMoreWouldFit : Type 0
TooManyIsWhereMoreWouldFit =
    (t : List ℕ) (k : ℕ) → read_pattern t ≡ refused TooManySteps k
    → (k < length t) × ((names brackets : ℕ) × BeginsIn (record { names = names; brackets = brackets; bytes = 32 }) (take (k + 1) t)) × (BeginsIn limits (take (k + 1) t) → ⊥)

-- A name too long: before the place the text begins a pattern within the limits, and with the byte there one of longer names, but none
-- within the limits.
abbrev pub NameTooLongIsWhereLongerWouldFit : Type 0
NameTooLongIsWhereLongerWouldFit =
    (t : List ℕ) (k : ℕ) → read_pattern t ≡ refused PatternNameTooLong k
    → (k < length t) × BeginsIn limits (take k t) × ((bytes : ℕ) × BeginsIn (record { names = 16; brackets = 8; bytes = bytes }) (take (k + 1) t)) × (BeginsIn limits (take (k + 1) t) → ⊥)
