-- What a view tells, from what `find` gives.
use Rattle.std.proofs.Common.{◌≡◌, ℕ, ◌<◌, ◌≤◌, List, Option, Some, None, MatchOption, arith}
use Rattle.layout.specs.Layout.{name_count, name_text}
use Rattle.sheet.specs.Viewing.{Found}

pub find_name : (bs text : List ℕ) (n : ℕ) (r : Option ℕ) → n ≡ name_count bs
    → MatchOption r ((j : ℕ) → 0 ≤ j → j < n → name_text bs j ≡ text → ⊥) (λ j. (0 ≤ j) × (j < n) × (name_text bs j ≡ text) × ((i : ℕ) → 0 ≤ i → i < j → name_text bs i ≡ text → ⊥))
    → Found bs text r
find_name bs text n None c m = λ j h. m j (omega arith) (omega arith)
find_name bs text n (Some j) c m = (omega (arith, m.1), m.2)
