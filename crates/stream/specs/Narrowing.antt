-- What a layer makes of the set below it.
use Rattle.std.specs.Prelude.{ℕ, Bool, true, false, cond, List, [], ◌∷◌, filter}
use mathlib.Core.List.Sublistᴰ
use mathlib.Core.List.{Sublistᴰ}
use Rattle.stream.specs.declared.region.Region.{Region}
use Rattle.stream.specs.Sets.{Laws}

-- at each position, what is kept there
abbrev pub narrowed : (ℕ → Region → Bool) → (ℕ → List Region) → ℕ → List Region
narrowed keep lists i = filter (keep i) (lists i)

kept_step : {X : Type 0} (b : Bool) (x : X) {ys xs : List X} → Sublistᴰ ys xs → Sublistᴰ (cond b (x ∷ ys) ys) (x ∷ xs)
kept_step true x s = Sublistᴰ.cons-cons (λ i. x) s
kept_step false x s = Sublistᴰ.cons s

pub kept_part : {X : Type 0} (p : X → Bool) (xs : List X) → Sublistᴰ (filter p xs) xs
kept_part p [] = Sublistᴰ.slnil
kept_part p (x ∷ xs) = kept_step (p x) x (kept_part p xs)

-- a layer N over a set S is a set over the same book
pub narrowed_laws : {S N : Type 0} (book : S → List Region) (lists : S → ℕ → List Region) (below : N → S) (keep : N → ℕ → Region → Bool) → Laws book lists
    → Laws (λ n. book (below n)) (λ n. narrowed (keep n) (lists (below n)))
narrowed_laws book lists below keep laws = record {
  lawful = λ n. laws.lawful (below n);
  part = λ n i. Sublistᴰ.trans (kept_part (keep n i) (lists (below n) i)) (laws.part (below n) i);
  sixteen = λ n i h. rw (laws.sixteen (below n) i h);
}
