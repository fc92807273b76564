-- A run ends at the first byte that is not of its class.
use Rattle.std.proofs.Common.{◌≡◌, ℕ, ◌+◌, Bool, true, false, not, cond, List, [], ◌∷◌, length, ap, arith}
use Rattle.std.specs.List.{prefix_len, position}
use Rattle.std.specs.Option.{unwrap_or}
use Rattle.std.proofs.lemmas.List.Sums.{prefix_len-le-length}

module _ (member : ℕ → Bool) where
  more : (b : Bool) (m n : ℕ) → m ≡ n → cond (not (not b)) (1 + m) 0 ≡ cond b (1 + n) 0
  more true m n e = ap (λ k. 1 + k) e
  more false m n e = cc

  same_run : (bs : List ℕ) → prefix_len (λ b. not (not (member b))) bs ≡ prefix_len member bs
  same_run [] = cc
  same_run (b ∷ bs) = more (member b) _ _ (same_run bs)

  pub run_of_position : (bs : List ℕ) → unwrap_or (position (λ b. not (member b)) bs) (length bs) ≡ prefix_len member bs
  run_of_position bs = grind (arith, same_run bs, prefix_len-le-length (λ b. not (not (member b))) bs)
