-- The longest front of bytes that pass a test.
use Rattle.std.proofs.Common.{◌≡◌, ℕ, ◌+◌, ◌<◌, ◌≤◌, Bool, true, false, List, ◌∷◌, ◌++◌, length, take, ap, ◌∙◌, subst, arith, length-take}
use Rattle.std.specs.List.{prefix_len, AllByRecursion as Every}
use Rattle.std.proofs.ByRecursion.{All-get_or, All-from_get_or}
use Rattle.std.proofs.lemmas.List.{take_all, get_or-take}
use Rattle.std.proofs.lemmas.List.Folds.{prefix_len-append}
use Rattle.std.proofs.lemmas.List.Sums.{prefix_len_is, prefix_len_passes}
use Rattle.std.proofs.lemmas.Bool.{cond-true, cond-false, eq-eqb}

module _ (f : ℕ → Bool) where
  -- a list of bytes that all pass
  pub leading_all : (xs : List ℕ) → Every (λ b. f b ≡ true) xs → prefix_len f xs ≡ length xs
  leading_all xs h = prefix_len_is f xs (length xs) 0 (omega arith) (λ k l. All-get_or (λ b. f b ≡ true) xs k 0 l h) (λ l. absurd (omega arith))

  -- and what follows
  pub leading_append : (xs rest : List ℕ) → Every (λ b. f b ≡ true) xs → prefix_len f (xs ++ rest) ≡ length xs + prefix_len f rest
  leading_append xs rest h = prefix_len-append f xs rest ∙ cond-true _ _ _ (eq-eqb _ _ (leading_all xs h))

  -- up to a byte that does not pass
  pub leading_stop : (xs : List ℕ) (c : ℕ) (rest : List ℕ) → Every (λ b. f b ≡ true) xs → f c ≡ false → prefix_len f (xs ++ c ∷ rest) ≡ length xs
  leading_stop xs c rest h e = leading_append xs (c ∷ rest) h ∙ ap (λ n. length xs + n) (cond-false _ _ _ e) ∙ omega arith

  -- the front passes
  pub all_front : (n : ℕ) (bs : List ℕ) → n ≤ prefix_len f bs → Every (λ b. f b ≡ true) (take n bs)
  all_front n bs h =
      All-from_get_or (λ b. f b ≡ true) (take n bs) 0
      (λ i l. let k : i < n = omega (arith, length-take n bs) in ap f (get_or-take n bs i 0 k) ∙ prefix_len_passes f bs i 0 (omega arith))

  pub all_leading : (bs : List ℕ) → Every (λ b. f b ≡ true) (take (prefix_len f bs) bs)
  all_leading bs = all_front (prefix_len f bs) bs (omega arith)

  pub all_from_leading : (bs : List ℕ) → prefix_len f bs ≡ length bs → Every (λ b. f b ≡ true) bs
  all_from_leading bs e =
      subst (Every (λ b. f b ≡ true)) (take_all (prefix_len f bs) bs (omega arith)) (all_leading bs)
