-- A layer's calls, by what they do to the lists below: `lists` before and `after`.
use Rattle.std.proofs.Common.{◌≡◌, ℕ, ◌<◌, ◌≤◌, Bool, true, false, List, [], ◌∷◌, length, filter, sym, refl, ap, ◌∙◌, arith}
use Rattle.std.proofs.lemmas.Bool.{cond_both, true≢false, or_left}
use Rattle.stream.specs.declared.region.Region.{Region}
use Rattle.stream.proofs.Parts.{Rising}
use Rattle.stream.specs.Lists.{update, rest, drop_until, past, around, halts, first_passes, NoneOrPasses}
use Rattle.stream.specs.Narrowing.{narrowed}
use Rattle.stream.proofs.Positions.{update-update, update_here, update_same, update_fixed, same_update}
use Rattle.stream.proofs.Narrow.{until_rest, until_fixed, narrowed-update, update-narrowed, kept_rest, rest_kept, kept_until, until_kept_until, past_until, past_halts, if_passes, halts_kept, kept_past, past_halts_too, passes_kept, past_not_around}

length_until : (p : Region → Bool) (xs : List Region) → length (drop_until p xs) ≤ length xs
length_until p [] = omega arith
length_until p (x ∷ xs) = cond_both (p x) _ _ (λ ys. length ys ≤ length (x ∷ xs)) (λ _. omega arith) (λ _. let h = length_until p xs in omega arith)

length_rest : (p : Region → Bool) (xs : List Region) → first_passes p xs ≡ true → length (rest xs) < length xs
length_rest p [] e = absurd (true≢false (sym e))
length_rest p (x ∷ xs) e = omega arith

around_halts : (s : ℕ) (xs : List Region) → first_passes (around s) xs ≡ true → NoneOrPasses (halts s) xs
around_halts s [] e = tt
around_halts s (x ∷ xs) e = or_left (around s x) (past s x) e

-- the steps of a skip by `tell` and `advance`
module _ (p : Region → Bool) (lists : ℕ → List Region) (i : ℕ) where
  pub stepped : (after : ℕ → List Region) → after ≡ update i rest lists → first_passes p (lists i) ≡ false → update i (drop_until p) after ≡ update i (drop_until p) lists
  stepped after e h = ap (update i (drop_until p)) e ∙ update-update i (drop_until p) rest lists ∙ update_same i (λ xs. drop_until p (rest xs)) (drop_until p) lists (until_rest p (lists i) h)

  module _ (start : ℕ → List Region) (inv : update i (drop_until p) lists ≡ update i (drop_until p) start) (passes : NoneOrPasses p (lists i)) where
    pub halted : lists ≡ update i (drop_until p) start
    halted = sym (update_fixed i (drop_until p) lists (until_fixed p (lists i) passes)) ∙ inv

    pub answered : (q : Region → Bool) → first_passes q (lists i) ≡ first_passes q (drop_until p (start i))
    answered q = ap (first_passes q) (sym (until_fixed p (lists i) passes) ∙ same_update i (drop_until p) (drop_until p) lists start inv)

module _ (keep : ℕ → Region → Bool) (lists after : ℕ → List Region) (i : ℕ) where
  -- `advance` below, at a region that is not kept
  pub passed : after ≡ update i rest lists → first_passes (keep i) (lists i) ≡ false → narrowed keep after ≡ narrowed keep lists
  passed e h = ap (narrowed keep) e ∙ narrowed-update keep lists i rest (λ xs. xs) (kept_rest (keep i) (lists i) h) ∙ update_fixed i (λ xs. xs) (narrowed keep lists) refl

  -- `advance` below, at one that is
  pub advanced : after ≡ update i rest lists → NoneOrPasses (keep i) (lists i) → narrowed keep after ≡ update i rest (narrowed keep lists)
  advanced e h = ap (narrowed keep) e ∙ narrowed-update keep lists i rest rest (rest_kept (keep i) (lists i) h)

  module _ (s : ℕ) where
    pub beyond : after ≡ update i (drop_until (past s)) lists → Rising (lists i) → narrowed keep after ≡ update i (drop_until (past s)) (narrowed keep lists)
    beyond e up = ap (narrowed keep) e ∙ narrowed-update keep lists i (drop_until (past s)) (drop_until (past s)) (kept_until (keep i) (past s) (lists i) (kept_past s (keep i) _ (past_until s (lists i) up)))

    -- `skip_to_ancestor` below
    module _ (e : after ≡ update i (drop_until (halts s)) lists) where
      here : after i ≡ drop_until (halts s) (lists i)
      here = ap (λ l. l i) e ∙ update_here i (drop_until (halts s)) lists

      settled : NoneOrPasses (halts s) (filter (keep i) (drop_until (halts s) (lists i))) → narrowed keep after ≡ update i (drop_until (halts s)) (narrowed keep lists)
      settled h = ap (narrowed keep) e ∙ narrowed-update keep lists i (drop_until (halts s)) (drop_until (halts s)) (kept_until (keep i) (halts s) (lists i) h)

      -- the region that it found is kept
      pub found : first_passes (keep i) (after i) ≡ true → first_passes (around s) (drop_until (halts s) (lists i)) ≡ true → (narrowed keep after ≡ update i (drop_until (halts s)) (narrowed keep lists)) × (first_passes (around s) (drop_until (halts s) (narrowed keep lists i)) ≡ true)
      found k l =
          let passes : NoneOrPasses (keep i) (drop_until (halts s) (lists i)) = if_passes (keep i) _ (sym (ap (first_passes (keep i)) here) ∙ k) in
          let halt = halts_kept (keep i) (halts s) _ passes (around_halts s _ l) in
          (settled halt, ap (first_passes (around s)) (sym (kept_until (keep i) (halts s) (lists i) halt)) ∙ passes_kept (keep i) (around s) _ passes ∙ l)

      -- it found none
      pub missed : Rising (lists i) → first_passes (around s) (drop_until (halts s) (lists i)) ≡ false → (narrowed keep after ≡ update i (drop_until (halts s)) (narrowed keep lists)) × (first_passes (around s) (drop_until (halts s) (narrowed keep lists i)) ≡ false)
      missed up l =
          let passes = kept_past s (keep i) _ (past_halts s (lists i) up l) in
          let halt = past_halts_too s _ passes in
          (settled halt, ap (first_passes (around s)) (sym (kept_until (keep i) (halts s) (lists i) halt)) ∙ past_not_around s _ passes)

      module _ (next : ℕ → List Region) (n : next ≡ update i rest after) where
        -- the region that it found is passed over
        pub again : first_passes (keep i) (after i) ≡ false → update i (drop_until (halts s)) (narrowed keep next) ≡ update i (drop_until (halts s)) (narrowed keep lists)
        again h =
            let both : next ≡ update i (λ xs. rest (drop_until (halts s) xs)) lists = n ∙ ap (update i rest) e ∙ update-update i rest (drop_until (halts s)) lists in
            let over = kept_rest (keep i) (drop_until (halts s) (lists i)) (sym (ap (first_passes (keep i)) here) ∙ h) in
            ap (λ l. update i (drop_until (halts s)) (narrowed keep l)) both ∙ update-narrowed keep lists i (λ xs. rest (drop_until (halts s) xs)) (drop_until (halts s)) (drop_until (halts s)) (ap (drop_until (halts s)) over ∙ until_kept_until (keep i) (halts s) (lists i))

        pub falls : first_passes (around s) (drop_until (halts s) (lists i)) ≡ true → length (next i) < length (lists i)
        falls l =
            let a = ap length (ap (λ k. k i) n ∙ update_here i rest after ∙ ap rest here) in
            let b = length_rest (around s) _ l in
            let c = length_until (halts s) (lists i) in
            omega arith
