-- How a filter goes with the calls of a stream set.
use Rattle.std.proofs.Common.{◌≡◌, ℕ, Bool, true, false, cond, ◌||◌, eqb, leb, List, [], ◌∷◌, Some, None, Option, MatchOption, filter, sym, refl, subst, ◌∙◌, arith, eqb-true}
use Rattle.std.proofs.Math.Path.{fun_ext}
use Rattle.std.specs.List.{AllByRecursion as Every}
use Rattle.std.proofs.ByRecursion.{all_kept_by, All-weaker}
use Rattle.std.proofs.lemmas.Bool.{cond_both, leb-true, leb-false, ltb-true, lt-ltb, le-ltb, or_right, and_left}
use Rattle.stream.specs.declared.region.Region.{Region}
use Rattle.stream.proofs.Parts.{Rising}
use Rattle.stream.specs.Lists.{update, first, rest, drop_until, past, around, halts, first_passes, NoneOrPasses}
use Rattle.stream.specs.Narrowing.{narrowed}
use Rattle.stream.proofs.Positions.{update_fixed}

pub if_passes : (p : Region → Bool) (xs : List Region) → first_passes p xs ≡ true → NoneOrPasses p xs
if_passes p [] h = tt
if_passes p (x ∷ xs) h = h

pub passes_first : (p : Region → Bool) (xs : List Region) (r : Region) → first xs ≡ Some r → first_passes p xs ≡ p r
passes_first p [] r e = cc
passes_first p (x ∷ xs) r e = cc

-- the answer of `is_some_and` at the first
pub passes_from_first : (p : Region → Bool) (xs : List Region) (o : Option Region) (b : Bool) → o ≡ first xs → MatchOption o (b ≡ false) (λ r. b ≡ p r) → b ≡ first_passes p xs
passes_from_first p [] o b e m = let h = subst (λ o. MatchOption o (b ≡ false) (λ r. b ≡ p r)) e m in h
passes_from_first p (x ∷ xs) o b e m = let h = subst (λ o. MatchOption o (b ≡ false) (λ r. b ≡ p r)) e m in h

-- where `skip_beyond` goes on, and where it ends
pub not_past : (s : ℕ) (xs : List Region) → first_passes (λ r. leb r.start s) xs ≡ true → first_passes (past s) xs ≡ false
not_past s [] h = refl
not_past s (x ∷ xs) h = le-ltb s x.start (leb-true x.start s h)

pub past_or_none : (s : ℕ) (xs : List Region) → first_passes (λ r. leb r.start s) xs ≡ false → NoneOrPasses (past s) xs
past_or_none s [] h = tt
past_or_none s (x ∷ xs) h = lt-ltb s x.start (leb-false x.start s h)

pub if_none : (p : Region → Bool) (xs : List Region) → first xs ≡ None → NoneOrPasses p xs
if_none p [] e = tt
if_none p (x ∷ xs) e = cc

pub passes_none : (p : Region → Bool) (xs : List Region) → first xs ≡ None → first_passes p xs ≡ false
passes_none p [] e = refl
passes_none p (x ∷ xs) e = cc

pub until_rest : (p : Region → Bool) (xs : List Region) → first_passes p xs ≡ false → drop_until p (rest xs) ≡ drop_until p xs
until_rest p [] h = refl
until_rest p (x ∷ xs) h = rw h

pub until_fixed : (p : Region → Bool) (xs : List Region) → NoneOrPasses p xs → drop_until p xs ≡ xs
until_fixed p [] h = refl
until_fixed p (x ∷ xs) h = rw h

if_all : (p : Region → Bool) (xs : List Region) → Every (λ x. p x ≡ true) xs → NoneOrPasses p xs
if_all p [] h = tt
if_all p (x ∷ xs) h = h.0

module _ (keep : Region → Bool) where
  pub first_kept : (xs : List Region) → NoneOrPasses keep xs → first (filter keep xs) ≡ first xs
  first_kept [] h = refl
  first_kept (x ∷ xs) h = rw h

  pub rest_kept : (xs : List Region) → NoneOrPasses keep xs → filter keep (rest xs) ≡ rest (filter keep xs)
  rest_kept [] h = refl
  rest_kept (x ∷ xs) h = rw h

  -- the first is passed over
  pub kept_rest : (xs : List Region) → first_passes keep xs ≡ false → filter keep (rest xs) ≡ filter keep xs
  kept_rest [] h = refl
  kept_rest (x ∷ xs) h = rw h

  pub passes_kept : (p : Region → Bool) (xs : List Region) → NoneOrPasses keep xs → first_passes p (filter keep xs) ≡ first_passes p xs
  passes_kept p [] h = refl
  passes_kept p (x ∷ xs) h = rw h

  pub halts_kept : (p : Region → Bool) (xs : List Region) → NoneOrPasses keep xs → NoneOrPasses p xs → NoneOrPasses p (filter keep xs)
  halts_kept p [] h k = tt
  halts_kept p (x ∷ xs) h k = rw h k

  module _ (p : Region → Bool) where
    until_step : (b k : Bool) (x : Region) (xs ys : List Region) → p x ≡ b → keep x ≡ k → drop_until p (filter keep ys) ≡ drop_until p (filter keep xs) → drop_until p (filter keep (cond b (x ∷ xs) ys)) ≡ drop_until p (cond k (x ∷ filter keep xs) (filter keep xs))
    until_step true k x xs ys e f h = rw f
    until_step false true x xs ys e f h = rw e h
    until_step false false x xs ys e f h = h

    -- the front that the set below takes away would go in any case
    pub until_kept_until : (xs : List Region) → drop_until p (filter keep (drop_until p xs)) ≡ drop_until p (filter keep xs)
    until_kept_until [] = refl
    until_kept_until (x ∷ xs) = until_step (p x) (keep x) x xs (drop_until p xs) refl refl (until_kept_until xs)

    pub kept_until : (xs : List Region) → NoneOrPasses p (filter keep (drop_until p xs)) → filter keep (drop_until p xs) ≡ drop_until p (filter keep xs)
    kept_until xs h = sym (until_fixed p _ h) ∙ until_kept_until xs

-- From a rising list, all that is left starts past s.
module _ (s : ℕ) where
  past_all : (x : Region) (xs : List Region) → Rising (x ∷ xs) → past s x ≡ true → Every (λ y. past s y ≡ true) (x ∷ xs)
  past_all x xs up e = (e, All-weaker _ _ (λ y h. lt-ltb s y.start (let k = ltb-true s x.start e in omega arith)) xs up.0)

  pub past_until : (xs : List Region) → Rising xs → Every (λ x. past s x ≡ true) (drop_until (past s) xs)
  past_until [] up = tt
  past_until (x ∷ xs) up = cond_both (past s x) _ _ (Every (λ y. past s y ≡ true)) (past_all x xs up) (λ _. past_until xs up.1)

  halts_step : (a b : Bool) (x : Region) (xs ys : List Region) → around s x ≡ a → past s x ≡ b → Rising (x ∷ xs) → (first_passes (around s) ys ≡ false → Every (λ y. past s y ≡ true) ys) → first_passes (around s) (cond (a || b) (x ∷ xs) ys) ≡ false → Every (λ y. past s y ≡ true) (cond (a || b) (x ∷ xs) ys)
  halts_step true b x xs ys f g up h e = absurd (let z : true ≡ false = sym f ∙ e in let w : ◌≡◌ {A = ℕ} 0 1 = cc in omega arith)
  halts_step false true x xs ys f g up h e = past_all x xs up g
  halts_step false false x xs ys f g up h e = h e

  pub past_halts : (xs : List Region) → Rising xs → first_passes (around s) (drop_until (halts s) xs) ≡ false → Every (λ x. past s x ≡ true) (drop_until (halts s) xs)
  past_halts [] up = λ _. tt
  past_halts (x ∷ xs) up = halts_step (around s x) (past s x) x xs (drop_until (halts s) xs) refl refl up (past_halts xs up.1)

  pub kept_past : (keep : Region → Bool) (xs : List Region) → Every (λ x. past s x ≡ true) xs → NoneOrPasses (past s) (filter keep xs)
  kept_past keep xs h = if_all _ _ (all_kept_by keep _ _ h)

  pub past_halts_too : (xs : List Region) → NoneOrPasses (past s) xs → NoneOrPasses (halts s) xs
  past_halts_too [] h = tt
  past_halts_too (x ∷ xs) h = or_right (around s x) (past s x) h

  pub past_not_around : (xs : List Region) → NoneOrPasses (past s) xs → first_passes (around s) xs ≡ false
  past_not_around [] h = refl
  past_not_around (x ∷ xs) h = and_left _ _ (le-ltb x.start s (let k = ltb-true s x.start h in omega arith))

module _ (keep : ℕ → Region → Bool) (lists : ℕ → List Region) (i : ℕ) where
  -- a change at one position, below and above
  pub update-narrowed : (f g h : List Region → List Region) → g (filter (keep i) (f (lists i))) ≡ h (filter (keep i) (lists i)) → update i g (narrowed keep (update i f lists)) ≡ update i h (narrowed keep lists)
  update-narrowed f g h e = fun_ext (λ j. go j (eqb j i) refl)
    where
      go : (j : ℕ) (b : Bool) → eqb j i ≡ b → cond b (g (filter (keep j) (cond b (f (lists j)) (lists j)))) (filter (keep j) (cond b (f (lists j)) (lists j))) ≡ cond b (h (filter (keep j) (lists j))) (filter (keep j) (lists j))
      go j true t = let k : j ≡ i = eqb-true j i t in rw k e
      go j false t = refl

  pub narrowed-update : (f h : List Region → List Region) → filter (keep i) (f (lists i)) ≡ h (filter (keep i) (lists i)) → narrowed keep (update i f lists) ≡ update i h (narrowed keep lists)
  narrowed-update f h e = sym (update_fixed i (λ xs. xs) _ refl) ∙ update-narrowed f (λ xs. xs) h e
