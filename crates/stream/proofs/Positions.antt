-- A change at one position, and the front of a list.
use Rattle.std.proofs.Common.{◌≡◌, ℕ, ◌+◌, Bool, true, false, cond, eqb, List, [], ◌∷◌, length, Some, is_some, sym, refl, ap, ◌∙◌, arith, eq-eqb, eqb-true}
use Rattle.std.proofs.Math.Path.{fun_ext}
use Rattle.std.proofs.lemmas.Bool.{cond_both, cond-true}
use Rattle.stream.specs.declared.region.Region.{Region}
use Rattle.stream.specs.Lists.{update, first, rest}

twice : (b : Bool) (f g : List Region → List Region) (xs : List Region) → cond b (f (cond b (g xs) xs)) (cond b (g xs) xs) ≡ cond b (f (g xs)) xs
twice true f g xs = refl
twice false f g xs = refl

pub update-update : (i : ℕ) (f g : List Region → List Region) (lists : ℕ → List Region) → update i f (update i g lists) ≡ update i (λ xs. f (g xs)) lists
update-update i f g lists = fun_ext (λ j. twice (eqb j i) f g (lists j))

pub update_here : (i : ℕ) (f : List Region → List Region) (lists : ℕ → List Region) → update i f lists i ≡ f (lists i)
update_here i f lists = cond-true (eqb i i) _ _ (eq-eqb i i refl)

pub update_same : (i : ℕ) (f g : List Region → List Region) (lists : ℕ → List Region) → f (lists i) ≡ g (lists i) → update i f lists ≡ update i g lists
update_same i f g lists h = fun_ext (λ j. go j (eqb j i) refl)
  where
    go : (j : ℕ) (b : Bool) → eqb j i ≡ b → cond b (f (lists j)) (lists j) ≡ cond b (g (lists j)) (lists j)
    go j true t = let k : j ≡ i = eqb-true j i t in rw k h
    go j false t = refl

update_id : (i : ℕ) (lists : ℕ → List Region) → update i (λ xs. xs) lists ≡ lists
update_id i lists = fun_ext (λ j. cond_both (eqb j i) _ _ (λ xs. xs ≡ lists j) (λ _. refl) (λ _. refl))

-- f changes nothing there
pub update_fixed : (i : ℕ) (f : List Region → List Region) (lists : ℕ → List Region) → f (lists i) ≡ lists i → update i f lists ≡ lists
update_fixed i f lists h = update_same i f (λ xs. xs) lists h ∙ update_id i lists

pub nil_from_first : (xs : List Region) → is_some (first xs) ≡ false → xs ≡ []
nil_from_first [] e = refl
nil_from_first (x ∷ xs) e = cc

pub cons_from_first : (xs : List Region) (r : Region) → first xs ≡ Some r → xs ≡ r ∷ rest xs
cons_from_first [] r e = cc
cons_from_first (x ∷ xs) r e = cc

pub one_from_first : (xs : List Region) → is_some (first xs) ≡ true → length xs ≡ length (rest xs) + 1
one_from_first [] e = cc
one_from_first (x ∷ xs) e = omega arith

pub same_update : (i : ℕ) (f g : List Region → List Region) (xs ys : ℕ → List Region) → update i f xs ≡ update i g ys → f (xs i) ≡ g (ys i)
same_update i f g xs ys e = sym (update_here i f xs) ∙ ap (λ lists. lists i) e ∙ update_here i g ys
