-- Names by first use: where a name stands, and what one more name changes.
use Rattle.std.proofs.Common.{◌≡◌, ℕ, ◌+◌, ◌<◌, ◌≤◌, max, true, false, not, eqb, ◌⊎◌, List, [], ◌∷◌, ◌++◌, length, get_or, sym, ap, ◌∙◌, subst, inl, inr, ⊎_elim, arith, length-append}
use Rattle.std.proofs.Math.ListN.{get_or-append}
use Rattle.std.proofs.Math.Seq.{get_or-append_seam}
use Rattle.std.specs.List.{AllByRecursion as Every}
use Rattle.std.specs.Str.{bytes_eq}
use Rattle.std.proofs.ByRecursion.{All-append}
use Rattle.std.proofs.lemmas.Slice.Eq.{bytes_eq-Decides}
use Rattle.std.proofs.lemmas.List.Sums.{prefix_len-le-length, position_or_len_is, passes_at_first, fails_before_first}
use Rattle.std.proofs.lemmas.Bool.{cases_Bool, cases_lt, cond-true, cond-false, eqb-true, eqb-false, true≢false}
use Rattle.book.specs.Document.{position, intern}
use Rattle.book.specs.Reading.{Different}

-- Where a name stands.
module _ (name : List ℕ) (names : List (List ℕ)) where
  found : position names name < length names → get_or names (position names name) [] ≡ name
  found h = (bytes_eq-Decides _ name).0 (passes_at_first (λ n. bytes_eq n name) names [] h)

  not_before : (k : ℕ) → k < position names name → get_or names k [] ≡ name → ⊥
  not_before k h e = true≢false (sym ((bytes_eq-Decides (get_or names k []) name).1 e) ∙ fails_before_first (λ n. bytes_eq n name) names k [] h)

-- One more name.
module _ (names : List (List ℕ)) (name : List ℕ) where
  pub position_within : position names name ≤ length names
  position_within = prefix_len-le-length (λ n. not (bytes_eq n name)) names

  -- it is there already, or comes at the end
  pub interned : ((position names name < length names) × (intern names name ≡ names)) ⊎ ((position names name ≡ length names) × (intern names name ≡ names ++ name ∷ []))
  interned =
      let l = position_within in
      ⊎_elim (λ (e : eqb (position names name) (length names) ≡ true). inr (eqb-true _ _ e, cond-true _ _ _ e))
      (λ (e : eqb (position names name) (length names) ≡ false).
      let ne = eqb-false _ _ e in let lt : position names name < length names = omega arith in inl (lt, cond-false _ _ _ e))
      (cases_Bool (eqb (position names name) (length names)))

  pub intern_counts : length (intern names name) ≡ max (length names) (position names name + 1)
  intern_counts =
      ⊎_elim (λ q. let e = ap (λ l. length l) q.1 in omega (arith, q.0))
      (λ q. let e = ap (λ l. length l) q.1 in omega (arith, q.0, length-append names (name ∷ [])))
      interned

  pub intern_grows : length names ≤ length (intern names name)
  intern_grows = omega (arith, intern_counts)

  pub position_below : position names name < length (intern names name)
  position_below = omega (arith, intern_counts)

  -- its number leads to it
  pub intern_at : get_or (intern names name) (position names name) [] ≡ name
  intern_at =
      ⊎_elim (λ q. ap (λ l. get_or l (position names name) []) q.1 ∙ found name names q.0)
      (λ q. (λ i. get_or (q.1 i) (q.0 i) []) ∙ get_or-append_seam names name [] [])
      interned

  -- the others stay where they are
  pub intern_keeps : (i : ℕ) → i < length names → get_or (intern names name) i [] ≡ get_or names i []
  intern_keeps i h =
      ⊎_elim (λ q. ap (λ l. get_or l i []) q.1) (λ q. ap (λ l. get_or l i []) q.1 ∙ get_or-append names (name ∷ []) [] i h) interned

  pub intern_all : (P : List ℕ → Type 0) → Every P names → P name → Every P (intern names name)
  intern_all P h k =
      ⊎_elim (λ q. subst (Every P) (sym q.1) h) (λ q. subst (Every P) (sym q.1) (All-append P names (name ∷ []) h (k, tt))) interned

  pub intern_different : Different names → Different (intern names name)
  intern_different d =
      ⊎_elim (λ q. subst Different (sym q.1) d)
      (λ q. subst Different (sym q.1) (λ j k l m e.
      let long = length-append names (name ∷ []) in
      let old : (i : ℕ) → i < length names → get_or (names ++ name ∷ []) i [] ≡ get_or names i [] = λ i h. get_or-append names (name ∷ []) [] i h in
      ⊎_elim
      (λ (h : k < length names). d j k l h (sym (old j (omega arith)) ∙ e ∙ old k h))
      (λ (h : length names ≤ k).
      let last : length names ≡ k = omega arith in
      not_before name names j (omega (arith, q.0))
      (sym (old j (omega arith)) ∙ e ∙ ap (λ i. get_or (names ++ name ∷ []) i []) (sym last) ∙ get_or-append_seam names name [] []))
      (cases_lt k (length names))))
      interned

-- the place of a name is the first where it stands
pub position_is : (names : List (List ℕ)) (name : List ℕ) (a : ℕ) → a ≤ length names → (a < length names → get_or names a [] ≡ name) → ((i : ℕ) → i < a → get_or names i [] ≡ name → ⊥) → position names name ≡ a
position_is names name a within at before =
    position_or_len_is (λ n. bytes_eq n name) names a [] within
    (λ k l. ⊎_elim (λ (y : bytes_eq (get_or names k []) name ≡ true). absurd (before k l ((bytes_eq-Decides (get_or names k []) name).0 y))) (λ (y : bytes_eq (get_or names k []) name ≡ false). y)
    (cases_Bool (bytes_eq (get_or names k []) name)))
    (λ l. (bytes_eq-Decides (get_or names a []) name).1 (at l))
