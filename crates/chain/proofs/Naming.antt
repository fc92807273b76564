-- The elements with a name are those with its number.
use Rattle.std.proofs.Common.{◌≡◌, ℕ, zero, suc, ◌+◌, ◌-◌, ◌<◌, ◌≤◌, Bool, false, eqb, List, [], length, get_or, filter, sym, refl, ap, ◌∙◌, ⊎_elim, arith}
use Rattle.std.specs.List.{range_with_len}
use Rattle.std.proofs.lemmas.Slice.Eq.{bytes_eq-Decides}
use Rattle.std.proofs.lemmas.Bool.{cases_lt, eq-eqb, eqb-true, false_from_ne_true, lt-ltb, cond-true}
use Rattle.std.proofs.lemmas.Bool.Decides.{same_from_decides}
use Rattle.layout.specs.Layout.{element_count, name_count, element_at, names_of, name_text, tree_of}
use Rattle.layout.specs.Lawful.{LawfulSheet}
use Rattle.layout.proofs.Unique.{get_or-names_of}
use Rattle.sheet.specs.Viewing.{first_in}
use Rattle.sheet.proofs.Promises.{chains_follow_names}
use Rattle.pattern.specs.Shape.{Vertex, node_at}
use Rattle.chain.specs.Chains.{named, chain_from}
use Rattle.chain.specs.Named.{has_name, numbers_of}
use Rattle.chain.proofs.Follow.{from_first_if_any}

-- two tests that agree keep the same
kept_same : (p q : ℕ → Bool) (a n : ℕ) → ((k : ℕ) → a ≤ k → k < a + n → p k ≡ q k) → filter p (range_with_len a n) ≡ filter q (range_with_len a n)
kept_same p q a zero h = refl
kept_same p q a (suc n) h = rw (h a (omega arith) (omega arith), kept_same p q (a + 1) n (λ k u v. h k (omega arith) (omega arith)))

kept_none : (p : ℕ → Bool) (a n : ℕ) → ((k : ℕ) → a ≤ k → k < a + n → p k ≡ false) → filter p (range_with_len a n) ≡ []
kept_none p a zero h = refl
kept_none p a (suc n) h = rw (h a (omega arith) (omega arith)) (kept_none p (a + 1) n (λ k u v. h k (omega arith) (omega arith)))

module _ (bs : List ℕ) (law : LawfulSheet bs) (text : List ℕ) where
  -- what the test sees at element k
  seen : (k : ℕ) → k < element_count bs → get_or (names_of bs) (element_at bs k).name [] ≡ name_text bs (element_at bs k).name
  seen k h = get_or-names_of bs (element_at bs k).name (law.elements k h).numbers.named

  pub none_has : ((j : ℕ) → j < name_count bs → name_text bs j ≡ text → ⊥) → filter (λ k. has_name (tree_of bs) text (element_at bs k)) (range_with_len 0 (element_count bs)) ≡ []
  none_has none =
      kept_none _ 0 (element_count bs)
      (λ k u v. let h : k < element_count bs = omega arith in
      false_from_ne_true _ (λ t. none (element_at bs k).name (law.elements k h).numbers.named (sym (seen k h) ∙ (bytes_eq-Decides _ text).0 t)))

  one_name : (i j : ℕ) → i < name_count bs → j < name_count bs → name_text bs i ≡ name_text bs j → i ≡ j
  one_name i j h k e =
      ⊎_elim (λ (l : i < j). absurd ((law.names j k).different i l e))
      (λ (l : j ≤ i). ⊎_elim (λ (m : j < i). absurd ((law.names i h).different j m (sym e))) (λ (m : i ≤ j). omega arith) (cases_lt j i)) (cases_lt i j)

  pub all_have : (j : ℕ) → j < name_count bs → name_text bs j ≡ text → filter (λ k. has_name (tree_of bs) text (element_at bs k)) (range_with_len 0 (element_count bs)) ≡ named bs j 0
  all_have j h e =
      let z : element_count bs - 0 ≡ element_count bs = omega arith in
      rw z (kept_same _ (λ k. eqb (element_at bs k).name j) 0 (element_count bs)
      (λ k u v. let w : k < element_count bs = omega arith in
      let n = (element_at bs k).name in
      same_from_decides _ (eqb n j) (
        (λ t. one_name n j (law.elements k w).numbers.named h (sym (seen k w) ∙ (bytes_eq-Decides _ text).0 t ∙ sym e)),
        (λ (same : n ≡ j). (bytes_eq-Decides _ text).1 (seen k w ∙ ap (name_text bs) same ∙ e)),
      )
      (eqb-true n j, eq-eqb n j)))

-- The chain from a position's first element is that of its node.
module _ (bs : List ℕ) (law : LawfulSheet bs) (nodes : List Vertex) (i : ℕ) (inside : i < length nodes) (text : List ℕ) (is : text ≡ (node_at nodes i).name) where
  whole : numbers_of bs nodes i ≡ filter (λ k. has_name (tree_of bs) text (element_at bs k)) (range_with_len 0 (element_count bs))
  whole = cond-true _ _ _ (lt-ltb i (length nodes) inside) ∙ ap (λ n. filter (λ k. has_name (tree_of bs) n (element_at bs k)) (range_with_len 0 (element_count bs))) (sym is)

  pub no_list : ((j : ℕ) → j < name_count bs → name_text bs j ≡ text → ⊥) → [] ≡ numbers_of bs nodes i
  no_list none = sym (none_has bs law text none) ∙ sym whole

  pub list_found : (j : ℕ) → j < name_count bs → name_text bs j ≡ text → chain_from bs (first_in bs j) ≡ numbers_of bs nodes i
  list_found j h t = sym (from_first_if_any bs j 0 (first_in bs j) ((chains_follow_names bs law).1 j h).1) ∙ sym (all_have bs law text j h t) ∙ sym whole
