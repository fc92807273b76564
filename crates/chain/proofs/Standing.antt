-- What the sets stand for.
use Rattle.std.proofs.Common.{◌≡◌, ℕ, zero, suc, ◌+◌, ◌<◌, ◌≤◌, Bool, true, false, cond, ◌&&◌, ltb, List, [], ◌∷◌, map, length, get_or, None, Option, filter, sym, refl, ap, ◌∙◌, ⊎_elim, arith}
use Rattle.std.proofs.Math.Path.{fun_ext}
use Rattle.std.specs.List.{range_with_len}
use Rattle.std.proofs.lemmas.Bool.{cases_lt, lt-ltb, le-ltb, cond-true, cond-false}
use Rattle.tree.specs.declared.element.Element.{Element}
use Rattle.tree.specs.Tree.{Tree}
use Rattle.layout.specs.Layout.{element_count, element_at, tree_of}
use Rattle.pattern.specs.Shape.{Vertex, node_at}
use Rattle.stream.specs.declared.region.Region.{Region}
use Rattle.stream.specs.Regions.{region_of}
use Rattle.chain.specs.Chains.{book_of, chain_from, chains}
use Rattle.chain.specs.Named.{has_name, lists_of, numbers_of}
use Rattle.chain.specs.Standing.{passing, StandsFor, LayersAddACondition}

-- the numbers that pass, and those of them that are selected
selected : (f : ℕ → Element) (p : Element → Bool) (selects : ℕ → Bool) (a n : ℕ) → map f (filter selects (filter (λ k. p (f k)) (range_with_len a n))) ≡ passing (λ k e. p e && selects k) a (map f (range_with_len a n))
selected f p selects a zero = refl
selected f p selects a (suc n) = step (p (f a)) (selects a) refl _ _ (selected f p selects (a + 1) n)
  where
    step : (b c : Bool) → selects a ≡ c → (ks : List ℕ) (es : List Element) → map f (filter selects ks) ≡ es → map f (filter selects (cond b (a ∷ ks) ks)) ≡ cond (b && c) (f a ∷ es) es
    step true true s ks es e = rw (s, e)
    step true false s ks es e = rw (s, e)
    step false c s ks es e = e

-- the sets over chains
pub stands : (bs : List ℕ) (selects : ℕ → Bool) (heads : List (Option ℕ)) (nodes : List Vertex) → length nodes ≤ 16 → ((k : ℕ) → k < 16 → chain_from bs (get_or heads k None) ≡ numbers_of bs nodes k)
    → StandsFor (tree_of bs) nodes (λ _ k _. selects k) (book_of bs) (chains bs selects heads)
stands bs selects heads nodes few h = record {
  elements = refl;
  named = λ i l.
      cond-true _ _ _ (lt-ltb i 16 (omega arith))
      ∙ ap (λ ks. map region_of (map (element_at bs) (filter selects ks))) (h i (omega arith) ∙ cond-true _ _ _ (lt-ltb i (length nodes) l))
      ∙ ap (map region_of) (selected (element_at bs) (has_name (tree_of bs) (node_at nodes i).name) selects 0 (element_count bs));
  past = λ i l. ⊎_elim
      (λ (m : i < 16). cond-true _ _ _ (lt-ltb i 16 m) ∙ ap (λ ks. map region_of (map (element_at bs) (filter selects ks))) (h i m ∙ cond-false (ltb i (length nodes)) _ _ (le-ltb i (length nodes) l)))
      (λ (m : 16 ≤ i). cond-false (ltb i 16) _ _ (le-ltb i 16 m)) (cases_lt i 16);
}

-- where all are let through, those with the name are left
all_pass : (p : Element → Bool) (a : ℕ) (es : List Element) → passing (λ _ e. p e && true) a es ≡ filter p es
all_pass p a [] = refl
all_pass p a (e ∷ es) = step (p e) (all_pass p (a + 1) es)
  where
    step : (b : Bool) {xs ys : List Element} → xs ≡ ys → cond (b && true) (e ∷ xs) xs ≡ cond b (e ∷ ys) ys
    step true h = rw h
    step false h = h

pub all_named : (t : Tree) (nodes : List Vertex) (book : List Region) (lists : ℕ → List Region) → StandsFor t nodes (λ _ _ _. true) book lists → lists ≡ lists_of t nodes
all_named t nodes book lists s = fun_ext (λ i. ⊎_elim
    (λ (l : i < length nodes). s.named i l ∙ ap (map region_of) (all_pass _ 0 t.elements) ∙ sym (cond-true _ _ _ (lt-ltb i (length nodes) l)))
    (λ (l : length nodes ≤ i). s.past i l ∙ sym (cond-false (ltb i (length nodes)) _ _ (le-ltb i (length nodes) l))) (cases_lt i (length nodes)))

-- a layer's rule is one more condition
kept : (keep : Region → Bool) (p : Element → Bool) (q : ℕ → Element → Bool) (a : ℕ) (es : List Element)
    → filter keep (map region_of (passing (λ k e. p e && q k e) a es)) ≡ map region_of (passing (λ k e. p e && (q k e && keep (region_of e))) a es)
kept keep p q a [] = refl
kept keep p q a (e ∷ es) = step (p e) (q a e) (keep (region_of e)) refl _ _ (kept keep p q (a + 1) es)
  where
    step : (b c d : Bool) → keep (region_of e) ≡ d → (xs ys : List Element) → filter keep (map region_of xs) ≡ map region_of ys
        → filter keep (map region_of (cond (b && c) (e ∷ xs) xs)) ≡ map region_of (cond (b && (c && d)) (e ∷ ys) ys)
    step true true true k xs ys h = rw (k, h)
    step true true false k xs ys h = rw (k, h)
    step true false d k xs ys h = h
    step false c d k xs ys h = h

pub layers_add_a_condition : LayersAddACondition
layers_add_a_condition t nodes lets book lists keep s = record {
  elements = s.elements;
  named = λ i l. ap (filter (keep i)) (s.named i l) ∙ kept (keep i) (has_name t (node_at nodes i).name) (lets i) 0 t.elements;
  past = λ i l. ap (filter (keep i)) (s.past i l);
}
