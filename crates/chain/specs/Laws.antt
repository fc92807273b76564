-- A set over chains is a stream set. The proof stands here, since the ghost member `laws` may cite specs alone.
use Rattle.std.proofs.Common.{◌≡◌, ℕ, zero, suc, ◌+◌, ◌-◌, Bool, ltb, eqb, List, [], ◌∷◌, map, get_or, Some, None, Option, refl, ap, sym, subst, arith}
use mathlib.Core.List.Sublistᴰ
use mathlib.Core.List.{Sublistᴰ}
use Rattle.std.specs.List.{range_with_len}
use Rattle.std.proofs.lemmas.Bool.{cond_both, cond-false, le-ltb}
use Rattle.tree.specs.declared.element.Element.{Element}
use Rattle.tree.specs.Region.{LawfulBook}
use Rattle.tree.specs.Tree as tree
use Rattle.layout.specs.Layout.{element_count, element_at, elements_of}
use Rattle.layout.specs.Lawful.{LawfulSheet}
use Rattle.layout.proofs.Unique.{sheet_shows_a_tree}
use Rattle.sheet.proofs.Props.{lawful_of}
use Rattle.stream.specs.Regions.{region_of}
use Rattle.stream.specs.Sets as sets
use Rattle.stream.specs.Sets.{Laws}
use Rattle.stream.specs.Narrowing.{kept_part}
use Rattle.stream.proofs.Parts.{map_part}
use Rattle.chain.specs.Chains.{book_of, chain_from, taken_from, chains}

counting_part : (k a n : ℕ) → Sublistᴰ (range_with_len (a + k) (n - k)) (range_with_len a n)
counting_part zero a n = let p : a + 0 ≡ a = omega arith in let q : n - 0 ≡ n = omega arith in rw (p, q) (Sublistᴰ.refl _)
counting_part (suc k) a zero = let z : 0 - suc k ≡ 0 = omega arith in rw z Sublistᴰ.slnil
counting_part (suc k) a (suc n) = let p : a + suc k ≡ a + 1 + k = omega arith in let q : suc n - suc k ≡ n - k = omega arith in rw (p, q) (Sublistᴰ.cons (counting_part k (a + 1) n))

chain_part : (bs : List ℕ) (head : Option ℕ) → Sublistᴰ (chain_from bs head) (range_with_len 0 (element_count bs))
chain_part bs None = Sublistᴰ.nil-sublist _
chain_part bs (Some k) =
    let z : 0 + k ≡ k = omega arith in
    let numbers = subst (λ (m : ℕ). Sublistᴰ (range_with_len m (element_count bs - k)) (range_with_len 0 (element_count bs))) z (counting_part k 0 (element_count bs)) in
    Sublistᴰ.trans (kept_part (λ j. eqb (element_at bs j).name (element_at bs k).name) _) numbers

taken_part : (bs : List ℕ) (selects : ℕ → Bool) (head : Option ℕ) → Sublistᴰ (taken_from bs selects head) (book_of bs)
taken_part bs selects head = map_part region_of (map_part (element_at bs) (Sublistᴰ.trans (kept_part selects _) (chain_part bs head)))

map-map : (es : List Element) → map sets.region_of (map region_of es) ≡ map tree.region_of es
map-map [] = refl
map-map (e ∷ es) = ap (λ l. tree.region_of e ∷ l) (map-map es)

-- a lawful sheet with a choice of its elements and the number of each list's first element
pub chain_laws : {T : Type 0} (bytes : T → List ℕ) (selects : T → ℕ → Bool) (heads : T → List (Option ℕ)) → ((t : T) → ∥ LawfulSheet (bytes t) ∥₁) → Laws (λ t. book_of (bytes t)) (λ t. chains (bytes t) (selects t) (heads t))
chain_laws bytes selects heads lawful = record {
  lawful = λ t. subst LawfulBook (sym (map-map (elements_of (bytes t)))) (sheet_shows_a_tree (bytes t) (lawful_of (bytes t) (lawful t))).regions;
  part = λ t i. cond_both (ltb i 16) _ _ (λ xs. Sublistᴰ xs (book_of (bytes t))) (λ _. taken_part (bytes t) (selects t) (get_or (heads t) i None)) (λ _. Sublistᴰ.nil-sublist _);
  sixteen = λ t i h. cond-false (ltb i 16) _ _ (le-ltb i 16 h);
}
