-- A chain goes on at its first element's next.
use Rattle.std.proofs.Common.{◌≡◌, ℕ, zero, suc, ◌+◌, ◌-◌, ◌<◌, ◌≤◌, Bool, true, false, cond, eqb, ltb, List, [], ◌∷◌, map, length, get_or, set, Some, None, filter, Option, sym, refl, ap, ◌∙◌, ⊎_elim, arith}
use Rattle.std.proofs.Math.Path.{fun_ext}
use Rattle.std.specs.List.{range_with_len}
use Rattle.std.specs.Option.{option_map}
use Rattle.std.proofs.lemmas.Bool.{cond_both, cases_lt, eq-eqb, ne_eqb, lt-ltb, le-ltb, cond-true, eqb-true, eqb-false}
use Rattle.std.proofs.lemmas.List.{get_or_past, get_or-set_same, get_or-set_other}
use Rattle.layout.specs.Layout.{element_count, element_at}
use Rattle.layout.specs.Lawful.{FirstNamed, LawfulSheet}
use Rattle.sheet.specs.Viewing.{element_in, next_in}
use Rattle.stream.specs.declared.region.Region.{Region}
use Rattle.stream.proofs.Positions.{update_fixed}
use Rattle.stream.specs.Lists.{update, first, rest}
use Rattle.stream.specs.Regions.{region_of}
use Rattle.sheet.specs.Laws.{FirstIfAny}
use Rattle.sheet.proofs.Promises.{chains_follow_names}
use Rattle.chain.specs.Chains.{named, chain_from, taken_from, chains}

-- s elements from a on that have another name are passed over
pass : (bs : List ℕ) (n s a m : ℕ) → ((i : ℕ) → a ≤ i → i < a + s → (element_at bs i).name ≡ n → ⊥) → s ≤ m
    → filter (λ j. eqb (element_at bs j).name n) (range_with_len a m) ≡ filter (λ j. eqb (element_at bs j).name n) (range_with_len (a + s) (m - s))
pass bs n zero a m h l = let p : a + 0 ≡ a = omega arith in let q : m - 0 ≡ m = omega arith in rw (p, q)
pass bs n (suc s) a zero h l = absurd (omega arith)
pass bs n (suc s) a (suc m) h l =
    let no : eqb (element_at bs a).name n ≡ false = ne_eqb _ _ (h a (omega arith) (omega arith)) in
    let p : a + suc s ≡ a + 1 + s = omega arith in
    let q : suc m - suc s ≡ m - s = omega arith in
    rw (no, p, q) (pass bs n s (a + 1) m (λ i u v. h i (omega arith) (omega arith)) (omega arith))

-- there is none past the last
pub ended : (bs : List ℕ) (n k : ℕ) → element_count bs ≤ k → named bs n k ≡ []
ended bs n k h = let z : element_count bs - k ≡ 0 = omega arith in rw z

-- from m on, the elements with a name are those from the first one on
pub from_first : (bs : List ℕ) (n m k : ℕ) → FirstNamed bs n m k → named bs n m ≡ chain_from bs (Some k)
from_first bs n m k f =
    let c : m + (k - m) ≡ k = omega (arith, f.from) in
    let d : (element_count bs - m) - (k - m) ≡ element_count bs - k = omega (arith, f.from, f.within) in
    let p = pass bs n (k - m) m (element_count bs - m) (λ i u v. f.before i u (omega (arith, f.from))) (omega (arith, f.within)) in
    let same : named bs n k ≡ chain_from bs (Some k) =
    ⊎_elim (λ (l : k < element_count bs). ap (λ (x : ℕ). named bs x k) (sym (f.here l)))
    (λ (l : element_count bs ≤ k). ended bs n k l ∙ sym (ended bs (element_at bs k).name k l)) (cases_lt k (element_count bs)) in
    p ∙ rw (c, d) same

-- likewise where there may be none
pub from_first_if_any : (bs : List ℕ) (n m : ℕ) (o : Option ℕ) → FirstIfAny bs n m o → named bs n m ≡ chain_from bs o
from_first_if_any bs n m None f = from_first bs n m (element_count bs) f ∙ ended bs _ (element_count bs) (omega arith)
from_first_if_any bs n m (Some k) f = from_first bs n m k f.1

pub chain_step : (bs : List ℕ) → LawfulSheet bs → (k : ℕ) → k < element_count bs → chain_from bs (Some k) ≡ k ∷ chain_from bs (next_in bs k)
chain_step bs law k h =
    let w = (element_at bs k).name in
    let e : element_count bs - k ≡ suc (element_count bs - (k + 1)) = omega arith in
    let yes : eqb w w ≡ true = eq-eqb w w refl in
    rw (e, yes) (ap (λ (ks : List ℕ). k ∷ ks) (from_first_if_any bs w (k + 1) (next_in bs k) ((chains_follow_names bs law).0 k h)))

-- past the last element there is no chain
chain_past : (bs : List ℕ) (k : ℕ) → element_count bs ≤ k → (chain_from bs (Some k) ≡ []) × (next_in bs k ≡ None)
chain_past bs k h = let b : ltb k (element_count bs) ≡ false = le-ltb k (element_count bs) h in (ended bs (element_at bs k).name k h, rw b refl)

-- how many steps there are from a first element on
abbrev pub steps : List ℕ → Option ℕ → ℕ
steps bs None = 0
steps bs (Some k) = suc (length (chain_from bs (Some k)))

fewer : (bs : List ℕ) (o : Option ℕ) (n : ℕ) → length (chain_from bs o) < n → steps bs o < suc n
fewer bs None n h = omega arith
fewer bs (Some k) n h = omega arith

pub steps_fall : (bs : List ℕ) → LawfulSheet bs → (k : ℕ) → steps bs (next_in bs k) < steps bs (Some k)
steps_fall bs law k = ⊎_elim
    (λ (l : k < element_count bs). let e = ap length (chain_step bs law k l) in fewer bs (next_in bs k) _ (omega arith))
    (λ (l : element_count bs ≤ k). let e = ap (steps bs) (chain_past bs k l).1 in omega arith) (cases_lt k (element_count bs))

module _ (bs : List ℕ) (law : LawfulSheet bs) (selects : ℕ → Bool) (k : ℕ) where
  -- the first of a chain is selected
  first_taken : selects k ≡ true → first (taken_from bs selects (Some k)) ≡ option_map region_of (element_in bs k)
  first_taken taken = ⊎_elim
      (λ (l : k < element_count bs). let b = lt-ltb _ _ l in ap (λ (ks : List ℕ). first (map region_of (map (element_at bs) (filter selects ks)))) (chain_step bs law k l) ∙ rw (b, taken) refl)
      (λ (l : element_count bs ≤ k). let b = le-ltb k (element_count bs) l in rw ((chain_past bs k l).0, b) refl) (cases_lt k (element_count bs))

  rest_taken : selects k ≡ true → taken_from bs selects (next_in bs k) ≡ rest (taken_from bs selects (Some k))
  rest_taken taken = ⊎_elim
      (λ (l : k < element_count bs). sym (ap (λ (ks : List ℕ). rest (map region_of (map (element_at bs) (filter selects ks)))) (chain_step bs law k l) ∙ rw taken refl))
      (λ (l : element_count bs ≤ k). rw ((chain_past bs k l).0, (chain_past bs k l).1) refl) (cases_lt k (element_count bs))

  -- it is passed over
  rest_passed : selects k ≡ false → taken_from bs selects (next_in bs k) ≡ taken_from bs selects (Some k)
  rest_passed left = ⊎_elim
      (λ (l : k < element_count bs). sym (ap (λ (ks : List ℕ). map region_of (map (element_at bs) (filter selects ks))) (chain_step bs law k l) ∙ rw left refl))
      (λ (l : element_count bs ≤ k). rw ((chain_past bs k l).0, (chain_past bs k l).1) refl) (cases_lt k (element_count bs))

-- without a first element a list is empty
pub none_left : (bs : List ℕ) (selects : ℕ → Bool) (heads : List (Option ℕ)) (i : ℕ) → get_or heads i None ≡ None → chains bs selects heads i ≡ []
none_left bs selects heads i e = cond_both (ltb i 16) _ _ (λ xs. xs ≡ []) (λ _. ap (taken_from bs selects) e) (λ _. refl)

-- past the last position there is no first element
pub inside : (heads : List (Option ℕ)) → length heads ≡ 16 → (i k : ℕ) → get_or heads i None ≡ Some k → i < 16
inside heads n i k head = ⊎_elim (λ (l : i < 16). l) (λ (l : 16 ≤ i). let z : Some k ≡ None = sym head ∙ get_or_past heads i None (omega arith) in cc) (cases_lt i 16)

module _ (bs : List ℕ) (law : LawfulSheet bs) (selects : ℕ → Bool) (heads : List (Option ℕ)) (n : length heads ≡ 16) (i k : ℕ) (head : get_or heads i None ≡ Some k) where
  list_by : chains bs selects heads i ≡ taken_from bs selects (Some k)
  list_by = cond-true _ _ _ (lt-ltb i 16 (inside heads n i k head)) ∙ ap (taken_from bs selects) head

  pub first_told : selects k ≡ true → first (chains bs selects heads i) ≡ option_map region_of (element_in bs k)
  first_told taken = ap first list_by ∙ first_taken bs law selects k taken

  -- the list at i by its new first element, and the others
  turned : (v : Option ℕ) (f : List Region → List Region) → taken_from bs selects v ≡ f (taken_from bs selects (Some k)) → chains bs selects (set heads i v) ≡ update i f (chains bs selects heads)
  turned v f e = fun_ext (λ j. go j (eqb j i) refl)
    where
      same : chains bs selects (set heads i v) i ≡ f (chains bs selects heads i)
      same =
          cond-true _ _ _ (lt-ltb i 16 (inside heads n i k head))
          ∙ ap (taken_from bs selects) (get_or-set_same heads i v None (let l = inside heads n i k head in omega arith))
          ∙ e ∙ sym (ap f list_by)

      go : (j : ℕ) (b : Bool) → eqb j i ≡ b → chains bs selects (set heads i v) j ≡ cond b (f (chains bs selects heads j)) (chains bs selects heads j)
      go j true t = let here : j ≡ i = eqb-true j i t in rw here same
      go j false t = ap (λ (o : Option ℕ). cond (ltb j 16) (taken_from bs selects o) []) (get_or-set_other heads i j v None (eqb-false j i t))

  pub next_taken : (v : Option ℕ) → v ≡ next_in bs k → selects k ≡ true → chains bs selects (set heads i v) ≡ update i rest (chains bs selects heads)
  next_taken v e taken = turned v rest (ap (taken_from bs selects) e ∙ rest_taken bs law selects k taken)

  pub next_passed : (v : Option ℕ) → v ≡ next_in bs k → selects k ≡ false → chains bs selects (set heads i v) ≡ chains bs selects heads
  next_passed v e left = turned v (λ xs. xs) (ap (taken_from bs selects) e ∙ rest_passed bs law selects k left) ∙ update_fixed i (λ xs. xs) (chains bs selects heads) refl

  pub steps_left : (v : Option ℕ) → v ≡ next_in bs k → steps bs (get_or (set heads i v) i None) < steps bs (get_or heads i None)
  steps_left v e =
      let a = ap (steps bs) (get_or-set_same heads i v None (let l = inside heads n i k head in omega arith) ∙ e) in
      let b = ap (steps bs) head in
      let c = steps_fall bs law k in
      omega arith
