-- Name numbers that are first used in the order 0, 1, 2, by the elements' places.
use Rattle.std.proofs.Common.{◌≡◌, ℕ, zero, suc, ◌+◌, ◌<◌, ◌≤◌, max, List, [], ◌∷◌, length, get_or, sym, subst, ⊎_elim, arith}
use Rattle.std.specs.List.{AllByRecursion as Every}
use Rattle.std.proofs.ByRecursion.{All-from_get_or}
use Rattle.std.proofs.lemmas.Bool.{cases_lt}
use Rattle.tree.specs.declared.element.Element.{Element}
use Rattle.tree.specs.Tree.{Tree, FirstUses, LawfulTree}

-- the name number of the element at a place of a list
abbrev pub name_in : List Element → ℕ → ℕ
name_in es k = (get_or es k (record { start = 0; «end» = 0; level = 0; name = 0 })).name

-- u k is how many name numbers the first k of n elements use, where these are named by f and first use 0, 1, 2 in this order
abbrev pub UsedBy : (ℕ → ℕ) → ℕ → (ℕ → ℕ) → Type 0
UsedBy f n u = (u 0 ≡ 0) × ((k : ℕ) → k < n → u (suc k) ≡ max (u k) (f k + 1))

-- The first uses of a list are those by places.

places : (es : List Element) (m : ℕ) (u : ℕ → ℕ) → ((k : ℕ) → k < length es → u (suc k) ≡ max (u k) (name_in es k + 1))
    → FirstUses (u 0) es m → ((k : ℕ) → k < length es → name_in es k ≤ u k) × (u (length es) ≡ m)
places [] m u step h = (λ k l. absurd (omega arith), h)
places (e ∷ es) m u step h =
    let s = step 0 (omega arith) in
    let r = places es m (λ k. u (suc k)) (λ k l. step (suc k) (omega arith)) (subst (λ n. FirstUses n es m) (sym s) h.1) in
    (go h.0 r.0, r.1)
  where
    go : e.name ≤ u 0 → ((k : ℕ) → k < length es → name_in es k ≤ u (suc k)) → (k : ℕ) → k < suc (length es) → name_in (e ∷ es) k ≤ u k
    go a b zero l = a
    go a b (suc k) l = b k (omega arith)

listed : (es : List Element) (m : ℕ) (u : ℕ → ℕ) → ((k : ℕ) → k < length es → u (suc k) ≡ max (u k) (name_in es k + 1))
    → ((k : ℕ) → k < length es → name_in es k ≤ u k) → u (length es) ≡ m → FirstUses (u 0) es m
listed [] m u step h e = e
listed (x ∷ es) m u step h e =
    let s = step 0 (omega arith) in
    let r = listed es m (λ k. u (suc k)) (λ k l. step (suc k) (omega arith)) (λ k l. h (suc k) (omega arith)) e in
    (h 0 (omega arith), subst (λ n. FirstUses n es m) s r)

module _ (es : List Element) (m : ℕ) (u : ℕ → ℕ) (by : UsedBy (name_in es) (length es) u) where
  pub uses_by_places : FirstUses 0 es m → ((k : ℕ) → k < length es → name_in es k ≤ u k) × (u (length es) ≡ m)
  uses_by_places h = places es m u by.1 (subst (λ n. FirstUses n es m) (sym by.0) h)

  pub uses_from_places : ((k : ℕ) → k < length es → name_in es k ≤ u k) → u (length es) ≡ m → FirstUses 0 es m
  uses_from_places h e = subst (λ n. FirstUses n es m) by.0 (listed es m u by.1 h e)

-- Every name number is below the last count.

pub uses_rise : (es : List Element) (n m : ℕ) → FirstUses n es m → n ≤ m
uses_rise [] n m h = omega arith
uses_rise (e ∷ es) n m h = omega (arith, uses_rise es (max n (e.name + 1)) m h.1)

pub uses_below : (es : List Element) (n m : ℕ) → FirstUses n es m → (k : ℕ) → k < length es → name_in es k < m
uses_below [] n m h k l = absurd (omega arith)
uses_below (e ∷ es) n m h zero l = omega (arith, uses_rise es (max n (e.name + 1)) m h.1)
uses_below (e ∷ es) n m h (suc k) l = uses_below es (max n (e.name + 1)) m h.1 k (omega arith)

-- each element of a lawful tree has one of its names
pub names_known : (t : Tree) → LawfulTree t → Every (λ (e : Element). e.name < length t.names) t.elements
names_known t l =
    All-from_get_or (λ (e : Element). e.name < length t.names) t.elements _ (λ k h. uses_below t.elements 0 (length t.names) l.used k h)

-- What the count says.
module _ (f : ℕ → ℕ) (n : ℕ) (u : ℕ → ℕ) (by : UsedBy f n u) where
  used_rises : (i k : ℕ) → i ≤ k → k ≤ n → u i ≤ u k
  used_rises i zero h l = grind arith
  used_rises i (suc k) h l =
      grind (arith, by.1 k l, λ (a : i ≤ k). used_rises i k a (omega arith))

  -- an element's name number is below the count behind it
  pub name_below : (i k : ℕ) → i < k → k ≤ n → f i < u k
  name_below i k h l = omega (arith, used_rises (suc i) k h l, by.1 i (omega arith))

  module _ (fresh : (k : ℕ) → k < n → f k ≤ u k) where
    -- no more name numbers than elements
    pub used_few : (k : ℕ) → k ≤ n → u k ≤ k
    used_few zero h = omega (arith, by.0)
    used_few (suc k) h = omega (arith, used_few k (omega arith), fresh k h, by.1 k h)

    -- each number below the count is some element's
    pub used_found : (k j : ℕ) → k ≤ n → j < u k → (i : ℕ) × (i < k) × (f i ≡ j)
    used_found zero j h l = absurd (omega (arith, by.0))
    used_found (suc k) j h l =
        ⊎_elim (λ (a : j < u k). let r = used_found k j (omega arith) a in (r.0, omega (arith, r.1), r.2))
        (λ (a : u k ≤ j). (k, omega arith, omega (arith, fresh k h, by.1 k h)))
        (cases_lt j (u k))
