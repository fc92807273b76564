-- The stack of open elements, step by step.
use Rattle.std.proofs.Common.{◌≡◌, ℕ, suc, ◌+◌, ◌-◌, ◌<◌, ◌≤◌, true, false, List, [], ◌∷◌, ◌++◌, length, get_or, sym, ◌∙◌, ⊎_elim, add-one, arith}
use Rattle.std.proofs.lemmas.Grind.{elements}
use Rattle.std.proofs.lemmas.Bool.{cases_lt, lt-ltb, le-ltb, and_from, and_right}
use Rattle.tree.specs.Region.{Region, contains, count_below, Fits}
use Rattle.tree.proofs.Books.{count_same, count_tail}
use Rattle.sheet.specs.Stack.{Stack, last_start}

contains_yes : (reg : ℕ → Region) (j k : ℕ) → (reg j).start < (reg k).start → (reg k).end < (reg j).end
    → contains (reg j) (reg k) ≡ true
contains_yes reg j k a b = and_from _ _ (lt-ltb _ _ a) (lt-ltb _ _ b)

contains_no : (reg : ℕ → Region) (j k : ℕ) → (reg j).end ≤ (reg k).end → contains (reg j) (reg k) ≡ false
contains_no reg j k b = and_right _ _ (le-ltb _ _ b)

-- Element k, which is nested among those before it, is contained in the open ones and no others.
module _ (reg : ℕ → Region) (k : ℕ) (stack : List ℕ) (before : (j : ℕ) → j < k → Fits reg j)
    (s : Stack reg k (reg k).start stack) (span : (reg k).start < (reg k).end)
    (rising : (j : ℕ) → j < k → (reg j).start < (reg k).start)
    (nested : (j : ℕ) → j < k → (reg k).start ≤ (reg j).end → (reg k).end < (reg j).end)
    (top : 0 < length stack → (reg k).start ≤ (reg (get_or stack (length stack - 1) 0)).end)
  where
    none : length stack ≡ 0 → count_below (λ j. contains (reg j) (reg k)) k ≡ 0
    none z = count_tail (λ j. contains (reg j) (reg k)) 0 k (omega arith) (λ j a b. contains_no reg j k (grind arith))

    -- one between the innermost and k has ended
    past : 0 < length stack → (j : ℕ) → get_or stack (length stack - 1) 0 < j → j < k → contains (reg j) (reg k) ≡ false
    past pos j a b = contains_no reg j k (grind arith)

    -- one before the innermost contains k where it contains the innermost
    outer : 0 < length stack → (j : ℕ) → j < get_or stack (length stack - 1) 0 → contains (reg j) (reg k) ≡ contains (reg j) (reg (get_or stack (length stack - 1) 0))
    outer pos j a =
        let t = get_or stack (length stack - 1) 0 in
        ⊎_elim
        (λ (l : (reg k).end < (reg j).end). contains_yes reg j k (grind arith) l ∙ sym (contains_yes reg j t (grind arith) (grind arith)))
        (λ (l : (reg j).end ≤ (reg k).end). contains_no reg j k l ∙ sym (contains_no reg j t (grind arith)))
        (cases_lt (reg k).end (reg j).end)

    some : 0 < length stack → count_below (λ j. contains (reg j) (reg k)) k ≡ length stack
    some pos =
        let t = get_or stack (length stack - 1) 0 in
        let b = s.below (length stack - 1) (omega arith) in
        let c₁ = count_tail (λ j. contains (reg j) (reg k)) (suc t) k b (λ j l m. past pos j l m) in
        let c₂ : contains (reg t) (reg k) ≡ true = contains_yes reg t k (rising t b) (nested t b (top pos)) in
        let c₃ = count_same (λ j. contains (reg j) (reg k)) (λ j. contains (reg j) (reg t)) t (λ j l. outer pos j l) in
        let v = (before t b).counted in
        let w = s.levels (length stack - 1) (omega arith) in
        c₁ ∙ (rw (c₂, c₃) (omega arith))

    pub depth_count : count_below (λ j. contains (reg j) (reg k)) k ≡ length stack
    depth_count =
        ⊎_elim (λ (p : 0 < length stack). some p) (λ (p : length stack ≤ 0). let z : length stack ≡ 0 = omega arith in none z ∙ sym z) (cases_lt 0 (length stack))

pub rises : (reg : ℕ → Region) (k : ℕ) → ((j : ℕ) → j < k → Fits reg j) → (0 < k → (reg (k - 1)).start < (reg k).start)
    → (j : ℕ) → j < k → (reg j).start < (reg k).start
rises reg k before up j h = grind arith

-- only the first element stands in no other
pub alone : (reg : ℕ → Region) (k : ℕ) (stack : List ℕ) → Fits reg k → Stack reg k (reg k).start stack → length stack ≡ 0 → k ≡ 0
alone reg k stack r s z = grind arith

-- Element k where the open ones are known.
module _ (reg : ℕ → Region) (k : ℕ) (stack : List ℕ) (before : (j : ℕ) → j < k → Fits reg j)
    (s : Stack reg k (reg k).start stack)
    (top : 0 < length stack → (reg k).start ≤ (reg (get_or stack (length stack - 1) 0)).end)
  where
    pub right_depth : Fits reg k → (length stack ≡ (reg k).level) × (length stack ≡ 0 → k ≡ 0)
    right_depth r =
        let e = depth_count reg k stack before s r.span r.rising r.nested top in
        let f = r.counted in
        (omega arith, alone reg k stack r s)

    pub right_region : (reg k).start < (reg k).end → (reg k).end ≤ 16777215 → (reg k).level ≤ 63
        → (0 < k → (reg (k - 1)).start < (reg k).start) → length stack ≡ (reg k).level → (length stack ≡ 0 → k ≡ 0)
        → (0 < length stack → (reg k).end < (reg (get_or stack (length stack - 1) 0)).end) → Fits reg k
    right_region span reach depth up is only inside =
        let rising = rises reg k before up in
        let nested : (j : ℕ) → j < k → (reg k).start ≤ (reg j).end → (reg k).end < (reg j).end = λ j h l. grind arith in
        record {
          span = span;
          reach = reach;
          depth = depth;
          rising = rising;
          nested = nested;
          first = grind arith;
          counted = sym is ∙ sym (depth_count reg k stack before s span rising nested top);
        }

-- element k is opened within the others
pub pushed : (reg : ℕ → Region) (k : ℕ) (stack : List ℕ) → length stack < 64 → length stack ≡ (reg k).level → (length stack ≡ 0 → k ≡ 0)
    → (0 < length stack → (reg k).end < (reg (get_or stack (length stack - 1) 0)).end)
    → Stack reg k (reg k).start stack → Stack reg (k + 1) (last_start reg (k + 1)) (stack ++ k ∷ [])
pushed reg k stack room is only inside s = grind (arith, add-one, elements)
