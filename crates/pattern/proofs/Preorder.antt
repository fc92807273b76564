-- Nodes in preorder, by the path to the latest node and by numbers: each form gives the other.
use Rattle.std.proofs.Common.{◌≡◌, ℕ, zero, suc, ◌+◌, ◌<◌, ◌≤◌, Bool, true, false, cond, ◌||◌, eqb, List, [], ◌∷◌, length, sym, refl, ap, ◌∙◌, subst, ⊎_elim, add-zero, arith}
use Rattle.std.specs.List.{AllByRecursion as Every}
use Rattle.std.proofs.lemmas.Bool.{true≢false, eqb-true, eqb-false, or_cases, or_left, or_right, cond-true, cond-false, cond_both, cases_Bool, cases_lt}
use Rattle.markup.specs.Name.{LawfulName}
use Rattle.pattern.specs.declared.node.Edge.TheVariants.{Child}
use Rattle.pattern.specs.Shape.{Vertex, node_at, Under, self, below, LawfulTwig}
use Rattle.pattern.specs.Promises.{SubtreesAreRunsOfNumbers}

-- p is one of these numbers
abbrev pub among : ℕ → List ℕ → Bool
among p [] = false
among p (q ∷ qs) = eqb p q || among p qs

-- the numbers from p on
abbrev pub onto : ℕ → List ℕ → List ℕ
onto p [] = []
onto p (q ∷ qs) = cond (eqb p q) (q ∷ qs) (onto p qs)

-- The nodes vs are numbered from n; `path` has the node before them and its ancestors, the nearest first. Each node's parent is the
-- node before it or an ancestor of that.
abbrev pub Preorder : List ℕ → ℕ → List Vertex → Type 0
Preorder path n [] = Unit {0}
Preorder path n (v ∷ vs) = (among v.parent path ≡ true) × Preorder (n ∷ onto v.parent path) (n + 1) vs

-- all are below n
abbrev Less : ℕ → List ℕ → Type 0
Less n [] = Unit {0}
Less n (q ∷ qs) = (q < n) × Less n qs

-- each is below the one before it
abbrev Falling : List ℕ → Type 0
Falling [] = Unit {0}
Falling (q ∷ qs) = Less q qs × Falling qs

less_more : (m n : ℕ) (qs : List ℕ) → m ≤ n → Less m qs → Less n qs
less_more m n [] le u = tt
less_more m n (q ∷ qs) le u = (omega (arith, u.0), less_more m n qs le u.1)

less_among : (p n : ℕ) (qs : List ℕ) → Less n qs → among p qs ≡ true → p < n
less_among p n [] u m = absurd (true≢false (sym m))
less_among p n (q ∷ qs) u m =
    ⊎_elim (λ (h : eqb p q ≡ true). omega (arith, eqb-true p q h, u.0)) (λ (h : among p qs ≡ true). less_among p n qs u.1 h) (or_cases (eqb p q) (among p qs) m)

less_onto : (p n : ℕ) (qs : List ℕ) → Less n qs → Less n (onto p qs)
less_onto p n [] u = tt
less_onto p n (q ∷ qs) u = cond_both (eqb p q) (q ∷ qs) (onto p qs) (Less n) (λ _. u) (λ _. less_onto p n qs u.1)

falling_onto : (p : ℕ) (qs : List ℕ) → Falling qs → Falling (onto p qs)
falling_onto p [] u = tt
falling_onto p (q ∷ qs) u = cond_both (eqb p q) (q ∷ qs) (onto p qs) Falling (λ _. u) (λ _. falling_onto p qs u.1)

-- f gives the parent of each node
module _ (f : ℕ → ℕ) where
  -- the nodes vs are numbered from n
  abbrev Gives : ℕ → List Vertex → Type 0
  Gives n [] = Unit {0}
  Gives n (v ∷ vs) = (f n ≡ v.parent) × Gives (n + 1) vs

  -- no node between q and n hangs on a node before q
  abbrev Clear : ℕ → ℕ → Type 0
  Clear q n = (b : ℕ) → q < b → b < n → q ≤ f b

  abbrev AllClear : ℕ → List ℕ → Type 0
  AllClear n [] = Unit {0}
  AllClear n (q ∷ qs) = Clear q n × AllClear n qs

  abbrev Ordered : ℕ → Type 0
  Ordered c = (f c < c) × Clear (f c) c

  clear_among : (p n : ℕ) (qs : List ℕ) → among p qs ≡ true → AllClear n qs → Clear p n
  clear_among p n [] m u = absurd (true≢false (sym m))
  clear_among p n (q ∷ qs) m u =
      ⊎_elim (λ (h : eqb p q ≡ true). subst (λ x. Clear x n) (sym (eqb-true p q h)) u.0) (λ (h : among p qs ≡ true). clear_among p n qs h u.1) (or_cases (eqb p q) (among p qs) m)

  -- past node n, which hangs on p
  module _ (n p : ℕ) (hangs : f n ≡ p) where
    clear_more : (q : ℕ) → q ≤ p → Clear q n → Clear q (n + 1)
    clear_more q le u b l r =
        ⊎_elim (λ (h : b < n). u b l h) (λ (h : n ≤ b). let e : b ≡ n = omega arith in omega (arith, ap f e, hangs, le)) (cases_lt b n)

    all_more : (qs : List ℕ) → Less (p + 1) qs → AllClear n qs → AllClear (n + 1) qs
    all_more [] l u = tt
    all_more (q ∷ qs) l u = (clear_more q (omega (arith, l.0)) u.0, all_more qs l.1 u.1)

    all_onto : (qs : List ℕ) → Falling qs → AllClear n qs → AllClear (n + 1) (onto p qs)
    all_onto [] s u = tt
    all_onto (q ∷ qs) s u =
        cond_both (eqb p q) (q ∷ qs) (onto p qs) (AllClear (n + 1))
        (λ is. let e : p ≡ q = eqb-true p q is in all_more (q ∷ qs) (omega (arith, e), less_more q (p + 1) qs (omega (arith, e)) s.0) u)
        (λ _. all_onto qs s.1 u.1)

  ordered : (vs : List Vertex) (path : List ℕ) (n : ℕ) → Less n path → Falling path → AllClear n path → Gives n vs → Preorder path n vs → (c : ℕ) → n ≤ c → c < n + length vs → Ordered c
  ordered [] path n l s u g p c le lt = absurd (omega (arith, lt, le))
  ordered (v ∷ vs) path n l s u g p c le lt =
      let q = v.parent in
      let here : Ordered n = subst (λ x. (x < n) × Clear x n) (sym g.0) (less_among q n path l p.0, clear_among q n path p.0 u) in
      let up : (n < n + 1) × Less (n + 1) (onto q path) = (omega arith, less_more n (n + 1) (onto q path) (omega arith) (less_onto q n path l)) in
      ⊎_elim
      (λ (h : n < c).
      ordered vs (n ∷ onto q path) (n + 1) up (less_onto q n path l, falling_onto q path s)
      ((λ b x y. absurd (omega (arith, x, y))), all_onto n q g.0 path s u) g.1 p.1 c (omega arith) (omega (arith, lt)))
      (λ (h : c ≤ n). let e : n ≡ c = omega arith in subst Ordered e here)
      (cases_lt n c)

  -- the ancestors of h
  abbrev Path : ℕ → List ℕ → Type 0
  Path h [] = h ≡ 0
  Path h (r ∷ rs) = (f h ≡ r) × (r < h) × Path r rs

  -- a node that is clear of h is on its path
  abbrev On : ℕ → List ℕ → Type 0
  On p path = (rest : List ℕ) × (among p path ≡ true) × (onto p path ≡ p ∷ rest) × Path p rest

  on_here : (p h : ℕ) (gs : List ℕ) → Path h gs → eqb p h ≡ true → On p (h ∷ gs)
  on_here p h gs path is =
      let e : h ≡ p = sym (eqb-true p h is) in
      (gs, or_left _ _ is, cond-true _ _ _ is ∙ ap (λ x. x ∷ gs) e, subst (λ x. Path x gs) e path)

  on_path : (p h : ℕ) (gs : List ℕ) → Path h gs → p ≤ h → ((b : ℕ) → p < b → b ≤ h → p ≤ f b) → On p (h ∷ gs)
  on_path p h [] path le u =
      ⊎_elim (λ (is : eqb p h ≡ true). on_here p h [] path is) (λ (ne : eqb p h ≡ false). let e : (p ≡ h → ⊥) = eqb-false p h ne in absurd (omega (arith, e, path, le))) (cases_Bool (eqb p h))
  on_path p h (r ∷ rs) path le u =
      ⊎_elim
      (λ (is : eqb p h ≡ true). on_here p h (r ∷ rs) path is)
      (λ (ne : eqb p h ≡ false).
      let e : (p ≡ h → ⊥) = eqb-false p h ne in
      let low : p ≤ r = omega (arith, u h (omega (arith, e, le)) (omega arith), path.0) in
      let q = on_path p r rs path.2 low (λ b x y. u b x (omega (arith, y, path.1))) in
      (q.0, or_right _ _ q.1, cond-false _ _ _ ne ∙ q.2, q.3))
      (cases_Bool (eqb p h))

  in_preorder : (vs : List Vertex) (h : ℕ) (gs : List ℕ) → Path h gs → Gives (h + 1) vs → ((c : ℕ) → h < c → c < h + 1 + length vs → Ordered c) → Preorder (h ∷ gs) (h + 1) vs
  in_preorder [] h gs path g o = tt
  in_preorder (v ∷ vs) h gs path g o =
      let n = h + 1 in
      let w : (v.parent < n) × Clear v.parent n = subst (λ x. (x < n) × Clear x n) g.0 (o n (omega arith) (omega arith)) in
      let q = on_path v.parent h gs path (omega (arith, w.0)) (λ b x y. w.1 b x (omega (arith, y))) in
      let next : Preorder (n ∷ v.parent ∷ q.0) (n + 1) vs =
      in_preorder vs n (v.parent ∷ q.0) (g.0, w.0, q.3) g.1 (λ c x y. o c (omega (arith, x)) (omega (arith, y))) in
      (q.1, subst (λ x. Preorder (n ∷ x) (n + 1) vs) (sym q.2) next)

-- the parents of a list of nodes
abbrev parents : List Vertex → ℕ → ℕ
parents nodes i = (node_at nodes i).parent

gives : (nodes vs : List Vertex) (n : ℕ) → ((i : ℕ) → node_at nodes (n + i) ≡ node_at vs i) → Gives (parents nodes) n vs
gives nodes [] n h = tt
gives nodes (v ∷ vs) n h =
    let e : n ≡ n + 0 = sym (add-zero n) in
    (ap (parents nodes) e ∙ ap (λ (x : Vertex). x.parent) (h 0), gives nodes vs (n + 1) (λ i. let e' : n + 1 + i ≡ n + suc i = omega arith in ap (node_at nodes) e' ∙ h (suc i)))

gives_rest : (v : Vertex) (vs : List Vertex) → Gives (parents (v ∷ vs)) 1 vs
gives_rest v vs = gives (v ∷ vs) vs 1 (λ i. let e : 1 + i ≡ suc i = omega arith in ap (node_at (v ∷ vs)) e)

pub from_preorder : (v : Vertex) (vs : List Vertex) → v.parent ≡ 0 → v.edge ≡ Child → length vs < 16 → Every (λ (x : Vertex). LawfulName x.name) (v ∷ vs) → Preorder (0 ∷ []) 1 vs → LawfulTwig (v ∷ vs)
from_preorder v vs root edge few names p =
    let o : (c : ℕ) → 0 < c → c < length (v ∷ vs) → Ordered (parents (v ∷ vs)) c =
    λ c x y. ordered (parents (v ∷ vs)) vs (0 ∷ []) 1 (omega arith, tt) (tt, tt) ((λ b l r. absurd (omega (arith, l, r))), tt) (gives_rest v vs) p c (omega arith) (omega arith) in
    record {
      some = omega arith;
      few = omega arith;
      named = names;
      root = root;
      root_edge = edge;
      lower = λ c x y. (o c x y).0;
      runs = λ b c y l r. let x : 0 < c = omega (arith, r) in (o c x y).1 b l r;
    }

pub to_preorder : (v : Vertex) (vs : List Vertex) → LawfulTwig (v ∷ vs) → Preorder (0 ∷ []) 1 vs
to_preorder v vs w =
    in_preorder (parents (v ∷ vs)) vs 0 [] refl (gives_rest v vs) (λ c x y. let y' : c < length (v ∷ vs) = omega arith in (w.lower c x y', λ b l r. w.runs b c y' l r))

-- the nodes under a node
module _ (nodes : List Vertex) (w : LawfulTwig nodes) where
  -- Where k stands under i, none of the nodes from i to k hangs on a node before i.
  record Inside (i k : ℕ) : Type 0 where
    up : i ≤ k
    there : i < k → k < length nodes
    clear : (j : ℕ) → i < j → j ≤ k → i ≤ parents nodes j

  within : (i k : ℕ) → Under nodes i k → Inside i k
  within i k self = record { up = omega arith; there = λ l. absurd (omega (arith, l)); clear = λ j l r. absurd (omega (arith, l, r)) }
  within i k (below p c h u) =
      let q = within i p u in
      let low : p < c = omega (arith, w.lower c h.other h.there, h.hangs) in
      let between : (j : ℕ) → p < j → j < c → i ≤ parents nodes j = λ j x y. omega (arith, w.runs j c h.there (omega (arith, h.hangs, x)) y, h.hangs, q.up) in
      record {
        up = omega (arith, q.up, low);
        there = λ _. h.there;
        clear = λ j l r.
            ⊎_elim
            (λ (x : p < j). ⊎_elim (λ (y : j < c). between j x y) (λ (y : c ≤ j). let e : j ≡ c = omega arith in omega (arith, ap (parents nodes) e, h.hangs, q.up)) (cases_lt j c))
            (λ (x : j ≤ p). q.clear j l x)
            (cases_lt p j);
      }

  run_under : (n i k : ℕ) → Inside i k → (j : ℕ) → j ≤ n → i ≤ j → j ≤ k → Under nodes i j
  run_under zero i k q j few l r = let e : i ≡ j = omega arith in subst (Under nodes i) e self
  run_under (suc n) i k q j few l r =
      ⊎_elim
      (λ (x : i < j).
      let p = parents nodes j in
      let there : j < length nodes = omega (arith, q.there (omega arith)) in
      let low : p < j = w.lower j (omega arith) there in
      below p j (record { other = omega arith; there = there; hangs = refl }) (run_under n i k q p (omega arith) (q.clear j x r) (omega arith)))
      (λ (x : j ≤ i). let e : i ≡ j = omega arith in subst (Under nodes i) e self)
      (cases_lt i j)

pub subtrees : SubtreesAreRunsOfNumbers
subtrees nodes w i j k u l r = run_under nodes w j i k (within nodes w i k u) j (omega arith) l r
