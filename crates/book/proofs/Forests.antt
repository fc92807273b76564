-- The elements of a row are nested or apart, and their levels count what contains them.
use Rattle.std.proofs.Common.{◌≡◌, ℕ, zero, suc, ◌+◌, ◌<◌, ◌≤◌, true, false, cond, ◌⊎◌, List, [], ◌∷◌, ◌++◌, length, get_or, sym, refl, ap, subst, inl, inr, arith, length-append}
use Rattle.std.specs.List.{AllByRecursion as Every}
use Rattle.std.proofs.ByRecursion.{All-append, All-get_or, All-weaker}
use Rattle.std.proofs.lemmas.Bool.{lt-ltb, le-ltb, and_from, and_left, and_right}
use Rattle.tree.specs.Region.{Region, Contains, contains}
use Rattle.lexer.specs.Item.{Item.start, Item.end, Item.empty, spelling}
use Rattle.book.specs.Document.{Content, Content.none, Content.byte, Content.bare, Content.full, spell, Single, Node, nodes_at}
use Rattle.book.proofs.Complete.{blank_nodes}

abbrev pub region_of_node : Node → Region
region_of_node n = record { start = n.start; end = n.end; level = n.level }

-- R holds of each with each later one
abbrev pub Pairs : {X : Type 0} → (X → X → Type 0) → List X → Type 0
Pairs R [] = Unit {0}
Pairs R (x ∷ xs) = Every (R x) xs × Pairs R xs

pub all_both : {X : Type 0} (P Q : X → Type 0) (xs : List X) → Every P xs → Every Q xs → Every (λ x. P x × Q x) xs
all_both P Q [] h k = tt
all_both P Q (x ∷ xs) h k = ((h.0, k.0), all_both P Q xs h.1 k.1)

pub pairs_append : {X : Type 0} (R : X → X → Type 0) (xs ys : List X) → Pairs R xs → Pairs R ys → Every (λ x. Every (R x) ys) xs → Pairs R (xs ++ ys)
pairs_append R [] ys h k a = k
pairs_append R (x ∷ xs) ys h k a = (All-append (R x) xs ys h.0 a.0, pairs_append R xs ys h.1 k a.1)

pub pairs_at : {X : Type 0} (R : X → X → Type 0) (xs : List X) (d : X) (i j : ℕ) → Pairs R xs → i < j → j < length xs → R (get_or xs i d) (get_or xs j d)
pairs_at R [] d i j h l k = absurd (omega arith)
pairs_at R (x ∷ xs) d i zero h l k = absurd (omega arith)
pairs_at R (x ∷ xs) d zero (suc j) h l k = All-get_or (R x) xs j d (omega arith) h.0
pairs_at R (x ∷ xs) d (suc i) (suc j) h l k = pairs_at R xs d i j h.1 (omega arith) (omega arith)

-- 1 if u contains v
abbrev pub weight : Node → Node → ℕ
weight u v = cond (contains (region_of_node u) (region_of_node v)) 1 0

weight_no : (u v : Node) → contains (region_of_node u) (region_of_node v) ≡ false → weight u v ≡ 0
weight_no u v h = ap (λ x. cond x 1 0) h

weight_yes : (u v : Node) → contains (region_of_node u) (region_of_node v) ≡ true → weight u v ≡ 1
weight_yes u v h = ap (λ x. cond x 1 0) h

-- how many contain v
abbrev pub count_in : List Node → Node → ℕ
count_in [] v = 0
count_in (u ∷ us) v = weight u v + count_in us v

count-append : (xs ys : List Node) (v : Node) → count_in (xs ++ ys) v ≡ count_in xs v + count_in ys v
count-append [] ys v = omega arith
count-append (x ∷ xs) ys v = let h = count-append xs ys v in omega arith

none_around : (us : List Node) (v : Node) → Every (λ u. contains (region_of_node u) (region_of_node v) ≡ false) us → count_in us v ≡ 0
none_around [] v h = refl
none_around (u ∷ us) v h = let k = none_around us v h.1 in let z = weight_no u v h.0 in omega arith

-- these stand from p to q
abbrev pub Span : ℕ → ℕ → Node → Type 0
Span p q n = (p ≤ n.start) × (n.start < n.end) × (n.end < q)

-- the earlier contains the later, or ends below its start
abbrev pub Ordered : Node → Node → Type 0
Ordered u v = (u.start < v.start) × ((v.end < u.end) ⊎ (u.end < v.start))

pub record Forest (level p q : ℕ) (ns : List Node) : Type 0 where
  pub span : Every (Span p q) ns
  pub pairs : Pairs Ordered ns
  pub levels : Every (λ v. v.level ≡ level + count_in ns v) ns

starts_later : (u v : Node) → v.start ≤ u.start → contains (region_of_node u) (region_of_node v) ≡ false
starts_later u v h = and_left _ _ (le-ltb _ _ h)

ends_earlier : (u v : Node) → u.end ≤ v.end → contains (region_of_node u) (region_of_node v) ≡ false
ends_earlier u v h = and_right _ _ (le-ltb _ _ h)

nil_forest : (level p q : ℕ) → Forest level p q []
nil_forest level p q = record { span = tt; pairs = tt; levels = tt }

-- two rows, one behind the other
join : (level p m k q : ℕ) (xs ys : List Node) → p ≤ k → m ≤ k → m ≤ q → Forest level p m xs → Forest level k q ys → Forest level p q (xs ++ ys)
join level p m k q xs ys a b c f g =
    let later : (u : Node) → Span p m u → Every (λ v. Ordered u v) ys =
    λ u s. All-weaker (Span k q) (Ordered u) (λ v t. (omega arith, inr (omega arith))) ys g.span in
    record {
      span = All-append (Span p q) xs ys (All-weaker (Span p m) (Span p q) (λ u s. omega arith) xs f.span) (All-weaker (Span k q) (Span p q) (λ u s. omega arith) ys g.span);
      pairs = pairs_append Ordered xs ys f.pairs g.pairs (All-weaker (Span p m) (λ u. Every (Ordered u) ys) later xs f.span);
      levels = All-append _ xs ys
          (All-weaker (λ v. Span p m v × (v.level ≡ level + count_in xs v)) (λ v. v.level ≡ level + count_in (xs ++ ys) v) (λ v s. let e = count-append xs ys v in
          let z = none_around ys v (All-weaker (Span k q) (λ u. contains (region_of_node u) (region_of_node v) ≡ false) (λ u t. starts_later u v (omega arith)) ys g.span) in omega arith) xs
          (all_both (Span p m) _ xs f.span f.levels))
          (All-weaker (λ v. Span k q v × (v.level ≡ level + count_in ys v)) (λ v. v.level ≡ level + count_in (xs ++ ys) v) (λ v s. let e = count-append xs ys v in
          let z = none_around xs v (All-weaker (Span p m) (λ u. contains (region_of_node u) (region_of_node v) ≡ false) (λ u t. ends_earlier u v (omega arith)) xs f.span) in omega arith) ys
          (all_both (Span k q) _ ys g.span g.levels));
    }

-- an element around a row
wrap : (level p k m : ℕ) (name : List ℕ) (xs : List Node) → p < k → k ≤ m → Forest (suc level) k m xs
    → Forest level p (suc m) (record { start = p; end = m; level = level; name = name } ∷ xs)
wrap level p k m name xs a b f =
    let x : Node = record { start = p; end = m; level = level; name = name } in
    let self : contains (region_of_node x) (region_of_node x) ≡ false = starts_later x x (omega arith) in
    let selfs = weight_no x x self in
    let z = none_around xs x (All-weaker (Span k m) (λ u. contains (region_of_node u) (region_of_node x) ≡ false) (λ u s. starts_later u x (omega arith)) xs f.span) in
    record {
      span = ((omega arith, omega arith, omega arith), All-weaker (Span k m) (Span p (suc m)) (λ u s. omega arith) xs f.span);
      pairs = (All-weaker (Span k m) (Ordered x) (λ v s. (omega arith, inl s.2)) xs f.span, f.pairs);
      levels = (
        omega arith,
        All-weaker (λ v. Span k m v × (v.level ≡ suc level + count_in xs v)) (λ v. v.level ≡ level + count_in (x ∷ xs) v) (λ v s.
            let yes : contains (region_of_node x) (region_of_node v) ≡ true = and_from _ _ (lt-ltb p v.start (omega arith)) (lt-ltb v.end m (omega arith)) in
            let one = weight_yes x v yes in omega arith) xs
            (all_both (Span k m) _ xs f.span f.levels),
      );
    }

-- the elements of a row
pub row_forest : (c : Content) (level p : ℕ) → Forest level p (p + length (spell c)) (nodes_at p level c)
row_forest none level p = nil_forest level p (p + 0)
row_forest (byte b c) level p =
    let z : p + 1 + length (spell c) ≡ p + suc (length (spell c)) = omega arith in
    let f = row_forest c level (p + 1) in
    subst (λ q. Forest level p q (nodes_at (p + 1) level c)) z (join level p p (p + 1) (p + 1 + length (spell c)) [] (nodes_at (p + 1) level c) (omega arith) (omega arith) (omega arith) (nil_forest level p p) f)
row_forest (bare name c) level p =
    let k : ℕ = p + length (spelling (empty name)) in
    let a = length-append name (47 ∷ 62 ∷ []) in
    let z : k + length (spell c) ≡ p + length (spelling (empty name) ++ spell c) = omega (arith, length-append (spelling (empty name)) (spell c)) in
    let m : ℕ = p + 1 + length name in
    let x : List Node = record { start = p; end = m; level = level; name = name } ∷ [] in
    let f : Forest level p (suc m) x = wrap level p (p + 1) m name [] (omega arith) (omega arith) (nil_forest (suc level) (p + 1) m) in
    subst (λ q. Forest level p q (x ++ nodes_at k level c)) z (join level p (suc m) k (k + length (spell c)) x (nodes_at k level c) (omega arith) (omega arith) (omega arith) f (row_forest c level k))
row_forest (full name inner c) level p =
    let from : ℕ = p + length (spelling (start name)) in
    let to : ℕ = from + length (spell inner) in
    let k : ℕ = to + length (spelling (end name)) in
    let x = length-append (spelling (start name)) (spell inner ++ (spelling (end name) ++ spell c)) in
    let y = length-append (spell inner) (spelling (end name) ++ spell c) in
    let w = length-append (spelling (end name)) (spell c) in
    let z : k + length (spell c) ≡ p + length (spell (full name inner c)) = omega arith in
    let xs : List Node = record { start = p; end = to; level = level; name = name } ∷ nodes_at from (suc level) inner in
    let f : Forest level p (suc to) xs = wrap level p from to name (nodes_at from (suc level) inner) (omega arith) (omega arith) (row_forest inner (suc level) from) in
    subst (λ q. Forest level p q (xs ++ nodes_at k level c)) z (join level p (suc to) k (k + length (spell c)) xs (nodes_at k level c) (omega arith) (omega arith) (omega arith) f (row_forest c level k))

-- the first contains all others
abbrev pub Around : List Node → Type 0
Around [] = ⊥
Around (x ∷ xs) = Every (λ v. Contains (region_of_node x) (region_of_node v)) xs

pub single_around : (c : Content) (p : ℕ) → Single c → Around (nodes_at p 0 c)
single_around none p h = absurd h
single_around (byte b c) p h = single_around c (p + 1) h.1
single_around (bare name c) p h =
    subst (Every _) (sym (blank_nodes c (p + length (spelling (empty name))) 0 h)) tt
single_around (full name inner c) p h =
    let from : ℕ = p + length (spelling (start name)) in
    let to : ℕ = from + length (spell inner) in
    let k : ℕ = to + length (spelling (end name)) in
    let f = row_forest inner 1 from in
    let x : Node = record { start = p; end = to; level = 0; name = name } in
    All-append (λ v. Contains (region_of_node x) (region_of_node v)) (nodes_at from 1 inner) (nodes_at k 0 c)
    (All-weaker (Span from to) (λ v. Contains (region_of_node x) (region_of_node v)) (λ v s. (omega arith, s.2)) (nodes_at from 1 inner) f.span)
    (subst (Every _) (sym (blank_nodes c k 0 h)) tt)
