-- The standard form of a derivation, and that the spelling is its text.
use Rattle.std.proofs.Common.{◌≡◌, ℕ, ◌+◌, ◌*◌, ◌<◌, ◌≤◌, Bool, true, false, eqb, ◌⊎◌, List, [], ◌∷◌, ◌++◌, length, sym, refl, ap, ◌∙◌, subst, inl, inr, ⊎_elim, add-zero, arith, lit≤}
use Rattle.std.proofs.lemmas.List.{append_assoc, append-nil, length-append}
use Rattle.std.proofs.lemmas.List.Folds.{list_any-append}
use Rattle.std.proofs.lemmas.Bool.{eq-eqb, ne_eqb, or_from, or_left, or_right, cond-true, cond-false}
use Rattle.pattern.specs.declared.node.Edge.{Edge}
use Rattle.pattern.specs.declared.node.Edge.TheVariants.{Child, Descendant}
use Rattle.markup.specs.Name.{LawfulName}
use Rattle.pattern.specs.Shape.{Vertex, node}
use Rattle.pattern.specs.Reading.{up_to}
use Rattle.pattern.specs.Spelling.{later, rest, close_text, open_text}
use Rattle.pattern.proofs.Tails.{Tail, end, onward, branch, text_of, nodes_of_tail, size, Within, Standard}

-- a branch that is the last of its node follows by an edge
abbrev pub put : Edge → List ℕ → Tail → Tail → Tail
put e a t end = onward e a t
put e a t (onward f b u) = branch e a t (onward f b u)
put e a t (branch f b u v) = branch e a t (branch f b u v)

abbrev pub std : Tail → Tail
std end = end
std (onward e a t) = onward e a (std t)
std (branch e a t u) = put e a (std t) (std u)

put_branch : (e : Edge) (a : List ℕ) (t u : Tail) → 0 < size u → put e a t u ≡ branch e a t u
put_branch e a t end s = absurd (omega (arith, s))
put_branch e a t (onward f b u) s = refl
put_branch e a t (branch f b u v) s = refl

size_put : (e : Edge) (a : List ℕ) (t u : Tail) → size (put e a t u) ≡ size t + size u + 1
size_put e a t end = omega arith
size_put e a t (onward f b u) = refl
size_put e a t (branch f b u v) = refl

pub size_std : (t : Tail) → size (std t) ≡ size t
size_std end = refl
size_std (onward e a t) = ap (λ x. x + 1) (size_std t)
size_std (branch e a t u) = size_put e a (std t) (std u) ∙ (λ z. size_std t z + size_std u z + 1)

nodes_put : (h n : ℕ) (e : Edge) (a : List ℕ) (t u : Tail) → nodes_of_tail h n (put e a t u) ≡ nodes_of_tail h n (branch e a t u)
nodes_put h n e a t end = ap (λ x. node a h e ∷ x) (sym (append-nil (nodes_of_tail n (n + 1) t)))
nodes_put h n e a t (onward f b u) = refl
nodes_put h n e a t (branch f b u v) = refl

pub nodes_std : (h n : ℕ) (t : Tail) → nodes_of_tail h n (std t) ≡ nodes_of_tail h n t
nodes_std h n end = refl
nodes_std h n (onward e a t) = ap (λ x. node a h e ∷ x) (nodes_std n (n + 1) t)
nodes_std h n (branch e a t u) =
    nodes_put h n e a (std t) (std u)
    ∙ (λ z. node a h e ∷ (nodes_std n (n + 1) t z ++ nodes_of_tail h (n + 1 + size_std t z) (std u)))
    ∙ ap (λ x. node a h e ∷ (nodes_of_tail n (n + 1) t ++ x)) (nodes_std h (n + 1 + size t) u)

standard_put : (e : Edge) (a : List ℕ) (t u : Tail) → Standard t → Standard u → Standard (put e a t u)
standard_put e a t end s r = s
standard_put e a t (onward f b u) s r = (omega arith, s, r)
standard_put e a t (branch f b u v) s r = (omega arith, s, r)

pub standard_std : (t : Tail) → Standard (std t)
standard_std end = tt
standard_std (onward e a t) = standard_std t
standard_std (branch e a t u) = standard_put e a (std t) (std u) (standard_std t) (standard_std u)

pub std_same : (t : Tail) → Standard t → std t ≡ t
std_same end s = refl
std_same (onward e a t) s = ap (onward e a) (std_same t s)
std_same (branch e a t u) s = (λ z. put e a (std_same t s.1 z) (std_same u s.2 z)) ∙ put_branch e a t u s.0

-- lawful names
abbrev pub Names : Tail → Type 0
Names end = Unit {0}
Names (onward e a t) = LawfulName a × Names t
Names (branch e a t u) = LawfulName a × Names t × Names u

within_put : (e : Edge) (a : List ℕ) (t u : Tail) (d n : ℕ) → n < 16 → LawfulName a → (0 < size u → (d < 7) × Within (up_to 7) (d + 1) (n + 1) t) → Within (up_to 7) d (n + 1) t → Within (up_to 7) d (n + 1 + size t) u → Within (up_to 7) d n (put e a t u)
within_put e a t end d n few ok deep w r = (few, ok, w)
within_put e a t (onward f b u) d n few ok deep w r = let h = deep (omega arith) in (h.0, few, ok, h.1, r)
within_put e a t (branch f b u v) d n few ok deep w r = let h = deep (omega arith) in (h.0, few, ok, h.1, r)

-- each bracket's node has a sibling after it, so seven open brackets take 15 nodes below the root
pub within_std : (t : Tail) (d n : ℕ) → n + size t ≤ 16 → 2 * d + size t ≤ 15 → Names t → Within (up_to 7) d n (std t)
within_std end d n few deep ok = tt
within_std (onward e a t) d n few deep ok =
    let f : n + 1 + size t ≤ 16 = omega arith in
    let g : 2 * d + size t ≤ 15 = omega arith in
    (omega arith, ok.0, within_std t d (n + 1) f g ok.1)
within_std (branch e a t u) d n few deep ok =
    let f : n + 1 + size t ≤ 16 = omega arith in
    let g : 2 * d + size t ≤ 15 = omega arith in
    let f' : n + 1 + size t + size u ≤ 16 = omega arith in
    let g' : 2 * d + size u ≤ 15 = omega arith in
    within_put e a (std t) (std u) d n (omega arith) ok.0
    (λ s.
    let s' : 0 < size u = subst (λ x. 0 < x) (size_std u) s in
    let g'' : 2 * (d + 1) + size t ≤ 15 = omega arith in
    (omega arith, within_std t (d + 1) (n + 1) f g'' ok.1))
    (within_std t d (n + 1) f g ok.1)
    (subst (λ x. Within (up_to 7) d (n + 1 + x) (std u)) (sym (size_std t)) (within_std u d (n + 1 + size t) f' g' ok.2))

-- how long a text is
open_size : (b : Bool) (e : Edge) → length (open_text b e) ≤ 4
open_size false Child = lit≤ tt
open_size false Descendant = lit≤ tt
open_size true Child = lit≤ tt
open_size true Descendant = lit≤ tt

pub text_size : (limit d n : ℕ) (t : Tail) → Within (up_to limit) d n t → length (text_of t) ≤ 37 * size t
text_size limit d n end w = lit≤ tt
text_size limit d n (onward e a t) w =
    omega (arith, length-append (open_text false e) (a ++ text_of t), length-append a (text_of t), open_size false e, w.1.short, text_size limit d (n + 1) t w.2)
text_size limit d n (branch e a t u) w =
    omega (arith, length-append (open_text true e) (a ++ (text_of t ++ 93 ∷ text_of u)), length-append a (text_of t ++ 93 ∷ text_of u), length-append (text_of t) (93 ∷ text_of u), open_size true e, w.2.short, text_size limit (d + 1) (n + 1) t w.3, text_size limit d (n + 1 + size t) u w.4)

-- where a later node hangs on q
none-append : (q : ℕ) (xs ys : List Vertex) → later q xs ≡ false → later q ys ≡ false → later q (xs ++ ys) ≡ false
none-append q xs ys p r = list_any-append _ xs ys ∙ or_from _ _ p r

some_right : (q : ℕ) (xs ys : List Vertex) → later q ys ≡ true → later q (xs ++ ys) ≡ true
some_right q xs ys p = list_any-append _ xs ys ∙ or_right _ _ p

first_child : (h n : ℕ) (u : Tail) (vs : List Vertex) → 0 < size u → later h (nodes_of_tail h n u ++ vs) ≡ true
first_child h n end vs s = absurd (omega (arith, s))
first_child h n (onward e a t) vs s = or_left (eqb h h) _ (eq-eqb h h refl)
first_child h n (branch e a t u) vs s = or_left (eqb h h) _ (eq-eqb h h refl)

later_none : (t : Tail) (h n q : ℕ) → (h ≡ q → ⊥) → q < n → later q (nodes_of_tail h n t) ≡ false
later_none end h n q ne l = refl
later_none (onward e a t) h n q ne l = or_from (eqb h q) _ (ne_eqb h q ne) (later_none t n (n + 1) q (omega arith) (omega arith))
later_none (branch e a t u) h n q ne l =
    or_from (eqb h q) _ (ne_eqb h q ne) (none-append q (nodes_of_tail n (n + 1) t) _ (later_none t n (n + 1) q (omega arith) (omega arith)) (later_none u h (n + 1 + size t) q ne (omega arith)))

abbrev pub head_close : Tail → ℕ → ℕ → List ℕ
head_close end h k = []
head_close (onward e a t) h k = close_text h k
head_close (branch e a t u) h k = close_text h k

pub no_close : (t : Tail) (k : ℕ) → head_close t k k ≡ []
no_close end k = refl
no_close (onward e a t) k = cond-true _ _ _ (eq-eqb k k refl)
no_close (branch e a t u) k = cond-true _ _ _ (eq-eqb k k refl)

a_close : (t : Tail) (h k : ℕ) → 0 < size t → h < k → head_close t h k ≡ 93 ∷ []
a_close end h k s l = absurd (omega (arith, s))
a_close (onward e a t) h k s l = cond-false _ _ _ (ne_eqb h k (omega arith))
a_close (branch e a t u) h k s l = cond-false _ _ _ (ne_eqb h k (omega arith))

-- The nodes of t stand after the node k, and then come the nodes vs, none of which hangs on h or on a node of t.
pub record Free (t : Tail) (h k : ℕ) (vs : List Vertex) : Type 0 where
  pub here : later h vs ≡ false
  pub there : (q : ℕ) → k < q → q ≤ k + size t → later q vs ≡ false

abbrev pub Spelt : Tail → ℕ → ℕ → List Vertex → Type 0
Spelt t h k vs = rest k (nodes_of_tail h (k + 1) t ++ vs) ≡ head_close t h k ++ (text_of (std t) ++ rest (k + size t) vs)

join_edge : (c o a t r : List ℕ) → (c ++ o ++ a) ++ (t ++ r) ≡ c ++ ((o ++ (a ++ t)) ++ r)
join_edge c o a t r =
    ap (λ x. x ++ (t ++ r)) (append_assoc c o a) ∙ append_assoc c (o ++ a) (t ++ r)
    ∙ ap (λ x. c ++ x) (append_assoc o a (t ++ r) ∙ ap (λ x. o ++ x) (sym (append_assoc a t r)) ∙ sym (append_assoc o (a ++ t) r))

by_onward : (e : Edge) (a : List ℕ) (t : Tail) (h k : ℕ) (vs : List Vertex) → h ≤ k → later h vs ≡ false → Spelt t (k + 1) (k + 1) vs → Spelt (onward e a t) h k vs
by_onward e a t h k vs l f ih =
    let nt = nodes_of_tail (k + 1) (k + 1 + 1) t in
    let none : later h (nt ++ vs) ≡ false = none-append h nt vs (later_none t (k + 1) (k + 1 + 1) h (omega arith) (omega arith)) f in
    let num : k + 1 + size t ≡ k + (size t + 1) = omega arith in
    (λ z. (close_text h k ++ open_text (none z) e ++ a) ++ (ih ∙ ap (λ x. x ++ (text_of (std t) ++ rest (k + 1 + size t) vs)) (no_close t (k + 1))) z)
    ∙ join_edge (close_text h k) (open_text false e) a (text_of (std t)) _
    ∙ ap (λ x. close_text h k ++ ((open_text false e ++ (a ++ text_of (std t))) ++ rest x vs)) num

join_branch : (c o a t u r : List ℕ) → (c ++ o ++ a) ++ (t ++ 93 ∷ (u ++ r)) ≡ c ++ ((o ++ (a ++ (t ++ 93 ∷ u))) ++ r)
join_branch c o a t u r =
    ap (λ x. (c ++ o ++ a) ++ x) (sym (append_assoc t (93 ∷ u) r))
    ∙ join_edge c o a (t ++ 93 ∷ u) r

by_branch : (e : Edge) (a : List ℕ) (t u : Tail) (h k : ℕ) (vs : List Vertex) → h ≤ k → 0 < size u
    → Spelt t (k + 1) (k + 1) (nodes_of_tail h (k + 1 + size t + 1) u ++ vs) → Spelt u h (k + 1 + size t) vs → Spelt (branch e a t u) h k vs
by_branch e a t u h k vs l s iht ihu =
    let c = close_text h k in
    let nt = nodes_of_tail (k + 1) (k + 1 + 1) t in
    let ws = nodes_of_tail h (k + 1 + size t + 1) u ++ vs in
    let num : k + 1 + 1 + size t ≡ k + 1 + size t + 1 = omega arith in
    let num' : k + 1 + size t + size u ≡ k + (size t + size u + 1) = omega arith in
    let some : later h (nt ++ ws) ≡ true = some_right h nt ws (first_child h (k + 1 + size t + 1) u vs s) in
    let far : h < k + 1 + size t = omega arith in
    let after = iht ∙ ap (λ x. x ++ (text_of (std t) ++ rest (k + 1 + size t) ws)) (no_close t (k + 1))
    ∙ ap (λ x. text_of (std t) ++ x) (ihu ∙ ap (λ x. x ++ (text_of (std u) ++ rest (k + 1 + size t + size u) vs)) (a_close u h (k + 1 + size t) s far)) in
    ap (λ x. (c ++ open_text (later h x) e ++ a) ++ rest (k + 1) x) (append_assoc nt (nodes_of_tail h (k + 1 + 1 + size t) u) vs ∙ ap (λ x. nt ++ (nodes_of_tail h x u ++ vs)) num)
    ∙ (λ z. (c ++ open_text (some z) e ++ a) ++ after z)
    ∙ join_branch c (open_text true e) a (text_of (std t)) (text_of (std u)) _
    ∙ (λ z. c ++ (text_of (sym (put_branch e a (std t) (std u) (subst (λ x. 0 < x) (sym (size_std u)) s)) z) ++ rest (num' z) vs))

none_or : (u : Tail) → (u ≡ end) ⊎ (0 < size u)
none_or end = inl refl
none_or (onward e a t) = inr (omega arith)
none_or (branch e a t u) = inr (omega arith)

pub spelt : (t : Tail) (h k : ℕ) (vs : List Vertex) → h ≤ k → Free t h k vs → Spelt t h k vs
spelt end h k vs l f = ap (λ x. rest x vs) (sym (add-zero k))
spelt (onward e a t) h k vs l f =
    by_onward e a t h k vs l f.here
    (spelt t (k + 1) (k + 1) vs (omega arith) (record { here = f.there (k + 1) (omega arith) (omega arith); there = λ q p r. f.there q (omega arith) (omega arith) }))
spelt (branch e a t u) h k vs l f =
    let nu = nodes_of_tail h (k + 1 + size t + 1) u in
    let apart : (q : ℕ) → k < q → q ≤ k + 1 + size t → later q (nu ++ vs) ≡ false =
    λ q p r. none-append q nu vs (later_none u h (k + 1 + size t + 1) q (omega arith) (omega arith)) (f.there q p (omega arith)) in
    let alone : Spelt t (k + 1) (k + 1) vs =
    spelt t (k + 1) (k + 1) vs (omega arith) (record { here = f.there (k + 1) (omega arith) (omega arith); there = λ q p r. f.there q (omega arith) (omega arith) }) in
    let before : Spelt t (k + 1) (k + 1) (nu ++ vs) =
    spelt t (k + 1) (k + 1) (nu ++ vs) (omega arith) (record { here = apart (k + 1) (omega arith) (omega arith); there = λ q p r. apart q (omega arith) r }) in
    let behind : Spelt u h (k + 1 + size t) vs =
    spelt u h (k + 1 + size t) vs (omega arith) (record { here = f.here; there = λ q p r. f.there q (omega arith) (omega arith) }) in
    let num : size t + 1 ≡ size t + 0 + 1 = omega arith in
    ⊎_elim
    (λ (is : u ≡ end). subst (λ x. Spelt (branch e a t x) h k vs) (sym is)
    (ap (λ x. rest k ((node a h e ∷ x) ++ vs)) (append-nil (nodes_of_tail (k + 1) (k + 1 + 1) t))
    ∙ by_onward e a t h k vs l f.here alone
    ∙ ap (λ x. close_text h k ++ ((open_text false e ++ (a ++ text_of (std t))) ++ rest (k + x) vs)) num))
    (λ (s : 0 < size u). by_branch e a t u h k vs l s before behind)
    (none_or u)

-- all of a twig but the root's name
pub spelt_root : (t : Tail) → rest 0 (nodes_of_tail 0 1 t) ≡ text_of (std t)
spelt_root t =
    let f : Free t 0 0 [] = record { here = refl; there = λ q p r. refl } in
    ap (rest 0) (sym (append-nil (nodes_of_tail 0 1 t))) ∙ spelt t 0 0 [] (omega arith) f
    ∙ ap (λ x. x ++ (text_of (std t) ++ [])) (no_close t 0) ∙ append-nil (text_of (std t))
