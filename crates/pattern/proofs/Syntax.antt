-- The grammar of steps and branches is that of tails.
use Rattle.std.proofs.Common.{◌≡◌, ℕ, ◌+◌, ◌<◌, true, false, List, ◌∷◌, ◌++◌, sym, refl, ap, ◌∙◌, subst, add-zero, arith}
use Rattle.std.proofs.lemmas.List.{append_assoc, append-nil}
use Rattle.pattern.specs.declared.node.Edge.{Edge}
use Rattle.pattern.specs.declared.node.Edge.TheVariants.{Child}
use Rattle.pattern.specs.declared.node.Mark.{Mark}
use Rattle.markup.specs.Name.{NameWithin}
use Rattle.pattern.specs.Shape.{Vertex, node, shape}
use Rattle.pattern.specs.Reading.{Limits}
use Rattle.pattern.specs.Spelling.{lead_text, open_text}
use Rattle.pattern.proofs.Tails.{Tail, end, onward, branch, text_of, nodes_of_tail, size, Within, Standard, DerivesTail}
use Rattle.pattern.specs.Grammar.{Step, step, Branches, none, and, Branch, last, then, step_text, branches_text, branch_text, step_names, branches_names, branch_names, step_nodes, branches_nodes, branch_nodes, StepWithin, BranchesWithin, BranchWithin, Bare, StepStandard, BranchesStandard, BranchStandard, Derives}

abbrev step_name : Step → List ℕ
step_name (step a bs) = a

abbrev first : Branch → List ℕ
first (last s) = step_name s
first (then s e c) = step_name s

abbrev mutual
  step_tail : Step → Tail → Tail
  step_tail (step a bs) t = branches_tail bs t

  branches_tail : Branches → Tail → Tail
  branches_tail none t = t
  branches_tail (and e c bs) t = branch e (first c) (branch_tail c) (branches_tail bs t)

  branch_tail : Branch → Tail
  branch_tail (last s) = step_tail s end
  branch_tail (then s e c) = step_tail s (onward e (first c) (branch_tail c))

-- texts
join : (o x y z : List ℕ) → o ++ (x ++ 93 ∷ (y ++ z)) ≡ (o ++ (x ++ 93 ∷ y)) ++ z
join o x y z = ap (λ w. o ++ w) (sym (append_assoc x (93 ∷ y) z)) ∙ sym (append_assoc o (x ++ 93 ∷ y) z)

mutual
  step_same : (s : Step) (t : Tail) → step_name s ++ text_of (step_tail s t) ≡ step_text s ++ text_of t
  step_same (step a bs) t = ap (λ x. a ++ x) (branches_same bs t) ∙ sym (append_assoc a (branches_text bs) (text_of t))

  branches_same : (bs : Branches) (t : Tail) → text_of (branches_tail bs t) ≡ branches_text bs ++ text_of t
  branches_same none t = refl
  branches_same (and e c bs) t =
      ap (λ x. open_text true e ++ x) (sym (append_assoc (first c) (text_of (branch_tail c)) _) ∙ (λ z. branch_same c z ++ 93 ∷ branches_same bs t z))
      ∙ join (open_text true e) (branch_text c) (branches_text bs) (text_of t)

  branch_same : (c : Branch) → first c ++ text_of (branch_tail c) ≡ branch_text c
  branch_same (last s) = step_same s end ∙ append-nil (step_text s)
  branch_same (then s e c) = step_same s (onward e (first c) (branch_tail c)) ∙ ap (λ x. step_text s ++ (open_text false e ++ x)) (branch_same c)

-- numbers of names
mutual
  step_size : (s : Step) (t : Tail) → size (step_tail s t) + 1 ≡ step_names s + size t
  step_size (step a bs) t = omega (arith, branches_size bs t)

  branches_size : (bs : Branches) (t : Tail) → size (branches_tail bs t) ≡ branches_names bs + size t
  branches_size none t = omega arith
  branches_size (and e c bs) t = omega (arith, branch_size c, branches_size bs t)

  branch_size : (c : Branch) → size (branch_tail c) + 1 ≡ branch_names c
  branch_size (last s) = omega (arith, step_size s end)
  branch_size (then s e c) = omega (arith, step_size s (onward e (first c) (branch_tail c)), branch_size c)

-- nodes
mutual
  step_hangs : (s : Step) (h n : ℕ) (e : Edge) (t : Tail) → node (step_name s) h e ∷ nodes_of_tail n (n + 1) (step_tail s t) ≡ step_nodes s h n e ++ nodes_of_tail n (n + step_names s) t
  step_hangs (step a bs) h n e t =
      let num : n + 1 + branches_names bs ≡ n + (branches_names bs + 1) = omega arith in
      ap (λ x. node a h e ∷ x) (branches_hang bs n (n + 1) t ∙ ap (λ x. branches_nodes bs n (n + 1) ++ nodes_of_tail n x t) num)

  branches_hang : (bs : Branches) (h n : ℕ) (t : Tail) → nodes_of_tail h n (branches_tail bs t) ≡ branches_nodes bs h n ++ nodes_of_tail h (n + branches_names bs) t
  branches_hang none h n t = ap (λ x. nodes_of_tail h x t) (sym (add-zero n))
  branches_hang (and e c bs) h n t =
      let num : n + 1 + size (branch_tail c) ≡ n + branch_names c = omega (arith, branch_size c) in
      let num' : n + branch_names c + branches_names bs ≡ n + (branch_names c + branches_names bs) = omega arith in
      (λ z. branch_hangs c h n e z ++ nodes_of_tail h (num z) (branches_tail bs t))
      ∙ ap (λ x. branch_nodes c h n e ++ x) (branches_hang bs h (n + branch_names c) t ∙ ap (λ x. branches_nodes bs h (n + branch_names c) ++ nodes_of_tail h x t) num')
      ∙ sym (append_assoc (branch_nodes c h n e) (branches_nodes bs h (n + branch_names c)) _)

  branch_hangs : (c : Branch) (h n : ℕ) (e : Edge) → node (first c) h e ∷ nodes_of_tail n (n + 1) (branch_tail c) ≡ branch_nodes c h n e
  branch_hangs (last s) h n e = step_hangs s h n e end ∙ append-nil (step_nodes s h n e)
  branch_hangs (then s f c) h n e = step_hangs s h n e (onward f (first c) (branch_tail c)) ∙ ap (λ x. step_nodes s h n e ++ x) (branch_hangs c n (n + step_names s) f)

-- limits
module _ (l : Limits) where
  mutual
    step_within : (s : Step) (d n : ℕ) (t : Tail) → StepWithin s l d n → Within l d (n + step_names s) t → (n < l.names) × NameWithin l.bytes (step_name s) × Within l d (n + 1) (step_tail s t)
    step_within (step a bs) d n t w r =
        let num : n + (branches_names bs + 1) ≡ n + 1 + branches_names bs = omega arith in
        (w.0, w.1, branches_within bs d (n + 1) t w.2 (subst (λ x. Within l d x t) num r))

    branches_within : (bs : Branches) (d n : ℕ) (t : Tail) → BranchesWithin bs l d n → Within l d (n + branches_names bs) t → Within l d n (branches_tail bs t)
    branches_within none d n t w r = subst (λ x. Within l d x t) (add-zero n) r
    branches_within (and e c bs) d n t w r =
        let c' = branch_within c (d + 1) n w.1 in
        let num : n + branch_names c ≡ n + 1 + size (branch_tail c) = omega (arith, branch_size c) in
        let num' : n + (branch_names c + branches_names bs) ≡ n + branch_names c + branches_names bs = omega arith in
        (w.0, c'.0, c'.1, c'.2, subst (λ x. Within l d x (branches_tail bs t)) num (branches_within bs d (n + branch_names c) t w.2 (subst (λ x. Within l d x t) num' r)))

    branch_within : (c : Branch) (d n : ℕ) → BranchWithin c l d n → (n < l.names) × NameWithin l.bytes (first c) × Within l d (n + 1) (branch_tail c)
    branch_within (last s) d n w = step_within s d n end w tt
    branch_within (then s e c) d n w = step_within s d n (onward e (first c) (branch_tail c)) w.0 (branch_within c d (n + step_names s) w.1)

-- the branch of a name and a tail
abbrev hold : Edge → Branch → Step → Step
hold e c (step a bs) = step a (and e c bs)

abbrev add : Edge → Branch → Branch → Branch
add e c (last s) = last (hold e c s)
add e c (then s f b) = then (hold e c s) f b

abbrev grown : List ℕ → Tail → Branch
grown a end = last (step a none)
grown a (onward e b t) = then (step a none) e (grown b t)
grown a (branch e b t u) = add e (grown b t) (grown a u)

hold_name : (e : Edge) (c : Branch) (s : Step) → step_name (hold e c s) ≡ step_name s
hold_name e c (step a bs) = refl

add_first : (e : Edge) (c x : Branch) → first (add e c x) ≡ first x
add_first e c (last s) = hold_name e c s
add_first e c (then s f b) = hold_name e c s

hold_tail : (e : Edge) (c : Branch) (s : Step) (t : Tail) → step_tail (hold e c s) t ≡ branch e (first c) (branch_tail c) (step_tail s t)
hold_tail e c (step a bs) t = refl

add_tail : (e : Edge) (c x : Branch) → branch_tail (add e c x) ≡ branch e (first c) (branch_tail c) (branch_tail x)
add_tail e c (last s) = hold_tail e c s end
add_tail e c (then s f b) = hold_tail e c s (onward f (first b) (branch_tail b))

grown_first : (a : List ℕ) (t : Tail) → first (grown a t) ≡ a
grown_first a end = refl
grown_first a (onward e b t) = refl
grown_first a (branch e b t u) = add_first e (grown b t) (grown a u) ∙ grown_first a u

grown_tail : (a : List ℕ) (t : Tail) → branch_tail (grown a t) ≡ t
grown_tail a end = refl
grown_tail a (onward e b t) = (λ z. onward e (grown_first b t z) (grown_tail b t z))
grown_tail a (branch e b t u) = add_tail e (grown b t) (grown a u) ∙ (λ z. branch e (grown_first b t z) (grown_tail b t z) (grown_tail a u z))

-- what stands after the first name, numbered from k
abbrev Rest : Branch → Limits → ℕ → ℕ → Type 0
Rest (last (step a bs)) l d k = BranchesWithin bs l d k
Rest (then (step a bs) e c) l d k = BranchesWithin bs l d k × BranchWithin c l d (k + branches_names bs)

rest_all : (x : Branch) (l : Limits) (d n : ℕ) → n < l.names → NameWithin l.bytes (first x) → Rest x l d (n + 1) → BranchWithin x l d n
rest_all (last (step a bs)) l d n few ok r = (few, ok, r)
rest_all (then (step a bs) e c) l d n few ok r =
    let num : n + 1 + branches_names bs ≡ n + (branches_names bs + 1) = omega arith in
    ((few, ok, r.0), subst (λ y. BranchWithin c l d y) num r.1)

rest_add : (e : Edge) (c x : Branch) (l : Limits) (d k : ℕ) → d < l.brackets → BranchWithin c l (d + 1) k → Rest x l d (k + branch_names c) → Rest (add e c x) l d k
rest_add e c (last (step a bs)) l d k deep w r = (deep, w, r)
rest_add e c (then (step a bs) f b) l d k deep w r =
    let num : k + branch_names c + branches_names bs ≡ k + (branch_names c + branches_names bs) = omega arith in
    ((deep, w, r.0), subst (λ y. BranchWithin b l d y) num r.1)

grown_within : (a : List ℕ) (t : Tail) (l : Limits) (d k : ℕ) → Within l d k t → Rest (grown a t) l d k
grown_within a end l d k w = tt
grown_within a (onward e b t) l d k w =
    let ok : NameWithin l.bytes (first (grown b t)) = subst (NameWithin l.bytes) (sym (grown_first b t)) w.1 in
    (tt, subst (λ y. BranchWithin (grown b t) l d y) (sym (add-zero k)) (rest_all (grown b t) l d k w.0 ok (grown_within b t l d (k + 1) w.2)))
grown_within a (branch e b t u) l d k w =
    let c = grown b t in
    let ok : NameWithin l.bytes (first c) = subst (NameWithin l.bytes) (sym (grown_first b t)) w.2 in
    let num : k + 1 + size t ≡ k + branch_names c = omega (arith, branch_size c, ap size (grown_tail b t)) in
    rest_add e c (grown a u) l d k w.0 (rest_all c l (d + 1) k w.1 ok (grown_within b t l (d + 1) (k + 1) w.3))
    (subst (λ y. Rest (grown a u) l d y) num (grown_within a u l d (k + 1 + size t) w.4))

pub to_derives : (l : Limits) (t : List ℕ) (m : Mark) (vs : List Vertex) → DerivesTail l t m vs → Derives l t (shape m vs)
to_derives l t m vs s =
    let a = s.name in
    let c = grown a s.tail in
    record {
      all = c;
      within = rest_all c l 0 0 s.one (subst (NameWithin l.bytes) (sym (grown_first a s.tail)) s.lawful) (grown_within a s.tail l 0 1 s.within);
      text = s.text ∙ ap (λ x. lead_text m ++ x) ((λ z. sym (grown_first a s.tail) z ++ text_of (sym (grown_tail a s.tail) z)) ∙ branch_same c);
      nodes = s.nodes ∙ (λ z. node (sym (grown_first a s.tail) z) 0 Child ∷ nodes_of_tail 0 1 (sym (grown_tail a s.tail) z)) ∙ branch_hangs c 0 0 Child;
    }

pub from_derives : (l : Limits) (t : List ℕ) (m : Mark) (vs : List Vertex) → Derives l t (shape m vs) → DerivesTail l t m vs
from_derives l t m vs s =
    let c = s.all in
    let w = branch_within l c 0 0 s.within in
    record {
      name = first c;
      tail = branch_tail c;
      one = w.0;
      lawful = w.1;
      within = w.2;
      text = s.text ∙ ap (λ x. lead_text m ++ x) (sym (branch_same c));
      nodes = s.nodes ∙ sym (branch_hangs c 0 0 Child);
    }

-- the standard form
bare_tail : (s : Step) → Bare s → step_tail s end ≡ end
bare_tail (step a none) b = refl
bare_tail (step a (and e c bs)) b = absurd b

mutual
  step_standard : (s : Step) (t : Tail) → StepStandard s → 0 < size t → Standard t → Standard (step_tail s t)
  step_standard (step a bs) t w p r = branches_standard bs t w p r

  branches_standard : (bs : Branches) (t : Tail) → BranchesStandard bs → 0 < size t → Standard t → Standard (branches_tail bs t)
  branches_standard none t w p r = r
  branches_standard (and e c bs) t w p r = (omega (arith, branches_size bs t), branch_standard c w.0, branches_standard bs t w.1 p r)

  branch_standard : (c : Branch) → BranchStandard c → Standard (branch_tail c)
  branch_standard (last s) w = subst Standard (sym (bare_tail s w)) tt
  branch_standard (then s e c) w = step_standard s (onward e (first c) (branch_tail c)) w.0 (omega arith) (branch_standard c w.1)

pub from_standard : (l : Limits) (t : List ℕ) (m : Mark) (vs : List Vertex) (s : Derives l t (shape m vs)) → BranchStandard s.all → Standard (from_derives l t m vs s).tail
unfolding from_derives
from_standard l t m vs s w = branch_standard s.all w

add_standard : (e : Edge) (c x : Branch) → BranchStandard c → BranchStandard x → 0 < size (branch_tail x) → BranchStandard (add e c x)
add_standard e c (last (step a none)) w r p = absurd (omega (arith, p))
add_standard e c (last (step a (and f b bs))) w r p = absurd r
add_standard e c (then (step a bs) f b) w r p = ((w, r.0), r.1)

grown_standard : (a : List ℕ) (t : Tail) → Standard t → BranchStandard (grown a t)
grown_standard a end w = tt
grown_standard a (onward e b t) w = (tt, grown_standard b t w)
grown_standard a (branch e b t u) w = add_standard e (grown b t) (grown a u) (grown_standard b t w.1) (grown_standard a u w.2) (omega (arith, w.0, ap size (grown_tail a u)))

pub to_standard : (l : Limits) (t : List ℕ) (m : Mark) (vs : List Vertex) (d : DerivesTail l t m vs) → Standard d.tail → BranchStandard (to_derives l t m vs d).all
unfolding to_derives
to_standard l t m vs d w = grown_standard d.name d.tail w
