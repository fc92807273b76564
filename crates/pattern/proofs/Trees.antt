-- Lawful twigs are the twigs of derivations, and the promises that follow.
use Rattle.std.proofs.Common.{◌≡◌, ℕ, ◌+◌, ◌*◌, ◌<◌, ◌≤◌, true, false, eqb, List, [], ◌∷◌, ◌++◌, length, Err, sym, refl, ap, ◌∙◌, subst, ⊎_elim, add-zero, arith, lit≤}
use Rattle.std.proofs.lemmas.List.{append_assoc, append-nil, length-append}
use Rattle.std.proofs.ByRecursion.{All-append}
use Rattle.std.proofs.lemmas.Bool.{true≢false, eqb-true, eq-eqb, ne_eqb, or_cases, or_left, or_right, cond-true, cond-false, cases_Bool}
use Rattle.markup.specs.declared.fault.Fault.{Fault}
use Rattle.pattern.specs.declared.node.Mark.{Mark}
use Rattle.pattern.specs.declared.node.Mark.TheVariants.{Top, Any}
use Rattle.std.specs.List.{AllByRecursion as Every}
use Rattle.markup.specs.Name.{LawfulName}
use Rattle.pattern.specs.Shape.{Vertex, Shape, node, shape, LawfulTwig}
use Rattle.pattern.specs.Reading.{Limits, limits, up_to, granted, read_pattern, run_in, start}
use Rattle.pattern.specs.Spelling.{lead_text, rest, spelling}
use Rattle.pattern.specs.Grammar.{Derives}
use Rattle.pattern.proofs.Tails.{Tail, end, onward, branch, text_of, nodes_of_tail, size, Within, Standard, DerivesTail}
use Rattle.pattern.proofs.Preorder.{among, onto, Preorder, from_preorder, to_preorder}
use Rattle.pattern.specs.Promises.{GrantedIsWhatTheGrammarDerives, GrantedIsLawful, SpellingsReadBack, OneStandardSpelling, SameSpellingSameTwig}
use Rattle.pattern.proofs.Syntax.{to_derives, from_derives, to_standard, from_standard}
use Rattle.pattern.proofs.Sound.{length-nodes, sound}
use Rattle.pattern.proofs.Exact.{exact, exact_in, same_twig, no_grant}
use Rattle.pattern.proofs.Standard.{std, Names, nodes_std, standard_std, std_same, within_std, text_size, spelt_root}

-- The path to a node: those before h are above it in number.
abbrev Over : ℕ → List ℕ → Type 0
Over h [] = Unit {0}
Over h (q ∷ qs) = (h < q) × Over h qs

over_more : (h n : ℕ) (qs : List ℕ) → h < n → Over n qs → Over h (qs ++ n ∷ [])
over_more h n [] l o = (l, tt)
over_more h n (q ∷ qs) l o = (omega (arith, o.0), over_more h n qs l o.1)

among_over : (qs : List ℕ) (h : ℕ) (gs : List ℕ) → among h (qs ++ h ∷ gs) ≡ true
among_over [] h gs = or_left (eqb h h) _ (eq-eqb h h refl)
among_over (q ∷ qs) h gs = or_right (eqb h q) _ (among_over qs h gs)

onto_over : (qs : List ℕ) (h : ℕ) (gs : List ℕ) → Over h qs → onto h (qs ++ h ∷ gs) ≡ h ∷ gs
onto_over [] h gs o = cond-true _ _ _ (eq-eqb h h refl)
onto_over (q ∷ qs) h gs o = let ne : h ≡ q → ⊥ = omega (arith, o.0) in cond-false _ _ _ (ne_eqb h q ne) ∙ onto_over qs h gs o.1

-- the nodes of a derivation are in preorder, whatever comes after them
preorder : (t : Tail) (h n : ℕ) (gs qs : List ℕ) (vs : List Vertex) → h < n → Over h qs
    → ((qs' : List ℕ) → Over h qs' → Preorder (qs' ++ h ∷ gs) (n + size t) vs) → Preorder (qs ++ h ∷ gs) n (nodes_of_tail h n t ++ vs)
preorder end h n gs qs vs l o k = subst (λ x. Preorder (qs ++ h ∷ gs) x vs) (add-zero n) (k qs o)
preorder (onward e a t) h n gs qs vs l o k =
    let num : n + (size t + 1) ≡ n + 1 + size t = omega arith in
    let below : Preorder (n ∷ h ∷ gs) (n + 1) (nodes_of_tail n (n + 1) t ++ vs) =
    preorder t n (n + 1) (h ∷ gs) [] vs (omega arith) tt (λ qs' o'.
    subst (λ x. Preorder x (n + 1 + size t) vs) (append_assoc qs' (n ∷ []) (h ∷ gs)) (subst (λ x. Preorder ((qs' ++ n ∷ []) ++ h ∷ gs) x vs) num (k (qs' ++ n ∷ []) (over_more h n qs' l o')))) in
    (among_over qs h gs, subst (λ x. Preorder (n ∷ x) (n + 1) (nodes_of_tail n (n + 1) t ++ vs)) (sym (onto_over qs h gs o)) below)
preorder (branch e a t u) h n gs qs vs l o k =
    let nt = nodes_of_tail n (n + 1) t in
    let nu = nodes_of_tail h (n + 1 + size t) u in
    let num : n + (size t + size u + 1) ≡ n + 1 + size t + size u = omega arith in
    let behind : (qs' : List ℕ) → Over h qs' → Preorder (qs' ++ h ∷ gs) (n + 1 + size t) (nu ++ vs) =
    λ qs' o'. preorder u h (n + 1 + size t) gs qs' vs (omega arith) o' (λ qs'' o''. subst (λ x. Preorder (qs'' ++ h ∷ gs) x vs) num (k qs'' o'')) in
    let below : Preorder (n ∷ h ∷ gs) (n + 1) (nt ++ (nu ++ vs)) =
    preorder t n (n + 1) (h ∷ gs) [] (nu ++ vs) (omega arith) tt (λ qs' o'.
    subst (λ x. Preorder x (n + 1 + size t) (nu ++ vs)) (append_assoc qs' (n ∷ []) (h ∷ gs)) (behind (qs' ++ n ∷ []) (over_more h n qs' l o'))) in
    (among_over qs h gs, subst (λ x. Preorder (n ∷ x) (n + 1) ((nt ++ nu) ++ vs)) (sym (onto_over qs h gs o)) (subst (Preorder (n ∷ h ∷ gs) (n + 1)) (sym (append_assoc nt nu vs)) below))

-- a part of what holds of all
all_left : {X : Type 0} (P : X → Type 0) (xs ys : List X) → Every P (xs ++ ys) → Every P xs
all_left P [] ys h = tt
all_left P (x ∷ xs) ys h = (h.0, all_left P xs ys h.1)

all_right : {X : Type 0} (P : X → Type 0) (xs ys : List X) → Every P (xs ++ ys) → Every P ys
all_right P [] ys h = h
all_right P (x ∷ xs) ys h = all_right P xs ys h.1

-- names
abbrev Named : List Vertex → Type 0
Named = Every (λ (v : Vertex). LawfulName v.name)

named_nodes : (limit d k h n : ℕ) (t : Tail) → Within (up_to limit) d k t → Named (nodes_of_tail h n t)
named_nodes limit d k h n end w = tt
named_nodes limit d k h n (onward e a t) w = (w.1, named_nodes limit d (k + 1) n (n + 1) t w.2)
named_nodes limit d k h n (branch e a t u) w = (w.2, All-append _ (nodes_of_tail n (n + 1) t) _ (named_nodes limit (d + 1) (k + 1) n (n + 1) t w.3) (named_nodes limit d (k + 1 + size t) h (n + 1 + size t) u w.4))

names_tail : (h n : ℕ) (t : Tail) → Named (nodes_of_tail h n t) → Names t
names_tail h n end p = tt
names_tail h n (onward e a t) p = (p.0, names_tail n (n + 1) t p.1)
names_tail h n (branch e a t u) p =
    (p.0, names_tail n (n + 1) t (all_left _ (nodes_of_tail n (n + 1) t) _ p.1), names_tail h (n + 1 + size t) u (all_right _ (nodes_of_tail n (n + 1) t) _ p.1))

few_names : (limit d n : ℕ) (t : Tail) → Within (up_to limit) d n t → n ≤ 16 → n + size t ≤ 16
few_names limit d n end w l = omega arith
few_names limit d n (onward e a t) w l = let f : n + 1 ≤ 16 = omega (arith, w.0) in omega (arith, few_names limit d (n + 1) t w.2 f)
few_names limit d n (branch e a t u) w l =
    let f : n + 1 ≤ 16 = omega (arith, w.1) in
    omega (arith, few_names limit d (n + 1 + size t) u w.4 (few_names limit (d + 1) (n + 1) t w.3 f))

-- every derived twig is lawful
pub lawful : (limit : ℕ) (t : List ℕ) (m : Mark) (vs : List Vertex) → DerivesTail (up_to limit) t m vs → LawfulTwig vs
lawful limit t m vs d =
    let ns = nodes_of_tail 0 1 d.tail in
    let few : length ns < 16 = omega (arith, length-nodes 0 1 d.tail, few_names limit 0 1 d.tail d.within (omega arith)) in
    let order : Preorder (0 ∷ []) 1 ns = subst (Preorder (0 ∷ []) 1) (append-nil ns) (preorder d.tail 0 1 [] [] [] (omega arith) tt (λ qs o. tt)) in
    subst LawfulTwig (sym d.nodes) (from_preorder _ ns refl refl few (d.lawful, named_nodes limit 0 1 0 1 d.tail d.within) order)

-- the tree of nodes in preorder: what hangs on h, and then what hangs on each node of its path
abbrev Kids : List ℕ → ℕ → ℕ → List Vertex → Type 0
Kids [] h n vs = (t : Tail) × (vs ≡ nodes_of_tail h n t)
Kids (g ∷ gs) h n vs = (t : Tail) × (ws : List Vertex) × (vs ≡ nodes_of_tail h n t ++ ws) × Kids gs g (n + size t) ws

no_kids : (gs : List ℕ) (h n : ℕ) → Kids gs h n []
no_kids [] h n = (end, refl)
no_kids (g ∷ gs) h n = (end, [], refl, no_kids gs g (n + size end))

one_more : (gs : List ℕ) (h n : ℕ) (v : Vertex) (vs : List Vertex) → v.parent ≡ h → Kids (h ∷ gs) n (n + 1) vs → Kids gs h n (v ∷ vs)
one_more [] h n v vs p r =
    let q = r.3 in
    (branch v.edge v.name r.0 q.0, (λ z. node v.name (p z) v.edge ∷ (r.2 ∙ ap (λ x. nodes_of_tail n (n + 1) r.0 ++ x) q.1) z))
one_more (g ∷ gs) h n v vs p r =
    let q = r.3 in
    let t = r.0 in
    let u = q.0 in
    let nt = nodes_of_tail n (n + 1) t in
    let num : n + 1 + size t + size u ≡ n + (size t + size u + 1) = omega arith in (
      branch v.edge v.name t u,
      q.1,
      (λ z. node v.name (p z) v.edge ∷ (r.2 ∙ ap (λ x. nt ++ x) q.2 ∙ sym (append_assoc nt (nodes_of_tail h (n + 1 + size t) u) q.1)) z),
      subst (λ x. Kids gs g x q.1) num q.3,
    )

other : (p h : ℕ) (gs : List ℕ) → eqb p h ≡ false → among p (h ∷ gs) ≡ true → among p gs ≡ true
other p h gs ne m = ⊎_elim (λ (y : eqb p h ≡ true). absurd (true≢false (sym y ∙ ne))) (λ (y : among p gs ≡ true). y) (or_cases (eqb p h) (among p gs) m)

hang : (gs : List ℕ) (h n : ℕ) (v : Vertex) (vs : List Vertex) → among v.parent (h ∷ gs) ≡ true → Kids (onto v.parent (h ∷ gs)) n (n + 1) vs → Kids gs h n (v ∷ vs)
hang [] h n v vs m r =
    ⊎_elim (λ (is : eqb v.parent h ≡ true). one_more [] h n v vs (eqb-true _ _ is) (subst (λ x. Kids x n (n + 1) vs) (cond-true _ _ _ is) r))
    (λ (ne : eqb v.parent h ≡ false). absurd (true≢false (sym (other v.parent h [] ne m))))
    (cases_Bool (eqb v.parent h))
hang (g ∷ gs) h n v vs m r =
    ⊎_elim (λ (is : eqb v.parent h ≡ true). one_more (g ∷ gs) h n v vs (eqb-true _ _ is) (subst (λ x. Kids x n (n + 1) vs) (cond-true _ _ _ is) r))
    (λ (ne : eqb v.parent h ≡ false). (end, v ∷ vs, refl, subst (λ x. Kids gs g x (v ∷ vs)) (sym (add-zero n)) (hang gs g n v vs (other v.parent h (g ∷ gs) ne m) (subst (λ x. Kids x n (n + 1) vs) (cond-false _ _ _ ne) r))))
    (cases_Bool (eqb v.parent h))

grow : (vs : List Vertex) (gs : List ℕ) (h n : ℕ) → Preorder (h ∷ gs) n vs → Kids gs h n vs
grow [] gs h n p = no_kids gs h n
grow (v ∷ vs) gs h n p = hang gs h n v vs p.0 (grow vs (onto v.parent (h ∷ gs)) n (n + 1) p.1)

-- the spelling of a lawful twig is the text of its standard derivation
record Written (m : Mark) (vs : List Vertex) : Type 0 where
  derives : DerivesTail (up_to 7) (spelling (shape m vs)) m vs
  standard : Standard derives.tail

written : (m : Mark) (vs : List Vertex) → LawfulTwig vs → Written m vs
written m [] w = absurd (omega (arith, w.some))
written m (v ∷ vs) w =
    let g = grow vs [] 0 1 (to_preorder v vs w) in
    let t = g.0 in
    let few : size t < 16 = omega (arith, length-nodes 0 1 t, ap length g.1, w.few) in
    let names : Names t = names_tail 0 1 t (subst Named g.1 w.named.1) in
    record {
      derives = record {
        name = v.name;
        tail = std t;
        one = omega arith;
        lawful = w.named.0;
        within = within_std t 0 1 (omega arith) (omega arith) names;
        text = append_assoc (lead_text m) v.name (rest 0 vs) ∙ ap (λ x. lead_text m ++ (v.name ++ x)) (ap (rest 0) g.1 ∙ spelt_root t);
        nodes = (λ z. record { name = v.name; parent = w.root z; edge = w.root_edge z } ∷ (g.1 ∙ sym (nodes_std 0 1 t)) z);
      };
      standard = standard_std t;
    }

lead_size : (m : Mark) → length (lead_text m) ≤ 2
lead_size Top = lit≤ tt
lead_size Any = lit≤ tt

-- how long a derived text is
derived_size : (limit : ℕ) (t : List ℕ) (m : Mark) (vs : List Vertex) → DerivesTail (up_to limit) t m vs → length t ≤ 34 + 37 * 15
derived_size limit t m vs d =
    let w = text_of d.tail in
    omega (arith, ap length d.text, length-append (lead_text m) (d.name ++ w), length-append d.name w, lead_size m, d.lawful.short, text_size limit 0 1 d.tail d.within, few_names limit 0 1 d.tail d.within (omega arith))

-- seven brackets are within eight
deeper_limit : (d n : ℕ) (t : Tail) → Within (up_to 7) d n t → Within (up_to 8) d n t
deeper_limit d n end w = tt
deeper_limit d n (onward e a t) w = (w.0, w.1, deeper_limit d (n + 1) t w.2)
deeper_limit d n (branch e a t u) w = (omega (arith, w.0), w.1, w.2, deeper_limit (d + 1) (n + 1) t w.3, deeper_limit d (n + 1 + size t) u w.4)

only_tail : (l : Limits) (m : Mark) (t : List ℕ) (vs : List Vertex) (d : DerivesTail l t m vs) → Standard d.tail → t ≡ spelling (shape m vs)
only_tail l m t vs d s =
    d.text ∙ sym (append_assoc (lead_text m) d.name (text_of d.tail))
    ∙ ap (λ x. (lead_text m ++ d.name) ++ x) (ap text_of (sym (std_same d.tail s)) ∙ sym (spelt_root d.tail))
    ∙ ap (λ x. spelling (shape m x)) (sym d.nodes)

-- the promises
pub grammar : GrantedIsWhatTheGrammarDerives
grammar t w =
    (λ e. let d = exact t w.mark w.nodes e in (d.0, to_derives limits t w.mark w.nodes d.1), λ d. sound t w.mark w.nodes d.0 (from_derives limits t w.mark w.nodes d.1))

pub granted_lawful : GrantedIsLawful
granted_lawful t w e = lawful 8 t w.mark w.nodes (exact t w.mark w.nodes e).1

pub back : SpellingsReadBack
back w l =
    let d = (written w.mark w.nodes l).derives in
    let size : length (spelling w) ≤ 1024 = omega (arith, derived_size 7 _ w.mark w.nodes d) in
    sound (spelling w) w.mark w.nodes size
    (record { name = d.name; tail = d.tail; one = d.one; lawful = d.lawful; within = deeper_limit 0 1 d.tail d.within; text = d.text; nodes = d.nodes })

pub one_spelling : OneStandardSpelling
one_spelling w l =
    let x = written w.mark w.nodes l in (
      record { derived = to_derives (up_to 7) _ w.mark w.nodes x.derives; standard = to_standard (up_to 7) _ w.mark w.nodes x.derives x.standard },
      derived_size 7 _ w.mark w.nodes x.derives,
      λ k t s. only_tail k w.mark t w.nodes (from_derives k t w.mark w.nodes s.derived) (from_standard k t w.mark w.nodes s.derived s.standard),
    )

pub same_spelling : SameSpellingSameTwig
same_spelling t t' w w' e e' =
    (λ s. same_twig w w' (sym (back w (granted_lawful t w e)) ∙ ap read_pattern s ∙ back w' (granted_lawful t' w' e')), λ s. ap spelling s)

pub read_lawful : (t : List ℕ) (m : Mark) (vs : List Vertex) → run_in limits start 0 t ≡ granted m vs → LawfulTwig vs
read_lawful t m vs e = lawful 8 t m vs (exact_in limits (omega arith) t m vs e)

-- what is refused is not derived
pub not_derived : (t : List ℕ) (f : Fault) → read_pattern t ≡ Err f → (w : Shape) → length t ≤ 1024 → Derives limits t w → ⊥
not_derived t f e w l d = no_grant (sym e ∙ (grammar t w).1 (l, d))
