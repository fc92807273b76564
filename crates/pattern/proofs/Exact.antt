-- What is granted, the grammar derives.
use Rattle.std.proofs.Common.{◌≡◌, ℕ, ◌+◌, ◌<◌, ◌≤◌, Bool, true, false, cond, eqb, leb, List, [], ◌∷◌, ◌++◌, length, Ok, Err, Result, sym, refl, ap, ◌∙◌, subst, add-zero, arith}
use Rattle.std.proofs.lemmas.List.{append_assoc, append-nil, length_push}
use Rattle.std.proofs.lemmas.Bool.{eqb-true, leb-true, leb-false, le-leb, cond-true}
use Rattle.pattern.specs.declared.node.Edge.{Edge}
use Rattle.pattern.specs.declared.node.Edge.TheVariants.{Child, Descendant}
use Rattle.markup.specs.declared.fault.Fault.{Fault}
use Rattle.markup.specs.declared.fault.Refusal.TheVariants.{PatternTooLong}
use Rattle.markup.specs.Faults.{fault}
use Rattle.pattern.specs.declared.node.Mark.{Mark}
use Rattle.pattern.specs.declared.node.Mark.TheVariants.{Top, Any}
use Rattle.std.specs.List.{AllByRecursion as Every}
use Rattle.markup.specs.Name.{name_first, name_byte, NameWithin}
use Rattle.markup.proofs.Names.{first_is_byte}
use Rattle.pattern.specs.Shape.{Vertex, Shape, node}
use Rattle.pattern.specs.Reading.{State, Phase, nothing, lead, edge, slash, bracket, dot, dot_slash, inside, step, Move, granted, Limits, limits, next_in, beyond_in, begin_in, close, finish, feed, run_in, start, read_pattern}
use Rattle.pattern.specs.Spelling.{lead_text, open_text}
use Rattle.pattern.proofs.Tails.{Tail, end, onward, branch, text_of, nodes_of_tail, size, Within, DerivesTail}
use Rattle.pattern.proofs.Sound.{at, shape, deeper}

-- granted and refused are apart, and a granted outcome has one twig
abbrev IsOk : Result Shape Fault → Type 0
IsOk (Ok w) = Unit {0}
IsOk (Err f) = ⊥

pub no_grant : {f : Fault} {w : Shape} {R : Type 0} → Err f ≡ Ok w → R
no_grant e = absurd (subst IsOk (sym e) tt)

value : Shape → Result Shape Fault → Shape
value d (Ok w) = w
value d (Err f) = d

pub same_twig : (w w' : Shape) → ◌≡◌ {A = Result Shape Fault} (Ok w) (Ok w') → w ≡ w'
unfolding value
same_twig w w' e = ap (value w) e

same_mark : (m m' : Mark) (vs vs' : List Vertex) → granted m vs ≡ granted m' vs' → m ≡ m'
same_mark m m' vs vs' e = ap (λ (w : Shape). w.mark) (same_twig _ _ e)

same_list : (m m' : Mark) (vs vs' : List Vertex) → granted m vs ≡ granted m' vs' → vs ≡ vs'
same_list m m' vs vs' e = ap (λ (w : Shape). w.nodes) (same_twig _ _ e)

on_cond : {R : Type 0} (k : ℕ) (b : Bool) (x y : Move) (f : State → Result Shape Fault) (o : Result Shape Fault) → (b ≡ true → feed k x f ≡ o → R) → (b ≡ false → feed k y f ≡ o → R) → feed k (cond b x y) f ≡ o → R
on_cond k true x y f o p q e = p refl e
on_cond k false x y f o p q e = q refl e

module _ (l : Limits) (some : 0 < l.bytes) where
  -- after a step, with brackets of the nodes hs open: the tail of each, with `]` between
  abbrev After : List ℕ → ℕ → ℕ → List ℕ → List Vertex → Type 0
  After [] h n bs vs = (t : Tail) × (bs ≡ text_of t) × (vs ≡ nodes_of_tail h n t) × Within l 0 n t
  After (g ∷ hs) h n bs vs =
      (t : Tail) × (more : List ℕ) × (ws : List Vertex) × (bs ≡ text_of t ++ 93 ∷ more) × (vs ≡ nodes_of_tail h n t ++ ws) × Within l (length (g ∷ hs)) n t × After hs g (n + size t) more ws

  -- a name, and all that stands after it
  abbrev Name : Edge → List ℕ → ℕ → ℕ → List ℕ → List Vertex → Type 0
  Name e hs h n bs vs = (a : List ℕ) × (more : List ℕ) × (ws : List Vertex) × (bs ≡ a ++ more) × (vs ≡ node a h e ∷ ws) × NameWithin l.bytes a × (n < l.names) × After hs n (n + 1) more ws

  -- more bytes of a name, of which there are k
  abbrev Room : ℕ → List ℕ → Type 0
  Room k [] = Unit {0}
  Room k (c ∷ cs) = (name_byte c ≡ true) × (k < l.bytes) × Room (k + 1) cs

  -- what the bytes left are in each phase, if the outcome has the mark m and vs more nodes
  abbrev Fits : Mark → Phase → List ℕ → ℕ → ℕ → List ℕ → Mark → List Vertex → Type 0
  Fits m₀ nothing hs h n bs m vs = (more : List ℕ) × (bs ≡ lead_text m ++ more) × Name Child hs h n more vs
  Fits m₀ lead hs h n bs m vs = (more : List ℕ) × (47 ∷ bs ≡ lead_text m ++ more) × Name Child hs h n more vs
  Fits m₀ (edge e) hs h n bs m vs = (m₀ ≡ m) × Name e hs h n bs vs
  Fits m₀ slash hs h n bs m vs = (m₀ ≡ m) × (e : Edge) × (more : List ℕ) × (47 ∷ bs ≡ open_text false e ++ more) × Name e hs h n more vs
  Fits m₀ bracket hs h n bs m vs = (m₀ ≡ m) × (e : Edge) × (more : List ℕ) × (91 ∷ bs ≡ open_text true e ++ more) × Name e hs h n more vs
  Fits m₀ dot hs h n bs m vs = (m₀ ≡ m) × (more : List ℕ) × (bs ≡ 47 ∷ 47 ∷ more) × Name Descendant hs h n more vs
  Fits m₀ dot_slash hs h n bs m vs = (m₀ ≡ m) × (more : List ℕ) × (bs ≡ 47 ∷ more) × Name Descendant hs h n more vs
  Fits m₀ (inside e a) hs h n bs m vs =
      (m₀ ≡ m) × (cs : List ℕ) × (more : List ℕ) × (ws : List Vertex) × (bs ≡ cs ++ more) × (vs ≡ node (a ++ cs) h e ∷ ws) × Room (length a) cs × After hs n (n + 1) more ws
  Fits m₀ step hs h n bs m vs = (m₀ ≡ m) × After hs h n bs vs

  record Fit (m₀ : Mark) (ns : List Vertex) (h : ℕ) (hs : List ℕ) (p : Phase) (bs : List ℕ) (m : Mark) (vs : List Vertex) : Type 0 where
    more : List Vertex
    nodes : vs ≡ ns ++ more
    fits : Fits m₀ p hs h (length ns) bs m more

  -- one step more, by an edge or in a branch
  by_edge : (hs : List ℕ) (e : Edge) (a : List ℕ) (h n : ℕ) (bs : List ℕ) (vs : List Vertex) → NameWithin l.bytes a → n < l.names → After hs n (n + 1) bs vs → After hs h n (open_text false e ++ (a ++ bs)) (node a h e ∷ vs)
  by_edge [] e a h n bs vs ok few r = (onward e a r.0, ap (λ x. open_text false e ++ (a ++ x)) r.1, ap (λ x. node a h e ∷ x) r.2, (few, ok, r.3))
  by_edge (g ∷ hs) e a h n bs vs ok few r =
      let t = r.0 in
      let num : n + 1 + size t ≡ n + (size t + 1) = omega arith in (
        onward e a t,
        r.1,
        r.2,
        ap (λ x. open_text false e ++ (a ++ x)) r.3 ∙ sym (append_assoc (open_text false e) _ (93 ∷ r.1) ∙ ap (λ x. open_text false e ++ x) (append_assoc a (text_of t) (93 ∷ r.1))),
        ap (λ x. node a h e ∷ x) r.4,
        (few, ok, r.5),
        subst (λ x. After hs g x r.1 r.2) num r.6,
      )

  by_bracket : (hs : List ℕ) (e : Edge) (a : List ℕ) (h n : ℕ) (bs : List ℕ) (vs : List Vertex) → NameWithin l.bytes a → n < l.names → length hs < l.brackets → After (h ∷ hs) n (n + 1) bs vs → After hs h n (open_text true e ++ (a ++ bs)) (node a h e ∷ vs)
  by_bracket [] e a h n bs vs ok few deep r =
      let t = r.0 in
      let q = r.6 in (
        branch e a t q.0,
        ap (λ x. open_text true e ++ (a ++ x)) (r.3 ∙ ap (λ x. text_of t ++ 93 ∷ x) q.1),
        ap (λ x. node a h e ∷ x) (r.4 ∙ ap (λ x. nodes_of_tail n (n + 1) t ++ x) q.2),
        (deep, few, ok, r.5, q.3),
      )
  by_bracket (g ∷ hs) e a h n bs vs ok few deep r =
      let t = r.0 in
      let q = r.6 in
      let u = q.0 in
      let nt = nodes_of_tail n (n + 1) t in
      let num : n + 1 + size t + size u ≡ n + (size t + size u + 1) = omega arith in (
        branch e a t u,
        q.1,
        q.2,
        ap (λ x. open_text true e ++ (a ++ x)) (r.3 ∙ ap (λ x. text_of t ++ 93 ∷ x) q.3) ∙ sym (shape (open_text true e) a (text_of t) (text_of u) (93 ∷ q.1)),
        ap (λ x. node a h e ∷ x) (r.4 ∙ ap (λ x. nt ++ x) q.4 ∙ sym (append_assoc nt (nodes_of_tail h (n + 1 + size t) u) q.2)),
        (deep, few, ok, subst (λ d. Within l d (n + 1) t) (sym (deeper (length (g ∷ hs)))) r.5, q.5),
        subst (λ x. After hs g x q.1 q.2) num q.6,
      )

  recast : (hs : List ℕ) (h n : ℕ) (bs bs' : List ℕ) (vs vs' : List Vertex) → bs ≡ bs' → vs ≡ vs' → After hs h n bs' vs' → After hs h n bs vs
  recast hs h n bs bs' vs vs' p q r = subst (λ x. After hs h n x vs) (sym p) (subst (λ x. After hs h n bs' x) (sym q) r)

  room_all : (k : ℕ) (cs : List ℕ) → Room k cs → Every (λ b. name_byte b ≡ true) cs
  room_all k [] r = tt
  room_all k (c ∷ cs) r = (r.0, room_all (k + 1) cs r.2)

  room_size : (k : ℕ) (cs : List ℕ) → k ≤ l.bytes → Room k cs → k + length cs ≤ l.bytes
  room_size k [] le r = omega arith
  room_size k (c ∷ cs) le r =
      let h : k + 1 ≤ l.bytes = omega (arith, r.1) in
      omega (arith, room_size (k + 1) cs h r.2)

  -- what holds of the bytes bs in every state
  abbrev Ih : List ℕ → Type 0
  Ih bs = (m₀ : Mark) (ns : List Vertex) (h : ℕ) (hs : List ℕ) (p : Phase) (k : ℕ) (m : Mark) (vs : List Vertex) → run_in l (at m₀ ns h hs p) k bs ≡ granted m vs → Fit m₀ ns h hs p bs m vs

  module _ (bs : List ℕ) (ih : Ih bs) (m₀ : Mark) (ns : List Vertex) (h : ℕ) (hs : List ℕ) (k b : ℕ) (m : Mark) (vs : List Vertex) where
    begins : (p : Phase) (e : Edge) → feed k (begin_in l (at m₀ ns h hs p) e b) (λ t. run_in l t (k + 1) bs) ≡ granted m vs → (more : List Vertex) × (vs ≡ ns ++ more) × (m₀ ≡ m) × Name e hs h (length ns) (b ∷ bs) more
    begins p e =
        on_cond k (name_first b) _ _ _ _
        (λ st. on_cond k (leb l.names (length ns)) _ _ _ _ (λ _ x. no_grant x) (λ few x.
        let f = ih m₀ ns h hs (inside e (b ∷ [])) (k + 1) m vs x in
        let g = f.fits in
        let short : length g.1 < l.bytes = omega (arith, room_size 1 g.1 some g.6) in
        (f.more, f.nodes, g.0, (b ∷ g.1, g.2, g.3, ap (λ y. b ∷ y) g.4, g.5, record { some = omega arith; short = omega (arith, short); first = st; each = (first_is_byte b st, room_all 1 g.1 g.6) }, leb-false l.names _ few, g.7))))
        (λ _ x. no_grant x)

    closes : (hs' : List ℕ) (p : Phase) → hs ≡ hs' → feed k (close (at m₀ ns h hs p) hs') (λ t. run_in l t (k + 1) bs) ≡ granted m vs → (more : List Vertex) × (vs ≡ ns ++ more) × (m₀ ≡ m) × After hs' h (length ns) (93 ∷ bs) more
    closes [] p e x = no_grant x
    closes (g ∷ gs) p e x =
        let f = ih m₀ ns g gs step (k + 1) m vs x in
        (f.more, f.nodes, f.fits.0, (end, bs, f.more, refl, refl, tt, subst (λ n. After gs g n bs f.more) (sym (add-zero (length ns))) f.fits.1))

    beyonds : (p : Phase) → feed k (beyond_in l (at m₀ ns h hs p) b) (λ t. run_in l t (k + 1) bs) ≡ granted m vs → (more : List Vertex) × (vs ≡ ns ++ more) × (m₀ ≡ m) × After hs h (length ns) (b ∷ bs) more
    beyonds p =
        on_cond k (eqb b 47) _ _ _ _
        (λ is x.
        let f = ih m₀ ns h hs slash (k + 1) m vs x in
        let g = f.fits in
        let n = g.4 in
        (f.more, f.nodes, g.0, recast hs h (length ns) _ _ _ _ (ap (λ y. y ∷ bs) (eqb-true b 47 is) ∙ g.3 ∙ ap (λ y. open_text false g.1 ++ y) n.3) n.4 (by_edge hs g.1 n.0 h (length ns) n.1 n.2 n.5 n.6 n.7)))
        (λ _. on_cond k (eqb b 91) _ _ _ _
        (λ is. on_cond k (leb l.brackets (length hs)) _ _ _ _ (λ _ x. no_grant x) (λ few x.
        let f = ih m₀ ns h (h ∷ hs) bracket (k + 1) m vs x in
        let g = f.fits in
        let n = g.4 in
        (f.more, f.nodes, g.0, recast hs h (length ns) _ _ _ _ (ap (λ y. y ∷ bs) (eqb-true b 91 is) ∙ g.3 ∙ ap (λ y. open_text true g.1 ++ y) n.3) n.4 (by_bracket hs g.1 n.0 h (length ns) n.1 n.2 n.5 n.6 (leb-false l.brackets _ few) n.7))))
        (λ _. on_cond k (eqb b 93) _ _ _ _
        (λ is x.
        let c = closes hs p refl x in
        (c.0, c.1, c.2, recast hs h (length ns) _ _ _ _ (ap (λ y. y ∷ bs) (eqb-true b 93 is)) refl c.3))
        (λ _ x. no_grant x)))

  module _ (bs : List ℕ) (ih : Ih bs) (m₀ : Mark) (ns : List Vertex) (h : ℕ) (hs : List ℕ) (k b : ℕ) (m : Mark) (vs : List Vertex) where
    nexts : (p : Phase) → feed k (next_in l (at m₀ ns h hs p) p b) (λ t. run_in l t (k + 1) bs) ≡ granted m vs → Fit m₀ ns h hs p (b ∷ bs) m vs
    nexts nothing = on_cond k (eqb b 47) _ _ _ _
        (λ is x. let f = ih m₀ ns h hs lead (k + 1) m vs x in
        record { more = f.more; nodes = f.nodes; fits = (f.fits.0, ap (λ y. y ∷ bs) (eqb-true b 47 is) ∙ f.fits.1, f.fits.2) })
        (λ _ x. no_grant x)
    nexts lead = on_cond k (eqb b 47) _ _ _ _
        (λ is x. let f = ih Any ns h hs (edge Child) (k + 1) m vs x in
        record { more = f.more; nodes = f.nodes; fits = (bs, ap (λ y. 47 ∷ y ∷ bs) (eqb-true b 47 is) ∙ ap (λ y. lead_text y ++ bs) f.fits.0, f.fits.1) })
        (λ _ x. let g = begins bs ih Top ns h hs k b m vs lead Child x in
        record { more = g.0; nodes = g.1; fits = (b ∷ bs, ap (λ y. lead_text y ++ b ∷ bs) g.2, g.3) })
    nexts (edge e) = λ x. let g = begins bs ih m₀ ns h hs k b m vs (edge e) e x in record { more = g.0; nodes = g.1; fits = (g.2, g.3) }
    nexts slash = on_cond k (eqb b 47) _ _ _ _
        (λ is x. let f = ih m₀ ns h hs (edge Descendant) (k + 1) m vs x in
        record { more = f.more; nodes = f.nodes; fits = (f.fits.0, Descendant, bs, ap (λ y. 47 ∷ y ∷ bs) (eqb-true b 47 is), f.fits.1) })
        (λ _ x. let g = begins bs ih m₀ ns h hs k b m vs slash Child x in record { more = g.0; nodes = g.1; fits = (g.2, Child, b ∷ bs, refl, g.3) })
    nexts bracket = on_cond k (eqb b 46) _ _ _ _
        (λ is x. let f = ih m₀ ns h hs dot (k + 1) m vs x in
        record { more = f.more; nodes = f.nodes; fits = (f.fits.0, Descendant, f.fits.1, (λ z. 91 ∷ eqb-true b 46 is z ∷ f.fits.2 z), f.fits.3) })
        (λ _ x. let g = begins bs ih m₀ ns h hs k b m vs bracket Child x in record { more = g.0; nodes = g.1; fits = (g.2, Child, b ∷ bs, refl, g.3) })
    nexts dot = on_cond k (eqb b 47) _ _ _ _
        (λ is x. let f = ih m₀ ns h hs dot_slash (k + 1) m vs x in
        record { more = f.more; nodes = f.nodes; fits = (f.fits.0, f.fits.1, (λ z. eqb-true b 47 is z ∷ f.fits.2 z), f.fits.3) })
        (λ _ x. no_grant x)
    nexts dot_slash = on_cond k (eqb b 47) _ _ _ _
        (λ is x. let f = ih m₀ ns h hs (edge Descendant) (k + 1) m vs x in
        record { more = f.more; nodes = f.nodes; fits = (f.fits.0, bs, ap (λ y. y ∷ bs) (eqb-true b 47 is), f.fits.1) })
        (λ _ x. no_grant x)
    nexts (inside e a) = on_cond k (name_byte b) _ _ _ _
        (λ is. on_cond k (leb l.bytes (length a)) _ _ _ _ (λ _ x. no_grant x) (λ few x.
        let f = ih m₀ ns h hs (inside e (a ++ b ∷ [])) (k + 1) m vs x in
        let g = f.fits in
        record { more = f.more; nodes = f.nodes; fits = (g.0, b ∷ g.1, g.2, g.3, ap (λ y. b ∷ y) g.4, g.5 ∙ ap (λ y. node y h e ∷ g.3) (append_assoc a (b ∷ []) g.1), (is, leb-false l.bytes _ few, subst (λ y. Room y g.1) (length_push a b) g.6), g.7) }))
        (λ _ x.
        let v = node a h e in
        let g = beyonds bs ih m₀ (ns ++ v ∷ []) (length ns) hs k b m vs step x in
        record { more = v ∷ g.0; nodes = g.1 ∙ append_assoc ns (v ∷ []) g.0; fits = (g.2, [], b ∷ bs, g.0, refl, ap (λ y. node y h e ∷ g.0) (sym (append-nil a)), tt, subst (λ n. After hs (length ns) n (b ∷ bs) g.0) (length_push ns v) g.3) })
    nexts step = λ x. let g = beyonds bs ih m₀ ns h hs k b m vs step x in record { more = g.0; nodes = g.1; fits = (g.2, g.3) }

  -- at the end of the text
  finishes : (m₀ : Mark) (ns : List Vertex) (h : ℕ) (k : ℕ) (m : Mark) (vs : List Vertex) (p : Phase) (hs : List ℕ) → finish (at m₀ ns h hs p) p k ≡ granted m vs → Fit m₀ ns h hs p [] m vs
  finishes m₀ ns h k m vs nothing hs x = no_grant x
  finishes m₀ ns h k m vs lead hs x = no_grant x
  finishes m₀ ns h k m vs (edge e) hs x = no_grant x
  finishes m₀ ns h k m vs slash hs x = no_grant x
  finishes m₀ ns h k m vs bracket hs x = no_grant x
  finishes m₀ ns h k m vs dot hs x = no_grant x
  finishes m₀ ns h k m vs dot_slash hs x = no_grant x
  finishes m₀ ns h k m vs (inside e a) [] x =
      let v = node a h e in
      record { more = v ∷ []; nodes = sym (same_list _ _ _ _ x); fits = (same_mark _ _ _ _ x, [], [], [], refl, ap (λ y. node y h e ∷ []) (sym (append-nil a)), tt, (end, refl, refl, tt)) }
  finishes m₀ ns h k m vs (inside e a) (g ∷ gs) x = no_grant x
  finishes m₀ ns h k m vs step [] x = record { more = []; nodes = sym (same_list _ _ _ _ x) ∙ sym (append-nil ns); fits = (same_mark _ _ _ _ x, (end, refl, refl, tt)) }
  finishes m₀ ns h k m vs step (g ∷ gs) x = no_grant x

  fit : (bs : List ℕ) → Ih bs
  unfolding run_in
  fit [] m₀ ns h hs p k m vs x = finishes m₀ ns h k m vs p hs x
  fit (b ∷ bs) m₀ ns h hs p k m vs x = nexts bs (fit bs) m₀ ns h hs k b m vs p x

  -- whatever the text's length
  pub exact_in : (t : List ℕ) (m : Mark) (vs : List Vertex) → run_in l start 0 t ≡ granted m vs → DerivesTail l t m vs
  exact_in t m vs x =
      let f = fit t Any [] 0 [] nothing 0 m vs x in
      let n = f.fits.2 in
      let r = n.7 in
      record {
        name = n.0;
        one = n.6;
        tail = r.0;
        lawful = n.5;
        within = r.3;
        text = f.fits.1 ∙ ap (λ y. lead_text m ++ y) (n.3 ∙ ap (λ y. n.0 ++ y) r.1);
        nodes = f.nodes ∙ n.4 ∙ ap (λ y. node n.0 0 Child ∷ y) r.2;
      }

long_or : (b : Bool) (o : Result Shape Fault) (f : Fault) (m : Mark) (vs : List Vertex) → cond b o (Err f) ≡ granted m vs → (b ≡ true) × (o ≡ granted m vs)
long_or true o f m vs x = (refl, x)
long_or false o f m vs x = no_grant x

pub exact : (t : List ℕ) (m : Mark) (vs : List Vertex) → read_pattern t ≡ granted m vs → (length t ≤ 1024) × DerivesTail limits t m vs
exact t m vs x =
    let l = long_or (leb (length t) 1024) (run_in limits start 0 t) (fault PatternTooLong 1024) m vs x in
    (leb-true _ 1024 l.0, exact_in limits (omega arith) t m vs l.1)

-- a text that is not too long
pub reading_short : (t : List ℕ) → length t ≤ 1024 → read_pattern t ≡ run_in limits start 0 t
reading_short t h = cond-true _ _ _ (le-leb _ 1024 h)
