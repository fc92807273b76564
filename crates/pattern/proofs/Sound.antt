-- What the grammar derives is granted.
use Rattle.std.proofs.Common.{◌≡◌, ℕ, suc, ◌+◌, ◌<◌, ◌≤◌, Bool, true, false, eqb, List, [], ◌∷◌, ◌++◌, length, sym, refl, ap, ◌∙◌, subst, arith}
use Rattle.std.proofs.lemmas.List.{append_assoc, append-nil, length_push, length-append}
use Rattle.std.proofs.lemmas.Bool.{true≢false, ne_eqb, cond-true, cond-false, le-leb, lt-leb}
use Rattle.pattern.specs.declared.node.Edge.{Edge}
use Rattle.pattern.specs.declared.node.Edge.TheVariants.{Child, Descendant}
use Rattle.pattern.specs.declared.node.Mark.{Mark}
use Rattle.pattern.specs.declared.node.Mark.TheVariants.{Top, Any}
use Rattle.std.specs.List.{AllByRecursion as Every}
use Rattle.markup.specs.Name.{name_first, name_byte, NameWithin}
use Rattle.pattern.specs.Shape.{Vertex, node}
use Rattle.pattern.specs.Reading.{State, Phase, edge, lead, slash, bracket, inside, step, Limits, limits, go, granted, next_in, feed, run_in, settle, start, read_pattern}
use Rattle.pattern.specs.Spelling.{lead_text, open_text}
use Rattle.pattern.proofs.Tails.{Tail, end, onward, branch, text_of, nodes_of_tail, size, Within, DerivesTail}

abbrev pub at : Mark → List Vertex → ℕ → List ℕ → Phase → State
at m vs h hs p = record { mark = m; nodes = vs; holder = h; brackets = hs; phase = p }

pub deeper : (d : ℕ) → d + 1 ≡ suc d
deeper d = omega arith

-- as many nodes as names
pub length-nodes : (h n : ℕ) (t : Tail) → length (nodes_of_tail h n t) ≡ size t
length-nodes h n end = refl
length-nodes h n (onward e a t) = omega (arith, length-nodes n (n + 1) t)
length-nodes h n (branch e a t u) = omega (arith, length-append (nodes_of_tail n (n + 1) t) (nodes_of_tail h (n + 1 + size t) u), length-nodes n (n + 1) t, length-nodes h (n + 1 + size t) u)

pub shape : (o a t u more : List ℕ) → (o ++ (a ++ (t ++ 93 ∷ u))) ++ more ≡ o ++ (a ++ (t ++ 93 ∷ (u ++ more)))
shape o a t u more = append_assoc o _ more ∙ ap (λ x. o ++ x) (append_assoc a _ more ∙ ap (λ x. a ++ x) (append_assoc t _ more))

-- a name ends where no byte of a name follows
abbrev HeadOk : List ℕ → Type 0
HeadOk [] = Unit {0}
HeadOk (b ∷ bs) = name_byte b ≡ false

head_open : (b : Bool) (e : Edge) (w : List ℕ) → HeadOk (open_text b e ++ w)
head_open false Child w = refl
head_open false Descendant w = refl
head_open true Child w = refl
head_open true Descendant w = refl

-- what stands after a name begins with no byte of a name
head_tail : (t : Tail) (more : List ℕ) → HeadOk more → HeadOk (text_of t ++ more)
head_tail end more h = h
head_tail (onward e a t) more h = subst HeadOk (sym (append_assoc (open_text false e) _ more)) (head_open false e _)
head_tail (branch e a t u) more h = subst HeadOk (sym (append_assoc (open_text true e) _ more)) (head_open true e _)

module _ (l : Limits) where
  -- over the bytes w from one state to another, whatever follows
  record Goes (s : State) (w : List ℕ) (u : State) : Type 0 where
    on : (i : ℕ) (more : List ℕ) → (j : ℕ) × (run_in l s i (w ++ more) ≡ run_in l u j more)

  join : (s u v : State) (w x : List ℕ) → Goes s w u → Goes u x v → Goes s (w ++ x) v
  join s u v w x g h = record { on = λ i more. ((h.on (g.on i (x ++ more)).0 more).0, ap (run_in l s i) (append_assoc w x more) ∙ (g.on i (x ++ more)).1 ∙ (h.on (g.on i (x ++ more)).0 more).1) }

  none : (s : State) → Goes s [] s
  none s = record { on = λ i more. (i, refl) }

  byte : (s u : State) (b : ℕ) → next_in l s s.phase b ≡ go u → Goes s (b ∷ []) u
  unfolding run_in
  byte s u b e = record { on = λ i more. (i + 1, ap (λ m. feed i m (λ t. run_in l t (i + 1) more)) e) }

  module _ (m : Mark) (ns : List Vertex) where
    abbrev after_open : Bool → Edge → Phase
    after_open false Child = slash
    after_open false Descendant = edge Descendant
    after_open true Child = bracket
    after_open true Descendant = edge Descendant

    following : (p : ℕ) (hs : List ℕ) (e : Edge) → Goes (at m ns p hs step) (open_text false e) (at m ns p hs (after_open false e))
    following p hs Child = byte _ _ 47 (refl)
    following p hs Descendant = join _ (at m ns p hs slash) _ (47 ∷ []) (47 ∷ []) (byte _ _ 47 (refl)) (byte _ _ 47 (refl))

    opening : (p : ℕ) (hs : List ℕ) → length hs < l.brackets → (e : Edge) → Goes (at m ns p hs step) (open_text true e) (at m ns p (p ∷ hs) (after_open true e))
    opening p hs few Child = byte _ _ 91 (cond-false _ _ _ (lt-leb l.brackets _ few))
    opening p hs few Descendant =
        join _ (at m ns p (p ∷ hs) bracket) _ (91 ∷ []) (46 ∷ 47 ∷ 47 ∷ []) (byte _ _ 91 (cond-false _ _ _ (lt-leb l.brackets _ few)))
        (join _ _ _ (46 ∷ []) (47 ∷ 47 ∷ []) (byte _ _ 46 (refl)) (join _ _ _ (47 ∷ []) (47 ∷ []) (byte _ _ 47 (refl)) (byte _ _ 47 (refl))))

    closing : (p k : ℕ) (hs : List ℕ) → Goes (at m ns k (p ∷ hs) step) (93 ∷ []) (at m ns p hs step)
    closing p k hs = byte _ _ 93 (refl)

    apart : (c b : ℕ) → name_first c ≡ true → name_first b ≡ false → eqb c b ≡ false
    apart c b h n = ne_eqb c b (λ e. true≢false (sym h ∙ ap name_first e ∙ n))

    first : (p : ℕ) (hs : List ℕ) (b : Bool) (e : Edge) (c : ℕ) → name_first c ≡ true → length ns < l.names → Goes (at m ns p hs (after_open b e)) (c ∷ []) (at m ns p hs (inside e (c ∷ [])))
    first p hs false Child c h few = byte _ _ c (cond-false _ _ _ (apart c 47 h refl) ∙ cond-true _ _ _ h ∙ cond-false _ _ _ (lt-leb l.names _ few))
    first p hs false Descendant c h few = byte _ _ c (cond-true _ _ _ h ∙ cond-false _ _ _ (lt-leb l.names _ few))
    first p hs true Child c h few = byte _ _ c (cond-false _ _ _ (apart c 46 h refl) ∙ cond-true _ _ _ h ∙ cond-false _ _ _ (lt-leb l.names _ few))
    first p hs true Descendant c h few = byte _ _ c (cond-true _ _ _ h ∙ cond-false _ _ _ (lt-leb l.names _ few))

  more_name : (m : Mark) (ns : List Vertex) (p : ℕ) (hs : List ℕ) (e : Edge) (n cs : List ℕ) → Every (λ b. name_byte b ≡ true) cs → length n + length cs ≤ l.bytes → Goes (at m ns p hs (inside e n)) cs (at m ns p hs (inside e (n ++ cs)))
  more_name m ns p hs e n [] a most = subst (λ x. Goes (at m ns p hs (inside e n)) [] (at m ns p hs (inside e x))) (sym (append-nil n)) (none _)
  more_name m ns p hs e n (c ∷ cs) a most =
      let size : length n < l.bytes = omega arith in
      let size' : length (n ++ c ∷ []) + length cs ≤ l.bytes = omega (arith, length_push n c) in
      subst (λ x. Goes (at m ns p hs (inside e n)) (c ∷ cs) (at m ns p hs (inside e x))) (append_assoc n (c ∷ []) cs)
      (join _ (at m ns p hs (inside e (n ++ c ∷ []))) _ (c ∷ []) cs (byte _ _ c (cond-true _ _ _ a.0 ∙ cond-false _ _ _ (lt-leb l.bytes _ size))) (more_name m ns p hs e (n ++ c ∷ []) cs a.1 size'))

  name_after : (s : State) (m : Mark) (ns : List Vertex) (p : ℕ) (hs : List ℕ) (e : Edge) (n : List ℕ)
      → ((c : ℕ) → name_first c ≡ true → Goes s (c ∷ []) (at m ns p hs (inside e (c ∷ [])))) → NameWithin l.bytes n → Goes s n (at m ns p hs (inside e n))
  name_after s m ns p hs e [] begin ok = absurd (omega (arith, ok.some))
  name_after s m ns p hs e (c ∷ cs) begin ok =
      let size : length (c ∷ []) + length cs ≤ l.bytes = omega (arith, ok.short) in
      join _ (at m ns p hs (inside e (c ∷ []))) _ (c ∷ []) cs (begin c ok.first) (more_name m ns p hs e (c ∷ []) cs ok.each.1 size)

  settles : (s : State) (e : Edge) (n w : List ℕ) (i : ℕ) → HeadOk w → run_in l (at s.mark s.nodes s.holder s.brackets (inside e n)) i w ≡ run_in l (settle s e n) i w
  unfolding run_in
  settles s e n [] i h = refl
  settles s e n (b ∷ bs) i h = ap (λ v. feed i v (λ t. run_in l t (i + 1) bs)) (cond-false _ _ _ h)

  -- the nodes so far, then those of the text passed over
  abbrev Past : Mark → List Vertex → ℕ → List ℕ → ℕ → List ℕ → List Vertex → List ℕ → Type 0
  Past m ns h hs i w vs more = (k : ℕ) × (j : ℕ) × (run_in l (at m ns h hs step) i (w ++ more) ≡ run_in l (at m (ns ++ vs) k hs step) j more)

  -- a name after its edge, and all that stands behind it
  named : (b : Bool) (e : Edge) (a : List ℕ) (m : Mark) (ns : List Vertex) (n h : ℕ) (hs : List ℕ) (i : ℕ) (w : List ℕ)
      → length ns ≡ n → n < l.names → NameWithin l.bytes a → HeadOk w
      → (j : ℕ) × (run_in l (at m ns h hs (after_open m ns b e)) i (a ++ w) ≡ run_in l (at m (ns ++ node a h e ∷ []) n hs step) j w)
  named b e a m ns n h hs i w s few ok hw =
      let g = (name_after _ m ns h hs e a (λ c f. first m ns h hs b e c f (omega arith)) ok).on i w in
      (g.0, g.1 ∙ settles (at m ns h hs step) e a w g.0 hw ∙ (λ z. run_in l (at m (ns ++ node a h e ∷ []) (s z) hs step) g.0 w))

  runs : (t : Tail) (m : Mark) (ns : List Vertex) (n h : ℕ) (hs : List ℕ) (i : ℕ) (more : List ℕ)
      → length ns ≡ n → HeadOk more → Within l (length hs) n t → Past m ns h hs i (text_of t) (nodes_of_tail h n t) more
  runs end m ns n h hs i more s hm w = (h, i, (λ z. run_in l (at m (sym (append-nil ns) z) h hs step) i more))
  runs (onward e a t) m ns n h hs i more s hm w =
      let more' = text_of t ++ more in
      let v = node a h e in
      let g = (following m ns h hs e).on i (a ++ more') in
      let r = named false e a m ns n h hs g.0 more' s w.0 w.1 (head_tail t more hm) in
      let q = runs t m (ns ++ v ∷ []) (n + 1) n hs r.0 more (length_push ns v ∙ ap (λ x. x + 1) s) hm w.2 in (
        q.0,
        q.1,
        ap (run_in l (at m ns h hs step) i) (append_assoc (open_text false e) (a ++ text_of t) more ∙ ap (λ x. open_text false e ++ x) (append_assoc a (text_of t) more))
            ∙ g.1 ∙ r.1 ∙ q.2
            ∙ (λ z. run_in l (at m (append_assoc ns (v ∷ []) (nodes_of_tail n (n + 1) t) z) q.0 hs step) q.1 more),
      )
  runs (branch e a t u) m ns n h hs i more s hm w =
      let more₁ = text_of u ++ more in
      let more' = text_of t ++ 93 ∷ more₁ in
      let v = node a h e in
      let vt = nodes_of_tail n (n + 1) t in
      let vu = nodes_of_tail h (n + 1 + size t) u in
      let g = (opening m ns h hs w.0 e).on i (a ++ more') in
      let r = named true e a m ns n h (h ∷ hs) g.0 more' s w.1 w.2 (head_tail t (93 ∷ more₁) refl) in
      let s₁ : length (ns ++ v ∷ []) ≡ n + 1 = length_push ns v ∙ ap (λ x. x + 1) s in
      let w₁ : Within l (length (h ∷ hs)) (n + 1) t = subst (λ d. Within l d (n + 1) t) (deeper (length hs)) w.3 in
      let q = runs t m (ns ++ v ∷ []) (n + 1) n (h ∷ hs) r.0 (93 ∷ more₁) s₁ refl w₁ in
      let c = (closing m ((ns ++ v ∷ []) ++ vt) h q.0 hs).on q.1 more₁ in
      let s₂ : length ((ns ++ v ∷ []) ++ vt) ≡ n + 1 + size t = length-append (ns ++ v ∷ []) vt ∙ (λ z. s₁ z + length-nodes n (n + 1) t z) in
      let p = runs u m ((ns ++ v ∷ []) ++ vt) (n + 1 + size t) h hs c.0 more s₂ hm w.4 in (
        p.0,
        p.1,
        ap (run_in l (at m ns h hs step) i) (shape (open_text true e) a (text_of t) (text_of u) more)
            ∙ g.1 ∙ r.1 ∙ q.2 ∙ c.1 ∙ p.2
            ∙ (λ z. run_in l (at m ((append_assoc (ns ++ v ∷ []) vt vu ∙ append_assoc ns (v ∷ []) (vt ++ vu)) z) p.0 hs step) p.1 more),
      )

  -- the lead and the root's name
  abbrev after_lead : Mark → State
  after_lead Top = at Any [] 0 [] lead
  after_lead Any = at Any [] 0 [] (edge Child)

  leads : (m : Mark) → Goes start (lead_text m) (after_lead m)
  leads Top = byte _ _ 47 (refl)
  leads Any = join _ (at Any [] 0 [] lead) _ (47 ∷ []) (47 ∷ []) (byte _ _ 47 (refl)) (byte _ _ 47 (refl))

  root_first : (m : Mark) (c : ℕ) → name_first c ≡ true → 0 < l.names → Goes (after_lead m) (c ∷ []) (at m [] 0 [] (inside Child (c ∷ [])))
  root_first Top c h one = byte _ _ c (cond-false _ _ _ (apart Top [] c 47 h refl) ∙ cond-true _ _ _ h ∙ cond-false _ _ _ (lt-leb l.names 0 one))
  root_first Any c h one = byte _ _ c (cond-true _ _ _ h ∙ cond-false _ _ _ (lt-leb l.names 0 one))

  pub sound_in : (t : List ℕ) (m : Mark) (vs : List Vertex) → DerivesTail l t m vs → run_in l start 0 t ≡ granted m vs
  unfolding run_in
  sound_in t m vs d =
      let w = text_of d.tail in
      let g = (leads m).on 0 (d.name ++ w) in
      let r = (name_after _ m [] 0 [] Child d.name (λ c f. root_first m c f d.one) d.lawful).on g.0 w in
      let v = node d.name 0 Child in
      let q = runs d.tail m (v ∷ []) 1 0 [] r.0 [] refl tt d.within in
      ap (run_in l start 0) d.text
      ∙ g.1 ∙ r.1
      ∙ settles (at m [] 0 [] step) Child d.name w r.0 (subst HeadOk (append-nil w) (head_tail d.tail [] tt))
      ∙ ap (run_in l (at m (v ∷ []) 0 [] step) r.0) (sym (append-nil w))
      ∙ q.2
      ∙ ap (granted m) (sym d.nodes)

pub sound : (t : List ℕ) (m : Mark) (vs : List Vertex) → length t ≤ 1024 → DerivesTail limits t m vs → read_pattern t ≡ granted m vs
sound t m vs size d = cond-true _ _ _ (le-leb _ 1024 size) ∙ sound_in limits t m vs d
