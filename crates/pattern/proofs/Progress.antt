-- How the reader goes on: from one call of its functions to the next, what the text is read as stays the same.
use Rattle.std.proofs.Common.{◌≡◌, ℕ, ◌+◌, Bool, true, cond, eqb, leb, List, [], ◌∷◌, ◌++◌, length, Ok, Err, Option, sym, refl, ap, ◌∙◌, subst, arith}
use Rattle.std.proofs.lemmas.List.{map_push, length-map}
use Rattle.std.proofs.lemmas.Bool.{ne_eqb, cond-true, cond-false, cond_both, le-leb, lt-leb}
use Rattle.markup.specs.declared.fault.Fault.{Fault}
use Rattle.markup.specs.declared.fault.Refusal.TheVariants.{Misfit}
use Rattle.pattern.specs.declared.node.Edge.{Edge}
use Rattle.pattern.specs.declared.node.Edge.TheVariants.{Child}
use Rattle.pattern.specs.declared.node.Hook.{Hook}
use Rattle.pattern.specs.declared.node.Mark.{Mark}
use Rattle.pattern.specs.declared.name.Name.{Name}
use Rattle.pattern.specs.declared.node.Node.{Node}
use Rattle.pattern.specs.declared.nodes.Nodes.{Nodes}
use Rattle.pattern.specs.declared.reader.Reader.{Reader}
use Rattle.pattern.specs.Shape.{Vertex}
use Rattle.pattern.specs.Spot.{Spot}
use Rattle.pattern.specs.Table.{parent_of, edge_of, items, vertex_of, vertices}
use Rattle.pattern.specs.Reading.{State, Phase, edge, slash, bracket, step, stop, refused, granted, close, to, start, limits, feed, run_in}
use Rattle.pattern.specs.Moves.{Next, reads_on, outcome, Accepted, Passed, Opened, Led, Edged, Named, Ended}
use Rattle.pattern.proofs.Steps.{taken}

-- the state of a reader
abbrev pub state : Reader → Mark → ℕ → List ℕ → Phase → State
state x m k hs p = record { mark = m; nodes = vertices (items x.nodes); holder = k; brackets = hs; phase = p }

-- from the start to the first step
pub from_start : (t : List ℕ) (x : Reader) (y : Spot) (m : Mark) → x.cursor.rest ≡ t → x.cursor.place ≡ 0 → (items x.nodes) ≡ [] → Led x.cursor y (Ok m)
    → run_in limits start 0 t ≡ outcome (record { cursor = y; nodes = x.nodes }) m 0 [] (edge Child)
from_start t x y m text place none led =
    (λ i. run_in limits start (sym place i) (sym text i))
    ∙ led
    ∙ (λ i. reads_on y (record { mark = m; nodes = vertices (sym none i); holder = 0; brackets = []; phase = edge Child }))

-- a name and its node
pub begun : (x : Reader) (y : Spot) (nodes : Nodes) (a : Name) (h : Option Hook) (full : Bool) (number : ℕ)
    → full ≡ leb 16 (length (items x.nodes)) → Named full x.cursor y (Ok a) → (items nodes) ≡ (items x.nodes) ++ record { name = a; hook = h } ∷ [] → number ≡ length (items x.nodes)
    → (m : Mark) (hs : List ℕ) → outcome x m (parent_of h) hs (edge (edge_of h)) ≡ outcome (record { cursor = y; nodes = nodes }) m number hs step
begun x y nodes a h full number room named pushed is m hs =
    let n : Node = record { name = a; hook = h } in
    let size : length (vertices (items x.nodes)) ≡ length (items x.nodes) = length-map (items x.nodes) vertex_of in
    let vs : vertices (items x.nodes) ++ vertex_of n ∷ [] ≡ vertices (items nodes) = sym (map_push vertex_of (items x.nodes) n) ∙ sym (ap vertices pushed) in
    named.2 (state x m (parent_of h) hs (edge (edge_of h))) (edge_of h) (ap (leb 16) size ∙ sym room)
    ∙ (λ i. reads_on y (record { mark = m; nodes = vs i; holder = (size ∙ sym is) i; brackets = hs; phase = step }))

pub begun_not : (x : Reader) (y : Spot) (h : Option Hook) (full : Bool) (f : Fault) → full ≡ leb 16 (length (items x.nodes)) → Named full x.cursor y (Err f)
    → (m : Mark) (hs : List ℕ) → outcome x m (parent_of h) hs (edge (edge_of h)) ≡ Err f
begun_not x y h full f room named m hs =
    named (state x m (parent_of h) hs (edge (edge_of h))) (edge_of h) (ap (leb 16) (length-map (items x.nodes) vertex_of) ∙ sym room)

-- an edge after a step
pub onward : (x y z : Spot) (e : Edge) → Accepted 47 x y true → Edged slash y z (Ok e) → (s : State) → reads_on x (to s step) ≡ reads_on z (to s (edge e))
onward x y z e a b s = taken x y 47 a (to s step) ∙ b.1 s

-- what `open` answers, where the answer is known
pub opened : (depth : ℕ) (x y : Spot) (b c : Bool) → b ≡ c → Opened depth x y (Ok b) → Opened depth x y (Ok c)
opened depth x y b c e o = subst (λ v. Opened depth x y (Ok v)) e o

module _ (x : Reader) (depth : ℕ) (m : Mark) (k : ℕ) (hs : List ℕ) (d : length hs ≡ depth) (y : Spot) where
  -- a `[` too many
  pub opens_not : (f : Fault) → Opened depth x.cursor y (Err f) → outcome x m k hs step ≡ Err f
  opens_not f a =
      let z : Spot = record { place = x.cursor.place + 1; rest = a.0.0 } in
      taken x.cursor z 91 (a.0.1, refl) (state x m k hs step)
      ∙ ap (λ v. feed x.cursor.place v (reads_on z)) (cond-true _ _ _ (le-leb 8 (length hs) (omega (arith, d, a.1))))
      ∙ ap Err (sym a.2)

  module _ (o : Opened depth x.cursor y (Ok true)) where
    pub opens : outcome x m k hs step ≡ reads_on y (state x m k (k ∷ hs) bracket)
    opens =
        taken x.cursor y 91 o.0 (state x m k hs step)
        ∙ ap (λ v. feed x.cursor.place v (reads_on y)) (cond-false _ _ _ (lt-leb 8 (length hs) (omega (arith, d, o.1 refl))))

    -- `[` and the edge of its branch
    pub enters : (z : Spot) (e : Edge) → Edged bracket y z (Ok e) → outcome x m k hs step ≡ reads_on z (state x m k (k ∷ hs) (edge e))
    enters z e b = opens ∙ b.1 (state x m k (k ∷ hs) bracket)

    pub enters_not : (z : Spot) (f : Fault) → Edged bracket y z (Err f) → outcome x m k hs step ≡ Err f
    enters_not z f b = opens ∙ b (state x m k (k ∷ hs) bracket)

-- a byte after a step that is neither `/` nor `[`
beyond : (s : State) (k b : ℕ) (bs : List ℕ) → (Next (record { place = k; rest = b ∷ bs }) 47 → ⊥) → (Next (record { place = k; rest = b ∷ bs }) 91 → ⊥)
    → run_in limits (to s step) k (b ∷ bs) ≡ feed k (cond (eqb b 93) (close (to s step) s.brackets) (stop Misfit)) (λ t. run_in limits t (k + 1) bs)
unfolding run_in
beyond s k b bs n47 n91 =
    ap (λ v. feed k v (λ t. run_in limits t (k + 1) bs))
    (cond-false _ _ _ (ne_eqb b 47 (λ e. n47 (bs, ap (λ v. v ∷ bs) e))) ∙ cond-false _ _ _ (ne_eqb b 91 (λ e. n91 (bs, ap (λ v. v ∷ bs) e))))

-- where a bracket is open and none closes
unclosed : (m : Mark) (vs : List Vertex) (h g : ℕ) (gs : List ℕ) (k : ℕ) (bs : List ℕ)
    → (Next (record { place = k; rest = bs }) 47 → ⊥) → (Next (record { place = k; rest = bs }) 91 → ⊥) → (Next (record { place = k; rest = bs }) 93 → ⊥)
    → run_in limits (record { mark = m; nodes = vs; holder = h; brackets = g ∷ gs; phase = step }) k bs ≡ refused Misfit k
unfolding run_in
unclosed m vs h g gs k [] n47 n91 n93 = refl
unclosed m vs h g gs k (b ∷ bs) n47 n91 n93 =
    beyond (record { mark = m; nodes = vs; holder = h; brackets = g ∷ gs; phase = step }) k b bs n47 n91
    ∙ ap (λ v. feed k v (λ t. run_in limits t (k + 1) bs)) (cond-false _ _ _ (ne_eqb b 93 (λ e. n93 (bs, ap (λ v. v ∷ bs) e))))

pub closes_not : (x : Reader) (y : Spot) (f : Fault) → (Next x.cursor 91 → ⊥) × (Next x.cursor 47 → ⊥) → Passed {A = Unit {0}} 93 x.cursor y (Err f)
    → (m : Mark) (k g : ℕ) (gs : List ℕ) → outcome x m k (g ∷ gs) step ≡ Err f
closes_not x y f n a m k g gs = unclosed m _ k g gs x.cursor.place x.cursor.rest n.1 n.0 a.0 ∙ ap Err (sym a.1)

-- at the end of the last step
unended : (m : Mark) (vs : List Vertex) (h k : ℕ) (bs : List ℕ)
    → (Next (record { place = k; rest = bs }) 47 → ⊥) → (Next (record { place = k; rest = bs }) 91 → ⊥) → (bs ≡ [] → ⊥)
    → run_in limits (record { mark = m; nodes = vs; holder = h; brackets = []; phase = step }) k bs ≡ refused Misfit k
unended m vs h k [] n47 n91 n = absurd (n refl)
unended m vs h k (b ∷ bs) n47 n91 n =
    beyond (record { mark = m; nodes = vs; holder = h; brackets = []; phase = step }) k b bs n47 n91
    ∙ ap (λ v. feed k v (λ t. run_in limits t (k + 1) bs)) (cond_both (eqb b 93) _ _ (λ v. v ≡ stop Misfit) (λ _. refl) (λ _. refl))

pub ended : (x : Reader) (m : Mark) (k : ℕ) → x.cursor.rest ≡ [] → outcome x m k [] step ≡ granted m (vertices (items x.nodes))
unfolding run_in
ended x m k e = ap (run_in limits (state x m k [] step) x.cursor.place) e

pub ended_not : (x : Reader) (m : Mark) (k : ℕ) (f : Fault) → (Next x.cursor 91 → ⊥) × (Next x.cursor 47 → ⊥) → Ended {A = Unit {0}} x.cursor (Err f) → outcome x m k [] step ≡ Err f
ended_not x m k f n a = unended m _ k x.cursor.place x.cursor.rest n.1 n.0 a.0 ∙ ap Err (sym a.1)
