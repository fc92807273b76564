-- What the writer of the spelling leans on.
use Rattle.std.proofs.Common.{◌≡◌, ℕ, zero, suc, ◌+◌, ◌-◌, ◌<◌, ◌≤◌, Bool, eqb, List, ◌∷◌, ◌++◌, length, get_or, drop, is_some, Some, None, Option, sym, refl, ap, ◌∙◌, arith}
use Rattle.std.proofs.lemmas.List.Folds.{list_any_none, list_any-from_Any}
use Rattle.std.proofs.lemmas.List.{get_or-drop, get_or_default, length-drop, drop_more, drop_all, append_assoc, append-nil}
use Rattle.std.proofs.lemmas.Bool.{eq-eqb, ne_eqb}
use Rattle.pattern.specs.declared.node.Hook.{Hook}
use Rattle.pattern.specs.declared.node.Mark.{Mark}
use Rattle.pattern.specs.declared.node.Node.{Node}
use Rattle.pattern.specs.Shape.{Vertex, node_at, root_a, shape}
use Rattle.pattern.specs.Nodes.{Hung}
use Rattle.pattern.specs.Table.{name_of, parent_of, edge_of, vertex_of, vertices}
use Rattle.pattern.specs.Twig.{NextChild}
use Rattle.pattern.specs.Spelling.{later, piece, rest, spelling, close_text, open_text, lead_text}
use Rattle.pattern.proofs.Tables.{length-vertices, get_or-vertices}
use Rattle.pattern.proofs.Hooks.{not_root, root_only}

-- a later child of p
pub later_next : (p : ℕ) (vs : List Vertex) (k : ℕ) (o : Option ℕ) → NextChild vs p k o → is_some o ≡ later p (drop (k + 1) vs)
later_next p vs k (Some c) h =
    let j = c - (k + 1) in
    let z : k + 1 + j ≡ c = omega (arith, h.1) in
    let there : j < length (drop (k + 1) vs) = omega (arith, length-drop (k + 1) vs, h.1, h.0.there) in
    let is : get_or (drop (k + 1) vs) j (node_at vs c) ≡ node_at vs c = get_or-drop (k + 1) vs j _ ∙ ap (λ i. get_or vs i (node_at vs c)) z ∙ get_or_default vs c _ root_a h.0.there in
    sym (list_any-from_Any (λ (v : Vertex). eqb v.parent p) (drop (k + 1) vs) (j, node_at vs c, there, is, eq-eqb _ p h.0.hangs))
later_next p vs k None h =
    sym (list_any_none (λ (v : Vertex). eqb v.parent p) (drop (k + 1) vs) (λ j d lt. ne_eqb _ p (λ e.
    let there : k + 1 + j < length vs = omega (arith, length-drop (k + 1) vs, lt) in
    h (k + 1 + j) (omega arith) (record { other = omega arith; there = there; hangs = ap (λ (v : Vertex). v.parent) (get_or_default vs (k + 1 + j) root_a d there ∙ sym (get_or-drop (k + 1) vs j d)) ∙ e }))))

-- what is left to write before node k, where vs are the nodes from k on
abbrev pub to_write : Mark → ℕ → List Vertex → List ℕ
to_write m zero vs = spelling (shape m vs)
to_write m (suc k) vs = rest k vs

-- one node of it
own : Mark → ℕ → Vertex → List Vertex → List ℕ
own m zero v vs = lead_text m ++ v.name
own m (suc k) v vs = piece k v vs

write_more : (m : Mark) (k : ℕ) (v : Vertex) (vs : List Vertex) → to_write m k (v ∷ vs) ≡ own m k v vs ++ to_write m (k + 1) vs
unfolding own
write_more m zero v vs = refl
write_more m (suc k) v vs = let z : suc k + 1 ≡ suc (k + 1) = omega arith in ap (λ j. piece k v vs ++ to_write m j vs) (sym z)

pub written : (m : Mark) (k : ℕ) (vs : List Vertex) (t : List ℕ) → 0 < k → length vs ≤ k → t ++ to_write m k (drop k vs) ≡ spelling (shape m vs) → t ≡ spelling (shape m vs)
written m zero vs t some all e = absurd (omega (arith, some))
written m (suc k) vs t some all e = sym (append-nil t) ∙ ap (λ x. t ++ rest k x) (sym (drop_all (suc k) vs all)) ∙ e

-- node k is written after the text t
module _ (m : Mark) (ns : List Node) (hung : Hung ns) (n : Node) (k : ℕ) (there : k < length ns) (is : n ≡ get_or ns k n) (t : List ℕ) (sofar : t ++ to_write m k (drop k (vertices ns)) ≡ spelling (shape m (vertices ns))) where
  one_more : (o t' : List ℕ) → o ≡ own m k (vertex_of n) (drop (k + 1) (vertices ns)) → t' ≡ t ++ o → t' ++ to_write m (k + 1) (drop (k + 1) (vertices ns)) ≡ spelling (shape m (vertices ns))
  one_more o t' e e' =
      let v : get_or (vertices ns) k (vertex_of n) ≡ vertex_of n = get_or-vertices ns k n _ there ∙ sym (ap vertex_of is) in
      let d : drop k (vertices ns) ≡ vertex_of n ∷ drop (k + 1) (vertices ns) = drop_more (vertices ns) k (vertex_of n) (omega (arith, there, length-vertices ns)) ∙ ap (λ x. x ∷ drop (k + 1) (vertices ns)) v in
      ap (λ x. x ++ to_write m (k + 1) (drop (k + 1) (vertices ns))) (e' ∙ ap (λ x. t ++ x) e)
      ∙ append_assoc t _ _
      ∙ ap (λ x. t ++ x) (sym (write_more m k (vertex_of n) (drop (k + 1) (vertices ns))))
      ∙ ap (λ x. t ++ to_write m k x) (sym d)
      ∙ sofar

  pub root_written : (t₁ t₂ : List ℕ) → n.hook ≡ None → t₁ ≡ t ++ lead_text m → t₂ ≡ t₁ ++ name_of n.name → t₂ ++ to_write m (k + 1) (drop (k + 1) (vertices ns)) ≡ spelling (shape m (vertices ns))
  unfolding own
  root_written t₁ t₂ none e₁ e₂ =
      let z : 0 ≡ k = sym (root_only ns k n hung there is none) in
      one_more _ t₂ (ap (λ j. own m j (vertex_of n) (drop (k + 1) (vertices ns))) z) (e₂ ∙ ap (λ x. x ++ name_of n.name) e₁ ∙ append_assoc t _ _)

  module _ (h : Hook) (some : n.hook ≡ Some h) where
    pub after_root : 0 < k
    after_root = not_root ns k n h hung there is some

    pub node_written : (b : Bool) (t₁ t₂ t₃ : List ℕ) → b ≡ later h.parent (drop (k + 1) (vertices ns))
        → t₁ ≡ t ++ close_text h.parent (k - 1) → t₂ ≡ t₁ ++ open_text b h.edge → t₃ ≡ t₂ ++ name_of n.name
        → t₃ ++ to_write m (k + 1) (drop (k + 1) (vertices ns)) ≡ spelling (shape m (vertices ns))
    unfolding own
    node_written b t₁ t₂ t₃ l e₁ e₂ e₃ =
        let z : suc (k - 1) ≡ k = omega (arith, after_root) in
        one_more (close_text h.parent (k - 1) ++ open_text b h.edge ++ name_of n.name) t₃
        ((λ i. close_text (parent_of (sym some i)) (k - 1) ++ open_text (at_later i) (edge_of (sym some i)) ++ name_of n.name)
        ∙ ap (λ j. own m j (vertex_of n) (drop (k + 1) (vertices ns))) z)
        (e₃ ∙ ap (λ x. x ++ name_of n.name) (e₂ ∙ ap (λ x. x ++ open_text b h.edge) e₁ ∙ append_assoc t _ _) ∙ append_assoc t _ _)
      where
        at_later : b ≡ later (parent_of n.hook) (drop (k + 1) (vertices ns))
        at_later = l ∙ ap (λ o. later (parent_of o) (drop (k + 1) (vertices ns))) (sym some)
