-- The nodes of a twig, for the calls that ask about them.
use Rattle.std.proofs.Common.{◌≡◌, ℕ, ◌<◌, ◌≤◌, List, length, get_or, Some, sym, ap, ◌∙◌, ⊎_elim, arith}
use Rattle.std.proofs.lemmas.Bool.{cases_eq}
use Rattle.pattern.specs.declared.node.Hook.{Hook}
use Rattle.pattern.specs.declared.node.Node.{Node}
use Rattle.pattern.specs.Shape.{Vertex, root_a, node_at, IsChild, LawfulTwig}
use Rattle.pattern.specs.Nodes.{Hung}
use Rattle.pattern.specs.Table.{parent_of, vertex_of, vertices}
use Rattle.pattern.proofs.Hooks.{not_root}
use Rattle.pattern.proofs.Tables.{length-vertices, get_or-vertices}

-- a node hangs on its hook's parent
pub child : (ns : List Node) (i : ℕ) (n : Node) (h : Hook) → Hung ns → i < length ns → n ≡ get_or ns i n → n.hook ≡ Some h → IsChild (vertices ns) h.parent i
child ns i n h hung there e hook = record {
  other = not_root ns i n h hung there e hook;
  there = omega (arith, length-vertices ns, there);
  hangs = ap (λ (v : Vertex). v.parent) (get_or-vertices ns i n root_a there ∙ sym (ap vertex_of e)) ∙ ap parent_of hook;
}

-- where a node after node i hangs on one before it, no later one hangs on node i
pub no_more_children : (nodes : List Vertex) → LawfulTwig nodes → (i p c : ℕ) → i < c → IsChild nodes p c → p < i → (d : ℕ) → c ≤ d → IsChild nodes i d → ⊥
no_more_children nodes lawful i p c h C l d g D =
    ⊎_elim (λ (q : d ≡ c). omega (arith, C.hangs, D.hangs, ap (λ n. (node_at nodes n).parent) q, l))
    (λ (q : d ≡ c → ⊥). omega (arith, C.hangs, D.hangs, l, lawful.runs c d D.there (omega (arith, D.hangs, h)) (omega arith)))
    (cases_eq d c)
