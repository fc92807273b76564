-- A twig's lawfulness is a proposition, so that it can be taken out of the type.
use Rattle.std.proofs.Common.{◌≡◌, Ok, List, sym, refl, subst}
use mathlib.Core.HLevel.{hedberg}
use Rattle.std.proofs.Math.Logic.{∥∥₁_elim}
use Rattle.std.proofs.Math.Nat.{ℕ_set}
use Rattle.std.proofs.Math.Bridge.{le_prop}
use Rattle.std.specs.List.{AllByRecursion-prop}
use Rattle.markup.proofs.Names.{lawful_name_prop}
use Rattle.pattern.specs.declared.node.Edge.{Edge}
use Rattle.pattern.specs.declared.node.Edge.TheVariants.{Child, Descendant}
use Rattle.pattern.specs.Shape.{Vertex, LawfulTwig}
use Rattle.pattern.specs.declared.twig.Twig.{Twig}
use Rattle.pattern.specs.Twig.{shape_of}
use Rattle.pattern.specs.Reading.{up_to, read_pattern}
use Rattle.pattern.specs.Spelling.{spelling}
use Rattle.pattern.specs.Grammar.{Spells}
use Rattle.pattern.proofs.Trees.{back, one_spelling}
use Rattle.pattern.specs.Promises.{EveryTwigIsLawful}

abbrev ByChild : Edge → Type 0
ByChild Child = Unit {0}
ByChild Descendant = ⊥

edge_discrete : (x y : Edge) → Dec (x ≡ y)
edge_discrete Child Child = yes refl
edge_discrete Child Descendant = no (λ e. subst ByChild e tt)
edge_discrete Descendant Child = no (λ e. subst ByChild (sym e) tt)
edge_discrete Descendant Descendant = yes refl

lawful_prop : (nodes : List Vertex) → IsProp (LawfulTwig nodes)
lawful_prop nodes x y i = record {
  some = le_prop x.some y.some i;
  few = le_prop x.few y.few i;
  named = AllByRecursion-prop _ (λ (v : Vertex). lawful_name_prop v.name) nodes x.named y.named i;
  root = ℕ_set _ _ x.root y.root i;
  root_edge = hedberg edge_discrete _ _ x.root_edge y.root_edge i;
  lower = λ c p l. le_prop (x.lower c p l) (y.lower c p l) i;
  runs = λ b c l p q. le_prop (x.runs b c l p q) (y.runs b c l p q) i;
}

-- every twig is lawful
pub every : EveryTwigIsLawful
every w = ∥∥₁_elim w.lawful (lawful_prop (shape_of w).nodes) (λ x. x)

pub standard : (w : Twig) → Spells (up_to 7) (spelling (shape_of w)) (shape_of w)
standard w = (one_spelling (shape_of w) (every w)).0

pub reads_back : (w : Twig) → read_pattern (spelling (shape_of w)) ≡ Ok (shape_of w)
reads_back w = back (shape_of w) (every w)
