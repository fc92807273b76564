-- How the nodes of a twig hang on one another.
use Rattle.std.specs.Prelude.{◌≡◌, ◌<◌, List, [], ◌∷◌, length, Some, None, IsNone, IsSome, Option}
use Rattle.std.specs.List.{All}
use Rattle.std.proofs.Math.Bool.{Bool-set}
use mathlib.Core.HLevel.{Unit-prop, ×_prop}
use Rattle.pattern.specs.declared.node.Hook.{Hook}
use Rattle.pattern.specs.declared.node.Node.{Node}

-- the root hangs on nothing, and every other node on some node
abbrev pub Hung : List Node → Type 0
Hung [] = Unit {0}
Hung (root ∷ others) = IsNone root.hook × All (λ (n : Node). IsSome n.hook) others

-- all proofs of it are equal, so a ghost field may hold it
pub Hung-prop : (nodes : List Node) → IsProp (Hung nodes)
Hung-prop [] = Unit-prop
Hung-prop (root ∷ others) = ×_prop (Bool-set _ _) (λ x y i k d lt. Bool-set _ _ (x k d lt) (y k d lt) i)

-- the next node may hang so: the root on nothing, and every other on a node that there is
abbrev pub Hangs : Option Hook → List Node → Type 0
Hangs None nodes = nodes ≡ []
Hangs (Some h) nodes = h.parent < length nodes
