-- The grammar of pattern texts: a pattern is a lead and a branch; a branch is a step, then edges and steps; a step is a name and any
-- number of branches in brackets.
use Rattle.std.specs.Prelude.{◌≡◌, ℕ, ◌+◌, ◌<◌, true, false, List, [], ◌∷◌, ◌++◌}
use Rattle.markup.specs.Name.{NameWithin}
use Rattle.pattern.specs.declared.node.Edge.{Edge}
use Rattle.pattern.specs.declared.node.Edge.TheVariants.{Child}
use Rattle.pattern.specs.Shape.{Vertex, Shape, node}
use Rattle.pattern.specs.Reading.{Limits}
use Rattle.pattern.specs.Spelling.{lead_text, open_text}

mutual
  -- a name and its branches
  pub data Step : Type 0 where
    step : List ℕ → Branches → Step

  -- branches in brackets, each with the edge that it begins with
  pub data Branches : Type 0 where
    none : Branches
    and : Edge → Branch → Branches → Branches

  -- a step, or a step, an edge and what follows
  pub data Branch : Type 0 where
    last : Step → Branch
    then : Step → Edge → Branch → Branch

-- the text
abbrev mutual
  pub step_text : Step → List ℕ
  step_text (step a bs) = a ++ branches_text bs

  pub branches_text : Branches → List ℕ
  branches_text none = []
  branches_text (and e c bs) = open_text true e ++ (branch_text c ++ 93 ∷ branches_text bs)

  pub branch_text : Branch → List ℕ
  branch_text (last s) = step_text s
  branch_text (then s e c) = step_text s ++ (open_text false e ++ branch_text c)

-- how many names
abbrev mutual
  pub step_names : Step → ℕ
  step_names (step a bs) = branches_names bs + 1

  pub branches_names : Branches → ℕ
  branches_names none = 0
  branches_names (and e c bs) = branch_names c + branches_names bs

  pub branch_names : Branch → ℕ
  branch_names (last s) = step_names s
  branch_names (then s e c) = step_names s + branch_names c

-- the nodes, numbered from n; the first hangs on node h by e
abbrev mutual
  pub step_nodes : Step → ℕ → ℕ → Edge → List Vertex
  step_nodes (step a bs) h n e = node a h e ∷ branches_nodes bs n (n + 1)

  pub branches_nodes : Branches → ℕ → ℕ → List Vertex
  branches_nodes none h n = []
  branches_nodes (and e c bs) h n = branch_nodes c h n e ++ branches_nodes bs h (n + branch_names c)

  pub branch_nodes : Branch → ℕ → ℕ → Edge → List Vertex
  branch_nodes (last s) h n e = step_nodes s h n e
  branch_nodes (then s f c) h n e = step_nodes s h n e ++ branch_nodes c n (n + step_names s) f

-- the limits are kept, where d brackets are open and n names came before
abbrev mutual
  pub StepWithin : Step → Limits → ℕ → ℕ → Type 0
  StepWithin (step a bs) l d n = (n < l.names) × NameWithin l.bytes a × BranchesWithin bs l d (n + 1)

  pub BranchesWithin : Branches → Limits → ℕ → ℕ → Type 0
  BranchesWithin none l d n = Unit {0}
  BranchesWithin (and e c bs) l d n = (d < l.brackets) × BranchWithin c l (d + 1) n × BranchesWithin bs l d (n + branch_names c)

  pub BranchWithin : Branch → Limits → ℕ → ℕ → Type 0
  BranchWithin (last s) l d n = StepWithin s l d n
  BranchWithin (then s e c) l d n = StepWithin s l d n × BranchWithin c l d (n + step_names s)

-- a step without branches
abbrev pub Bare : Step → Type 0
Bare (step a none) = Unit {0}
Bare (step a (and e c bs)) = ⊥

-- in standard form each node's last child follows by an edge, so a step that ends a branch has no branches of its own
abbrev mutual
  pub StepStandard : Step → Type 0
  StepStandard (step a bs) = BranchesStandard bs

  pub BranchesStandard : Branches → Type 0
  BranchesStandard none = Unit {0}
  BranchesStandard (and e c bs) = BranchStandard c × BranchesStandard bs

  pub BranchStandard : Branch → Type 0
  BranchStandard (last s) = Bare s
  BranchStandard (then s e c) = StepStandard s × BranchStandard c

-- The grammar derives the text t within the limits, and w is the twig of the derivation.
pub record Derives (l : Limits) (t : List ℕ) (w : Shape) : Type 0 where
  pub all : Branch
  pub within : BranchWithin all l 0 0
  pub text : t ≡ lead_text w.mark ++ branch_text all
  pub nodes : w.nodes ≡ branch_nodes all 0 0 Child

-- The text t is a standard spelling of the twig w, within some limits.
pub record Spells (l : Limits) (t : List ℕ) (w : Shape) : Type 0 where
  pub derived : Derives l t w
  pub standard : BranchStandard derived.all
