-- What holds of pattern texts and twigs.
use Rattle.std.specs.Prelude.{◌≡◌, ℕ, ◌≤◌, List, length, Ok}
use Rattle.pattern.specs.declared.twig.Twig.{Twig}
use Rattle.pattern.specs.Shape.{Vertex, Shape, Under, LawfulTwig}
use Rattle.pattern.specs.Reading.{Limits, limits, up_to, read_pattern}
use Rattle.pattern.specs.Spelling.{spelling}
use Rattle.pattern.specs.Grammar.{Derives, Spells}
use Rattle.pattern.specs.Twig.{shape_of}

-- A text is granted as a twig exactly if it has at most 1,024 bytes and the grammar derives it as that twig within the limits.
abbrev pub GrantedIsWhatTheGrammarDerives : Type 0
GrantedIsWhatTheGrammarDerives =
    (t : List ℕ) (w : Shape) → (read_pattern t ≡ Ok w → (length t ≤ 1024) × Derives limits t w) × ((length t ≤ 1024) × Derives limits t w → read_pattern t ≡ Ok w)

-- What a text is granted as is a lawful twig.
abbrev pub GrantedIsLawful : Type 0
GrantedIsLawful = (t : List ℕ) (w : Shape) → read_pattern t ≡ Ok w → LawfulTwig w.nodes

-- Every `Twig` is lawful.
abbrev pub EveryTwigIsLawful : Type 0
EveryTwigIsLawful = (w : Twig) → LawfulTwig (shape_of w).nodes

-- In a lawful twig the nodes at and under a node are a run of numbers.
abbrev pub SubtreesAreRunsOfNumbers : Type 0
SubtreesAreRunsOfNumbers = (nodes : List Vertex) → LawfulTwig nodes → (i j k : ℕ) → Under nodes i k → i ≤ j → j ≤ k → Under nodes i j

-- Reading the spelling of a lawful twig gives that twig again: mark, names, parents, edges and numbers.
abbrev pub SpellingsReadBack : Type 0
SpellingsReadBack = (w : Shape) → LawfulTwig w.nodes → read_pattern (spelling w) ≡ Ok w

-- A lawful twig has exactly one standard spelling. It opens at most seven brackets at once and has at most 589 bytes.
abbrev pub OneStandardSpelling : Type 0
OneStandardSpelling =
    (w : Shape) → LawfulTwig w.nodes
    → Spells (up_to 7) (spelling w) w × (length (spelling w) ≤ 589) × ((l : Limits) (t : List ℕ) → Spells l t w → t ≡ spelling w)

-- Two patterns have the same spelling exactly if they have the same twig.
abbrev pub SameSpellingSameTwig : Type 0
SameSpellingSameTwig =
    (t t' : List ℕ) (w w' : Shape) → read_pattern t ≡ Ok w → read_pattern t' ≡ Ok w' → (spelling w ≡ spelling w' → w ≡ w') × (w ≡ w' → spelling w ≡ spelling w')
