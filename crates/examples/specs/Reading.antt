-- What texts and patterns are read as.
use Rattle.std.specs.Prelude.{◌≡◌, ℕ, List, [], ◌∷◌, ◌++◌, length, Ok, codes}
use Rattle.std.specs.List.{repeat}
use Rattle.markup.specs.declared.fault.Refusal.TheVariants.{WrongEndTag, Unclosed, TopElement, TooDeep, Misfit}
use Rattle.markup.specs.Faults.{fault}
use Rattle.tree.specs.Tree.{Tree}
use Rattle.layout.specs.Encoding.{sheet_of}
use Rattle.book.specs.Answer.{Grants}
use Rattle.book.specs.Refusing.{Refuses}
use Rattle.pattern.specs.declared.node.Edge.TheVariants.{Child, Descendant}
use Rattle.pattern.specs.declared.node.Mark.TheVariants.{Top, Any}
use Rattle.pattern.specs.Shape.{Shape, node, shape}
use Rattle.pattern.specs.Reading.{refused, read_pattern}
use Rattle.pattern.specs.Spelling.{spelling}
use Rattle.examples.specs.Sample.{sample, sample_tree}

-- the pattern reads as a twig with this standard spelling
abbrev pub Spelled : List ℕ → List ℕ → Type 0
Spelled pattern standard = (w : Shape) × (read_pattern pattern ≡ Ok w) × (spelling w ≡ standard)

pub record ReadingExamples : Type 0 where
  -- the sample's elements, and the size of its sheet
  pub tree : Grants sample sample_tree
  pub sheet : length (sheet_of sample_tree) ≡ 135
  -- texts that are refused, each by its number and place
  pub wrong_end_tag : Refuses (codes "<a><b></a></b>") (fault WrongEndTag 6)
  pub unclosed : Refuses (codes "<a><b></b>") (fault Unclosed 0)
  pub empty_text : Refuses [] (fault TopElement 0)
  pub two_elements : Refuses (codes "<a/><a/>") (fault TopElement 4)
  -- 64 elements one in the other are granted, and a 65th is refused
  pub nested : (t : Tree) × Grants (repeat 64 (codes "<a>") ++ repeat 64 (codes "</a>")) t × (length t.elements ≡ 64)
  pub too_deep : Refuses (repeat 65 (codes "<a>")) (fault TooDeep 192)
  -- patterns as twigs
  pub descendants : read_pattern (codes "//b//p") ≡ Ok (shape Any (node (codes "b") 0 Child ∷ node (codes "p") 0 Descendant ∷ []))
  pub branches : read_pattern (codes "/b[.//n]/p") ≡ Ok (shape Top (node (codes "b") 0 Child ∷ node (codes "n") 0 Descendant ∷ node (codes "p") 0 Child ∷ []))
  -- patterns that are refused
  pub bracket_misfits : read_pattern (codes "//a[//b]") ≡ refused Misfit 4
  pub empty_pattern : read_pattern [] ≡ refused Misfit 0
  -- standard spellings
  pub bracket_dropped : Spelled (codes "//a[b]") (codes "//a/b")
  pub bracket_kept : Spelled (codes "//b[p][n]") (codes "//b[p]/n")
