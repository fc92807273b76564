-- What texts and patterns are read as, computed.
use Rattle.std.proofs.Common.{ℕ, List, [], ◌++◌, Ok, Err, Result, refl}
use Rattle.std.specs.List.{repeat}
use Rattle.markup.specs.declared.fault.Fault.{Fault}
use Rattle.tree.specs.Tree.{Tree}
use Rattle.book.specs.Reading.{read_book}
use Rattle.std.specs.Prelude.{codes}
use Rattle.pattern.specs.Reading.{run_in}
use Rattle.markup.specs.declared.fault.Refusal.TheVariants.{WrongEndTag, Unclosed, TopElement, TooDeep}
use Rattle.markup.specs.Faults.{fault}
use Rattle.layout.specs.Encoding.{le16, le32}
use Rattle.book.proofs.Answering.{granted}
use Rattle.book.proofs.Refusals.{refused_exactly}
use Rattle.examples.specs.Sample.{sample, sample_tree}
use Rattle.examples.specs.Reading.{ReadingExamples}

-- the tree of a text that is not refused
abbrev tree_in : Result Tree Fault → Tree
tree_in (Ok t) = t
tree_in (Err f) = record { elements = []; names = [] }

abbrev nest : List ℕ
nest = repeat 64 (codes "<a>") ++ repeat 64 (codes "</a>")

pub reading_examples : ReadingExamples
unfolding run_in le16 le32
reading_examples = record {
  tree = granted sample sample_tree refl;
  sheet = refl;
  wrong_end_tag = (refused_exactly (codes "<a><b></a></b>") (fault WrongEndTag 6)).0 refl;
  unclosed = (refused_exactly (codes "<a><b></b>") (fault Unclosed 0)).0 refl;
  empty_text = (refused_exactly [] (fault TopElement 0)).0 refl;
  two_elements = (refused_exactly (codes "<a/><a/>") (fault TopElement 4)).0 refl;
  nested = (tree_in (read_book nest), granted nest (tree_in (read_book nest)) refl, refl);
  too_deep = (refused_exactly (repeat 65 (codes "<a>")) (fault TooDeep 192)).0 refl;
  descendants = refl;
  branches = refl;
  bracket_misfits = refl;
  empty_pattern = refl;
  bracket_dropped = (_, refl, refl);
  bracket_kept = (_, refl, refl);
}
