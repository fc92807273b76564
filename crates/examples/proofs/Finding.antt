-- What the finder lists, keeps and prints, computed.
use Rattle.std.proofs.Common.{◌≡◌, ℕ, Bool, ◌<◌, ◌≤◌, true, leb, ltb, ◌*◌, ◌/◌, List, [], map, slice_index_or, filter, Ok, Err, Result, refl, sym, ap, ◌∙◌, subst, ⊎_elim, arith}
use Rattle.std.specs.Prelude.{codes}
use Rattle.markup.specs.declared.fault.Fault.{Fault}
use Rattle.pattern.specs.declared.node.Mark.TheVariants.{Any}
use Rattle.answers.specs.Trees.{TreeListing}
use Rattle.std.specs.Fmt.{digits}
use Rattle.std.specs.List.{range_with_len}
use Rattle.std.proofs.Math.Path.{fun_ext}
use Rattle.std.proofs.lemmas.Bool.{cases_lt, leb-true, ltb-true}
use Rattle.std.proofs.lemmas.List.{get_or_past}
use Rattle.std.proofs.lemmas.List.FromFn.{get_or-map-range_with_len, length-map-range_with_len}
use Rattle.book.proofs.Answering.{granted}
use Rattle.tree.specs.declared.element.Element.{Element}
use Rattle.tree.specs.Tree.{Tree, LawfulTree}
use Rattle.pattern.specs.Shape.{Shape, LawfulTwig, shape}
use Rattle.pattern.specs.Reading.{run_in, read_pattern}
use Rattle.pattern.proofs.Trees.{granted_lawful}
use Rattle.layout.specs.Encoding.{le16, le32}
use Rattle.stream.specs.declared.region.Region.{Region}
use Rattle.embedding.specs.Embedding.{node_count}
use Rattle.answers.proofs.Listings.{lists_stand}
use Rattle.finding.specs.Finding.{all, UsefulElements, TooFewRows, Prints}
use Rattle.examples.specs.Sample.{sample, sample_tree}
use Rattle.examples.specs.Finding.{place, Lists, Useful, Enough, TooFew, ListingExamples, PrintingExamples}
use Rattle.finding.proofs.Computing.{places_in, useful_of, places_listed, elements_useful, most_of, enough_rows, few_rows, printed, is_printed}

-- the useful elements of the nodes, as a table
abbrev useful_table : Shape → Tree → List (List Region)
useful_table s t = map (useful_of s t) (range_with_len 0 (node_count s))

at_table : (s : Shape) (t : Tree) (i : ℕ) → useful_of s t i ≡ slice_index_or (useful_table s t) i []
at_table s t i =
    ⊎_elim (λ (l : i < node_count s). sym (get_or-map-range_with_len (useful_of s t) 0 (node_count s) i i [] l (omega arith)))
    (λ (l : node_count s ≤ i).
    ap (filter _) ((lists_stand t s all).past i l)
    ∙ sym (get_or_past (useful_table s t) i [] (omega (arith, l, length-map-range_with_len (useful_of s t) 0 (node_count s)))))
    (cases_lt i (node_count s))

sample_lawful : LawfulTree sample_tree
sample_lawful = (granted sample sample_tree refl).lawful

-- the twig of a pattern that is not refused
abbrev twig_in : Result Shape Fault → Shape
twig_in (Ok s) = s
twig_in (Err f) = shape Any []

abbrev twig_of : List ℕ → Shape
twig_of pattern = twig_in (read_pattern pattern)

module _ (pattern : List ℕ) (read : read_pattern pattern ≡ Ok (twig_of pattern)) where
  abbrev s : Shape
  s = twig_of pattern

  lawful : LawfulTwig s.nodes
  lawful = granted_lawful pattern s read

  listed : (lets : ℕ → ℕ → Element → Bool) (starts : List (List ℕ)) → places_in s sample_tree lets ≡ map place starts → Lists lets pattern starts
  listed lets starts e =
      record { twig = s; read = read; listing = subst (TreeListing sample_tree s lets) e (places_listed s sample_tree lawful sample_lawful lets) }

  useful : (elements : List (List Region)) → useful_table s sample_tree ≡ elements → Useful pattern elements
  useful elements e = record {
    twig = s;
    read = read;
    useful = subst (λ table. UsefulElements s sample_tree (λ i. slice_index_or table i [])) e
        (subst (UsefulElements s sample_tree) (fun_ext (at_table s sample_tree)) (elements_useful s sample_tree lawful sample_lawful));
  }

  enough : (rows : ℕ) → leb (most_of s sample_tree) (rows / node_count s) ≡ true → Enough pattern rows
  enough rows e = record { twig = s; read = read; enough = enough_rows s sample_tree lawful sample_lawful rows (leb-true _ _ e) }

  too_few : (rows needed : ℕ) → ltb (rows / node_count s) (most_of s sample_tree) ≡ true → node_count s * most_of s sample_tree ≡ needed → TooFew pattern rows needed
  too_few rows needed e f =
      record { twig = s; read = read; few = subst (TooFewRows s sample_tree rows) f (few_rows s sample_tree lawful sample_lawful rows (ltb-true _ _ e)) }

pub listing_examples : ListingExamples
unfolding run_in
listing_examples = record {
  descendants = listed (codes "//b//p") refl _ _ refl;
  four_rows = enough (codes "//b//p") refl 4 refl;
  three_rows = too_few (codes "//b//p") refl 3 4 refl refl;
  branches = listed (codes "//b[p][p]") refl _ _ refl;
  nothing = listed (codes "//b[p][n]") refl _ _ refl;
  useful = useful (codes "//b[p][n]") refl _ refl;
  six_rows = enough (codes "//b[p][n]") refl 6 refl;
  five_rows = too_few (codes "//b[p][n]") refl 5 6 refl refl;
  last_edge = listed (codes "//p/n") refl _ _ refl;
  top = listed (codes "/p") refl _ _ refl;
  window = listed (codes "//p/n") refl _ _ refl;
  narrow_window = listed (codes "//p") refl _ _ refl;
  band = listed (codes "//b//n") refl _ _ refl;
  low_band = listed (codes "//b//n") refl _ _ refl;
  marks = listed (codes "//b//p") refl _ _ refl;
  few_marks = listed (codes "//b//p") refl _ _ refl;
}

prints : (input : List ℕ) (room rows : ℕ) (ls : List ℕ) → printed input room rows ≡ ls → Prints input room rows ls
prints input room rows ls e = subst (Prints input room rows) e (is_printed input room rows)

pub printing_examples : PrintingExamples
unfolding run_in le16 le32 digits
printing_examples = record {
  descendants = prints _ _ _ _ refl;
  branches = prints _ _ _ _ refl;
  nothing = prints _ _ _ _ refl;
  bracket_misfits = prints _ _ _ _ refl;
  empty_pattern = prints _ _ _ _ refl;
  pattern_first = prints _ _ _ _ refl;
  wrong_end_tag = prints _ _ _ _ refl;
  unclosed = prints _ _ _ _ refl;
  empty_text = prints _ _ _ _ refl;
  two_elements = prints _ _ _ _ refl;
  no_text = prints _ _ _ _ refl;
  long_sheet = prints _ _ _ _ refl;
  few_rows = prints _ _ _ _ refl;
}
