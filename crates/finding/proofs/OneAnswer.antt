-- Every input has just one answer: what is printed for it is what is computed.
use Rattle.std.proofs.Common.{◌≡◌, ℕ, ◌*◌, ◌/◌, ◌<◌, ◌≤◌, leb, List, ◌++◌, map, length, Ok, sym, ap, ◌∙◌, subst, arith}
use Rattle.std.specs.Prelude.{flat_map}
use Rattle.std.proofs.lemmas.Bool.{cond-true, cond-false, le-leb, lt-leb}
use Rattle.markup.specs.declared.fault.Fault.{Fault}
use Rattle.markup.specs.declared.fault.Refusal.TheVariants.{FewRows}
use Rattle.markup.specs.Faults.{fault}
use Rattle.tree.specs.Tree.{Tree, LawfulTree}
use Rattle.layout.specs.Encoding.{sheet_of}
use Rattle.book.proofs.Answering.{grants}
use Rattle.book.proofs.Refusals.{refused_exactly}
use Rattle.pattern.specs.Shape.{Shape, LawfulTwig}
use Rattle.pattern.specs.Reading.{read_pattern}
use Rattle.pattern.proofs.Trees.{granted_lawful}
use Rattle.stream.specs.declared.region.Region.{Region}
use Rattle.stream.specs.Regions.{region_of}
use Rattle.embedding.specs.Embedding.{node_count, PartsOf}
use Rattle.embedding.proofs.Lists.{one_part_is_useful}
use Rattle.chain.proofs.Standing.{all_named}
use Rattle.gather.specs.Gather.{UsefulLists, Largest}
use Rattle.listing.specs.declared.place.Place.{Place}
use Rattle.listing.proofs.Exists.{is_listing}
use Rattle.listing.proofs.Once.{at_most_one_listing}
use Rattle.answers.specs.Trees.{TreeListing}
use Rattle.answers.proofs.Passing.{parts_of}
use Rattle.answers.proofs.Listings.{lists, lists_stand, to_the_lists}
use Rattle.report.specs.Lines.{place_line, end_line, refusal_line}
use Rattle.finding.specs.Input.{pattern_in, text_in}
use Rattle.finding.specs.Finding.{all, Reads, UsefulElements, EnoughRows, Refuses, Prints}
use Rattle.finding.specs.Promises.{EveryInputHasOneAnswer}
use Rattle.finding.proofs.Useful.{useful_lists}
use Rattle.finding.proofs.Computing.{places_in, useful_of, is_bound, is_met, most_of, for_tree, for_text, for_pattern, printed, is_printed}

module _ (s : Shape) (t : Tree) (twig : LawfulTwig s.nodes) (lawful : LawfulTree t) where
  parts : PartsOf (map region_of t.elements) (lists t s all)
  parts = parts_of t s.nodes all (map region_of t.elements) (lists t s all) lawful (lists_stand t s all)

  one_listing : (ps : List Place) → TreeListing t s all ps → ps ≡ places_in s t all
  one_listing ps l =
      at_most_one_listing s (lists t s all) ps (places_in s t all)
      (to_the_lists t s all (map region_of t.elements) (lists t s all) lawful twig (lists_stand t s all) ps l)
      (is_listing (map region_of t.elements) (lists t s all) parts s twig)

  -- the useful elements are those computed
  one_useful : (kept : ℕ → List Region) → UsefulElements s t kept → (i : ℕ) → i < node_count s → kept i ≡ useful_of s t i
  one_useful kept u i l =
      let same : u.lists ≡ lists t s all
      = all_named t s.nodes u.book u.lists u.named ∙ sym (all_named t s.nodes (map region_of t.elements) (lists t s all) (lists_stand t s all)) in
      let mine : UsefulLists s (lists t s all) (useful_of s t) = useful_lists s twig (lists t s all) in
      let yours : UsefulLists s (lists t s all) kept = subst (λ xs. UsefulLists s xs kept) same u.useful in
      one_part_is_useful (map region_of t.elements) (lists t s all) parts s i (kept i) (useful_of s t i) (yours.part i) (mine.part i) (yours.just i l) (mine.just i l)

  one_length : (kept : ℕ → List Region) → UsefulElements s t kept → (i : ℕ) → i < node_count s → length (kept i) ≡ length (useful_of s t i)
  one_length kept u i l = ap length (one_useful kept u i l)

  most_fits : (rows : ℕ) → EnoughRows s t rows → most_of s t ≤ rows / node_count s
  most_fits rows e =
      let m = is_met (node_count s) (useful_of s t) (omega (arith, twig.some)) in
      omega (arith, m.2, e.fits m.0 m.1, one_length e.kept e.useful m.0 m.1)

  one_most : (kept : ℕ → List Region) → UsefulElements s t kept → (most : ℕ) → Largest (node_count s) kept most → most ≡ most_of s t
  one_most kept u most l =
      let m = is_met (node_count s) (useful_of s t) (omega (arith, twig.some)) in
      let b = is_bound (node_count s) (useful_of s t) l.met.0 l.met.1 in
      omega (arith, b, m.2, l.met.2, l.bound m.0 m.1, one_length kept u m.0 m.1, one_length kept u l.met.0 l.met.1)

module _ (input : List ℕ) (room rows : ℕ) where
  short_input : length input ≤ 65536 → printed input room rows ≡ for_pattern (read_pattern (pattern_in input)) (text_in input) room rows
  short_input l = cond-true _ _ _ (le-leb (length input) 65536 l)

  at_text : (s : Shape) → length input ≤ 65536 → read_pattern (pattern_in input) ≡ Ok s
      → printed input room rows ≡ for_pattern (Ok s) (text_in input) room rows
  at_text s short pattern = short_input short ∙ ap (λ r. for_pattern r (text_in input) room rows) pattern

  at_tree : (s : Shape) (t : Tree) → Reads input s t → printed input room rows ≡ for_tree s t room rows
  at_tree s t r = at_text s r.short r.pattern ∙ ap (λ a. for_text s a room rows) (grants (text_in input) t r.text)

  one_refusal : (f : Fault) → Refuses input room rows f → printed input room rows ≡ refusal_line f
  one_refusal f (Refuses.too_long l e) = cond-false (leb (length input) 65536) _ _ (lt-leb (length input) 65536 l) ∙ ap refusal_line (sym e)
  one_refusal f (Refuses.pattern short e) = short_input short ∙ ap (λ r. for_pattern r (text_in input) room rows) e
  one_refusal f (Refuses.text s short e b) = at_text s short e ∙ ap (λ a. for_text s a room rows) ((refused_exactly (text_in input) f).1 b)
  one_refusal f (Refuses.long_sheet s t r long e) =
      at_tree s t r ∙ cond-false (leb (length (sheet_of t)) room) _ _ (lt-leb (length (sheet_of t)) room long) ∙ ap refusal_line (sym e)
  one_refusal f (Refuses.few_rows s t needed r fit few e) =
      let most : few.most ≡ most_of s t = one_most s t (granted_lawful (pattern_in input) s r.pattern) r.text.lawful few.kept few.useful few.most few.largest in
      at_tree s t r ∙ cond-true (leb (length (sheet_of t)) room) _ _ (le-leb (length (sheet_of t)) room fit)
      ∙ cond-false (leb (most_of s t) (rows / node_count s)) _ _ (lt-leb (most_of s t) (rows / node_count s) (omega (arith, few.more, most)))
      ∙ ap (λ n. refusal_line (fault FewRows n)) (ap (λ m. node_count s * m) (sym most) ∙ sym few.nodes_times) ∙ ap refusal_line (sym e)

  one_answer : (lines : List ℕ) → Prints input room rows lines → lines ≡ printed input room rows
  one_answer lines (Prints.listed s t places r fit enough l e) =
      let twig : LawfulTwig s.nodes = granted_lawful (pattern_in input) s r.pattern in
      e ∙ ap (λ ps. flat_map (place_line (node_count s)) ps ++ end_line) (one_listing s t twig r.text.lawful places l)
      ∙ sym (at_tree s t r ∙ cond-true (leb (length (sheet_of t)) room) _ _ (le-leb (length (sheet_of t)) room fit)
      ∙ cond-true (leb (most_of s t) (rows / node_count s)) _ _ (le-leb (most_of s t) (rows / node_count s) (most_fits s t twig r.text.lawful rows enough)))
  one_answer lines (Prints.refused f r e) = e ∙ sym (one_refusal f r)

pub every_input_has_one_answer : EveryInputHasOneAnswer
every_input_has_one_answer input room rows = (printed input room rows, is_printed input room rows, one_answer input room rows)
