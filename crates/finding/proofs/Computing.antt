-- What the finder prints, computed.
use Rattle.std.proofs.Common.{◌≡◌, ℕ, Bool, zero, suc, ◌*◌, ◌/◌, ◌<◌, ◌≤◌, true, false, cond, leb, List, ◌++◌, map, length, max, Ok, Err, Result, refl, sym, ◌∙◌, subst, ⊎_elim, arith}
use Rattle.std.specs.Prelude.{flat_map}
use Rattle.std.proofs.Math.Nat.{le-max_left, le-max_right, max-eq_left, max-eq_right}
use Rattle.std.proofs.lemmas.Bool.{cases_lt}
use Rattle.std.proofs.lemmas.Bool.Decides.{leb_tells}
use Rattle.markup.specs.declared.fault.Fault.{Fault}
use Rattle.markup.specs.declared.fault.Refusal.TheVariants.{InputTooLong, SheetWontFit, FewRows}
use Rattle.markup.specs.Faults.{fault}
use Rattle.tree.specs.declared.element.Element.{Element}
use Rattle.tree.specs.Tree.{Tree, LawfulTree}
use Rattle.layout.specs.Encoding.{sheet_of}
use Rattle.book.specs.Reading.{read_book}
use Rattle.book.proofs.Answering.{granted}
use Rattle.book.proofs.Refusals.{refused_exactly}
use Rattle.pattern.specs.Shape.{Shape, LawfulTwig}
use Rattle.pattern.specs.Reading.{read_pattern}
use Rattle.pattern.proofs.Trees.{granted_lawful}
use Rattle.stream.specs.declared.region.Region.{Region}
use Rattle.stream.specs.Regions.{region_of}
use Rattle.embedding.specs.Embedding.{node_count}
use Rattle.gather.specs.Gather.{Largest}
use Rattle.listing.specs.declared.place.Place.{Place}
use Rattle.listing.proofs.Exists.{listing_of, is_listing}
use Rattle.answers.specs.Trees.{TreeListing}
use Rattle.answers.proofs.Passing.{parts_of}
use Rattle.answers.proofs.Listings.{lists, lists_stand, to_the_tree}
use Rattle.report.specs.Lines.{place_line, end_line, refusal_line}
use Rattle.finding.specs.Input.{pattern_in, text_in}
use Rattle.finding.specs.Finding.{all, Reads, UsefulElements, EnoughRows, TooFewRows, Refuses, Prints}
use Rattle.finding.proofs.Useful.{useful_in, useful_lists}

-- The listing in a tree, and the useful elements.

abbrev pub places_in : Shape → Tree → (ℕ → ℕ → Element → Bool) → List Place
places_in s t lets = listing_of s (lists t s lets)

abbrev pub useful_of : Shape → Tree → ℕ → List Region
useful_of s t = useful_in s (lists t s all)

module _ (s : Shape) (t : Tree) (twig : LawfulTwig s.nodes) (lawful : LawfulTree t) where
  pub places_listed : (lets : ℕ → ℕ → Element → Bool) → TreeListing t s lets (places_in s t lets)
  places_listed lets =
      to_the_tree t s lets (map region_of t.elements) (lists t s lets) lawful twig (lists_stand t s lets) (places_in s t lets)
      (is_listing (map region_of t.elements) (lists t s lets) (parts_of t s.nodes lets (map region_of t.elements) (lists t s lets) lawful (lists_stand t s lets)) s twig)

  pub elements_useful : UsefulElements s t (useful_of s t)
  elements_useful = record {
    book = map region_of t.elements;
    lists = lists t s all;
    named = lists_stand t s all;
    useful = useful_lists s twig (lists t s all);
  }

-- The largest of the lengths of the first n lists.

abbrev pub largest_of : ℕ → (ℕ → List Region) → ℕ
largest_of zero xs = 0
largest_of (suc n) xs = max (largest_of n xs) (length (xs n))

pub is_bound : (n : ℕ) (xs : ℕ → List Region) (i : ℕ) → i < n → length (xs i) ≤ largest_of n xs
is_bound zero xs i l = absurd (omega arith)
is_bound (suc n) xs i l =
    ⊎_elim (λ (h : i < n). let b = is_bound n xs i h in let m = le-max_left (largest_of n xs) (length (xs n)) in omega (arith, b, m))
    (λ (h : n ≤ i). let e : n ≡ i = omega (arith, h, l) in subst (λ k. length (xs k) ≤ largest_of (suc n) xs) e (le-max_right (largest_of n xs) (length (xs n))))
    (cases_lt i n)

abbrev pub Met : ℕ → (ℕ → List Region) → Type 0
Met n xs = (i : ℕ) × (i < n) × (length (xs i) ≡ largest_of n xs)

met_more : (n : ℕ) (xs : ℕ → List Region) → (0 < n → Met n xs) → Met (suc n) xs
met_more zero xs h = (0, omega arith, sym (max-eq_right (omega arith)))
met_more (suc n) xs h =
    let m = h (omega arith) in
    ⊎_elim
    (λ (p : largest_of (suc n) xs < length (xs (suc n))). (suc n, omega arith, sym (max-eq_right (omega (arith, p)))))
    (λ (p : length (xs (suc n)) ≤ largest_of (suc n) xs). (m.0, omega (arith, m.1), m.2 ∙ sym (max-eq_left p)))
    (cases_lt (largest_of (suc n) xs) (length (xs (suc n))))

pub is_met : (n : ℕ) (xs : ℕ → List Region) → 0 < n → Met n xs
is_met zero xs l = absurd (omega arith)
is_met (suc n) xs l = met_more n xs (is_met n xs)

pub is_largest : (n : ℕ) (xs : ℕ → List Region) → 0 < n → Largest n xs (largest_of n xs)
is_largest n xs l = record { bound = is_bound n xs; met = is_met n xs l }

-- The rows.

abbrev pub most_of : Shape → Tree → ℕ
most_of s t = largest_of (node_count s) (useful_of s t)

module _ (s : Shape) (t : Tree) (twig : LawfulTwig s.nodes) (lawful : LawfulTree t) (rows : ℕ) where
  pub enough_rows : most_of s t ≤ rows / node_count s → EnoughRows s t rows
  enough_rows h = record {
    kept = useful_of s t;
    useful = elements_useful s t twig lawful;
    fits = λ i l. omega (arith, is_bound (node_count s) (useful_of s t) i l, h);
  }

  pub few_rows : rows / node_count s < most_of s t → TooFewRows s t rows (node_count s * most_of s t)
  few_rows h = record {
    kept = useful_of s t;
    useful = elements_useful s t twig lawful;
    most = most_of s t;
    largest = is_largest (node_count s) (useful_of s t) (omega (arith, twig.some));
    more = h;
    nodes_times = refl;
  }

-- The lines.

abbrev pub lines_in : Shape → Tree → List ℕ
lines_in s t = flat_map (place_line (node_count s)) (places_in s t all) ++ end_line

abbrev pub for_tree : Shape → Tree → ℕ → ℕ → List ℕ
for_tree s t room rows =
    cond (leb (length (sheet_of t)) room)
    (cond (leb (most_of s t) (rows / node_count s)) (lines_in s t) (refusal_line (fault FewRows (node_count s * most_of s t))))
    (refusal_line (fault SheetWontFit (length (sheet_of t))))

abbrev pub for_text : Shape → Result Tree Fault → ℕ → ℕ → List ℕ
for_text s (Ok t) room rows = for_tree s t room rows
for_text s (Err f) room rows = refusal_line f

abbrev pub for_pattern : Result Shape Fault → List ℕ → ℕ → ℕ → List ℕ
for_pattern (Ok s) text room rows = for_text s (read_book text) room rows
for_pattern (Err f) text room rows = refusal_line f

abbrev pub printed : List ℕ → ℕ → ℕ → List ℕ
printed input room rows =
    cond (leb (length input) 65536) (for_pattern (read_pattern (pattern_in input)) (text_in input) room rows) (refusal_line (fault InputTooLong 65536))

le_or_less : (a b : ℕ) {X : Type 0} (x y : X) (P : X → Type 0) → (a ≤ b → P x) → (b < a → P y) → P (cond (leb a b) x y)
le_or_less a b x y P p q =
    ⊎_elim (λ (h : (leb a b ≡ true) × (a ≤ b)). subst (λ t. P (cond t x y)) (sym h.0) (p h.1))
    (λ (h : (leb a b ≡ false) × (b < a)). subst (λ t. P (cond t x y)) (sym h.0) (q h.1)) (leb_tells a b)

module _ (input : List ℕ) (room rows : ℕ) where
  prints_for_tree : (s : Shape) (t : Tree) → Reads input s t → LawfulTwig s.nodes → Prints input room rows (for_tree s t room rows)
  prints_for_tree s t reads twig =
      le_or_less (length (sheet_of t)) room _ _ (Prints input room rows)
      (λ fit. le_or_less (most_of s t) (rows / node_count s) _ _ (Prints input room rows)
      (λ enough. Prints.listed s t (places_in s t all) reads fit (enough_rows s t twig reads.text.lawful rows enough) (places_listed s t twig reads.text.lawful all) refl)
      (λ few. Prints.refused (fault FewRows (node_count s * most_of s t))
      (Refuses.few_rows s t (node_count s * most_of s t) reads fit (few_rows s t twig reads.text.lawful rows few) refl) refl))
      (λ long. Prints.refused (fault SheetWontFit (length (sheet_of t))) (Refuses.long_sheet s t reads long refl) refl)

  prints_for_text : (s : Shape) → length input ≤ 65536 → read_pattern (pattern_in input) ≡ Ok s → (r : Result Tree Fault) → read_book (text_in input) ≡ r
      → Prints input room rows (for_text s r room rows)
  prints_for_text s short pattern (Ok t) e =
      prints_for_tree s t (record { short = short; pattern = pattern; text = granted (text_in input) t e }) (granted_lawful (pattern_in input) s pattern)
  prints_for_text s short pattern (Err f) e = Prints.refused f (Refuses.text s short pattern ((refused_exactly (text_in input) f).0 e)) refl

  prints_for_pattern : length input ≤ 65536 → (r : Result Shape Fault) → read_pattern (pattern_in input) ≡ r
      → Prints input room rows (for_pattern r (text_in input) room rows)
  prints_for_pattern short (Ok s) e = prints_for_text s short e (read_book (text_in input)) refl
  prints_for_pattern short (Err f) e = Prints.refused f (Refuses.pattern short e) refl

  -- what is computed is printed
  pub is_printed : Prints input room rows (printed input room rows)
  is_printed =
      le_or_less (length input) 65536 _ _ (Prints input room rows)
      (λ short. prints_for_pattern short (read_pattern (pattern_in input)) refl)
      (λ long. Prints.refused (fault InputTooLong 65536) (Refuses.too_long long refl) refl)
