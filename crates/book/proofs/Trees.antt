-- What is granted is a lawful tree.
use Rattle.std.proofs.Common.{◌≡◌, ℕ, zero, suc, ◌+◌, ◌<◌, ◌≤◌, Bool, cond, List, [], ◌∷◌, map, length, get_or, sym, refl, ap, ◌∙◌, subst, inl, inr, ⊎_elim, arith}
use Rattle.std.proofs.Math.Path.{fun_ext}
use Rattle.std.proofs.Math.ListN.{length-map, get_or-map}
use Rattle.std.specs.List.{AllByRecursion as Every}
use Rattle.std.proofs.ByRecursion.{All-append, All-get_or}
use Rattle.std.proofs.lemmas.Bool.{cases_order}
use Rattle.markup.specs.Name.{LawfulName}
use Rattle.tree.specs.Region.{Region, Contains, contains, count_below, BookOf, LawfulBook, at}
use Rattle.tree.specs.Tree.{region_of, LawfulTree}
use Rattle.lexer.specs.Item.{Item.start, Item.end, Item.empty, spelling}
use Rattle.book.specs.Document.{Content, Content.none, Content.byte, Content.bare, Content.full, spell, Lawful, Node, nodes_at, Document, intern, numbered, named, indexed, Shallow, Within}
use Rattle.book.specs.Promises.{TreesAreLawful}
use Rattle.book.proofs.Forests.{region_of_node, pairs_at, weight, count_in, Span, Ordered, Forest, row_forest, Around, single_around}
use Rattle.book.proofs.Numbering.{named_all, named_different, uses}
use Rattle.book.proofs.Sound.{sound}

-- Counting by places.

count_front : (f : ℕ → Bool) (n : ℕ) → count_below f (suc n) ≡ cond (f 0) 1 0 + count_below (λ j. f (suc j)) n
count_front f zero = omega arith
count_front f (suc n) = let h = count_front f n in omega arith

nobody : Node
nobody = record { start = 0; end = 0; level = 0; name = [] }

count_list : (ns : List Node) (v d : Node) → count_in ns v ≡ count_below (λ j. contains (region_of_node (get_or ns j d)) (region_of_node v)) (length ns)
count_list [] v d = refl
count_list (u ∷ us) v d =
    ap (λ k. weight u v + k) (count_list us v d) ∙ sym (count_front (λ j. contains (region_of_node (get_or (u ∷ us) j d)) (region_of_node v)) (length us))

-- The regions.

shallow_at : (ns : List Node) (d : Node) (i : ℕ) → Shallow ns → i < length ns → (get_or ns i d).level ≤ 63
shallow_at [] d i h l = absurd (omega arith)
shallow_at (n ∷ ns) d zero h l = h.0
shallow_at (n ∷ ns) d (suc i) h l = shallow_at ns d i h.1 (omega arith)

around_at : (ns : List Node) (d : Node) (i : ℕ) → Around ns → 0 < i → i < length ns → Contains (region_of_node (get_or ns 0 d)) (region_of_node (get_or ns i d))
around_at [] d i h a b = absurd h
around_at (n ∷ ns) d zero h a b = absurd (omega arith)
around_at (n ∷ ns) d (suc i) h a b = All-get_or (λ v. Contains (region_of_node n) (region_of_node v)) ns i d (omega arith) h

around_some : (ns : List Node) → Around ns → 1 ≤ length ns
around_some [] h = absurd h
around_some (n ∷ ns) h = omega arith

module _ (ns : List Node) (q : ℕ) (f : Forest 0 0 q ns) (a : Around ns) (s : Shallow ns) (few : length ns ≤ 65535) (short : q ≤ 16777216) where
  r : ℕ → Region
  r i = region_of_node (get_or ns i nobody)

  book_by : BookOf (length ns) r
  unfolding r nobody
  book_by = record {
    some = around_some ns a;
    few = few;
    each = λ i h. let p = All-get_or (Span 0 q) ns i nobody h f.span in (p.1, omega (arith, p.2), shallow_at ns nobody i s h);
    rising = λ i j h k. (pairs_at Ordered ns nobody i j f.pairs h k).0;
    apart = λ i j h k ne.
        ⊎_elim (λ (e : i ≡ j). absurd (ne e))
        (⊎_elim
        (λ (o : i < j). let p = pairs_at Ordered ns nobody i j f.pairs o k in ⊎_elim (λ c. inl (p.0, c)) (λ c. inr (inr (inl c))) p.1)
        (λ (o : j < i). let p = pairs_at Ordered ns nobody j i f.pairs o h in ⊎_elim (λ c. inr (inl (p.0, c))) (λ c. inr (inr (inr c))) p.1))
        (cases_order i j);
    counted = λ i h.
        let v : Node = get_or ns i nobody in
        let e : v.level ≡ 0 + count_in ns v = All-get_or (λ v. v.level ≡ 0 + count_in ns v) ns i nobody h f.levels in
        let z : 0 + count_in ns v ≡ count_in ns v = omega arith in
        e ∙ z ∙ count_list ns v nobody;
    first = λ i h k. around_at ns nobody i a h k;
  }

  as_list : LawfulBook (map region_of_node ns)
  unfolding r nobody
  as_list =
      let same : r ≡ at (map region_of_node ns) = fun_ext (λ i. sym (get_or-map region_of_node ns i nobody)) in
      subst (λ m. BookOf m (at (map region_of_node ns))) (sym (length-map ns region_of_node)) (subst (BookOf (length ns)) same book_by)

same_regions : (names : List (List ℕ)) (ns : List Node) → map region_of (numbered names ns) ≡ map region_of_node ns
same_regions names [] = refl
same_regions names (n ∷ ns) = ap (λ l. region_of_node n ∷ l) (same_regions (intern names n.name) ns)

-- The names.

row_names : (c : Content) (p level : ℕ) → Lawful c → Every (λ n. LawfulName n.name) (nodes_at p level c)
row_names none p level l = tt
row_names (byte b c) p level l = row_names c (p + 1) level l.1
row_names (bare name c) p level l = (l.0, row_names c (p + length (spelling (empty name))) level l.1)
row_names (full name inner c) p level l =
    let from : ℕ = p + length (spelling (start name)) in
    let k : ℕ = from + length (spell inner) + length (spelling (end name)) in
    (l.0, All-append (λ n. LawfulName n.name) (nodes_at from (suc level) inner) (nodes_at k level c) (row_names inner from (suc level) l.1) (row_names c k level l.2))

-- The tree of a document.
module _ (text : List ℕ) (ns : List Node) (d : Document text ns) (w : Within text ns) where
  forest : Forest 0 0 (length text) ns
  forest =
      let z : 0 + length (spell d.row) ≡ length (spell d.row) = omega arith in
      let f : Forest 0 0 (length text) (nodes_at 0 0 d.row) = subst (λ q. Forest 0 0 q (nodes_at 0 0 d.row)) (z ∙ ap (λ l. length l) (sym d.spelled)) (row_forest d.row 0 0) in
      subst (Forest 0 0 (length text)) (sym d.elements) f

  pub lawful_tree : LawfulTree (indexed ns)
  lawful_tree =
      let a : Around ns = subst Around (sym d.elements) (single_around d.row 0 d.single) in
      let l : Every (λ (n : Node). LawfulName n.name) ns = subst (Every (λ (n : Node). LawfulName n.name)) (sym d.elements) (row_names d.row 0 0 d.lawful) in
      record {
        regions = subst LawfulBook (sym (same_regions [] ns)) (as_list ns (length text) forest a w.shallow w.few w.short);
        few = w.names;
        lawful = λ k h. All-get_or LawfulName (named [] ns) k [] h (named_all LawfulName [] ns tt l);
        different = named_different [] ns (λ j k h i e. absurd (omega arith));
        used = uses [] ns;
      }

pub trees_are_lawful : TreesAreLawful
trees_are_lawful text t e =
    let s = sound text t e in
    subst LawfulTree (sym s.3) (lawful_tree text s.0 s.1 s.2)
