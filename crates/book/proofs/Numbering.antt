-- The elements of a derivation with their names' numbers, and back.
use Rattle.std.proofs.Common.{◌≡◌, ℕ, suc, ◌+◌, ◌<◌, ◌≤◌, max, List, [], ◌∷◌, ◌++◌, map, length, get_or, sym, refl, ap, ◌∙◌, subst, ⊎_elim, append_assoc, append-nil, arith, length-append}
use Rattle.std.proofs.Math.ListN.{get_or-append}
use Rattle.std.proofs.Math.Seq.{get_or-append_seam}
use Rattle.std.specs.List.{AllByRecursion as Every}
use Rattle.std.proofs.lemmas.List.{nil_from_length}
use Rattle.std.proofs.lemmas.Bool.{cases_lt}
use Rattle.tree.specs.declared.element.Element.{Element}
use Rattle.tree.specs.Tree.{Tree, FirstUses}
use Rattle.tree.proofs.Uses.{uses_rise}
use Rattle.book.specs.Document.{Node, position, intern, numbered, named, indexed}
use Rattle.book.specs.Reading.{Different}
use Rattle.book.specs.Answer.{node_of, nodes_of}
use Rattle.book.specs.Promises.{NamesAreNumbered}
use Rattle.book.proofs.Naming.{position_is, interned, intern_counts, intern_grows, intern_at, intern_keeps, intern_all, intern_different, position_within, position_below}

pub named_grows : (names : List (List ℕ)) (ns : List Node) → length names ≤ length (named names ns)
named_grows names [] = omega arith
named_grows names (n ∷ ns) = let a = intern_grows names n.name in let b = named_grows (intern names n.name) ns in omega arith

pub named-append : (names : List (List ℕ)) (xs ys : List Node) → named names (xs ++ ys) ≡ named (named names xs) ys
named-append names [] ys = refl
named-append names (x ∷ xs) ys = named-append (intern names x.name) xs ys

pub numbered-append : (names : List (List ℕ)) (xs ys : List Node) → numbered names (xs ++ ys) ≡ numbered names xs ++ numbered (named names xs) ys
numbered-append names [] ys = refl
numbered-append names (x ∷ xs) ys = ap (λ r. record { start = x.start; «end» = x.end; level = x.level; name = position names x.name } ∷ r) (numbered-append (intern names x.name) xs ys)

pub numbered_length : (names : List (List ℕ)) (ns : List Node) → length (numbered names ns) ≡ length ns
numbered_length names [] = refl
numbered_length names (n ∷ ns) = ap suc (numbered_length (intern names n.name) ns)

-- The names are all there, different, and lead back.

pub named_all : (P : List ℕ → Type 0) (names : List (List ℕ)) (ns : List Node) → Every P names → Every (λ n. P n.name) ns → Every P (named names ns)
named_all P names [] h k = h
named_all P names (n ∷ ns) h k = named_all P (intern names n.name) ns (intern_all names n.name P h k.0) k.1

pub named_different : (names : List (List ℕ)) (ns : List Node) → Different names → Different (named names ns)
named_different names [] d = d
named_different names (n ∷ ns) d = named_different (intern names n.name) ns (intern_different names n.name d)

named_keeps : (names : List (List ℕ)) (ns : List Node) (i : ℕ) → i < length names → get_or (named names ns) i [] ≡ get_or names i []
named_keeps names [] i h = refl
named_keeps names (n ∷ ns) i h =
    let g = intern_grows names n.name in
    named_keeps (intern names n.name) ns i (omega arith) ∙ intern_keeps names n.name i h

pub uses : (names : List (List ℕ)) (ns : List Node) → FirstUses (length names) (numbered names ns) (length (named names ns))
uses names [] = refl
uses names (n ∷ ns) = (
  position_within names n.name,
  subst (λ k. FirstUses k (numbered (intern names n.name) ns) (length (named (intern names n.name) ns))) (intern_counts names n.name) (uses (intern names n.name) ns),
)

numbers : (names : List (List ℕ)) (ns : List Node) → map (node_of (named names ns)) (numbered names ns) ≡ ns
numbers names [] = refl
numbers names (n ∷ ns) =
    let named-so = named_keeps (intern names n.name) ns (position names n.name) (position_below names n.name) ∙ intern_at names n.name in
    λ i. record { start = n.start; end = n.end; level = n.level; name = named-so i } ∷ numbers (intern names n.name) ns i

pub names_are_numbered : NamesAreNumbered
names_are_numbered ns = numbers [] ns

-- A tree whose names are different and numbered by first use is the one of its elements.

module _ (N : List (List ℕ)) (different : Different N) where
  Again : List Element → List (List ℕ) → Type 0
  Again es M = (numbered M (map (node_of N) es) ≡ es) × (named M (map (node_of N) es) ≡ N)

  one : (x : Element) (es : List Element) (M K : List (List ℕ)) → position M (get_or N x.name []) ≡ x.name → intern M (get_or N x.name []) ≡ K → Again es K → Again (x ∷ es) M
  unfolding Again
  one x es M K p e r =
      let r' = subst (Again es) (sym e) r in
      (λ i. record { start = x.start; «end» = x.«end»; level = x.level; name = p i } ∷ r'.0 i, r'.1)

  at : (M R : List (List ℕ)) → N ≡ M ++ R → (i : ℕ) → i < length M → get_or M i [] ≡ get_or N i []
  at M R e i l = sym (ap (λ l. get_or l i []) e ∙ get_or-append M R [] i l)

  placed : (M R : List (List ℕ)) → N ≡ M ++ R → (a : ℕ) → a ≤ length M → a < length N → position M (get_or N a []) ≡ a
  placed M R e a l k = position_is M (get_or N a []) a l (λ h. at M R e a h) (λ i h q. different i a h k (sym (at M R e i (omega arith)) ∙ q))

  kept : (M : List (List ℕ)) (y : List ℕ) → position M y < length M → intern M y ≡ M
  kept M y h = ⊎_elim (λ q. q.1) (λ q. absurd (omega (arith, q.0))) (interned M y)

  added : (M : List (List ℕ)) (y : List ℕ) → position M y ≡ length M → intern M y ≡ M ++ y ∷ []
  added M y h = ⊎_elim (λ q. absurd (omega (arith, q.0))) (λ q. q.1) (interned M y)

  renumber : (es : List Element) (M R : List (List ℕ)) → N ≡ M ++ R → FirstUses (length M) es (length N) → Again es M
  unfolding Again
  renumber [] M R e h =
      let nil : R ≡ [] = nil_from_length R (omega (arith, ap (λ l. length l) e, length-append M R)) in
      (refl, sym (e ∙ ap (λ l. M ++ l) nil ∙ append-nil M))
  renumber (x ∷ es) M [] e h =
      let len : length N ≡ length M = ap (λ l. length l) (e ∙ append-nil M) in
      let grow = uses_rise es (max (length M) (x.name + 1)) (length N) h.1 in
      let lt : x.name < length M = omega arith in
      let same : max (length M) (x.name + 1) ≡ length M = omega arith in
      let p = placed M [] e x.name (omega arith) (omega arith) in
      one x es M M p (kept M (get_or N x.name []) (omega arith)) (renumber es M [] e (subst (λ k. FirstUses k es (length N)) same h.1))
  renumber (x ∷ es) M (r ∷ R) e h =
      let len : length N ≡ length M + suc (length R) = ap (λ l. length l) e ∙ length-append M (r ∷ R) in
      let p = placed M (r ∷ R) e x.name h.0 (omega (arith, h.0)) in
      ⊎_elim
      (λ (lt : x.name < length M).
      let same : max (length M) (x.name + 1) ≡ length M = omega arith in
      one x es M M p (kept M (get_or N x.name []) (omega arith)) (renumber es M (r ∷ R) e (subst (λ k. FirstUses k es (length N)) same h.1)))
      (λ (ge : length M ≤ x.name).
      let is : x.name ≡ length M = omega (arith, h.0) in
      let y : List ℕ = get_or N x.name [] in
      let this : y ≡ r = ap (λ k. get_or N k []) is ∙ ap (λ l. get_or l (length M) []) e ∙ get_or-append_seam M r R [] in
      let K : List (List ℕ) = M ++ r ∷ [] in
      let long = length-append M (r ∷ []) in
      let same : max (length M) (x.name + 1) ≡ length K = omega arith in
      one x es M K p (added M y (p ∙ is) ∙ ap (λ z. M ++ z ∷ []) this)
      (renumber es K R (e ∙ sym (append_assoc M (r ∷ []) R)) (subst (λ k. FirstUses k es (length N)) same h.1)))
      (cases_lt x.name (length M))

pub renumbered : (t : Tree) → Different t.names → FirstUses 0 t.elements (length t.names) → indexed (nodes_of t) ≡ t
unfolding Again
renumbered t different used =
    let r = renumber t.names different t.elements [] t.names refl used in
    λ i. record { elements = r.0 i; names = r.1 i }
