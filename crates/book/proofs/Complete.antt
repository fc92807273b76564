-- A book text within the limits is granted, with its elements.
use Rattle.std.proofs.Common.{◌≡◌, ℕ, suc, ◌+◌, ◌<◌, ◌≤◌, true, false, not, ◌&&◌, eqb, List, [], ◌∷◌, ◌++◌, length, set, Ok, sym, refl, ap, ◌∙◌, subst, inl, inr, append_assoc, append-nil, arith, length-append}
use Rattle.std.proofs.Math.Seq.{set-append_seam}
use Rattle.std.specs.Str.{bytes_eq}
use Rattle.std.proofs.lemmas.Slice.Eq.{bytes_eq-Decides}
use Rattle.std.proofs.lemmas.Bool.{cond-true, cond-false, and_left, ne_eqb}
use Rattle.markup.specs.Faults.{and_then}
use Rattle.markup.specs.Name.{LawfulName}
use Rattle.tree.specs.declared.element.Element.{Element}
use Rattle.lexer.specs.Item.{Item.start, Item.end, Item.empty, spelling}
use Rattle.book.specs.Document.{Content, Content.none, Content.byte, Content.bare, Content.full, spell, Lawful, Blank, Single, Node, nodes_at, Document, position, intern, numbered, named, indexed, Shallow, Within}
use Rattle.book.specs.Reading.{State, initial, enter, ended, opened, leaf, finished, read_book}
use Rattle.book.proofs.Entering.{begun, allowed_ok, enter_by}
use Rattle.book.proofs.Machine.{runs, runs_byte, runs_tag}
use Rattle.book.proofs.Naming.{position_below}
use Rattle.book.proofs.Numbering.{named_grows, named-append, numbered-append, numbered_length}
use Rattle.book.proofs.Runs.{book_is}

-- The state behind some elements.

abbrev pub after : State → List Node → State
after s ns = record { elements = s.elements ++ numbered s.names ns; names = named s.names ns; opens = s.opens }

after_append : (s : State) (xs ys : List Node) → after (after s xs) ys ≡ after s (xs ++ ys)
after_append s xs ys = λ i. record {
  elements = (append_assoc s.elements (numbered s.names xs) (numbered (named s.names xs) ys) ∙ ap (λ l. s.elements ++ l) (sym (numbered-append s.names xs ys))) i;
  names = sym (named-append s.names xs ys) i;
  opens = s.opens;
}

-- these elements fit the limits
pub record Room (s : State) (ns : List Node) : Type 0 where
  pub few : length s.elements + length ns ≤ 65535
  pub names : length (named s.names ns) ≤ 1024
  pub shallow : Shallow ns

shallow_left : (xs ys : List Node) → Shallow (xs ++ ys) → Shallow xs
shallow_left [] ys h = tt
shallow_left (x ∷ xs) ys h = (h.0, shallow_left xs ys h.1)

shallow_right : (xs ys : List Node) → Shallow (xs ++ ys) → Shallow ys
shallow_right [] ys h = h
shallow_right (x ∷ xs) ys h = shallow_right xs ys h.1

module _ (s : State) (xs ys : List Node) (r : Room s (xs ++ ys)) where
  room_left : Room s xs
  room_left =
      let a = length-append xs ys in
      let b = named_grows (named s.names xs) ys in
      let c : length (named (named s.names xs) ys) ≤ 1024 = subst (λ l. length l ≤ 1024) (named-append s.names xs ys) r.names in
      record { few = omega (arith, r.few); names = omega arith; shallow = shallow_left xs ys r.shallow }

  room_right : Room (after s xs) ys
  room_right =
      let a = length-append xs ys in
      let b = length-append s.elements (numbered s.names xs) in
      let d = numbered_length s.names xs in
      record { few = omega (arith, r.few); names = subst (λ l. length l ≤ 1024) (named-append s.names xs ys) r.names; shallow = shallow_right xs ys r.shallow }

-- One element.

-- an element may begin here
abbrev Free : State → Type 0
Free s = (eqb (length s.opens) 0 && not (eqb (length s.elements) 0)) ≡ false

enter_ok : (s : State) (p : ℕ) (n : Node) → Free s → n.level ≡ length s.opens → Room s (n ∷ []) → enter (length s.opens) (length s.elements) s.names p n.name ≡ Ok (begun s p n.name)
enter_ok s p n f l r =
    let a : length s.opens < 64 = omega (arith, r.shallow.0) in
    let b : length s.elements < 65535 = omega (arith, r.few) in
    let c : position s.names n.name < 1024 = omega (arith, position_below s.names n.name, r.names) in
    enter_by (length s.opens) (length s.elements) p s.names n.name (Ok tt)
    (allowed_ok (length s.opens) (length s.elements) (position s.names n.name) p (record { free = f; level = omega arith; few = b; names = c }))

same_self : (n : List ℕ) → bytes_eq n n ≡ true
same_self n = (bytes_eq-Decides n n).1 refl

module _ (s : State) (p : ℕ) (name : List ℕ) (l : LawfulName name) (f : Free s) where
  bare_runs : (rest : List ℕ) → let n : Node = record { start = p; end = p + 1 + length name; level = length s.opens; name = name } in
      Room s (n ∷ []) → runs s p (spelling (empty name) ++ rest) ≡ runs (after s (n ∷ [])) (p + length (spelling (empty name))) rest
  bare_runs rest r =
      let n : Node = record { start = p; end = p + 1 + length name; level = length s.opens; name = name } in
      runs_tag s p (empty name) rest l
      ∙ ap (λ e. and_then (and_then e (λ e. Ok (leaf s p name e))) (λ t. runs t (p + length (spelling (empty name))) rest)) (enter_ok s p n f refl r)

  full_runs : (inner : Content) (rest : List ℕ) →
      let from : ℕ = p + length (spelling (start name)) in
      let to : ℕ = from + length (spell inner) in
      let n : Node = record { start = p; end = to; level = length s.opens; name = name } in
      let ns : List Node = nodes_at from (suc (length s.opens)) inner in
      ((rest : List ℕ) → Room (opened s name (begun s p name)) ns → runs (opened s name (begun s p name)) from (spell inner ++ rest) ≡ runs (after (opened s name (begun s p name)) ns) to rest)
      → Room s (n ∷ ns) → runs s p (spelling (start name) ++ (spell inner ++ (spelling (end name) ++ rest))) ≡ runs (after s (n ∷ ns)) (to + length (spelling (end name))) rest
  full_runs inner rest inside r =
      let from : ℕ = p + length (spelling (start name)) in
      let to : ℕ = from + length (spell inner) in
      let n : Node = record { start = p; end = to; level = length s.opens; name = name } in
      let ns : List Node = nodes_at from (suc (length s.opens)) inner in
      let e : Element = begun s p name in
      let t : State = opened s name e in
      let u : Room (after s (n ∷ [])) ns = room_right s (n ∷ []) ns r in
      let len = length-append s.elements (e ∷ []) in
      let len' = length-append s.elements (numbered s.names (n ∷ [])) in
      let v : Room t ns = record { few = omega (arith, u.few); names = u.names; shallow = u.shallow } in
      let put : set (t.elements ++ numbered (intern s.names name) ns) (length s.elements) (ended e to) ≡ s.elements ++ numbered s.names (n ∷ ns) =
      ap (λ l. set l (length s.elements) (ended e to)) (append_assoc s.elements (e ∷ []) (numbered (intern s.names name) ns))
      ∙ set-append_seam s.elements e (numbered (intern s.names name) ns) (ended e to) in
      runs_tag s p (start name) (spell inner ++ (spelling (end name) ++ rest)) l
      ∙ ap (λ e. and_then (and_then e (λ e. Ok (opened s name e))) (λ t. runs t from (spell inner ++ (spelling (end name) ++ rest)))) (enter_ok s p n f refl (room_left s (n ∷ []) ns r))
      ∙ inside (spelling (end name) ++ rest) v
      ∙ runs_tag (after t ns) to (end name) rest l
      ∙ ap (λ x. and_then x (λ t. runs t (to + length (spelling (end name))) rest)) (cond-true _ _ _ (same_self name))
      ∙ ap (λ es. runs (record { elements = es; names = named (intern s.names name) ns; opens = s.opens }) (to + length (spelling (end name))) rest) put

-- A row within an element.

abbrev Inside : State → Type 0
Inside s = eqb (length s.opens) 0 ≡ false

free_inside : (s : State) → Inside s → Free s
free_inside s h = and_left _ _ h

opened_inside : (n : ℕ) → eqb (suc n) 0 ≡ false
opened_inside n = ne_eqb _ _ (λ e. absurd (omega arith))

four : (a b c d r : List ℕ) → (a ++ (b ++ (c ++ d))) ++ r ≡ a ++ (b ++ (c ++ (d ++ r)))
four a b c d r =
    append_assoc a (b ++ (c ++ d)) r ∙ ap (λ l. a ++ l) (append_assoc b (c ++ d) r ∙ ap (λ l. b ++ l) (append_assoc c d r))

full_length : (p : ℕ) (name : List ℕ) (inner c : Content)
    → p + length (spelling (start name)) + length (spell inner) + length (spelling (end name)) + length (spell c) ≡ p + length (spell (full name inner c))
full_length p name inner c =
    let x = length-append (spelling (start name)) (spell inner ++ (spelling (end name) ++ spell c)) in
    let y = length-append (spell inner) (spelling (end name) ++ spell c) in
    let z = length-append (spelling (end name)) (spell c) in
    omega arith

pub row_runs : (c : Content) (s : State) (p : ℕ) (rest : List ℕ) → Lawful c → Inside s → Room s (nodes_at p (length s.opens) c)
    → runs s p (spell c ++ rest) ≡ runs (after s (nodes_at p (length s.opens) c)) (p + length (spell c)) rest
row_runs none s p rest l h r =
    let z : p ≡ p + 0 = omega arith in
    λ i. runs (record { elements = sym (append-nil s.elements) i; names = s.names; opens = s.opens }) (z i) rest
row_runs (byte b c) s p rest l h r =
    let z : p + 1 + length (spell c) ≡ p + suc (length (spell c)) = omega arith in
    runs_byte s p b (spell c ++ rest) l.0 (inl h) ∙ row_runs c s (p + 1) rest l.1 h r ∙ ap (λ q. runs (after s (nodes_at (p + 1) (length s.opens) c)) q rest) z
row_runs (bare name c) s p rest l h r =
    let q : ℕ = p + length (spelling (empty name)) in
    let n : Node = record { start = p; end = p + 1 + length name; level = length s.opens; name = name } in
    let ns : List Node = nodes_at q (length s.opens) c in
    let z : q + length (spell c) ≡ p + length (spelling (empty name) ++ spell c) = omega (arith, length-append (spelling (empty name)) (spell c)) in
    ap (runs s p) (append_assoc (spelling (empty name)) (spell c) rest)
    ∙ bare_runs s p name l.0 (free_inside s h) (spell c ++ rest) (room_left s (n ∷ []) ns r)
    ∙ row_runs c (after s (n ∷ [])) q rest l.1 h (room_right s (n ∷ []) ns r)
    ∙ (λ i. runs (after_append s (n ∷ []) ns i) (z i) rest)
row_runs (full name inner c) s p rest l h r =
    let from : ℕ = p + length (spelling (start name)) in
    let to : ℕ = from + length (spell inner) in
    let q : ℕ = to + length (spelling (end name)) in
    let n : Node = record { start = p; end = to; level = length s.opens; name = name } in
    let is : List Node = nodes_at from (suc (length s.opens)) inner in
    let ns : List Node = nodes_at q (length s.opens) c in
    let z : q + length (spell c) ≡ p + length (spell (full name inner c)) = full_length p name inner c in
    ap (runs s p) (four (spelling (start name)) (spell inner) (spelling (end name)) (spell c) rest)
    ∙ full_runs s p name l.0 (free_inside s h) inner (spell c ++ rest)
    (λ more v. row_runs inner (opened s name (begun s p name)) from more l.1 (opened_inside (length s.opens)) v)
    (room_left s (n ∷ is) ns r)
    ∙ row_runs c (after s (n ∷ is)) q rest l.2 h (room_right s (n ∷ is) ns r)
    ∙ (λ i. runs (after_append s (n ∷ is) ns i) (z i) rest)

-- The whole text.

blank_runs : (c : Content) (s : State) (p : ℕ) → Lawful c → Blank c → runs s p (spell c) ≡ Ok s
blank_runs none s p l h = refl
blank_runs (byte b c) s p l h = runs_byte s p b (spell c) l.0 (inr h.0) ∙ blank_runs c s (p + 1) l.1 h.1
blank_runs (bare n c) s p l h = absurd h
blank_runs (full n i c) s p l h = absurd h

pub blank_nodes : (c : Content) (p level : ℕ) → Blank c → nodes_at p level c ≡ []
blank_nodes none p level h = refl
blank_nodes (byte b c) p level h = blank_nodes c (p + 1) level h.1
blank_nodes (bare n c) p level h = absurd h
blank_nodes (full n i c) p level h = absurd h

single_runs : (c : Content) (p : ℕ) → Lawful c → Single c → Room initial (nodes_at p 0 c) → runs initial p (spell c) ≡ Ok (after initial (nodes_at p 0 c))
single_runs none p l h r = absurd h
single_runs (byte b c) p l h r = runs_byte initial p b (spell c) l.0 (inr h.0) ∙ single_runs c (p + 1) l.1 h.1 r
single_runs (bare name c) p l h r =
    let q : ℕ = p + length (spelling (empty name)) in
    let n : Node = record { start = p; end = p + 1 + length name; level = 0; name = name } in
    let z = blank_nodes c q 0 h in
    bare_runs initial p name l.0 refl (spell c) (room_left initial (n ∷ []) (nodes_at q 0 c) r)
    ∙ blank_runs c (after initial (n ∷ [])) q l.1 h
    ∙ ap (λ ns. Ok (after initial (n ∷ ns))) (sym z)
single_runs (full name inner c) p l h r =
    let from : ℕ = p + length (spelling (start name)) in
    let to : ℕ = from + length (spell inner) in
    let q : ℕ = to + length (spelling (end name)) in
    let n : Node = record { start = p; end = to; level = 0; name = name } in
    let is : List Node = nodes_at from 1 inner in
    let z = blank_nodes c q 0 h in
    full_runs initial p name l.0 refl inner (spell c)
    (λ more v. row_runs inner (opened initial name (begun initial p name)) from more l.1 (opened_inside 0) v)
    (room_left initial (n ∷ is) (nodes_at q 0 c) r)
    ∙ blank_runs c (after initial (n ∷ is)) q l.2 h
    ∙ ap (λ ns. Ok (after initial (n ∷ ns))) (sym (append-nil is) ∙ ap (λ ns. is ++ ns) (sym z))

some_node : (c : Content) (p : ℕ) → Single c → 0 < length (nodes_at p 0 c)
some_node none p h = absurd h
some_node (byte b c) p h = some_node c (p + 1) h.1
some_node (bare n c) p h = omega arith
some_node (full n i c) p h = omega arith

pub complete : (text : List ℕ) (ns : List Node) → Document text ns → Within text ns → read_book text ≡ Ok (indexed ns)
complete text ns d w =
    let c : Content = d.row in
    let r : Room initial (nodes_at 0 0 c) = subst (Room initial) d.elements (record { few = omega (arith, w.few); names = w.names; shallow = w.shallow }) in
    let ran : runs initial 0 text ≡ Ok (after initial ns) =
    ap (runs initial 0) d.spelled ∙ single_runs c 0 d.lawful d.single r ∙ ap (λ l. Ok (after initial l)) (sym d.elements) in
    let some : 0 < length ns = subst (λ l. 0 < length l) (sym d.elements) (some_node c 0 d.single) in
    let ne : eqb (length (numbered [] ns)) 0 ≡ false = ne_eqb _ _ (λ e. absurd (omega (arith, numbered_length [] ns))) in
    book_is text w.short ∙ ap (λ x. and_then x (finished (length text))) ran ∙ cond-false _ _ _ ne
