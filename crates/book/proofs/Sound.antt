-- What is granted is a book text within the limits, with its elements.
use Rattle.std.proofs.Common.{◌≡◌, ℕ, zero, suc, ◌+◌, ◌<◌, ◌≤◌, true, false, not, ◌&&◌, eqb, leb, ◌⊎◌, List, [], ◌∷◌, ◌++◌, length, set, Ok, sym, refl, ap, ◌∙◌, subst, inl, inr, ⊎_elim, true≢false, append_assoc, append-nil, arith, length-append, length-set}
use Rattle.std.proofs.Math.Seq.{set-append_seam, set-append_left}
use Rattle.std.specs.Str.{bytes_eq}
use Rattle.std.proofs.lemmas.Slice.Eq.{bytes_eq-Decides}
use Rattle.std.proofs.lemmas.Bool.{cases_Bool, cond-true, cond-false, eqb-true, eqb-false, leb-true}
use Rattle.markup.specs.Name.{LawfulName}
use Rattle.markup.proofs.Granted.{Granted, grant, chain}
use Rattle.tree.specs.declared.element.Element.{Element}
use Rattle.tree.specs.Tree.{Tree}
use Rattle.lexer.specs.Bytes.{blank_byte, text_byte}
use Rattle.lexer.specs.Item.{Item, Item.start, Item.end, Item.empty, Item.text, Tag, spelling}
use Rattle.book.specs.Document.{Content, Content.none, Content.byte, Content.bare, Content.full, spell, Lawful, Blank, Single, Node, nodes_at, Document, position, intern, numbered, named, indexed, Shallow, Within}
use Rattle.book.specs.Reading.{OpenElement, State, initial, allowed, enter, ended, opened, leaf, close, closed, step, tree_of_state, finished, read_book}
use Rattle.book.proofs.Consistency.{Below, below_more}
use Rattle.book.proofs.Results.{ok_or_err, then_ok}
use Rattle.book.proofs.Entering.{Allowed, allowed_granted}
use Rattle.book.proofs.Machine.{runs, Calm, runs_byte, runs_stray, runs_fault, runs_tag, FrontTag, front}
use Rattle.book.proofs.Runs.{book_is, too_long}
use Rattle.book.proofs.Naming.{interned}
use Rattle.book.proofs.Numbering.{numbered_length}

-- What follows when these elements are open: a row up to each end tag, and the row outside.

abbrev Tail : List OpenElement → Type 0
Tail [] = Content
Tail (o ∷ os) = Content × Tail os

abbrev tail_text : (os : List OpenElement) → Tail os → List ℕ
tail_text [] c = spell c
tail_text (o ∷ os) t = spell t.0 ++ (spelling (end o.name) ++ tail_text os t.1)

abbrev tail_nodes : (os : List OpenElement) → ℕ → Tail os → List Node
tail_nodes [] p c = nodes_at p 0 c
tail_nodes (o ∷ os) p t = nodes_at p (suc (length os)) t.0 ++ tail_nodes os (p + length (spell t.0) + length (spelling (end o.name))) t.1

abbrev LawfulTail : (os : List OpenElement) → Tail os → Type 0
LawfulTail [] c = Lawful c
LawfulTail (o ∷ os) t = Lawful t.0 × LawfulTail os t.1

-- the row outside
abbrev outer : (os : List OpenElement) → Tail os → Content
outer [] c = c
outer (o ∷ os) t = outer os t.1

-- the elements, with the ends of the open ones
abbrev fill : List Element → (os : List OpenElement) → ℕ → Tail os → List Element
fill es [] p c = es
fill es (o ∷ os) p t = fill (set es o.number (ended o.element (p + length (spell t.0)))) os (p + length (spell t.0) + length (spelling (end o.name))) t.1

-- something put before the first row
abbrev over : (os : List OpenElement) → (Content → Content) → Tail os → Tail os
over [] f c = f c
over (o ∷ os) f t = (f t.0, t.1)

-- f puts this text with these elements before a row
record Prepends (f : Content → Content) (p level : ℕ) (pre : List ℕ) (ns : List Node) : Type 0 where
  text : (c : Content) → spell (f c) ≡ pre ++ spell c
  nodes : (c : Content) → nodes_at p level (f c) ≡ ns ++ nodes_at (p + length pre) level c

module _ (f : Content → Content) (p : ℕ) (pre : List ℕ) (ns : List Node) where
  over_text : (os : List OpenElement) (t : Tail os) → Prepends f p (length os) pre ns → tail_text os (over os f t) ≡ pre ++ tail_text os t
  over_text [] c h = h.text c
  over_text (o ∷ os) t h = ap (λ l. l ++ (spelling (end o.name) ++ tail_text os t.1)) (h.text t.0) ∙ append_assoc pre (spell t.0) (spelling (end o.name) ++ tail_text os t.1)

  place : (level : ℕ) (c : Content) → Prepends f p level pre ns → p + length (spell (f c)) ≡ p + length pre + length (spell c)
  place level c h = omega (arith, ap (λ l. length l) (h.text c), length-append pre (spell c))

  over_nodes : (os : List OpenElement) (t : Tail os) → Prepends f p (length os) pre ns → tail_nodes os p (over os f t) ≡ ns ++ tail_nodes os (p + length pre) t
  over_nodes [] c h = h.nodes c
  over_nodes (o ∷ os) t h =
      (λ i. h.nodes t.0 i ++ tail_nodes os (place (suc (length os)) t.0 h i + length (spelling (end o.name))) t.1)
      ∙ append_assoc ns (nodes_at (p + length pre) (suc (length os)) t.0) _

  over_fill : (es : List Element) (os : List OpenElement) (t : Tail os) → Prepends f p (length os) pre ns → fill es os p (over os f t) ≡ fill es os (p + length pre) t
  over_fill es [] c h = refl
  over_fill es (o ∷ os) t h =
      λ i. let q : ℕ = place (suc (length os)) t.0 h i in fill (set es o.number (ended o.element q)) os (q + length (spelling (end o.name))) t.1

byte_prepends : (b p level : ℕ) → Prepends (byte b) p level (b ∷ []) []
byte_prepends b p level = record { text = λ c. refl; nodes = λ c. refl }

bare_prepends : (name : List ℕ) (p level : ℕ) → Prepends (bare name) p level (spelling (empty name)) (record { start = p; end = p + 1 + length name; level = level; name = name } ∷ [])
bare_prepends name p level = record { text = λ c. refl; nodes = λ c. refl }

fill_push : (es : List Element) (y : Element) (os : List OpenElement) (p : ℕ) (t : Tail os) → Below (length es) os → fill (es ++ y ∷ []) os p t ≡ fill es os p t ++ y ∷ []
fill_push es y [] p t b = refl
fill_push es y (o ∷ os) p t b =
    let x : Element = ended o.element (p + length (spell t.0)) in
    let q : ℕ = p + length (spell t.0) + length (spelling (end o.name)) in
    ap (λ l. fill l os q t.1) (set-append_left es (y ∷ []) o.number x b.0)
    ∙ fill_push (set es o.number x) y os q t.1 (subst (λ n. Below n os) (sym (length-set es o.number x)) b.1)

-- The state of a run.
record Sane (s : State) : Type 0 where
  below : Below (length s.elements) s.opens
  few : length s.elements ≤ 65535
  names : length s.names ≤ 1024

-- what a run from s to t tells of the text
record Told (s : State) (p : ℕ) (bs : List ℕ) (t : State) : Type 0 where
  tail : Tail s.opens
  lawful : LawfulTail s.opens tail
  text : bs ≡ tail_text s.opens tail
  elements : t.elements ≡ fill s.elements s.opens p tail ++ numbered s.names (tail_nodes s.opens p tail)
  names : t.names ≡ named s.names (tail_nodes s.opens p tail)
  shallow : Shallow (tail_nodes s.opens p tail)
  blank : 0 < length s.elements → Blank (outer s.opens tail)
  single : length s.elements ≡ 0 → Single (outer s.opens tail)
  few : length t.elements ≤ 65535
  count : length t.names ≤ 1024

not_nil : (o : OpenElement) (os : List OpenElement) → o ∷ os ≡ [] → ⊥
not_nil o os e = let z : suc (length os) ≡ 0 = ap (λ l. length l) e in omega arith

-- the text has ended
ends : (es : List Element) (names : List (List ℕ)) (os : List OpenElement) (p : ℕ) → let s : State = record { elements = es; names = names; opens = os } in Sane s → os ≡ [] → 0 < length es → Told s p [] s
ends es names [] p h e some = record {
  tail = none;
  lawful = tt;
  text = refl;
  elements = sym (append-nil es);
  names = refl;
  shallow = tt;
  blank = λ _. tt;
  single = λ z. absurd (omega arith);
  few = h.few;
  count = h.names;
}
ends es names (o ∷ os) p h e some = absurd (not_nil o os e)

-- a byte of text
lawful_over : (os : List OpenElement) (f : Content → Content) (t : Tail os) → ((c : Content) → Lawful c → Lawful (f c)) → LawfulTail os t → LawfulTail os (over os f t)
lawful_over [] f t h l = h t l
lawful_over (o ∷ os) f t h l = (h t.0 l.0, l.1)

blank_byte_lem : (os : List OpenElement) (b : ℕ) (t : Tail os) → (eqb (length os) 0 ≡ false) ⊎ (blank_byte b ≡ true) → Blank (outer os t) → Blank (outer os (over os (byte b) t))
blank_byte_lem [] b t (inl h) k = absurd (true≢false h)
blank_byte_lem [] b t (inr h) k = (h, k)
blank_byte_lem (o ∷ os) b t h k = k

single_byte : (os : List OpenElement) (b : ℕ) (t : Tail os) → (eqb (length os) 0 ≡ false) ⊎ (blank_byte b ≡ true) → Single (outer os t) → Single (outer os (over os (byte b) t))
single_byte [] b t (inl h) k = absurd (true≢false h)
single_byte [] b t (inr h) k = (h, k)
single_byte (o ∷ os) b t h k = k

told_byte : (s : State) (p b : ℕ) (bs : List ℕ) (t : State) → text_byte b ≡ true → Calm s b → Told s (p + 1) bs t → Told s p (b ∷ bs) t
told_byte s p b bs t tb calm h =
    let os : List OpenElement = s.opens in
    let pre = byte_prepends b p (length os) in
    let n = over_nodes (byte b) p (b ∷ []) [] os h.tail pre in
    let f = over_fill (byte b) p (b ∷ []) [] s.elements os h.tail pre in
    record {
      tail = over os (byte b) h.tail;
      lawful = lawful_over os (byte b) h.tail (λ c l. (tb, l)) h.lawful;
      text = ap (λ l. b ∷ l) h.text ∙ sym (over_text (byte b) p (b ∷ []) [] os h.tail pre);
      elements = h.elements ∙ (λ i. sym f i ++ numbered s.names (sym n i));
      names = h.names ∙ ap (named s.names) (sym n);
      shallow = subst Shallow (sym n) h.shallow;
      blank = λ z. blank_byte_lem os b h.tail calm (h.blank z);
      single = λ z. single_byte os b h.tail calm (h.single z);
      few = h.few;
      count = h.count;
    }

-- An element begins.

abbrev begun : State → ℕ → List ℕ → Element
begun s p name = record { start = p; «end» = 0; level = length s.opens; name = position s.names name }

record Entered (s : State) (p : ℕ) (name : List ℕ) (e : Element) : Type 0 where
  allowed_here : Allowed (length s.opens) (length s.elements) (position s.names name)
  same : e ≡ begun s p name

entered_is : (s : State) (p : ℕ) (name : List ℕ) → Granted (Entered s p name) (enter (length s.opens) (length s.elements) s.names p name)
entered_is s p name =
    let opens : ℕ = length s.opens in
    let count : ℕ = length s.elements in
    let number : ℕ = position s.names name in
    chain _ (allowed opens count number p) (λ _. Ok (begun s p name)) (allowed_granted opens count number p) (λ _ a. grant _ (record { allowed_here = a; same = refl }))

entered_of : (s : State) (p : ℕ) (name : List ℕ) (e : Element) → enter (length s.opens) (length s.elements) s.names p name ≡ Ok e → Entered s p name e
entered_of s p name e h = (subst (Granted (Entered s p name)) h (entered_is s p name)).granted

-- the names stay few
few_names : (names : List (List ℕ)) (name : List ℕ) → length names ≤ 1024 → position names name < 1024 → length (intern names name) ≤ 1024
few_names names name h k =
    ⊎_elim (λ q. subst (λ l. length l ≤ 1024) (sym q.1) h)
    (λ q. subst (λ l. length l ≤ 1024) (sym q.1) (omega (arith, length-append names (name ∷ []), q.0)))
    (interned names name)

module _ (s : State) (p : ℕ) (name : List ℕ) (h : Sane s) (e : Element) (n : Entered s p name e) (y : Element) where
  sane_opened : Sane (opened s name e)
  sane_opened =
      let l = length-append s.elements (e ∷ []) in
      let lt : length s.elements < length (s.elements ++ e ∷ []) = omega arith in
      record {
        below = (lt, below_more (length s.elements) (length (s.elements ++ e ∷ [])) s.opens (omega arith) h.below);
        few = omega (arith, n.allowed_here.few);
        names = few_names s.names name h.names n.allowed_here.names;
      }

  sane_leaf : Sane (leaf s p name e)
  sane_leaf =
      let l = length-append s.elements (ended e (p + 1 + length name) ∷ []) in
      record {
        below = below_more (length s.elements) _ s.opens (omega arith) h.below;
        few = omega (arith, n.allowed_here.few);
        names = few_names s.names name h.names n.allowed_here.names;
      }

-- only the first element stands outside
outer_element : (n : ℕ) (os : List OpenElement) (f : Content → Content) (t : Tail os) → ((c : Content) → Blank c → Single (f c)) → Below n os
    → (eqb (length os) 0 && not (eqb n 0)) ≡ false → Blank (outer os t) → (0 < n → Blank (outer os (over os f t))) × (n ≡ 0 → Single (outer os (over os f t)))
outer_element n [] f t one b free k =
    let z : n ≡ 0 = ⊎_elim (λ (e : eqb n 0 ≡ true). eqb-true n 0 e) (λ (e : eqb n 0 ≡ false). absurd (true≢false (sym (ap not e) ∙ free))) (cases_Bool (eqb n 0)) in
    (λ h. absurd (omega arith), λ _. one t k)
outer_element n (o ∷ os) f t one b free k = (λ _. k, λ z. absurd (omega (arith, b.0)))

told_bare : (s : State) (p : ℕ) (name rest : List ℕ) (t : State) → LawfulName name → Sane s → Entered s p name (begun s p name)
    → Told (leaf s p name (begun s p name)) (p + length (spelling (empty name))) rest t → Told s p (spelling (empty name) ++ rest) t
told_bare s p name rest t law sane en h =
    let os : List OpenElement = s.opens in
    let es : List Element = s.elements in
    let q : ℕ = p + length (spelling (empty name)) in
    let node : Node = record { start = p; end = p + 1 + length name; level = length os; name = name } in
    let y : Element = ended (begun s p name) (p + 1 + length name) in
    let pre = bare_prepends name p (length os) in
    let n = over_nodes (bare name) p (spelling (empty name)) (node ∷ []) os h.tail pre in
    let f = over_fill (bare name) p (spelling (empty name)) (node ∷ []) es os h.tail pre in
    let len = length-append es (y ∷ []) in
    let out = outer_element (length es) os (bare name) h.tail (λ c b. b) sane.below en.allowed_here.free (h.blank (omega arith)) in
    record {
      tail = over os (bare name) h.tail;
      lawful = lawful_over os (bare name) h.tail (λ c l. (law, l)) h.lawful;
      text = ap (λ l. spelling (empty name) ++ l) h.text ∙ sym (over_text (bare name) p (spelling (empty name)) (node ∷ []) os h.tail pre);
      elements =
          h.elements
          ∙ ap (λ l. l ++ numbered (intern s.names name) (tail_nodes os q h.tail)) (fill_push es y os q h.tail sane.below)
          ∙ append_assoc (fill es os q h.tail) (y ∷ []) (numbered (intern s.names name) (tail_nodes os q h.tail))
          ∙ (λ i. sym f i ++ numbered s.names (sym n i));
      names = h.names ∙ ap (named s.names) (sym n);
      shallow = subst Shallow (sym n) (en.allowed_here.level, h.shallow);
      blank = out.0;
      single = out.1;
      few = h.few;
      count = h.count;
    }

full_prepends : (name : List ℕ) (inner : Content) (p level : ℕ) →
    let from : ℕ = p + length (spelling (start name)) in
    Prepends (full name inner) p level (spelling (start name) ++ (spell inner ++ spelling (end name)))
    (record { start = p; end = from + length (spell inner); level = level; name = name } ∷ nodes_at from (suc level) inner)
full_prepends name inner p level =
    let from : ℕ = p + length (spelling (start name)) in
    let x = length-append (spelling (start name)) (spell inner ++ spelling (end name)) in
    let y = length-append (spell inner) (spelling (end name)) in
    let z : from + length (spell inner) + length (spelling (end name)) ≡ p + length (spelling (start name) ++ (spell inner ++ spelling (end name))) = omega arith in
    record {
      text = λ c. sym (append_assoc (spelling (start name)) (spell inner ++ spelling (end name)) (spell c) ∙ ap (λ l. spelling (start name) ++ l) (append_assoc (spell inner) (spelling (end name)) (spell c)));
      nodes = λ c. ap (λ q. record { start = p; end = from + length (spell inner); level = level; name = name } ∷ nodes_at from (suc level) inner ++ nodes_at q level c) z;
    }

told_full : (s : State) (p : ℕ) (name rest : List ℕ) (t : State) → LawfulName name → Sane s → Entered s p name (begun s p name)
    → Told (opened s name (begun s p name)) (p + length (spelling (start name))) rest t → Told s p (spelling (start name) ++ rest) t
told_full s p name rest t law sane en h =
    let os : List OpenElement = s.opens in
    let es : List Element = s.elements in
    let e : Element = begun s p name in
    let inner : Content = h.tail.0 in
    let more : Tail os = h.tail.1 in
    let from : ℕ = p + length (spelling (start name)) in
    let to : ℕ = from + length (spell inner) in
    let q : ℕ = to + length (spelling (end name)) in
    let spelt : List ℕ = spelling (start name) ++ (spell inner ++ spelling (end name)) in
    let is : List Node = nodes_at from (suc (length os)) inner in
    let ns : List Node = record { start = p; end = to; level = length os; name = name } ∷ is in
    let y : Element = ended e to in
    let pre = full_prepends name inner p (length os) in
    let a = length-append (spelling (start name)) (spell inner ++ spelling (end name)) in
    let b = length-append (spell inner) (spelling (end name)) in
    let z : p + length spelt ≡ q = omega arith in
    let n : tail_nodes os p (over os (full name inner) more) ≡ ns ++ tail_nodes os q more =
    over_nodes (full name inner) p spelt ns os more pre ∙ ap (λ k. ns ++ tail_nodes os k more) z in
    let f : fill es os p (over os (full name inner) more) ≡ fill es os q more =
    over_fill (full name inner) p spelt ns es os more pre ∙ ap (λ k. fill es os k more) z in
    let len = length-append es (e ∷ []) in
    let out = outer_element (length es) os (full name inner) more (λ c b. b) sane.below en.allowed_here.free (h.blank (omega arith)) in
    record {
      tail = over os (full name inner) more;
      lawful = lawful_over os (full name inner) more (λ c l. (law, h.lawful.0, l)) h.lawful.1;
      text =
          ap (λ l. spelling (start name) ++ l) (h.text ∙ sym (append_assoc (spell inner) (spelling (end name)) (tail_text os more)))
          ∙ sym (append_assoc (spelling (start name)) (spell inner ++ spelling (end name)) (tail_text os more))
          ∙ sym (over_text (full name inner) p spelt ns os more pre);
      elements =
          h.elements
          ∙ ap (λ l. fill l os q more ++ numbered (intern s.names name) (is ++ tail_nodes os q more)) (set-append_seam es e [] y)
          ∙ ap (λ l. l ++ numbered (intern s.names name) (is ++ tail_nodes os q more)) (fill_push es y os q more sane.below)
          ∙ append_assoc (fill es os q more) (y ∷ []) (numbered (intern s.names name) (is ++ tail_nodes os q more))
          ∙ (λ i. sym f i ++ numbered s.names (sym n i));
      names = h.names ∙ ap (named s.names) (sym n);
      shallow = subst Shallow (sym n) (en.allowed_here.level, h.shallow);
      blank = out.0;
      single = out.1;
      few = h.few;
      count = h.count;
    }

-- An element ends.

told_end : (es : List Element) (names : List (List ℕ)) (o : OpenElement) (os : List OpenElement) (p : ℕ) (rest : List ℕ) (t : State)
    → Told (record { elements = set es o.number (ended o.element p); names = names; opens = os }) (p + length (spelling (end o.name))) rest t
    → Told (record { elements = es; names = names; opens = o ∷ os }) p (spelling (end o.name) ++ rest) t
told_end es names o os p rest t h =
    let z : p ≡ p + 0 = omega arith in
    let k : ℕ = length (spelling (end o.name)) in
    let len = length-set es o.number (ended o.element p) in
    record {
      tail = (none, h.tail);
      lawful = (tt, h.lawful);
      text = ap (λ l. spelling (end o.name) ++ l) h.text;
      elements = h.elements ∙ (λ i. fill (set es o.number (ended o.element (z i))) os (z i + k) h.tail ++ numbered names (tail_nodes os (z i + k) h.tail));
      names = h.names ∙ ap (λ q. named names (tail_nodes os (q + k) h.tail)) z;
      shallow = subst (λ q. Shallow (tail_nodes os (q + k) h.tail)) z h.shallow;
      blank = λ l. h.blank (omega arith);
      single = λ l. h.single (omega arith);
      few = h.few;
      count = h.count;
    }

-- Whole runs.

module _ (t : State) (is-closed : t.opens ≡ []) (some : 0 < length t.elements) where
  Contains : ℕ → Type 0
  Contains k = (s : State) (p : ℕ) (bs : List ℕ) → length bs ≤ k → Sane s → runs s p bs ≡ Ok t → Told s p bs t

  closes : (k : ℕ) → Contains k → (es : List Element) (names : List (List ℕ)) (os : List OpenElement) (p : ℕ) (n rest : List ℕ) → length rest ≤ k
      → let s : State = record { elements = es; names = names; opens = os } in Sane s → (u : State) → close s os p n ≡ Ok u → runs u (p + length (spelling (end n))) rest ≡ Ok t → Told s p (spelling (end n) ++ rest) t
  unfolding Contains
  closes k ih es names [] p n rest l h u e r = absurd (ok_or_err u _ e)
  closes k ih es names (o ∷ os) p n rest l h u e r =
      ⊎_elim
      (λ (q : bytes_eq o.name n ≡ true).
      let v : State = record { elements = set es o.number (ended o.element p); names = names; opens = os } in
      let same : v ≡ u = let w : Ok v ≡ Ok u = sym (cond-true _ _ _ q) ∙ e in cc in
      let name : o.name ≡ n = (bytes_eq-Decides o.name n).0 q in
      let len = length-set es o.number (ended o.element p) in
      let sane : Sane v = record { below = subst (λ m. Below m os) (sym len) h.below.1; few = omega (arith, h.few); names = h.names } in
      subst (λ m. Told (record { elements = es; names = names; opens = o ∷ os }) p (spelling (end m) ++ rest) t) name
      (told_end es names o os p rest t
      (ih v (p + length (spelling (end o.name))) rest l sane ((λ i. runs (same i) (p + length (spelling (end (name i)))) rest) ∙ r))))
      (λ (q : bytes_eq o.name n ≡ false). absurd (ok_or_err u _ (sym (cond-false _ _ _ q) ∙ e)))
      (cases_Bool (bytes_eq o.name n))

  tags : (k : ℕ) → Contains k → (s : State) (p : ℕ) (i : Item) (rest : List ℕ) → Tag i → length rest ≤ k → Sane s → runs s p (spelling i ++ rest) ≡ Ok t → Told s p (spelling i ++ rest) t
  unfolding Contains
  tags k ih s p (start n) rest l len h r =
      let q : ℕ = p + length (spelling (start n)) in
      let x = then_ok (step s p (start n)) (λ t. runs t q rest) t (sym (runs_tag s p (start n) rest l) ∙ r) in
      let y = then_ok (enter (length s.opens) (length s.elements) s.names p n) (λ e. Ok (opened s n e)) x.0 x.1 in
      let en = entered_of s p n y.0 y.1 in
      let same : opened s n (begun s p n) ≡ x.0 = ap (opened s n) (sym en.same) ∙ (let w : Ok (opened s n y.0) ≡ Ok x.0 = y.2 in cc) in
      let en' : Entered s p n (begun s p n) = subst (Entered s p n) en.same en in
      told_full s p n rest t l h en' (ih (opened s n (begun s p n)) q rest len (sane_opened s p n h (begun s p n) en' (begun s p n)) (ap (λ u. runs u q rest) same ∙ x.2))
  tags k ih s p (empty n) rest l len h r =
      let q : ℕ = p + length (spelling (empty n)) in
      let x = then_ok (step s p (empty n)) (λ t. runs t q rest) t (sym (runs_tag s p (empty n) rest l) ∙ r) in
      let y = then_ok (enter (length s.opens) (length s.elements) s.names p n) (λ e. Ok (leaf s p n e)) x.0 x.1 in
      let en = entered_of s p n y.0 y.1 in
      let same : leaf s p n (begun s p n) ≡ x.0 = ap (leaf s p n) (sym en.same) ∙ (let w : Ok (leaf s p n y.0) ≡ Ok x.0 = y.2 in cc) in
      let en' : Entered s p n (begun s p n) = subst (Entered s p n) en.same en in
      told_bare s p n rest t l h en' (ih (leaf s p n (begun s p n)) q rest len (sane_leaf s p n h (begun s p n) en' (begun s p n)) (ap (λ u. runs u q rest) same ∙ x.2))
  tags k ih s p (end n) rest l len h r =
      let x = then_ok (step s p (end n)) (λ t. runs t (p + length (spelling (end n))) rest) t (sym (runs_tag s p (end n) rest l) ∙ r) in
      closes k ih s.elements s.names s.opens p n rest len h x.0 x.1 x.2
  tags k ih s p (text bs) rest l len h r = absurd l

  stops : (s : State) (p : ℕ) → Sane s → runs s p [] ≡ Ok t → Told s p [] t
  stops s p h r =
      let same : s ≡ t = cc in
      subst (Told s p []) same (ends s.elements s.names s.opens p h (ap (λ u. u.opens) same ∙ is-closed) (subst (λ u. 0 < length u.elements) (sym same) some))

  texts : (k : ℕ) → Contains k → (s : State) (p b : ℕ) (bs : List ℕ) → eqb b 60 ≡ false → length bs ≤ k → Sane s → runs s p (b ∷ bs) ≡ Ok t → Told s p (b ∷ bs) t
  unfolding Contains
  texts k ih s p b bs e len h r =
      let tb : text_byte b ≡ true = ap not e in
      let go : Calm s b → Told s p (b ∷ bs) t = λ calm. told_byte s p b bs t tb calm (ih s (p + 1) bs len h (sym (runs_byte s p b bs tb calm) ∙ r)) in
      ⊎_elim
      (λ (o : eqb (length s.opens) 0 ≡ true).
      ⊎_elim (λ (w : blank_byte b ≡ true). go (inr w))
      (λ (w : blank_byte b ≡ false). absurd (ok_or_err t _ (sym (runs_stray s p b bs tb o w) ∙ r))) (cases_Bool (blank_byte b)))
      (λ (o : eqb (length s.opens) 0 ≡ false). go (inl o))
      (cases_Bool (eqb (length s.opens) 0))

  angles : (k : ℕ) → Contains k → (s : State) (p : ℕ) (bs : List ℕ) → length bs ≤ k → Sane s → runs s p (60 ∷ bs) ≡ Ok t → Told s p (60 ∷ bs) t
  angles k ih s p bs len h r =
      ⊎_elim
      (λ (f : FrontTag s p (60 ∷ bs)).
      subst (λ l. Told s p l t) (sym f.spelled) (tags k ih s p f.item f.rest f.lawful (omega (arith, f.shorter)) h (ap (runs s p) (sym f.spelled) ∙ r)))
      (λ f. absurd (ok_or_err t f.0 (sym (runs_fault s p 60 bs f.0 f.1) ∙ r)))
      (front s p bs)

  contains : (k : ℕ) → Contains k
  unfolding Contains
  contains zero s p [] len h r = stops s p h r
  contains (suc k) s p [] len h r = stops s p h r
  contains zero s p (b ∷ bs) len h r = absurd (omega arith)
  contains (suc k) s p (b ∷ bs) len h r =
      ⊎_elim
      (λ (e : eqb b 60 ≡ true).
      let z : b ≡ 60 = eqb-true b 60 e in
      subst (λ x. Told s p (x ∷ bs) t) (sym z) (angles k (contains k) s p bs (omega arith) h (ap (λ x. runs s p (x ∷ bs)) (sym z) ∙ r)))
      (λ (e : eqb b 60 ≡ false). texts k (contains k) s p b bs e (omega arith) h r)
      (cases_Bool (eqb b 60))

-- The whole text.

closed_ok : (s : State) (os : List OpenElement) (b : Tree) → closed s os ≡ Ok b → (os ≡ []) × (tree_of_state s ≡ b)
closed_ok s [] b e = (refl, cc)
closed_ok s (o ∷ os) b e = absurd (ok_or_err b _ e)

finished_ok : (n : ℕ) (s : State) (b : Tree) → finished n s ≡ Ok b → (0 < length s.elements) × (s.opens ≡ []) × (tree_of_state s ≡ b)
finished_ok n s b e =
    ⊎_elim (λ (z : eqb (length s.elements) 0 ≡ true). absurd (ok_or_err b _ (sym (cond-true _ _ _ z) ∙ e)))
    (λ (z : eqb (length s.elements) 0 ≡ false).
    let ne = eqb-false _ _ z in
    let c = closed_ok s s.opens b (sym (cond-false _ _ _ z) ∙ e) in
    let lt : 0 < length s.elements = omega arith in
    (lt, c.0, c.1))
    (cases_Bool (eqb (length s.elements) 0))

pub sound : (bs : List ℕ) (b : Tree) → read_book bs ≡ Ok b → (ns : List Node) × Document bs ns × Within bs ns × (b ≡ indexed ns)
unfolding Contains
sound bs b e =
    ⊎_elim (λ (z : leb (length bs) 16777216 ≡ true).
    let x = then_ok (runs initial 0 bs) (finished (length bs)) b (sym (book_is bs (leb-true _ _ z)) ∙ e) in
    let t : State = x.0 in
    let f = finished_ok (length bs) t b x.2 in
    let s : Sane initial = record { below = tt; few = omega arith; names = omega arith } in
    let h : Told initial 0 bs t = contains t f.1 f.0 (length bs) initial 0 bs (omega arith) s x.1 in
    let ns : List Node = nodes_at 0 0 h.tail in
    let count : length (numbered [] ns) ≤ 65535 = subst (λ l. length l ≤ 65535) h.elements h.few in
    let few : length ns ≤ 65535 = omega (arith, numbered_length [] ns) in
    let names : length (named [] ns) ≤ 1024 = subst (λ l. length l ≤ 1024) h.names h.count in (
      ns,
      record { row = h.tail; lawful = h.lawful; single = h.single refl; spelled = h.text; elements = refl },
      record { short = leb-true _ _ z; shallow = h.shallow; few = few; names = names },
      sym f.2 ∙ (λ i. record { elements = h.elements i; names = h.names i }),
    ))
    (λ (z : leb (length bs) 16777216 ≡ false). absurd (ok_or_err b _ (sym (too_long bs _ (cond-false _ _ _ z)) ∙ e)))
    (cases_Bool (leb (length bs) 16777216))
