-- What is refused is refused by the first item that is not allowed, and the other way round.
use Rattle.std.proofs.Common.{◌≡◌, ℕ, zero, suc, ◌+◌, ◌<◌, ◌≤◌, true, false, not, ◌&&◌, ◌||◌, eqb, leb, ◌⊎◌, List, [], ◌∷◌, ◌++◌, map, length, drop, Ok, Err, Result, sym, refl, ap, ◌∙◌, subst, inl, inr, ⊎_elim, true≢false, append_assoc, append-nil, arith, length-append, length-set}
use Rattle.std.proofs.Math.ListN.{length-map}
use Rattle.std.specs.Str.{bytes_eq}
use Rattle.std.proofs.lemmas.Slice.Eq.{bytes_eq-Decides}
use Rattle.std.proofs.lemmas.Bool.{cases_Bool, cond-true, cond-false, and_from, and_parts, or_cases, or_parts, not_from_false, eqb-true, eqb-false, eq-eqb, ne_eqb, leb-false, leb-true, lt-leb}
use Rattle.markup.specs.declared.fault.Fault.{Fault}
use Rattle.markup.specs.declared.fault.Refusal.TheVariants.{WrongEndTag, Unclosed, TopElement}
use Rattle.markup.specs.Faults.{fault, and_then}
use Rattle.markup.specs.Name.{LawfulName}
use Rattle.tree.specs.declared.element.Element.{Element}
use Rattle.lexer.specs.Bytes.{blank_byte, text_byte}
use Rattle.lexer.specs.Item.{Item, Item.start, Item.end, Item.empty, Item.text, Tag, spelling}
use Rattle.lexer.specs.BadTag.{BadTag}
use Rattle.lexer.proofs.Judging.{bad_tag, bad_refused}
use Rattle.book.specs.Document.{position, intern}
use Rattle.book.specs.Reading.{OpenElement, State, initial, allowed, entered, ended, opened, leaf, close, closed, finished, read_book}
use Rattle.book.specs.Refusing.{History, History.begin, History.byte, History.bare, History.opening, History.closing, written, opens_of, count_of, names_of, Innermost, Second, Deep, Many, Fit, Allowed, Unfit, Unfit.second, Unfit.deep, Unfit.many, Wrong, Wrong.outside, Wrong.bytes, Wrong.astray, Wrong.unfit, Wrong.missing, Wrong.unclosed, Stops, Refuses}
use Rattle.book.specs.Promises.{RefusedExactly}
use Rattle.book.proofs.Entering.{begun, enter_by}
use Rattle.book.proofs.Results.{err_same, ok_or_err}
use Rattle.book.proofs.Runs.{book_is, too_long}
use Rattle.book.proofs.Machine.{runs, Calm, runs_byte, runs_stray, runs_fault, runs_tag, FrontTag, front}

abbrev spot : OpenElement → ℕ × List ℕ
spot o = (o.element.start, o.name)

-- a state of the reader behind a history
record Matches (h : History) (s : State) : Type 0 where
  count : length s.elements ≡ count_of h
  names : s.names ≡ names_of h
  opens : map spot s.opens ≡ opens_of h

depth : (h : History) (s : State) → Matches h s → length s.opens ≡ length (opens_of h)
depth h s m = sym (length-map s.opens spot) ∙ ap (λ l. length l) m.opens

-- The tag of an element: it fits, or is refused by the first rule that it breaks.
module _ (h : History) (s : State) (m : Matches h s) (name : List ℕ) (l : LawfulName name) where
  p : ℕ
  p = length (written h)

  Entering : Type 0
  Entering = ((entered s (length (written h)) name ≡ Ok (begun s (length (written h)) name)) × Fit h name) ⊎ ((f : Fault) × (entered s (length (written h)) name ≡ Err f) × Unfit h name f)

  many_test : (leb 65535 (length s.elements) || leb 1024 (position s.names name)) ≡ true → Many h name
  many_test e =
      ⊎_elim (λ x. let y = leb-true 65535 (length s.elements) x in let z : 65535 ≤ count_of h = omega (arith, m.count) in inl z)
      (λ x. inr (subst (λ ns. 1024 ≤ position ns name) m.names (leb-true 1024 (position s.names name) x)))
      (or_cases _ _ e)

  few_test : (leb 65535 (length s.elements) || leb 1024 (position s.names name)) ≡ false → Many h name → ⊥
  few_test e (inl x) = let d = or_parts (leb 65535 (length s.elements)) (leb 1024 (position s.names name)) e in let y = leb-false 65535 (length s.elements) d.0 in omega (arith, m.count)
  few_test e (inr x) =
      let d = or_parts (leb 65535 (length s.elements)) (leb 1024 (position s.names name)) e in
      let y = leb-false 1024 (position s.names name) d.1 in
      let w : 1024 ≤ position s.names name = subst (λ ns. 1024 ≤ position ns name) (sym m.names) x in omega arith

  second_test : (eqb (length s.opens) 0 && not (eqb (length s.elements) 0)) ≡ true → Second h
  second_test e =
      let d = and_parts (eqb (length s.opens) 0) (not (eqb (length s.elements) 0)) e in
      let x = eqb-true (length s.opens) 0 d.0 in
      let ne : eqb (length s.elements) 0 ≡ false = ⊎_elim (λ (t : eqb (length s.elements) 0 ≡ true). absurd (true≢false (sym d.1 ∙ ap not t))) (λ t. t) (cases_Bool (eqb (length s.elements) 0)) in
      let y = eqb-false (length s.elements) 0 ne in
      (omega (arith, depth h s m), omega (arith, m.count))

  first_test : (eqb (length s.opens) 0 && not (eqb (length s.elements) 0)) ≡ false → Second h → ⊥
  first_test e x =
      let a : eqb (length s.opens) 0 ≡ true = eq-eqb _ _ (depth h s m ∙ x.0) in
      let b : eqb (length s.elements) 0 ≡ false = ne_eqb _ _ (λ q. omega (arith, m.count, x.1)) in
      true≢false (sym (and_from _ _ a (not_from_false _ b)) ∙ e)

  by : {r : Result (Unit {0}) Fault} → allowed (length s.opens) (length s.elements) (position s.names name) (length (written h)) ≡ r
      → entered s (length (written h)) name ≡ and_then r (λ _. Ok (begun s (length (written h)) name))
  by {r} e = enter_by (length s.opens) (length s.elements) (length (written h)) s.names name r e

  entering_cases : Entering
  unfolding Entering
  entering_cases =
      ⊎_elim (λ (a : (eqb (length s.opens) 0 && not (eqb (length s.elements) 0)) ≡ true). inr (_, by (cond-true _ _ _ a), second (second_test a) refl))
      (λ (a : (eqb (length s.opens) 0 && not (eqb (length s.elements) 0)) ≡ false).
      ⊎_elim (λ (b : leb 64 (length s.opens) ≡ true).
      let x = leb-true 64 (length s.opens) b in
      let y : Deep h = omega (arith, depth h s m) in
      inr (_, by (cond-false _ _ _ a ∙ cond-true _ _ _ b), deep (first_test a) y refl))
      (λ (b : leb 64 (length s.opens) ≡ false).
      let x = leb-false 64 (length s.opens) b in
      let y : Deep h → ⊥ = λ w. omega (arith, depth h s m) in
      ⊎_elim (λ (c : (leb 65535 (length s.elements) || leb 1024 (position s.names name)) ≡ true).
      inr (_, by (cond-false _ _ _ a ∙ cond-false _ _ _ b ∙ cond-true _ _ _ c), many (first_test a) y (many_test c) refl))
      (λ (c : (leb 65535 (length s.elements) || leb 1024 (position s.names name)) ≡ false).
      inl (by (cond-false _ _ _ a ∙ cond-false _ _ _ b ∙ cond-false _ _ _ c), record { lawful = l; first = first_test a; shallow = y; few = few_test c }))
      (cases_Bool (leb 65535 (length s.elements) || leb 1024 (position s.names name))))
      (cases_Bool (leb 64 (length s.opens))))
      (cases_Bool (eqb (length s.opens) 0 && not (eqb (length s.elements) 0)))

  matches_opening : Matches (opening h name) (opened s name (begun s (length (written h)) name))
  matches_opening =
      let e : Element = begun s (length (written h)) name in
      record {
        count = omega (arith, length-append s.elements (e ∷ []), m.count);
        names = ap (λ ns. intern ns name) m.names;
        opens = ap (λ os. (length (written h), name) ∷ os) m.opens;
      }

  matches_bare : Matches (bare h name) (leaf s (length (written h)) name (begun s (length (written h)) name))
  matches_bare =
      let e : Element = ended (begun s (length (written h)) name) (length (written h) + 1 + length name) in
      record {
        count = omega (arith, length-append s.elements (e ∷ []), m.count);
        names = ap (λ ns. intern ns name) m.names;
        opens = m.opens;
      }

-- An end tag: it closes the innermost, or is refused.
Closing : History → State → List ℕ → Type 0
Closing h s name =
    ((t : State) × (close s s.opens (length (written h)) name ≡ Ok t) × Innermost (opens_of h) name × Matches (closing h name) t)
    ⊎ ((close s s.opens (length (written h)) name ≡ Err (fault WrongEndTag (length (written h)))) × (Innermost (opens_of h) name → ⊥))

closing_cases : (h : History) (es : List Element) (ns : List (List ℕ)) (os : List OpenElement) (name : List ℕ) → Matches h (record { elements = es; names = ns; opens = os })
    → Closing h (record { elements = es; names = ns; opens = os }) name
unfolding Closing
closing_cases h es ns [] name m = inr (refl, λ x. subst (λ l. Innermost l name) (sym m.opens) x)
closing_cases h es ns (o ∷ os) name m =
    let p : ℕ = length (written h) in
    ⊎_elim
    (λ (q : bytes_eq o.name name ≡ true).
    inl (
      _,
      cond-true _ _ _ q,
      subst (λ l. Innermost l name) m.opens ((bytes_eq-Decides o.name name).0 q),
      record { count = length-set es o.number (ended o.element p) ∙ m.count; names = m.names; opens = ap (drop 1) m.opens },
    ))
    (λ (q : bytes_eq o.name name ≡ false).
    inr (cond-false _ _ _ q, λ x. true≢false (sym ((bytes_eq-Decides o.name name).1 (subst (λ l. Innermost l name) (sym m.opens) x)) ∙ q)))
    (cases_Bool (bytes_eq o.name name))

-- The end of the text.
closed_wrong : (h : History) (s : State) (os : List OpenElement) (b : Fault) → map spot os ≡ opens_of h → 0 < count_of h → closed s os ≡ Err b → Wrong h [] b
closed_wrong h s [] b m c e = absurd (ok_or_err _ b (sym e))
closed_wrong h s (o ∷ os) b m c e = unclosed (spot o) (map spot os) refl c (sym m) (sym (err_same _ b e))

module _ (whole : List ℕ) (f : Fault) where
  -- what is left to read from a state is refused
  Fails : State → ℕ → List ℕ → Type 0
  Fails s p rest = and_then (runs s p rest) (finished (length whole)) ≡ Err f

  stop : (h : History) (rest : List ℕ) → Allowed h → whole ≡ written h ++ rest → Wrong h rest f → Stops whole f
  stop h rest a c w = record { read = h; rest = rest; allowed = a; cut = c; wrong = w }

  at_end : (h : History) (s : State) → Allowed h → Matches h s → whole ≡ written h ++ [] → Fails s (length (written h)) [] → Stops whole f
  unfolding Fails
  at_end h s a m c e =
      let long : length whole ≡ length (written h) = ap (λ l. length l) (c ∙ append-nil (written h)) in
      ⊎_elim
      (λ (z : eqb (length s.elements) 0 ≡ true).
      stop h [] a c (missing refl (sym m.count ∙ eqb-true _ _ z) (sym (err_same _ f (sym (cond-true _ _ _ z) ∙ e)) ∙ ap (fault TopElement) long)))
      (λ (z : eqb (length s.elements) 0 ≡ false).
      let ne = eqb-false (length s.elements) 0 z in
      stop h [] a c (closed_wrong h s s.opens f m.opens (omega (arith, m.count)) (sym (cond-false _ _ _ z) ∙ e)))
      (cases_Bool (eqb (length s.elements) 0))

  GoesOn : ℕ → Type 0
  GoesOn k = (h : History) (s : State) (rest : List ℕ) → length rest ≤ k → Allowed h → Matches h s → whole ≡ written h ++ rest → Fails s (length (written h)) rest → Stops whole f

  module _ (k : ℕ) (ih : GoesOn k) (h : History) (s : State) (a : Allowed h) (m : Matches h s) where
    -- one item more
    next : (g : History) (t : State) (item rest : List ℕ) → length rest ≤ k → Allowed g → Matches g t → written g ≡ written h ++ item → whole ≡ written h ++ (item ++ rest)
        → Fails t (length (written h) + length item) rest → Stops whole f
    unfolding GoesOn Fails
    next g t item rest len b n w c e =
        let z : length (written h) + length item ≡ length (written g) = sym (ap (λ l. length l) w ∙ length-append (written h) item) in
        ih g t rest len b n (c ∙ sym (append_assoc (written h) item rest) ∙ ap (λ l. l ++ rest) (sym w)) (subst (λ q. Fails t q rest) z e)

    tags : (i : Item) (rest : List ℕ) → Tag i → length rest ≤ k → whole ≡ written h ++ (spelling i ++ rest) → Fails s (length (written h)) (spelling i ++ rest) → Stops whole f
    unfolding Fails Entering Closing
    tags (start n) rest l len c e =
        let p : ℕ = length (written h) in
        let r = sym (ap (λ x. and_then x (finished (length whole))) (runs_tag s p (start n) rest l)) ∙ e in
        ⊎_elim
        (λ o. next (opening h n) (opened s n (begun s p n)) (spelling (start n)) rest len (a, o.1) (matches_opening h s m n l) refl c
        (sym (ap (λ x. and_then (and_then (and_then x (λ e. Ok (opened s n e))) (λ t. runs t (p + length (spelling (start n))) rest)) (finished (length whole))) o.0) ∙ r))
        (λ o. stop h (spelling (start n) ++ rest) a c (unfit n rest l (inl refl)
        (subst (Unfit h n) (err_same o.0 f (sym (ap (λ x. and_then (and_then (and_then x (λ e. Ok (opened s n e))) (λ t. runs t (p + length (spelling (start n))) rest)) (finished (length whole))) o.1) ∙ r)) o.2)))
        (entering_cases h s m n l)
    tags (empty n) rest l len c e =
        let p : ℕ = length (written h) in
        let r = sym (ap (λ x. and_then x (finished (length whole))) (runs_tag s p (empty n) rest l)) ∙ e in
        ⊎_elim
        (λ o. next (bare h n) (leaf s p n (begun s p n)) (spelling (empty n)) rest len (a, o.1) (matches_bare h s m n l) refl c
        (sym (ap (λ x. and_then (and_then (and_then x (λ e. Ok (leaf s p n e))) (λ t. runs t (p + length (spelling (empty n))) rest)) (finished (length whole))) o.0) ∙ r))
        (λ o. stop h (spelling (empty n) ++ rest) a c (unfit n rest l (inr refl)
        (subst (Unfit h n) (err_same o.0 f (sym (ap (λ x. and_then (and_then (and_then x (λ e. Ok (leaf s p n e))) (λ t. runs t (p + length (spelling (empty n))) rest)) (finished (length whole))) o.1) ∙ r)) o.2)))
        (entering_cases h s m n l)
    tags (end n) rest l len c e =
        let p : ℕ = length (written h) in
        let r = sym (ap (λ x. and_then x (finished (length whole))) (runs_tag s p (end n) rest l)) ∙ e in
        ⊎_elim
        (λ o. next (closing h n) o.0 (spelling (end n)) rest len (a, l, o.2) o.3 refl c
        (sym (ap (λ x. and_then (and_then x (λ t. runs t (p + length (spelling (end n))) rest)) (finished (length whole))) o.1) ∙ r))
        (λ o. stop h (spelling (end n) ++ rest) a c (astray n rest l refl o.1
        (sym (err_same _ f (sym (ap (λ x. and_then (and_then x (λ t. runs t (p + length (spelling (end n))) rest)) (finished (length whole))) o.0) ∙ r)))))
        (closing_cases h s.elements s.names s.opens n m)
    tags (text bs) rest l len c e = absurd l

    angles : (bs : List ℕ) → length bs ≤ k → whole ≡ written h ++ 60 ∷ bs → Fails s (length (written h)) (60 ∷ bs) → Stops whole f
    unfolding Fails
    angles bs len c e =
        let p : ℕ = length (written h) in
        ⊎_elim
        (λ (t : FrontTag s p (60 ∷ bs)).
        tags t.item t.rest t.lawful (omega (arith, t.shorter)) (c ∙ ap (λ l. written h ++ l) t.spelled) (ap (λ l. and_then (runs s p l) (finished (length whole))) (sym t.spelled) ∙ e))
        (λ x. stop h (60 ∷ bs) a c (bytes bs refl (bad_tag p bs f (x.1 ∙ ap Err (err_same x.0 f (sym (ap (λ r. and_then r (finished (length whole))) (runs_fault s p 60 bs x.0 x.1)) ∙ e))))))
        (front s p bs)

    texts : (b : ℕ) (bs : List ℕ) → eqb b 60 ≡ false → length bs ≤ k → whole ≡ written h ++ b ∷ bs → Fails s (length (written h)) (b ∷ bs) → Stops whole f
    unfolding Fails
    texts b bs x len c e =
        let p : ℕ = length (written h) in
        let tb : text_byte b ≡ true = ap not x in
        let go : Calm s b → ((0 < length (opens_of h)) ⊎ (blank_byte b ≡ true)) → Stops whole f =
        λ calm ok. next (byte h b) s (b ∷ []) bs len (a, tb, ok) (record { count = m.count; names = m.names; opens = m.opens }) refl c
        (ap (λ r. and_then r (finished (length whole))) (sym (runs_byte s p b bs tb calm)) ∙ e) in
        ⊎_elim
        (λ (o : eqb (length s.opens) 0 ≡ true).
        ⊎_elim (λ (w : blank_byte b ≡ true). go (inr w) (inr w))
        (λ (w : blank_byte b ≡ false).
        stop h (b ∷ bs) a c (outside b bs refl tb w (sym (depth h s m) ∙ eqb-true _ _ o)
        (sym (err_same _ f (sym (ap (λ r. and_then r (finished (length whole))) (runs_stray s p b bs tb o w)) ∙ e)))))
        (cases_Bool (blank_byte b)))
        (λ (o : eqb (length s.opens) 0 ≡ false).
        let ne = eqb-false (length s.opens) 0 o in
        let lt : 0 < length (opens_of h) = omega (arith, depth h s m) in go (inl o) (inl lt))
        (cases_Bool (eqb (length s.opens) 0))

  goes_on : (k : ℕ) → GoesOn k
  unfolding GoesOn
  goes_on zero h s [] len a m c e = at_end h s a m c e
  goes_on zero h s (b ∷ bs) len a m c e = absurd (omega arith)
  goes_on (suc k) h s [] len a m c e = at_end h s a m c e
  goes_on (suc k) h s (b ∷ bs) len a m c e =
      ⊎_elim
      (λ (x : eqb b 60 ≡ true).
      let z : b ≡ 60 = eqb-true b 60 x in
      angles k (goes_on k) h s a m bs (omega arith) (c ∙ ap (λ y. written h ++ y ∷ bs) z) (subst (λ y. Fails s (length (written h)) (y ∷ bs)) z e))
      (λ (x : eqb b 60 ≡ false). texts k (goes_on k) h s a m b bs x (omega arith) c e)
      (cases_Bool (eqb b 60))

pub stops : (text : List ℕ) (f : Fault) → read_book text ≡ Err f → Refuses text f
unfolding Fails GoesOn
stops bs f e =
    ⊎_elim
    (λ (z : leb (length bs) 16777216 ≡ true).
    let m : Matches begin initial = record { count = refl; names = refl; opens = refl } in
    inr (leb-true _ _ z, goes_on bs f (length bs) begin initial bs (omega arith) tt m refl (sym (book_is bs (leb-true _ _ z)) ∙ e)))
    (λ (z : leb (length bs) 16777216 ≡ false).
    let lt = leb-false (length bs) 16777216 z in
    inl (omega arith, sym (err_same _ f (sym (too_long bs _ (cond-false _ _ _ z)) ∙ e))))
    (cases_Bool (leb (length bs) 16777216))

-- The other way round.

fit_not_unfit : (h : History) (name : List ℕ) (f : Fault) → Fit h name → Unfit h name f → ⊥
fit_not_unfit h name f x (second a e) = x.first a
fit_not_unfit h name f x (deep a b e) = x.shallow b
fit_not_unfit h name f x (many a b c e) = x.few c

unfit_same : (h : History) (name : List ℕ) (f g : Fault) → Unfit h name f → Unfit h name g → f ≡ g
unfit_same h name f g (second a e) (second x y) = e ∙ sym y
unfit_same h name f g (second a e) (deep x y z) = absurd (x a)
unfit_same h name f g (second a e) (many x y z w) = absurd (x a)
unfit_same h name f g (deep a b e) (second x y) = absurd (a x)
unfit_same h name f g (deep a b e) (deep x y z) = e ∙ sym z
unfit_same h name f g (deep a b e) (many x y z w) = absurd (y b)
unfit_same h name f g (many a b c e) (second x y) = absurd (a x)
unfit_same h name f g (many a b c e) (deep x y z) = absurd (b y)
unfit_same h name f g (many a b c e) (many x y z w) = e ∙ sym w

-- the state behind what was allowed
record Reached (h : History) : Type 0 where
  state : State
  matches : Matches h state
  comes : (rest : List ℕ) → runs initial 0 (written h ++ rest) ≡ runs state (length (written h)) rest

-- one item more
reach : (h g : History) (r : Reached h) (t : State) (item : List ℕ) → written g ≡ written h ++ item → Matches g t
    → ((rest : List ℕ) → runs r.state (length (written h)) (item ++ rest) ≡ runs t (length (written h) + length item) rest) → Reached g
reach h g r t item w m e = record {
  state = t;
  matches = m;
  comes = λ rest.
      let z : length (written h) + length item ≡ length (written g) = sym (ap (λ l. length l) w ∙ length-append (written h) item) in
      ap (λ l. runs initial 0 (l ++ rest)) w ∙ ap (runs initial 0) (append_assoc (written h) item rest) ∙ r.comes (item ++ rest) ∙ e rest ∙ ap (λ q. runs t q rest) z;
}

reached : (h : History) → Allowed h → Reached h
unfolding Entering Closing
reached begin a = record { state = initial; matches = record { count = refl; names = refl; opens = refl }; comes = λ rest. refl }
reached (byte h b) a =
    let r = reached h a.0 in
    let s : State = r.state in
    let m = r.matches in
    let calm : Calm s b = ⊎_elim (λ (l : 0 < length (opens_of h)). inl (ne_eqb (length s.opens) 0 (λ q. omega (arith, depth h s m)))) (λ (w : blank_byte b ≡ true). inr w) a.2 in
    reach h (byte h b) r s (b ∷ []) refl (record { count = m.count; names = m.names; opens = m.opens }) (λ rest. runs_byte s (length (written h)) b rest a.1 calm)
reached (bare h n) a =
    let r = reached h a.0 in
    let s : State = r.state in
    let p : ℕ = length (written h) in
    let l = a.1.lawful in
    ⊎_elim
    (λ o. reach h (bare h n) r (leaf s p n (begun s p n)) (spelling (empty n)) refl (matches_bare h s r.matches n l)
    (λ rest. runs_tag s p (empty n) rest l ∙ ap (λ x. and_then (and_then x (λ e. Ok (leaf s p n e))) (λ t. runs t (p + length (spelling (empty n))) rest)) o.0))
    (λ o. absurd (fit_not_unfit h n o.0 a.1 o.2))
    (entering_cases h s r.matches n l)
reached (opening h n) a =
    let r = reached h a.0 in
    let s : State = r.state in
    let p : ℕ = length (written h) in
    let l = a.1.lawful in
    ⊎_elim
    (λ o. reach h (opening h n) r (opened s n (begun s p n)) (spelling (start n)) refl (matches_opening h s r.matches n l)
    (λ rest. runs_tag s p (start n) rest l ∙ ap (λ x. and_then (and_then x (λ e. Ok (opened s n e))) (λ t. runs t (p + length (spelling (start n))) rest)) o.0))
    (λ o. absurd (fit_not_unfit h n o.0 a.1 o.2))
    (entering_cases h s r.matches n l)
reached (closing h n) a =
    let r = reached h a.0 in
    let s : State = r.state in
    let p : ℕ = length (written h) in
    ⊎_elim
    (λ o. reach h (closing h n) r o.0 (spelling (end n)) refl o.3
    (λ rest. runs_tag s p (end n) rest a.1 ∙ ap (λ x. and_then x (λ t. runs t (p + length (spelling (end n))) rest)) o.1))
    (λ o. absurd (o.1 a.2))
    (closing_cases h s.elements s.names s.opens n r.matches)

module _ (h : History) (s : State) (m : Matches h s) (n : ℕ) where
  Ends : List ℕ → Fault → Type 0
  Ends rest f = and_then (runs s (length (written h)) rest) (finished n) ≡ Err f

  unclosed_ends : (os : List OpenElement) (o : ℕ × List ℕ) (ps : List (ℕ × List ℕ)) → map spot os ≡ o ∷ ps → closed s os ≡ Err (fault Unclosed o.0)
  unclosed_ends [] o ps e = let z : 0 ≡ suc (length ps) = ap (λ l. length l) e in absurd (omega arith)
  unclosed_ends (x ∷ xs) o ps e = let z : spot x ≡ o = cc in ap (λ y. Err (fault Unclosed y.0)) z

  unfit_ends : (name more rest : List ℕ) (f : Fault) → LawfulName name → (rest ≡ spelling (start name) ++ more) ⊎ (rest ≡ spelling (empty name) ++ more) → Unfit h name f → Ends rest f
  unfolding Ends Entering
  unfit_ends name more rest f l (inl e) u =
      let p : ℕ = length (written h) in
      ⊎_elim (λ o. absurd (fit_not_unfit h name f o.1 u))
      (λ o. ap (λ r. and_then (runs s p r) (finished n)) e ∙ ap (λ x. and_then x (finished n)) (runs_tag s p (start name) more l)
      ∙ ap (λ x. and_then (and_then (and_then x (λ e. Ok (opened s name e))) (λ t. runs t (p + length (spelling (start name))) more)) (finished n)) o.1
      ∙ ap Err (unfit_same h name o.0 f o.2 u))
      (entering_cases h s m name l)
  unfit_ends name more rest f l (inr e) u =
      let p : ℕ = length (written h) in
      ⊎_elim (λ o. absurd (fit_not_unfit h name f o.1 u))
      (λ o. ap (λ r. and_then (runs s p r) (finished n)) e ∙ ap (λ x. and_then x (finished n)) (runs_tag s p (empty name) more l)
      ∙ ap (λ x. and_then (and_then (and_then x (λ e. Ok (leaf s p name e))) (λ t. runs t (p + length (spelling (empty name))) more)) (finished n)) o.1
      ∙ ap Err (unfit_same h name o.0 f o.2 u))
      (entering_cases h s m name l)

  wrong_ends : (rest : List ℕ) (f : Fault) → n ≡ length (written h ++ rest) → Wrong h rest f → Ends rest f
  unfolding Ends Closing
  wrong_ends rest f len (outside b more e tb w o is) =
      ap (λ r. and_then (runs s (length (written h)) r) (finished n)) e
      ∙ ap (λ x. and_then x (finished n)) (runs_stray s (length (written h)) b more tb (eq-eqb _ _ (depth h s m ∙ o)) w) ∙ ap Err (sym is)
  wrong_ends rest f len (bytes more e x) =
      ap (λ r. and_then (runs s (length (written h)) r) (finished n)) e
      ∙ ap (λ x. and_then x (finished n)) (runs_fault s (length (written h)) 60 more f (bad_refused (length (written h)) more f (subst (λ l. BadTag l (length (written h)) f) e x)))
  wrong_ends rest f len (astray name more l e ne is) =
      let p : ℕ = length (written h) in
      ⊎_elim (λ o. absurd (ne o.2))
      (λ o. ap (λ r. and_then (runs s p r) (finished n)) e ∙ ap (λ x. and_then x (finished n)) (runs_tag s p (end name) more l)
      ∙ ap (λ x. and_then (and_then x (λ t. runs t (p + length (spelling (end name))) more)) (finished n)) o.0 ∙ ap Err (sym is))
      (closing_cases h s.elements s.names s.opens name m)
  wrong_ends rest f len (unfit name more l e u) = unfit_ends name more rest f l e u
  wrong_ends rest f len (missing e c is) =
      let long : n ≡ length (written h) = len ∙ ap (λ r. length (written h ++ r)) e ∙ ap (λ l. length l) (append-nil (written h)) in
      ap (λ r. and_then (runs s (length (written h)) r) (finished n)) e ∙ cond-true _ _ _ (eq-eqb _ _ (m.count ∙ c)) ∙ ap (λ q. Err (fault TopElement q)) long ∙ ap Err (sym is)
  wrong_ends rest f len (unclosed o os e c x is) =
      let ne : eqb (length s.elements) 0 ≡ false = ne_eqb _ _ (λ q. omega (arith, m.count)) in
      ap (λ r. and_then (runs s (length (written h)) r) (finished n)) e ∙ cond-false _ _ _ ne ∙ unclosed_ends s.opens o os (m.opens ∙ x) ∙ ap Err (sym is)

refused : (bs : List ℕ) (f : Fault) → Refuses bs f → read_book bs ≡ Err f
unfolding Ends
refused bs f (inl h) = too_long bs _ (cond-false _ _ _ (lt-leb _ _ h.0)) ∙ ap Err (sym h.1)
refused bs f (inr h) =
    let x = h.1 in
    let r = reached x.read x.allowed in
    book_is bs h.0
    ∙ ap (λ y. and_then y (finished (length bs))) (ap (runs initial 0) x.cut ∙ r.comes x.rest)
    ∙ wrong_ends x.read r.state r.matches (length bs) x.rest f (ap (λ l. length l) x.cut) x.wrong

pub refused_exactly : RefusedExactly
refused_exactly bs f = (stops bs f, refused bs f)
