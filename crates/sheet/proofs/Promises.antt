-- The laws of what writing, opening and a view answer.
use Rattle.std.proofs.Common.{◌≡◌, ℕ, ◌*◌, ◌<◌, Bool, true, false, cond, ltb, List, length, Ok, Err, Result, Some, None, sym, refl, ap, ◌∙◌, inl, inr, ⊎_elim, arith, lit<}
use Rattle.std.proofs.lemmas.Bool.{cases_order, lt-ltb, ltb-true, ltb-false}
use Rattle.markup.specs.declared.fault.Fault.{Fault}
use Rattle.markup.specs.declared.fault.Refusal.TheVariants.{SheetWontFit, HeaderField, ElementRecord, NameRecord}
use Rattle.markup.specs.Faults.{fault, and_then}
use Rattle.layout.specs.Layout.{element_count, element_offset, name_count, name_offset}
use Rattle.layout.specs.Lawful.{FirstNamed, RightHeader, RightElement}
use Rattle.layout.specs.Encoding.{sheet_of}
use Rattle.layout.proofs.Encoded.{few_elements, named_below, names_short, sheet_reads_back}
use Rattle.sheet.specs.Opening.{FirstWrong, Each, Sized, WrongLength, WrongHeader, WrongElement, WrongName, Refused}
use Rattle.sheet.specs.Laws.{LawfulTreesAreEncoded, EncodingsOpen, OpeningHasOneAnswer, FirstIfAny, ChainsFollowNames}
use Rattle.sheet.proofs.Fields.{fields_fit_lem}
use Rattle.sheet.proofs.Opening.{refused_unlawful}

pub lawful_trees_are_encoded : LawfulTreesAreEncoded
lawful_trees_are_encoded t law room =
    let es = t.elements in
    let ts = t.names in
    let fit = fields_fit_lem es ts (few_elements es ts law) law.few (named_below es ts law) (names_short es ts law) in
    ap (λ (r : Result (Unit {0}) Fault). and_then r (λ _. cond (ltb room (length (sheet_of t))) (Err (fault SheetWontFit (length (sheet_of t)))) (Ok (length (sheet_of t))))) fit

pub encodings_open : EncodingsOpen
encodings_open t law (Ok u) o = refl
encodings_open t law (Err f) o = absurd (refused_unlawful (sheet_of t) f o (sheet_reads_back t law).0)

-- There is one first wrong place.

module _ (P : ℕ → Type 0) (n i j : ℕ) (a : FirstWrong P n i) (b : FirstWrong P n j) where
  first_wrong_one : i ≡ j
  first_wrong_one =
      ⊎_elim (λ (e : i ≡ j). e)
      (⊎_elim (λ (h : i < j). absurd (a.here (b.before i h))) (λ (h : j < i). absurd (b.here (a.before j h))))
      (cases_order i j)

-- What is wrong first excludes what comes later.
module _ (bs : List ℕ) where
  length_or_sized : (f : Fault) → WrongLength bs f → Sized bs → ⊥
  length_or_sized f w s =
      let t = s.0 7 (lit< tt) in
      let z = s.1 in
      ⊎_elim (λ (q : length bs < 32). omega arith) (λ q. q.2 (omega arith)) w.1

  length-or-header : (f g : Fault) → WrongLength bs f → WrongHeader bs g → ⊥
  length-or-header f g w h =
      ⊎_elim (λ (q : length bs < 32). omega (arith, h.0)) (λ q. h.1.2.here (q.1 h.1.0 h.1.2.within)) w.1

  header_or_right : (f : Fault) → WrongHeader bs f → RightHeader bs → ⊥
  header_or_right f w h = w.1.2.here (h w.1.0 w.1.2.within)

  element_or_right : (f : Fault) → WrongElement bs f → Each (RightElement bs) (element_count bs) → ⊥
  element_or_right f w e = w.1.2.here (e w.1.0 w.1.2.within)

  one_header : (f g : Fault) → WrongHeader bs f → WrongHeader bs g → f ≡ g
  one_header f g v w =
      v.1.1 ∙ (ap (λ (i : ℕ). fault HeaderField (4 * i)) (first_wrong_one _ _ _ _ v.1.2 w.1.2) ∙ sym w.1.1)

  one_element : (f g : Fault) → WrongElement bs f → WrongElement bs g → f ≡ g
  one_element f g v w =
      v.1.1 ∙ (ap (λ (k : ℕ). fault ElementRecord (element_offset k)) (first_wrong_one _ _ _ _ v.1.2 w.1.2) ∙ sym w.1.1)

  one_name : (f g : Fault) → WrongName bs f → WrongName bs g → f ≡ g
  one_name f g v w =
      ⊎_elim
      (λ p. ⊎_elim
      (λ q. p.1 ∙ (ap (λ (j : ℕ). fault NameRecord (name_offset bs j)) (first_wrong_one _ _ _ _ p.2 q.2) ∙ sym q.1))
      (λ q. absurd (p.2.here (q.1 p.0 p.2.within))) w.2)
      (λ p. ⊎_elim
      (λ q. absurd (q.2.here (p.1 q.0 q.2.within)))
      (λ q. p.0 ∙ sym q.0) w.2)
      v.2

  one_refusal : (f g : Fault) → Refused bs f → Refused bs g → f ≡ g
  one_refusal f g (inl v) (inl w) = v.0 ∙ sym w.0
  one_refusal f g (inl v) (inr (inl w)) = absurd (length-or-header f g v w)
  one_refusal f g (inl v) (inr (inr (inl w))) = absurd (length_or_sized f v w.0)
  one_refusal f g (inl v) (inr (inr (inr w))) = absurd (length_or_sized f v w.0)
  one_refusal f g (inr (inl v)) (inl w) = absurd (length-or-header g f w v)
  one_refusal f g (inr (inl v)) (inr (inl w)) = one_header f g v w
  one_refusal f g (inr (inl v)) (inr (inr (inl w))) = absurd (header_or_right f v w.0.0)
  one_refusal f g (inr (inl v)) (inr (inr (inr w))) = absurd (header_or_right f v w.0.0)
  one_refusal f g (inr (inr (inl v))) (inl w) = absurd (length_or_sized g w v.0)
  one_refusal f g (inr (inr (inl v))) (inr (inl w)) = absurd (header_or_right g w v.0.0)
  one_refusal f g (inr (inr (inl v))) (inr (inr (inl w))) = one_element f g v w
  one_refusal f g (inr (inr (inl v))) (inr (inr (inr w))) = absurd (element_or_right f v w.1)
  one_refusal f g (inr (inr (inr v))) (inl w) = absurd (length_or_sized g w v.0)
  one_refusal f g (inr (inr (inr v))) (inr (inl w)) = absurd (header_or_right g w v.0.0)
  one_refusal f g (inr (inr (inr v))) (inr (inr (inl w))) = absurd (element_or_right g w v.1)
  one_refusal f g (inr (inr (inr v))) (inr (inr (inr w))) = one_name f g v w

pub opening_has_one_answer : OpeningHasOneAnswer
opening_has_one_answer bs (Ok u) (Ok v) a b = refl
opening_has_one_answer bs (Ok u) (Err g) a b = absurd (refused_unlawful bs g b a)
opening_has_one_answer bs (Err f) (Ok v) a b = absurd (refused_unlawful bs f a b)
opening_has_one_answer bs (Err f) (Err g) a b = ap Err (one_refusal bs f g a b)

-- What a view tells of a lawful sheet.

first_if_any : (bs : List ℕ) (x m i : ℕ) (b : Bool) → FirstNamed bs x m i → ltb i (element_count bs) ≡ b → FirstIfAny bs x m (cond b (Some i) None)
first_if_any bs x m i true f e = (ltb-true _ _ e, f)
first_if_any bs x m i false f e = let c : i ≡ element_count bs = omega (arith, ltb-false i (element_count bs) e, f.within) in rw c at f

pub chains_follow_names : ChainsFollowNames
chains_follow_names bs law = (
  λ k h.
      let e : ltb k (element_count bs) ≡ true = lt-ltb _ _ h in
      rw e (first_if_any bs _ _ _ _ (law.elements k h).numbers.next refl),
  λ j h.
      let e : ltb j (name_count bs) ≡ true = lt-ltb _ _ h in
      rw e (refl, ((law.names j h).has, (law.names j h).first)),
)
