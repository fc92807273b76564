-- Reading at the front of a text, tag by tag and byte by byte, with no bound on the items.
use Rattle.std.proofs.Common.{◌≡◌, ℕ, zero, suc, ◌+◌, ◌<◌, ◌≤◌, true, false, cond, not, eqb, ◌⊎◌, List, [], ◌∷◌, ◌++◌, length, take, drop, Ok, Err, Result, sym, refl, ap, ◌∙◌, subst, inl, inr, ⊎_elim, arith, length-append, length-drop, length-take}
use Rattle.std.proofs.Math.Dec.{eqb-suc-suc}
use Rattle.std.proofs.Math.Seq.{drop-append_seam}
use Rattle.std.specs.List.{prefix_len}
use Rattle.std.proofs.lemmas.List.Sums.{prefix_len-le-length}
use Rattle.std.proofs.lemmas.Bool.{cases_Bool, cond-true, cond-false, cond_both, ne_eqb}
use Rattle.markup.specs.declared.fault.Fault.{Fault}
use Rattle.markup.specs.declared.fault.Refusal.TheVariants.{Stray}
use Rattle.markup.specs.Faults.{fault, and_then}
use Rattle.markup.proofs.Granted.{Granted, then_same}
use Rattle.lexer.specs.Bytes.{text_byte, blank_byte}
use Rattle.lexer.specs.Item.{Item, Item.start, Item.end, Item.empty, Item.text, Tag, spelling}
use Rattle.lexer.specs.Lex.{item_at}
use Rattle.lexer.proofs.Fronts.{item_front, item_some}
use Rattle.lexer.proofs.Tags.{tag_at, tagged}
use Rattle.book.specs.Reading.{State, blanks_only, between, step, run}

-- a bound that is large enough does not matter
run_more : (k m : ℕ) (s : State) (p : ℕ) (bs : List ℕ) → length bs ≤ k → length bs ≤ m → run k s p bs ≡ run m s p bs
run_more zero zero s p bs h l = refl
run_more zero (suc m) s p [] h l = refl
run_more zero (suc m) s p (b ∷ bs) h l = absurd (omega arith)
run_more (suc k) zero s p [] h l = refl
run_more (suc k) zero s p (b ∷ bs) h l = absurd (omega arith)
run_more (suc k) (suc m) s p [] h l = refl
run_more (suc k) (suc m) s p (b ∷ bs) h l =
    then_same _ (item_at p (b ∷ bs)) _ _ (item_some p b bs)
    (λ i z. λ j. and_then (step s p i) (λ t. run_more k m t (p + length (spelling i)) (drop (length (spelling i)) (b ∷ bs)) (omega (arith, length-drop (length (spelling i)) (b ∷ bs))) (omega (arith, length-drop (length (spelling i)) (b ∷ bs))) j))

-- all items of a text that stands from p on
abbrev pub runs : State → ℕ → List ℕ → Result State Fault
runs s p bs = run (length bs) s p bs

runs_item : (s : State) (p b : ℕ) (bs : List ℕ) (i : Item) → item_at p (b ∷ bs) ≡ Ok i
    → runs s p (b ∷ bs) ≡ and_then (step s p i) (λ t. runs t (p + length (spelling i)) (drop (length (spelling i)) (b ∷ bs)))
runs_item s p b bs i e =
    let n : ℕ = length (spelling i) in
    let z : 0 < n = (item_front p b bs i e).some in
    ap (λ r. and_then r (λ i. and_then (step s p i) (λ t. run (length bs) t (p + length (spelling i)) (drop (length (spelling i)) (b ∷ bs))))) e
    ∙ (λ j. and_then (step s p i) (λ t. run_more (length bs) (length (drop n (b ∷ bs))) t (p + n) (drop n (b ∷ bs)) (omega (arith, length-drop n (b ∷ bs))) (omega arith) j))

pub runs_fault : (s : State) (p b : ℕ) (bs : List ℕ) (f : Fault) → item_at p (b ∷ bs) ≡ Err f → runs s p (b ∷ bs) ≡ Err f
runs_fault s p b bs f e =
    ap (λ r. and_then r (λ i. and_then (step s p i) (λ t. run (length bs) t (p + length (spelling i)) (drop (length (spelling i)) (b ∷ bs))))) e

-- an empty run alters nothing
between_empty : (s : State) (p : ℕ) → between s p [] ≡ Ok s
between_empty s p = cond_both (eqb (length s.opens) 0) (Ok s) (Ok s) (λ r. r ≡ Ok s) (λ _. refl) (λ _. refl)

module _ (s : State) (p : ℕ) where
  Front : List ℕ → ℕ → Result State Fault
  Front bs n = and_then (between s p (take n bs)) (λ t. runs t (p + n) (drop n bs))

  no_run : (bs : List ℕ) → Front bs 0 ≡ runs s p bs
  unfolding Front
  no_run bs = let z : p + 0 ≡ p = omega arith in ap (λ r. and_then r (λ t. runs t (p + 0) bs)) (between_empty s p) ∙ ap (λ q. runs s q bs) z

  -- a text run, which may be empty
  text_run : (bs : List ℕ) → runs s p bs ≡ Front bs (prefix_len text_byte bs)
  unfolding Front
  text_run [] = sym (no_run [])
  text_run (b ∷ bs) =
      ⊎_elim
      (λ (e : eqb b 60 ≡ true). sym (ap (Front (b ∷ bs)) (ap (λ x. cond (not x) (1 + prefix_len text_byte bs) 0) e) ∙ no_run (b ∷ bs)))
      (λ (e : eqb b 60 ≡ false).
      let k : ℕ = prefix_len text_byte (b ∷ bs) in
      let le = prefix_len-le-length text_byte (b ∷ bs) in
      let size : length (take k (b ∷ bs)) ≡ k = omega (arith, length-take k (b ∷ bs)) in
      runs_item s p b bs (text (take k (b ∷ bs))) (cond-false _ _ _ e)
      ∙ ap (λ n. and_then (between s p (take k (b ∷ bs))) (λ t. runs t (p + n) (drop n (b ∷ bs)))) size)
      (cases_Bool (eqb b 60))

-- within an element any byte of text may stand, and outside a blank
abbrev pub Calm : State → ℕ → Type 0
Calm s b = (eqb (length s.opens) 0 ≡ false) ⊎ (blank_byte b ≡ true)

blanks_byte : (p b : ℕ) (xs : List ℕ) → blank_byte b ≡ true → blanks_only p (b ∷ xs) ≡ blanks_only (p + 1) xs
blanks_byte p b xs h =
    let m : ℕ = prefix_len blank_byte xs in
    let z : prefix_len blank_byte (b ∷ xs) ≡ suc m = ap (λ x. cond x (1 + m) 0) h ∙ omega arith in
    let q : p + suc m ≡ p + 1 + m = omega arith in
    ap (λ k. cond (eqb k (suc (length xs))) (Ok tt) (Err (fault Stray (p + k)))) z
    ∙ (λ j. cond (eqb-suc-suc m (length xs) j) (Ok tt) (Err (fault Stray (q j))))

between_byte : (s : State) (p b : ℕ) (xs : List ℕ) → Calm s b → between s p (b ∷ xs) ≡ between s (p + 1) xs
between_byte s p b xs (inl h) = cond-false _ _ _ h ∙ sym (cond-false _ _ _ h)
between_byte s p b xs (inr h) = ap (λ r. cond (eqb (length s.opens) 0) (and_then r (λ _. Ok s)) (Ok s)) (blanks_byte p b xs h)

pub runs_byte : (s : State) (p b : ℕ) (bs : List ℕ) → text_byte b ≡ true → Calm s b → runs s p (b ∷ bs) ≡ runs s (p + 1) bs
unfolding Front
runs_byte s p b bs t h =
    let m : ℕ = prefix_len text_byte bs in
    let z : prefix_len text_byte (b ∷ bs) ≡ suc m = ap (λ x. cond x (1 + m) 0) t ∙ omega arith in
    let q : p + suc m ≡ p + 1 + m = omega arith in
    text_run s p (b ∷ bs) ∙ ap (Front s p (b ∷ bs)) z
    ∙ (λ j. and_then (between_byte s p b (take m bs) h j) (λ t. runs t (q j) (drop m bs)))
    ∙ sym (text_run s (p + 1) bs)

pub runs_stray : (s : State) (p b : ℕ) (bs : List ℕ) → text_byte b ≡ true → eqb (length s.opens) 0 ≡ true → blank_byte b ≡ false → runs s p (b ∷ bs) ≡ Err (fault Stray p)
unfolding Front
runs_stray s p b bs t h k =
    let m : ℕ = prefix_len text_byte bs in
    let z : prefix_len text_byte (b ∷ bs) ≡ suc m = ap (λ x. cond x (1 + m) 0) t ∙ omega arith in
    let y : prefix_len blank_byte (b ∷ take m bs) ≡ 0 = ap (λ x. cond x (1 + prefix_len blank_byte (take m bs)) 0) k in
    let ne : eqb (prefix_len blank_byte (b ∷ take m bs)) (suc (length (take m bs))) ≡ false = ne_eqb _ _ (λ e. omega arith) in
    let q : p + prefix_len blank_byte (b ∷ take m bs) ≡ p = omega arith in
    let bad : blanks_only p (b ∷ take m bs) ≡ Err (fault Stray (p + prefix_len blank_byte (b ∷ take m bs))) = cond-false _ _ _ ne in
    text_run s p (b ∷ bs) ∙ ap (Front s p (b ∷ bs)) z
    ∙ ap (λ r. and_then r (λ t. runs t (p + suc m) (drop m bs))) (cond-true (eqb (length s.opens) 0) _ (Ok s) h ∙ ap (λ (r : Result (Unit {0}) Fault). and_then r (λ _. Ok s)) bad)
    ∙ ap (λ k. Err (fault Stray k)) q

pub runs_tag : (s : State) (p : ℕ) (i : Item) (rest : List ℕ) → Tag i → runs s p (spelling i ++ rest) ≡ and_then (step s p i) (λ t. runs t (p + length (spelling i)) rest)
runs_tag s p (start n) rest l = runs_item s p 60 (n ++ 62 ∷ [] ++ rest) (start n) (tag_at p (start n) rest l) ∙ ap (λ r. and_then (step s p (start n)) (λ t. runs t (p + length (spelling (start n))) r)) (drop-append_seam (spelling (start n)) rest)
runs_tag s p (end n) rest l = runs_item s p 60 (47 ∷ n ++ 62 ∷ [] ++ rest) (end n) (tag_at p (end n) rest l) ∙ ap (λ r. and_then (step s p (end n)) (λ t. runs t (p + length (spelling (end n))) r)) (drop-append_seam (spelling (end n)) rest)
runs_tag s p (empty n) rest l = runs_item s p 60 (n ++ 47 ∷ 62 ∷ [] ++ rest) (empty n) (tag_at p (empty n) rest l) ∙ ap (λ r. and_then (step s p (empty n)) (λ t. runs t (p + length (spelling (empty n))) r)) (drop-append_seam (spelling (empty n)) rest)
runs_tag s p (text bs) rest l = absurd l

-- a text that begins with `<` begins with a lawful tag, or is refused
pub record FrontTag (s : State) (p : ℕ) (bs : List ℕ) : Type 0 where
  pub item : Item
  pub rest : List ℕ
  pub lawful : Tag item
  pub spelled : bs ≡ spelling item ++ rest
  pub shorter : length rest < length bs

pub front : (s : State) (p : ℕ) (bs : List ℕ) → FrontTag s p (60 ∷ bs) ⊎ ((f : Fault) × (item_at p (60 ∷ bs) ≡ Err f))
front s p bs = go (item_at p (60 ∷ bs)) refl
  where
    go : (r : Result Item Fault) → item_at p (60 ∷ bs) ≡ r → FrontTag s p (60 ∷ bs) ⊎ ((f : Fault) × (item_at p (60 ∷ bs) ≡ Err f))
    go (Ok i) e =
        let t = item_front p 60 bs i e in
        inl (record {
          item = i;
          rest = t.rest;
          lawful = (subst (Granted Tag) e (tagged p bs)).granted;
          spelled = t.spelled;
          shorter = omega (arith, t.some, ap (λ l. length l) t.spelled, length-append (spelling i) t.rest);
        })
    go (Err f) e = inr (f, e)
