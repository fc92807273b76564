-- The reading of a text item by item, and what the reader's loop keeps.
use Rattle.std.proofs.Common.{◌≡◌, ℕ, zero, suc, ◌+◌, ◌-◌, ◌<◌, ◌≤◌, List, [], ◌∷◌, length, drop, Some, Ok, Err, sym, refl, ap, ◌∙◌, subst, arith, length-append, length-drop}
use Rattle.std.proofs.lemmas.List.{drop-drop}
use Rattle.std.proofs.lemmas.Bool.{cond-true, le-leb}
use Rattle.markup.specs.declared.fault.Fault.{Fault}
use Rattle.markup.specs.declared.fault.Error.{Error}
use Rattle.markup.specs.Faults.{and_then}
use Rattle.lexer.specs.Item.{Item, spelling}
use Rattle.lexer.specs.Lex.{item_at, lex}
use Rattle.lexer.proofs.Meaning.{item_of, fault_of, lexed_front}
use Rattle.book.specs.Reading.{State, initial, step, run, finished, short_enough, read_book}
use Rattle.book.specs.Views.{Fails}
use Rattle.book.proofs.Steps.{fails_then}

run_item : (k : ℕ) (s : State) (p : ℕ) (ds : List ℕ) (i : Item) → lex p ds ≡ Ok (Some i)
    → run (suc k) s p ds ≡ and_then (step s p i) (λ t. run k t (p + length (spelling i)) (drop (length (spelling i)) ds))
run_item k s p [] i e = let z : ◌≡◌ {A = ℕ} 0 1 = cc in absurd (omega arith)
run_item k s p (b ∷ ds) i e =
    ap (λ r. and_then r (λ i. and_then (step s p i) (λ t. run k t (p + length (spelling i)) (drop (length (spelling i)) (b ∷ ds))))) (item_of (item_at p (b ∷ ds)) i e)

run_fault : (k : ℕ) (s : State) (p : ℕ) (ds : List ℕ) (f : Fault) → length ds ≤ k → lex p ds ≡ Err f → run k s p ds ≡ Err f
run_fault k s p [] f h e = let z : ◌≡◌ {A = ℕ} 0 1 = cc in absurd (omega arith)
run_fault zero s p (b ∷ ds) f h e = absurd (omega arith)
run_fault (suc k) s p (b ∷ ds) f h e =
    ap (λ r. and_then r (λ i. and_then (step s p i) (λ t. run k t (p + length (spelling i)) (drop (length (spelling i)) (b ∷ ds))))) (fault_of (item_at p (b ∷ ds)) f e)

run_end : (k : ℕ) (s : State) (p : ℕ) → run k s p [] ≡ Ok s
run_end zero s p = refl
run_end (suc k) s p = refl

-- what is left from a place on gives what the whole text gives
pub record Sofar (bs : List ℕ) (p : ℕ) (s : State) : Type 0 where
  pub fuel : ℕ
  pub enough : length bs - p ≤ fuel
  pub same : run fuel s p (drop p bs) ≡ run (length bs) initial 0 bs

pub begin : (bs : List ℕ) (p : ℕ) (s : State) → p ≡ 0 → s ≡ initial → Sofar bs p s
begin bs p s e h = record { fuel = length bs; enough = omega arith; same = λ i. run (length bs) (h i) (e i) (drop (e i) bs) }

module _ (bs : List ℕ) (p : ℕ) (s : State) (h : Sofar bs p s) where
  -- an item of the text lies within it, and has a byte or more
  pub item_within : (i : Item) → p ≤ length bs → lex p (drop p bs) ≡ Ok (Some i) → (0 < length (spelling i)) × (p < length bs)
  item_within i l e =
      let f = lexed_front p (drop p bs) i e in
      let some = f.some in
      (f.some, omega (arith, ap (λ l. length l) f.spelled, length-drop p bs, length-append (spelling i) f.rest))

  -- one item more
  one : (i : Item) → p ≤ length bs → lex p (drop p bs) ≡ Ok (Some i)
      → (k : ℕ) × (length bs - (p + length (spelling i)) ≤ k)
      × (run (length bs) initial 0 bs ≡ and_then (step s p i) (λ t. run k t (p + length (spelling i)) (drop (p + length (spelling i)) bs)))
  one i l e = go h.fuel h.enough h.same
    where
      go : (m : ℕ) → length bs - p ≤ m → run m s p (drop p bs) ≡ run (length bs) initial 0 bs
          → (k : ℕ) × (length bs - (p + length (spelling i)) ≤ k)
          × (run (length bs) initial 0 bs ≡ and_then (step s p i) (λ t. run k t (p + length (spelling i)) (drop (p + length (spelling i)) bs)))
      go zero enough same = let w = item_within i l e in absurd (omega (arith, w.1))
      go (suc k) enough same =
          let w = item_within i l e in (
            k,
            omega (arith, w.0),
            sym same ∙ run_item k s p (drop p bs) i e ∙ (λ j. and_then (step s p i) (λ t. run k t (p + length (spelling i)) (drop-drop (length (spelling i)) p bs j))),
          )

  pub one_more : (i : Item) (t : State) → p ≤ length bs → lex p (drop p bs) ≡ Ok (Some i) → step s p i ≡ Ok t → Sofar bs (p + length (spelling i)) t
  one_more i t l e st =
      let o = one i l e in
      record { fuel = o.0; enough = o.1; same = sym (o.2 ∙ ap (λ r. and_then r (λ t. run o.0 t (p + length (spelling i)) (drop (p + length (spelling i)) bs))) st) }

  pub step_fails : (i : Item) (x : Error) → p ≤ length bs → lex p (drop p bs) ≡ Ok (Some i) → Fails (step s p i) x → Fails (run (length bs) initial 0 bs) x
  step_fails i x l e st =
      let o = one i l e in
      subst (λ r. Fails r x) (sym o.2) (fails_then (step s p i) (λ t. run o.0 t (p + length (spelling i)) (drop (p + length (spelling i)) bs)) x st)

  pub lex_fails : (f : Fault) → lex p (drop p bs) ≡ Err f → run (length bs) initial 0 bs ≡ Err f
  lex_fails f e = sym h.same ∙ run_fault h.fuel s p (drop p bs) f (omega (arith, length-drop p bs, h.enough)) e

  pub done : drop p bs ≡ [] → run (length bs) initial 0 bs ≡ Ok s
  done e = sym h.same ∙ ap (run h.fuel s p) e ∙ run_end h.fuel s p

-- the whole reading of a text that is not too long
pub book_is : (bs : List ℕ) → length bs ≤ 16777216 → read_book bs ≡ and_then (run (length bs) initial 0 bs) (finished (length bs))
book_is bs h = ap (λ r. and_then r (λ _. and_then (run (length bs) initial 0 bs) (finished (length bs)))) (cond-true _ _ _ (le-leb _ _ h))

pub book_fails : (bs : List ℕ) (x : Error) → length bs ≤ 16777216 → Fails (run (length bs) initial 0 bs) x → Fails (read_book bs) x
book_fails bs x h f = subst (λ r. Fails r x) (sym (book_is bs h)) (fails_then (run (length bs) initial 0 bs) (finished (length bs)) x f)

-- the reading of one that is
pub too_long : (bs : List ℕ) (f : Fault) → short_enough (length bs) ≡ Err f → read_book bs ≡ Err f
too_long bs f e = ap (λ r. and_then r (λ _. and_then (run (length bs) initial 0 bs) (finished (length bs)))) e
