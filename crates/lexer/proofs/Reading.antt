-- A tag is read as it is written.
use Rattle.std.proofs.Common.{◌≡◌, ℕ, ◌+◌, ◌≤◌, false, eqb, List, [], ◌∷◌, ◌++◌, length, get_or, Ok, sym, refl, ap, ◌∙◌, true≢false, append_assoc, arith, get_or-append-add}
use Rattle.std.proofs.Math.ListN.{get_or-append}
use Rattle.std.proofs.Math.Seq.{take-append_seam, get_or-append_seam}
use Rattle.std.specs.List.{prefix_len}
use Rattle.std.proofs.lemmas.Bool.{cond-true, cond-false, eq-eqb, ne_eqb, le-leb}
use Rattle.markup.specs.Faults.{and_then}
use Rattle.markup.specs.Name.{name_first, name_byte, LawfulName}
use Rattle.markup.proofs.Leading.{leading_stop}
use Rattle.lexer.specs.Item.{Item, Item.start, Item.end, Item.empty, Item.text, Tag, spelling}
use Rattle.lexer.specs.Lex.{name_at, end_tail, end_tag, start_tail, start_tag, item_at}

module _ (n : List ℕ) (l : LawfulName n) (c : ℕ) (rest : List ℕ) where
  first_same : get_or (n ++ c ∷ rest) 0 0 ≡ get_or n 0 0
  first_same = get_or-append n (c ∷ rest) 0 0 l.some

  pub name_at_lem : (p : ℕ) → name_byte c ≡ false → name_at p (n ++ c ∷ rest) ≡ Ok (length n)
  name_at_lem p e =
      let k = leading_stop name_byte n c rest l.each e in
      let few : prefix_len name_byte (n ++ c ∷ rest) ≤ 32 = omega (arith, l.short) in
      cond-true _ _ _ (ap name_first first_same ∙ l.first)
      ∙ cond-true _ _ _ (le-leb _ _ few)
      ∙ ap Ok k

  pub not_slash : eqb (get_or (n ++ c ∷ rest) 0 0) 47 ≡ false
  not_slash = ne_eqb _ _ (λ e. absurd (true≢false (sym l.first ∙ ap name_first (sym first_same ∙ e))))

start_at : (p : ℕ) (n : List ℕ) (rest : List ℕ) → LawfulName n → start_tag p (n ++ 62 ∷ rest) ≡ Ok (start n)
start_at p n rest l =
    ap (λ r. and_then r (start_tail p (n ++ 62 ∷ rest))) (name_at_lem n l 62 rest (p + 1) refl)
    ∙ cond-true _ _ _ (eq-eqb _ _ (get_or-append_seam n 62 rest 0))
    ∙ ap (λ x. Ok (start x)) (take-append_seam n (62 ∷ rest))

empty_at : (p : ℕ) (n : List ℕ) (rest : List ℕ) → LawfulName n → start_tag p (n ++ 47 ∷ 62 ∷ rest) ≡ Ok (empty n)
empty_at p n rest l =
    let bs = n ++ 47 ∷ 62 ∷ rest in
    let at : get_or bs (length n) 0 ≡ 47 = get_or-append_seam n 47 (62 ∷ rest) 0 in
    ap (λ r. and_then r (start_tail p bs)) (name_at_lem n l 47 (62 ∷ rest) (p + 1) refl)
    ∙ cond-false _ _ _ (ap (λ x. eqb x 62) at)
    ∙ cond-true _ _ _ (eq-eqb _ _ at)
    ∙ cond-true _ _ _ (eq-eqb _ _ (get_or-append-add n (47 ∷ 62 ∷ rest) 1 0))
    ∙ ap (λ x. Ok (empty x)) (take-append_seam n (47 ∷ 62 ∷ rest))

end_at : (p : ℕ) (n : List ℕ) (rest : List ℕ) → LawfulName n → end_tag p (n ++ 62 ∷ rest) ≡ Ok (end n)
end_at p n rest l =
    let bs = n ++ 62 ∷ rest in
    ap (λ r. and_then r (end_tail p bs)) (name_at_lem n l 62 rest (p + 2) refl)
    ∙ cond-true _ _ _ (eq-eqb _ _ (get_or-append_seam n 62 rest 0))
    ∙ ap (λ x. Ok (end x)) (take-append_seam n (62 ∷ rest))

-- a tag is read as it is written
pub tag_at : (p : ℕ) (i : Item) (rest : List ℕ) → Tag i → item_at p (spelling i ++ rest) ≡ Ok i
tag_at p (start n) rest l = ap (λ bs. item_at p (60 ∷ bs)) (append_assoc n (62 ∷ []) rest) ∙ cond-false _ _ _ (not_slash n l 62 rest) ∙ start_at p n rest l
tag_at p (empty n) rest l =
    ap (λ bs. item_at p (60 ∷ bs)) (append_assoc n (47 ∷ 62 ∷ []) rest) ∙ cond-false _ _ _ (not_slash n l 47 (62 ∷ rest)) ∙ empty_at p n rest l
tag_at p (end n) rest l = ap (λ bs. item_at p (60 ∷ 47 ∷ bs)) (append_assoc n (62 ∷ []) rest) ∙ end_at p n rest l
tag_at p (text bs) rest l = absurd l
