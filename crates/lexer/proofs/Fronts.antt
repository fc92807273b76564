-- An item that is granted is the front of the text, as it is written.
use Rattle.std.proofs.Common.{◌≡◌, ℕ, suc, ◌+◌, ◌<◌, Bool, true, false, cond, not, eqb, List, [], ◌∷◌, ◌++◌, length, take, drop, Ok, sym, refl, ap, ◌∙◌, subst, ⊎_elim, arith, take-append-drop, length-take}
use Rattle.std.proofs.Math.Seq.{drop-append_seam}
use Rattle.std.specs.List.{prefix_len}
use Rattle.std.proofs.lemmas.List.Sums.{prefix_len-le-length}
use Rattle.std.proofs.lemmas.Bool.{cases_Bool, cond-false, eqb-true}
use Rattle.markup.proofs.Granted.{Granted, granted_each}
use Rattle.markup.proofs.Leading.{all_leading}
use Rattle.lexer.specs.Bytes.{text_byte}
use Rattle.lexer.specs.Item.{Item, Item.start, Item.end, Item.empty, Item.text, Tag, spelling}
use Rattle.lexer.specs.Lex.{item_at}
use Rattle.lexer.specs.Exact.{NoText, LawfulItem, Begins}
use Rattle.lexer.proofs.Judging.{same_item}
use Rattle.lexer.proofs.Tags.{tag_of}

-- a run goes on to a `<` or the end
run_ends : (bs : List ℕ) → NoText (drop (prefix_len text_byte bs) bs)
run_ends [] = tt
run_ends (b ∷ bs) = go (eqb b 60) refl (run_ends bs)
  where
    go : (x : Bool) → eqb b 60 ≡ x → NoText (drop (prefix_len text_byte bs) bs) → NoText (drop (cond (not x) (1 + prefix_len text_byte bs) 0) (b ∷ bs))
    go true e h = eqb-true b 60 e
    go false e h = let z : suc (prefix_len text_byte bs) ≡ 1 + prefix_len text_byte bs = omega arith in subst (λ k. NoText (drop k (b ∷ bs))) z h

text_front : (b : ℕ) (bs : List ℕ) → eqb b 60 ≡ false → Begins (b ∷ bs) (text (take (prefix_len text_byte (b ∷ bs)) (b ∷ bs)))
text_front b bs e =
    let n : ℕ = prefix_len text_byte (b ∷ bs) in
    let some : n ≡ 1 + prefix_len text_byte bs = ap (λ x. cond (not x) (1 + prefix_len text_byte bs) 0) e in
    let le = prefix_len-le-length text_byte (b ∷ bs) in (
      drop n (b ∷ bs),
      (omega (arith, length-take n (b ∷ bs)), all_leading text_byte (b ∷ bs), run_ends (b ∷ bs)),
      sym (take-append-drop n (b ∷ bs)),
    )

lawful_tag : (i : Item) (rest : List ℕ) → Tag i → LawfulItem i rest
lawful_tag (start n) rest t = t
lawful_tag (end n) rest t = t
lawful_tag (empty n) rest t = t
lawful_tag (text run) rest t = absurd t

pub item_begins : (p b : ℕ) (bs : List ℕ) (i : Item) → item_at p (b ∷ bs) ≡ Ok i → Begins (b ∷ bs) i
item_begins p b bs i e =
    ⊎_elim
    (λ (x : eqb b 60 ≡ true).
    let angle : 60 ∷ bs ≡ b ∷ bs = ap (λ c. c ∷ bs) (sym (eqb-true b 60 x)) in
    let t = tag_of p bs i (ap (item_at p) angle ∙ e) in
    (t.1, lawful_tag i t.1 t.0, sym angle ∙ t.2))
    (λ (x : eqb b 60 ≡ false). subst (Begins (b ∷ bs)) (same_item _ i (sym (cond-false _ _ _ x) ∙ e)) (text_front b bs x))
    (cases_Bool (eqb b 60))

-- an item has a byte or more
lawful_some : (i : Item) (rest : List ℕ) → LawfulItem i rest → 0 < length (spelling i)
lawful_some (start n) rest l = omega arith
lawful_some (end n) rest l = omega arith
lawful_some (empty n) rest l = omega arith
lawful_some (text run) rest l = l.0

-- what an item leaves of the text
pub record ItemFront (bs : List ℕ) (i : Item) : Type 0 where
  pub rest : List ℕ
  pub spelled : bs ≡ spelling i ++ rest
  pub some : 0 < length (spelling i)

pub item_front : (p b : ℕ) (bs : List ℕ) (i : Item) → item_at p (b ∷ bs) ≡ Ok i → ItemFront (b ∷ bs) i
item_front p b bs i e = let h = item_begins p b bs i e in record { rest = h.0; spelled = h.2; some = lawful_some i h.0 h.1 }

-- the rest by places
pub front_rest : (bs : List ℕ) (i : Item) (f : ItemFront bs i) → drop (length (spelling i)) bs ≡ f.rest
front_rest bs i f = ap (drop (length (spelling i))) f.spelled ∙ drop-append_seam (spelling i) f.rest

pub item_some : (p b : ℕ) (bs : List ℕ) → Granted (λ i. 0 < length (spelling i)) (item_at p (b ∷ bs))
item_some p b bs = granted_each _ (λ i e. (item_front p b bs i e).some)
