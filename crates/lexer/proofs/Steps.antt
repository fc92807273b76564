-- What an item hands out of the text.
use Rattle.std.proofs.Common.{◌≡◌, ℕ, ◌+◌, ◌<◌, ◌≤◌, List, [], ◌∷◌, ◌++◌, length, take, drop, Ok, sym, ap, ◌∙◌, subst, append_assoc, arith, length-append, length-drop}
use Rattle.std.proofs.Math.Seq.{take-append_seam}
use Rattle.std.proofs.lemmas.List.{drop-drop}
use Rattle.lexer.specs.declared.token.Part.{Part}
use Rattle.lexer.specs.declared.token.Token.{Token}
use Rattle.lexer.specs.declared.token.Token.TheVariants.{Start, End, Empty, Text}
use Rattle.lexer.specs.Item.{Item, spelling}
use Rattle.lexer.specs.Lex.{item_at}
use Rattle.lexer.specs.Token.{item_of, whole_of, Written, Cut, NameCut, HandsOut, Finds}
use Rattle.lexer.proofs.Fronts.{ItemFront, item_front}

some_front : (p : ℕ) (bs : List ℕ) (i : Item) → 0 < length bs → item_at p bs ≡ Ok i → ItemFront bs i
some_front p [] i h e = absurd (omega arith)
some_front p (b ∷ bs) i h e = item_front p b bs i e

module _ (bs : List ℕ) (p : ℕ) where
  -- a part that stands `skip` bytes behind p
  cut : (skip : ℕ) (part : Part) (ys : List ℕ) → drop skip (drop p bs) ≡ part.bytes.now ++ ys → part.place ≡ p + skip → Cut bs part
  cut skip part ys e is =
      let n = part.bytes.now in
      ap (λ k. take (length n) (drop k bs)) is ∙ ap (take (length n)) (sym (drop-drop skip p bs) ∙ e) ∙ take-append_seam n ys

  name_cut : (t : Token) → ItemFront (drop p bs) (item_of t) → Written p t → NameCut bs t
  name_cut (Start t) f w = cut 1 t.name (62 ∷ [] ++ f.rest) (ap (drop 1) f.spelled ∙ append_assoc _ (62 ∷ []) f.rest) w.name
  name_cut (End t) f w = cut 2 t.name (62 ∷ [] ++ f.rest) (ap (drop 2) f.spelled ∙ append_assoc _ (62 ∷ []) f.rest) w.name
  name_cut (Empty t) f w = cut 1 t.name (47 ∷ 62 ∷ [] ++ f.rest) (ap (drop 1) f.spelled ∙ append_assoc _ (47 ∷ 62 ∷ []) f.rest) w.name
  name_cut (Text run) f w = tt

  -- a token of the item that stands at p
  module _ (t : Token) (rest : List ℕ) (q : ℕ) (at : q ≡ p) (is : rest ≡ drop p bs) (h : 0 < length rest) (f : Finds q (item_at q rest) (Ok t)) where
    found : Finds p (item_at p (drop p bs)) (Ok t)
    found = subst (λ l. Finds p (item_at p l) (Ok t)) is (subst (λ k. Finds k (item_at k rest) (Ok t)) at f)

    front : ItemFront (drop p bs) (item_of t)
    front = some_front p (drop p bs) (item_of t) (subst (λ l. 0 < length l) is h) found.0

    pub next_found : (p + length (whole_of t).bytes.now ≤ length bs) × HandsOut bs p t
    next_found = (
      omega (arith, h, ap (λ l. length l) is, ap (λ l. length l) f.1.whole, ap (λ l. length l) front.spelled, length-append (spelling (item_of t)) front.rest, length-drop p bs),
      record {
        written = found.1;
        whole = cut 0 (whole_of t) front.rest (front.spelled ∙ ap (λ l. l ++ front.rest) (sym f.1.whole)) (found.1.place ∙ omega arith);
        name = name_cut t front found.1;
      },
    )
