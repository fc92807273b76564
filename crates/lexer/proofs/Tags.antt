-- What is read as a tag is one.
use Rattle.std.proofs.Common.{◌≡◌, ℕ, List, ◌∷◌, ◌++◌, Ok, sym, ap, ◌∙◌, subst, ⊎_elim}
use Rattle.markup.proofs.Granted.{Granted, granted_each}
use Rattle.lexer.specs.Item.{Item, Tag, spelling}
use Rattle.lexer.specs.Lex.{item_at}
use Rattle.lexer.proofs.Behind.{ok_not_err}
use Rattle.lexer.proofs.Judging.{Judged, same_item, judged}
pub use Rattle.lexer.proofs.Reading.{tag_at, name_at_lem, not_slash}

-- a tag at the front of the text, and what follows it
abbrev pub TagFirst : List ℕ → Item → Type 0
TagFirst bs i = Tag i × (rest : List ℕ) × (bs ≡ spelling i ++ rest)

pub tag_of : (p : ℕ) (bs : List ℕ) (i : Item) → item_at p (60 ∷ bs) ≡ Ok i → TagFirst (60 ∷ bs) i
unfolding Judged
tag_of p bs i e =
    ⊎_elim (λ j. absurd (ok_not_err i j.0 (sym e ∙ j.1)))
    (λ t. subst (TagFirst (60 ∷ bs)) (same_item t.0 i (sym (tag_at p t.0 t.2 t.1) ∙ ap (item_at p) (sym t.3) ∙ e)) (t.1, t.2, t.3))
    (judged p bs)

pub tagged : (p : ℕ) (bs : List ℕ) → Granted Tag (item_at p (60 ∷ bs))
tagged p bs = granted_each _ (λ i e. (tag_of p bs i e).0)
