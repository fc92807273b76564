-- The lexer's definition means what the subject says: items exactly where the text begins with them, refusals exactly where a tag goes wrong.
use Rattle.std.proofs.Common.{◌≡◌, ℕ, true, false, eqb, List, [], ◌∷◌, ◌++◌, length, take, Some, None, Ok, Err, Option, Result, sym, refl, ap, ◌∙◌, subst, ⊎_elim, append-nil, arith}
use Rattle.std.proofs.Math.Seq.{take-append_seam}
use Rattle.std.specs.List.{prefix_len, AllByRecursion as Every}
use Rattle.std.proofs.lemmas.Bool.{cases_Bool, not-true, cond-false, eqb-true}
use Rattle.markup.specs.declared.fault.Fault.{Fault}
use Rattle.markup.specs.Faults.{and_then}
use Rattle.markup.proofs.Leading.{leading_stop, leading_all}
use Rattle.lexer.specs.Bytes.{text_byte}
use Rattle.lexer.specs.Item.{Item, Item.start, Item.end, Item.empty, Item.text, spelling}
use Rattle.lexer.specs.Lex.{item_at, lex}
use Rattle.lexer.specs.BadTag.{BadTag}
use Rattle.lexer.specs.Exact.{NoText, LawfulItem, Begins, LexingIsExact}
use Rattle.lexer.proofs.Behind.{ok_not_err}
use Rattle.lexer.proofs.Fronts.{ItemFront, item_begins, item_front}
use Rattle.lexer.proofs.Tags.{tag_at}
use Rattle.lexer.proofs.Judging.{bad_tag, bad_refused}

-- What an answer tells of the item or the refusal.

pub item_of : (r : Result Item Fault) (i : Item) → and_then r (λ x. Ok (Some x)) ≡ Ok (Some i) → r ≡ Ok i
item_of (Ok j) i e = cc
item_of (Err f) i e = cc

pub fault_of : (r : Result Item Fault) (f : Fault) → and_then {Y = Option Item} r (λ x. Ok (Some x)) ≡ Err f → r ≡ Err f
fault_of (Ok j) f e = cc
fault_of (Err g) f e = cc

never_ended : (r : Result Item Fault) → and_then {Y = Option Item} r (λ x. Ok (Some x)) ≡ Ok None → ⊥
never_ended (Ok j) e = cc
never_ended (Err f) e = cc

-- Text runs.

-- the whole run is read
run_length : (run rest : List ℕ) → Every (λ b. text_byte b ≡ true) run → NoText rest → prefix_len text_byte (run ++ rest) ≡ length run
run_length run [] h n = ap (prefix_len text_byte) (append-nil run) ∙ leading_all text_byte run h
run_length run (b ∷ rest) h n = leading_stop text_byte run b rest h (ap text_byte n)

text_at : (p : ℕ) (run rest : List ℕ) → LawfulItem (text run) rest → lex p (run ++ rest) ≡ Ok (Some (text run))
text_at p [] rest l = absurd (omega (arith, l.0))
text_at p (b ∷ run) rest l =
    ap (λ r. and_then r (λ i. Ok (Some i)))
    (cond-false _ _ _ (not-true _ l.1.0) ∙ ap (λ k. Ok (text (take k (b ∷ run ++ rest)))) (run_length (b ∷ run) rest l.1 l.2) ∙ ap (λ r. Ok (text r)) (take-append_seam (b ∷ run) rest))

-- Items.

begins : (p : ℕ) (bs : List ℕ) (i : Item) → lex p bs ≡ Ok (Some i) → Begins bs i
begins p [] i e = cc
begins p (b ∷ bs) i e = item_begins p b bs i (item_of (item_at p (b ∷ bs)) i e)

tag_lexed : (p : ℕ) (i : Item) (rest : List ℕ) → LawfulItem i rest → lex p (spelling i ++ rest) ≡ Ok (Some i)
tag_lexed p (start n) rest l = ap (λ r. and_then r (λ i. Ok (Some i))) (tag_at p (start n) rest l)
tag_lexed p (end n) rest l = ap (λ r. and_then r (λ i. Ok (Some i))) (tag_at p (end n) rest l)
tag_lexed p (empty n) rest l = ap (λ r. and_then r (λ i. Ok (Some i))) (tag_at p (empty n) rest l)
tag_lexed p (text run) rest l = text_at p run rest l

-- Refusals.

goes_wrong : (p : ℕ) (bs : List ℕ) (f : Fault) → lex p bs ≡ Err f → (more : List ℕ) × (bs ≡ 60 ∷ more) × BadTag bs p f
goes_wrong p [] f e = cc
goes_wrong p (b ∷ bs) f e =
    let is : item_at p (b ∷ bs) ≡ Err f = fault_of (item_at p (b ∷ bs)) f e in
    ⊎_elim
    (λ (x : eqb b 60 ≡ true).
    let angle : 60 ∷ bs ≡ b ∷ bs = ap (λ c. c ∷ bs) (sym (eqb-true b 60 x)) in
    (bs, sym angle, subst (λ l. BadTag l p f) angle (bad_tag p bs f (ap (item_at p) angle ∙ is))))
    (λ (x : eqb b 60 ≡ false). absurd (ok_not_err _ f (sym (cond-false _ _ _ x) ∙ is)))
    (cases_Bool (eqb b 60))

refused : (p : ℕ) (bs more : List ℕ) (f : Fault) → bs ≡ 60 ∷ more → BadTag bs p f → lex p bs ≡ Err f
refused p bs more f e h = ap (lex p) e ∙ ap (λ r. and_then r (λ i. Ok (Some i))) (bad_refused p more f (subst (λ l. BadTag l p f) e h))

ended : (p : ℕ) (bs : List ℕ) → lex p bs ≡ Ok None → bs ≡ []
ended p [] e = refl
ended p (b ∷ bs) e = absurd (never_ended (item_at p (b ∷ bs)) e)

pub lexing_is_exact : LexingIsExact
lexing_is_exact = record {
  items = λ p bs i. (begins p bs i, λ h. ap (lex p) h.2 ∙ tag_lexed p i h.0 h.1);
  ended = λ p bs. (ended p bs, λ e. ap (lex p) e);
  refused = λ p bs f. (goes_wrong p bs f, λ h. refused p bs h.0 f h.1 h.2);
}

-- an item that was lexed is the front of the text
pub lexed_front : (p : ℕ) (bs : List ℕ) (i : Item) → lex p bs ≡ Ok (Some i) → ItemFront bs i
lexed_front p [] i e = cc
lexed_front p (b ∷ bs) i e = item_front p b bs i (item_of (item_at p (b ∷ bs)) i e)
