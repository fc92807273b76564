-- The answer of reading in the words of the subject, and that each text has just one.
use Rattle.std.proofs.Common.{◌≡◌, ℕ, ◌⊎◌, List, Ok, Err, Result, sym, refl, ap, ◌∙◌, subst, inl, inr}
use Rattle.markup.specs.declared.fault.Fault.{Fault}
use Rattle.markup.specs.declared.fault.Error.{Error}
use Rattle.markup.specs.declared.fault.Error.TheVariants.{Refused, Memory}
use Rattle.tree.specs.Tree.{Tree}
use Rattle.book.specs.declared.book.Book.{Book}
use Rattle.book.specs.Document.{Document, Within}
use Rattle.book.specs.Reading.{read_book}
use Rattle.book.specs.Refusing.{Refuses}
use Rattle.book.specs.Views.{tree_of, Answers}
use Rattle.book.specs.Answer.{nodes_of, Grants, ReadsBook}
use Rattle.book.specs.Promises.{GrantedExactly, EveryTextHasOneAnswer}
use Rattle.book.proofs.Complete.{complete}
use Rattle.book.proofs.Numbering.{names_are_numbered, renumbered}
use Rattle.book.proofs.Refusals.{refused_exactly}
use Rattle.book.proofs.Results.{ok_same, err_same, ok_or_err}
use Rattle.book.proofs.Sound.{sound}
use Rattle.book.proofs.Trees.{trees_are_lawful}

pub granted_exactly : GrantedExactly
granted_exactly text t = (sound text t, λ h. complete text h.0 h.1 h.2 ∙ ap Ok (sym h.3))

pub granted : (text : List ℕ) (t : Tree) → read_book text ≡ Ok t → Grants text t
granted text t e =
    let s = sound text t e in
    let same : s.0 ≡ nodes_of t = sym (ap nodes_of s.3 ∙ names_are_numbered s.0) in
    record { document = subst (Document text) same s.1; within = subst (Within text) same s.2; lawful = trees_are_lawful text t e }

pub grants : (text : List ℕ) (t : Tree) → Grants text t → read_book text ≡ Ok t
grants text t g = complete text (nodes_of t) g.document g.within ∙ ap Ok (renumbered t g.lawful.different g.lawful.used)

pub reads_book : (text : List ℕ) (r : Result Book Error) → Answers (read_book text) r tree_of → ReadsBook text r
reads_book text (Ok b) e = granted text (tree_of b) e
reads_book text (Err (Refused f)) e = (refused_exactly text f).0 e
reads_book text (Err Memory) e = tt

pub every_text_has_one_answer : EveryTextHasOneAnswer
every_text_has_one_answer text = record {
  some = some (read_book text) refl;
  one_tree = λ t u g h. ok_same t u (sym (grants text t g) ∙ grants text u h);
  one_refusal = λ f g h k. err_same f g (sym ((refused_exactly text f).1 h) ∙ (refused_exactly text g).1 k);
  never_both = λ t f g h. ok_or_err t f (sym ((refused_exactly text f).1 h) ∙ grants text t g);
}
  where
    some : (r : Result Tree Fault) → read_book text ≡ r → ((t : Tree) × Grants text t) ⊎ ((f : Fault) × Refuses text f)
    some (Ok t) e = inl (t, granted text t e)
    some (Err f) e = inr (f, (refused_exactly text f).0 e)
