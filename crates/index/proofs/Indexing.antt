-- The sheet of a granted text.
use Rattle.std.proofs.Common.{◌≡◌, ℕ, true, false, cond, Bool, ltb, List, length, Ok, Err, refl, ap, ◌∙◌, inr, arith}
use Rattle.std.proofs.lemmas.Bool.{ltb-true}
use Rattle.markup.specs.declared.fault.Fault.{Fault}
use Rattle.markup.specs.declared.fault.Error.TheVariants.{Refused}
use Rattle.markup.specs.declared.fault.Refusal.TheVariants.{SheetWontFit}
use Rattle.markup.specs.Faults.{fault}
use Rattle.tree.specs.Tree.{Tree}
use Rattle.book.specs.Answer.{Grants}
use Rattle.layout.specs.Encoding.{sheet_of}
use Rattle.layout.proofs.Encoded.{sheet_reads_back}
use Rattle.layout.proofs.Unique.{sheet_of_its_tree}
use Rattle.sheet.specs.Writing.{encodes, written}
use Rattle.sheet.proofs.Promises.{lawful_trees_are_encoded, encodings_open}
use Rattle.index.specs.Indexing.{Indexed}

-- what is answered where a test refuses
when_granted : (b : Bool) (m n : ℕ) (f : Fault) → Ok n ≡ cond b (Err f) (Ok m) → n ≡ m
when_granted true m n f e = cc
when_granted false m n f e = cc

when_refused : (b : Bool) (m : ℕ) (f g : Fault) → Err f ≡ cond b (Err g) (Ok m) → (b ≡ true) × (f ≡ g)
when_refused true m f g e = (refl, cc)
when_refused false m f g e = let z : ◌≡◌ {A = ℕ} 0 1 = cc in absurd (omega arith)

module _ (text old new : List ℕ) (t : Tree) (g : Grants text t) where
  pub indexed_written : (n : ℕ) → Ok n ≡ encodes t.elements t.names (length old) → new ≡ written t.elements t.names (Ok n) old → Indexed text old new (Ok n)
  indexed_written n e w =
      let back = sheet_reads_back t g.lawful in
      record {
        tree = t;
        grants = g;
        size = when_granted _ _ n _ (e ∙ lawful_trees_are_encoded t g.lawful (length old));
        bytes = w;
        lawful = back.0;
        opens = encodings_open t g.lawful;
        shows = back.1;
        only = λ bs b l s. sheet_of_its_tree bs b l ∙ ap sheet_of s;
      }

  pub indexed_refused : (f : Fault) → Err f ≡ encodes t.elements t.names (length old) → new ≡ written t.elements t.names (Err f) old
      → Indexed text old new (Err (Refused f))
  indexed_refused f e w =
      let r = when_refused (ltb (length old) (length (sheet_of t))) (length (sheet_of t)) f (fault SheetWontFit (length (sheet_of t))) (e ∙ lawful_trees_are_encoded t g.lawful (length old)) in
      (w, inr (record { tree = t; grants = g; longer = ltb-true _ _ r.0; refused = r.1 }))
