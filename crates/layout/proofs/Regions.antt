-- The regions of a sheet's elements are a lawful book exactly where each is right with those before it.
use Rattle.std.proofs.Common.{◌≡◌, ℕ, ◌<◌, ◌≤◌, List, map, length, get_or, sym, ap, ◌∙◌, subst, arith}
use Rattle.std.proofs.lemmas.List.{length-map, get_or-map}
use Rattle.tree.specs.declared.element.Element.{Element}
use Rattle.tree.specs.Region.{BookOf, LawfulBook, at, Fits}
use Rattle.tree.specs.Tree.{region_of}
use Rattle.tree.proofs.Books.{book_by, fits_in, same_book}
use Rattle.layout.specs.Layout.{element_at, region_at}
use Rattle.layout.specs.Encoding.{blank}

-- the sheet bs shows the n elements es
module _ (bs : List ℕ) (es : List Element) (n : ℕ) (long : length es ≡ n) (same : (k : ℕ) → k < n → element_at bs k ≡ get_or es k blank) where
  region : (k : ℕ) → k < n → at (map region_of es) k ≡ region_at bs k
  region k h = get_or-map region_of es k blank (record { start = 0; end = 0; level = 0 }) (omega arith) ∙ ap region_of (sym (same k h))

  length-regions : length (map region_of es) ≡ n
  length-regions = length-map es region_of ∙ long

  pub book_of_fits : 1 ≤ n → n ≤ 65535 → ((k : ℕ) → k < n → Fits (region_at bs) k) → LawfulBook (map region_of es)
  book_of_fits some few fits =
      subst (λ (m : ℕ). BookOf m (at (map region_of es))) (sym length-regions)
      (same_book n (region_at bs) (at (map region_of es)) (λ k h. sym (region k h)) (book_by (region_at bs) n some few fits))

  pub fits_of_book : LawfulBook (map region_of es) → (k : ℕ) → k < n → Fits (region_at bs) k
  fits_of_book b =
      fits_in (region_at bs) n (same_book n (at (map region_of es)) (region_at bs) region (subst (λ (m : ℕ). BookOf m (at (map region_of es))) length-regions b))
