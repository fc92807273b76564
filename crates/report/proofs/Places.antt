-- The line of a place.
use Rattle.std.proofs.Common.{◌≡◌, ℕ, ◌≤◌, min, List, [], ◌∷◌, ◌++◌, length, take, flat_map, decimal, sym, ap, ◌∙◌, append_assoc, arith}
use Rattle.std.specs.List.{join_by}
use Rattle.std.proofs.lemmas.List.{take_min, take_all}
use Rattle.listing.specs.declared.place.Place.{Place}
use Rattle.report.specs.Lines.{place_line}

module _ (nodes m : ℕ) (p : Place) (long : length p.starts ≡ 16) (least : m ≡ min nodes 16) where
  -- the starts that are cut out
  cut : take m p.starts ≡ take nodes p.starts
  cut = ap (λ k. take k p.starts) (least ∙ ap (min nodes) (sym long)) ∙ take_min nodes p.starts

  -- there are some: the first, the others behind a space each, and the LF
  pub some_starts : (old given text lines : List ℕ) (start : ℕ) (rest : List ℕ) (k : ℕ) → take m p.starts ≡ start ∷ rest → given ≡ old ++ text → text ≡ decimal start
      → lines ≡ given ++ flat_map (λ n. 32 ∷ decimal n) (take k rest) → length rest ≤ k → lines ++ 10 ∷ [] ≡ old ++ place_line nodes p
  some_starts old given text lines start rest k e g t l all =
      let others : List ℕ = flat_map (λ n. 32 ∷ decimal n) rest in
      ap (λ a. a ++ 10 ∷ [])
      (l ∙ ap (λ r. given ++ flat_map (λ n. 32 ∷ decimal n) r) (take_all k rest all) ∙ ap (λ a. a ++ others) (g ∙ ap (λ a. old ++ a) t))
      ∙ append_assoc (old ++ decimal start) others (10 ∷ [])
      ∙ append_assoc old (decimal start) (others ++ 10 ∷ [])
      ∙ ap (λ a. old ++ a) (sym (append_assoc (decimal start) others (10 ∷ [])) ∙ ap (λ xs. join_by decimal (32 ∷ []) xs ++ 10 ∷ []) (sym e ∙ cut))

  -- there are none
  pub no_starts : length (take m p.starts) ≡ 0 → 10 ∷ [] ≡ place_line nodes p
  no_starts e = ap (λ xs. join_by decimal (32 ∷ []) xs ++ 10 ∷ []) (sym (nil (take m p.starts) e) ∙ cut)
    where
      nil : (xs : List ℕ) → length xs ≡ 0 → xs ≡ []
      nil [] h = λ _. []
      nil (x ∷ xs) h = absurd (omega arith)
