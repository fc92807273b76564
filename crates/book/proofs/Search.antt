-- The look-up of a name among parts of the text.
use Rattle.std.proofs.Common.{◌≡◌, ℕ, suc, ◌+◌, ◌≤◌, ◌||◌, if◌then◌else◌, Bool, true, false, cond, not, eqb, ltb, nat_eq, List, [], ◌∷◌, ◌++◌, length, Some, None, Option, sym, refl, ap, ◌∙◌, arith, Bor}
use Rattle.std.proofs.Math.Dec.{eqb-zero-suc, eqb-suc-suc}
use Rattle.std.specs.Cmp.Lexicographic.{pointwise}
use Rattle.std.specs.List.{position_or_len, list_any, position as first_place}
use Rattle.std.specs.Option.{unwrap_or}
use Rattle.std.specs.Str.{bytes_eq}
use Rattle.std.proofs.lemmas.Slice.Eq.{bytes_eq-Decides, slice_eq-Decides}
use Rattle.std.proofs.lemmas.Bool.Decides.{Decides-eqb, same_from_decides}
use Rattle.std.proofs.lemmas.List.{map_push}
use Rattle.std.proofs.lemmas.List.Sums.{prefix_len-le-length}
use Rattle.indexmap.specs.IndexSet.{insert_key}
use Rattle.tree.specs.Tree.{bytes_of}
use Rattle.book.specs.Document.{position, intern}

module _ (name : List ℕ) where
  -- what a look-up asks of each part
  abbrev pub is_named : Bor (List ℕ) → Bool
  is_named part = pointwise nat_eq name part.now

  same_test : (part : Bor (List ℕ)) → bytes_eq part.now name ≡ is_named part
  same_test part =
      let d = bytes_eq-Decides part.now name in
      same_from_decides (bytes_eq part.now name) (is_named part) (λ t. sym (d.0 t), λ e. d.1 (sym e)) (slice_eq-Decides Decides-eqb name part.now (is_named part) refl)

  position_of_parts : (parts : List (Bor (List ℕ))) → position (bytes_of parts) name ≡ position_or_len is_named parts
  position_of_parts [] = refl
  position_of_parts (part ∷ parts) = λ i. cond (not (same_test part i)) (1 + position_of_parts parts i) 0

  -- the number that it answers, or that of the next name
  pub number_is : (parts : List (Bor (List ℕ))) (known : Option ℕ) → known ≡ first_place is_named parts → unwrap_or known (length parts) ≡ position (bytes_of parts) name
  number_is parts known e =
      ap (λ k. unwrap_or k (length parts)) e
      ∙ or_next (position_or_len is_named parts) (length parts) (prefix_len-le-length (λ part. not (is_named part)) parts)
      ∙ sym (position_of_parts parts)
    where
      or_next : (p n : ℕ) → p ≤ n → unwrap_or (cond (ltb p n) (Some p) None) n ≡ p
      or_next p n h = grind arith

  -- the name is new where no part has it
  is_new : (parts : List (Bor (List ℕ))) → eqb (position (bytes_of parts) name) (length (bytes_of parts)) ≡ not (list_any is_named parts)
  is_new [] = refl
  is_new (part ∷ parts) = by (bytes_eq part.now name) (is_new parts) ∙ ap (λ b. not (b || list_any is_named parts)) (same_test part)
    where
      p : ℕ
      p = position (bytes_of parts) name

      n : ℕ
      n = length (bytes_of parts)

      by : (b : Bool) → eqb p n ≡ not (list_any is_named parts) → eqb (cond (not b) (1 + p) 0) (suc n) ≡ not (b || list_any is_named parts)
      by true e = eqb-zero-suc n
      by false e = (let z : 1 + p ≡ suc p = omega arith in ap (λ k. eqb k (suc n)) z) ∙ eqb-suc-suc p n ∙ e

-- an insertion adds a name that is new
pub interned_parts : (parts : List (Bor (List ℕ))) (part : Bor (List ℕ)) → bytes_of (insert_key (λ (a b : Bor (List ℕ)). pointwise nat_eq a.now b.now) parts part) ≡ intern (bytes_of parts) part.now
interned_parts parts part =
    by (list_any (is_named part.now) parts) ∙ ap (λ b. cond b (bytes_of parts ++ part.now ∷ []) (bytes_of parts)) (sym (is_new part.now parts))
  where
    by : (b : Bool) → bytes_of (if b then parts else parts ++ part ∷ []) ≡ cond (not b) (bytes_of parts ++ part.now ∷ []) (bytes_of parts)
    by true = refl
    by false = map_push (λ (n : Bor (List ℕ)). n.now) parts part
