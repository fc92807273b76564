-- The sets are stream sets. The proofs stand here, since the ghost member `laws` may cite specs alone.
use Rattle.std.proofs.Common.{◌≡◌, ℕ, zero, suc, ltb, List, [], ◌∷◌, map, drop, length, get_or, sym, ◌∙◌, subst}
use mathlib.Core.List.Sublistᴰ
use mathlib.Core.List.{Sublistᴰ}
use Rattle.std.proofs.lemmas.Bool.{cond_both, cond-false, le-ltb}
use Rattle.std.proofs.lemmas.List.{length-map}
use Rattle.tree.specs.Region.{BookOf, LawfulBook}
use Rattle.tree.proofs.Books.{book_by, fits_in}
use Rattle.stream.specs.declared.region.Region.{Region}
use Rattle.stream.specs.Sets.{Laws, region_of}
use Rattle.stream.specs.Narrowing.{kept_part}
use Rattle.stream.proofs.Parts.{map_part}
use Rattle.test_sets.specs.declared.member.Member.{Member}
use Rattle.test_sets.specs.Members.{regions, region_at, EachFits, is_in, listed, lists_from}

drop_part : {X : Type 0} (k : ℕ) (xs : List X) → Sublistᴰ (drop k xs) xs
drop_part zero xs = Sublistᴰ.refl xs
drop_part (suc k) [] = Sublistᴰ.slnil
drop_part (suc k) (x ∷ xs) = Sublistᴰ.cons (drop_part k xs)

listed_part : (ms : List Member) (i k : ℕ) → Sublistᴰ (listed ms i k) (regions ms)
listed_part ms i k = map_part (λ m. m.region) (Sublistᴰ.trans (kept_part (is_in i) (drop k ms)) (drop_part k ms))

length-regions : (ms : List Member) → length (map region_of (regions ms)) ≡ length ms
length-regions ms = length-map (regions ms) region_of ∙ length-map ms (λ m. m.region)

-- regions that each fit are a lawful book, and so are no others
pub book_of_fits : (ms : List Member) → EachFits ms → LawfulBook (map region_of (regions ms))
book_of_fits ms e =
    subst (λ (n : ℕ). BookOf n (region_at ms)) (sym (length-regions ms)) (book_by (region_at ms) (length ms) e.some e.few e.fits)

pub fits_of_book : (ms : List Member) → LawfulBook (map region_of (regions ms)) → EachFits ms
fits_of_book ms b =
    let book : BookOf (length ms) (region_at ms) = subst (λ (n : ℕ). BookOf n (region_at ms)) (length-regions ms) b in
    record { some = book.some; few = book.few; fits = fits_in (region_at ms) (length ms) book }

-- members of a lawful book with the number from which each list goes on
pub listed_laws : {T : Type 0} (members : T → List Member) (heads : T → List ℕ) → ((t : T) → EachFits (members t)) → Laws (λ t. regions (members t)) (λ t. lists_from (members t) (heads t))
listed_laws members heads lawful = record {
  lawful = λ t. book_of_fits (members t) (lawful t);
  part = λ t i. cond_both (ltb i 16) _ _ (λ xs. Sublistᴰ xs (regions (members t))) (λ _. listed_part (members t) i (get_or (heads t) i 0)) (λ _. Sublistᴰ.nil-sublist _);
  sixteen = λ t i h. cond-false (ltb i 16) _ _ (le-ltb i 16 h);
}

-- a set with the book and the lists of the set below
pub same_laws : {S N : Type 0} (book : S → List Region) (lists : S → ℕ → List Region) (below : N → S) → Laws book lists → Laws (λ n. book (below n)) (λ n. lists (below n))
same_laws book lists below laws = record {
  lawful = λ n. laws.lawful (below n);
  part = λ n. laws.part (below n);
  sixteen = λ n. laws.sixteen (below n);
}
