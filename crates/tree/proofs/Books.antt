-- The laws of lawful books. A book is taken by places, as a count and a function, until the end.
use Rattle.std.proofs.Common.{◌≡◌, ℕ, zero, suc, ◌+◌, ◌<◌, ◌≤◌, Bool, false, ◌⊎◌, List, [], ◌∷◌, ◌++◌, length, sym, refl, ap, ◌∙◌, subst, ⊎_elim, arith, length-append}
use mathlib.Core.List.{Sublistᴰ}
use Rattle.std.proofs.Math.ListN.{get_or-append}
use Rattle.std.specs.List.{ContainsAt as Has, AllByRecursion as Every}
use Rattle.std.proofs.ByRecursion.{All-from_get_or, all_has_itself}
use Rattle.std.proofs.lemmas.Bool.{cases_lt, cases_eq, le-ltb, and_left}
use Rattle.tree.specs.Region.{Region, Contains, contains, NestedOrApart, count_below, BookOf, LawfulBook, at, Fits}
use Rattle.tree.specs.Laws.{StartsTellContainment, Rising, PartsRise, LawfulOneByOne, OneMoreRegion}

-- Counting.

pub count_same : (f g : ℕ → Bool) (n : ℕ) → ((j : ℕ) → j < n → f j ≡ g j) → count_below f n ≡ count_below g n
count_same f g zero h = refl
count_same f g (suc n) h =
    let e = h n (omega arith) in
    let r = count_same f g n (λ j l. h j (omega arith)) in
    rw (e, r)

-- where none from m on passes
pub count_tail : (f : ℕ → Bool) (m n : ℕ) → m ≤ n → ((j : ℕ) → m ≤ j → j < n → f j ≡ false) → count_below f n ≡ count_below f m
count_tail f m zero l h = let e : m ≡ 0 = omega arith in rw e
count_tail f m (suc n) l h =
    ⊎_elim (λ (e : m ≡ suc n). rw e)
    (λ (ne : m ≡ suc n → ⊥).
    let e = h n (omega arith) (omega arith) in
    let r = count_tail f m n (omega arith) (λ j a b. h j a (omega arith)) in
    rw (e, r) (omega arith))
    (cases_eq m (suc n))

-- Two regions.

-- the later one, where it starts before the earlier ends
pub contains_later : (u v : Region) → v.start < v.end → NestedOrApart u v → u.start < v.start → v.start ≤ u.end → Contains u v
contains_later u v span n h k = grind arith

-- none contains one that does not start later
pub later_no : (u v : Region) → v.start ≤ u.start → contains u v ≡ false
later_no u v h = and_left _ _ (le-ltb _ _ h)

-- One by one.
module _ (r : ℕ → Region) where
  -- starts rise weakly from i to j
  from : (i j : ℕ) → i ≤ j → (i < j → (r i).start < (r j).start) → (r i).start ≤ (r j).start
  from i j h up = grind (arith, up)

  pair : (i j : ℕ) → i < j → Fits r j → Contains (r i) (r j) ⊎ ((r i).end < (r j).start)
  pair i j h f = grind (arith, f.rising i, f.nested i)

  pub book_by : (n : ℕ) → 1 ≤ n → n ≤ 65535 → ((k : ℕ) → k < n → Fits r k) → BookOf n r
  book_by n some few fits = record {
    some = some;
    few = few;
    each = λ i h. ((fits i h).span, (fits i h).reach, (fits i h).depth);
    rising = λ i j h k. (fits j k).rising i h;
    apart = λ i j h k ne.
        grind (arith, λ (o : i < j). pair i j o (fits j k), λ (o : j < i). pair j i o (fits i h));
    counted = λ i h.
        (fits i h).counted
        ∙ sym (count_tail (λ j. contains (r j) (r i)) i n (omega arith) (λ j a b. later_no (r j) (r i) (from i j a (λ o. (fits j b).rising i o))));
    first = λ i h k. (fits i k).first h;
  }

  pub fits_in : (n : ℕ) → BookOf n r → (k : ℕ) → k < n → Fits r k
  fits_in n b k h = record {
    span = (b.each k h).0;
    reach = (b.each k h).1;
    depth = (b.each k h).2;
    rising = λ j l. b.rising j k l h;
    nested = λ j l m.
        (contains_later (r j) (r k) (b.each k h).0 (b.apart j k (omega arith) h (λ e. omega arith)) (b.rising j k l h) m).1;
    counted =
        b.counted k h
        ∙ count_tail (λ j. contains (r j) (r k)) k n (omega arith) (λ j l m. later_no (r j) (r k) (from k j l (λ o. b.rising k j o m)));
    first = λ l. b.first k l h;
  }

pub lawful_one_by_one : LawfulOneByOne
lawful_one_by_one n r some few = (fits_in r n, book_by r n some few)

-- The same regions by another function.

-- a region with those before it
pub same_fits : (k : ℕ) (f g : ℕ → Region) → ((i : ℕ) → i ≤ k → f i ≡ g i) → Fits f k → Fits g k
same_fits k f g e h =
    let here = e k (omega arith) in
    record {
      span = rw (← here) h.span;
      reach = rw (← here) h.reach;
      depth = rw (← here) h.depth;
      rising = λ j l. let q = e j (omega arith) in rw (← here, ← q) (h.rising j l);
      nested = λ j l. let q = e j (omega arith) in rw (← here, ← q) (h.nested j l);
      counted =
          ap (λ (r : Region). r.level) (sym here)
          ∙ (h.counted ∙ count_same (λ j. contains (f j) (f k)) (λ j. contains (g j) (g k)) k (λ j l. let q = e j (omega arith) in rw (here, q)));
      first = λ l. let q = e 0 (omega arith) in rw (← here, ← q) (h.first l);
    }

-- and so the whole book
pub same_book : (n : ℕ) (f g : ℕ → Region) → ((i : ℕ) → i < n → f i ≡ g i) → BookOf n f → BookOf n g
same_book n f g e b = book_by g n b.some b.few (λ k h. same_fits k f g (λ i l. e i (omega arith)) (fits_in f n b k h))

-- One more at the end.
pub one_more_region : OneMoreRegion
one_more_region rs r b room =
    let n : ℕ = length rs in
    let long : length (rs ++ r ∷ []) ≡ n + 1 = length-append rs (r ∷ []) in
    let old : (i : ℕ) → i < n → at rs i ≡ at (rs ++ r ∷ []) i = λ i h. sym (get_or-append rs (r ∷ []) _ i h) in (
      λ more. fits_in (at (rs ++ r ∷ [])) (length (rs ++ r ∷ [])) more n (omega arith),
      λ fits. book_by (at (rs ++ r ∷ [])) (length (rs ++ r ∷ [])) (omega arith) (omega arith)
          (λ k h.
          ⊎_elim
          (λ (l : k < n). same_fits k (at rs) (at (rs ++ r ∷ [])) (λ i m. old i (omega arith)) (fits_in (at rs) n b k l))
          (λ (l : n ≤ k). let e : n ≡ k = omega arith in subst (Fits (at (rs ++ r ∷ []))) e fits)
          (cases_lt k n)),
    )

-- Members of a list, by their places.

pub starts_tell_containment : StartsTellContainment
starts_tell_containment rs b u v hu hv h k =
    let i : ℕ = hu.0 in
    let j : ℕ = hv.0 in
    let p : at rs i ≡ u = hu.2 _ in
    let q : at rs j ≡ v = hv.2 _ in
    let ne : i ≡ j → ⊥ = λ e. let same : u ≡ v = sym p ∙ ap (at rs) e ∙ q in omega (arith, ap (λ (r : Region). r.start) same) in
    contains_later u v (subst (λ (r : Region). r.start < r.end) q (b.each j hv.1).0)
    (subst (λ (r : Region). NestedOrApart u r) q (subst (λ (r : Region). NestedOrApart r (at rs j)) p (b.apart i j hu.1 hv.1 ne))) h k

-- Parts.

rising_from : (r : Region) (rs : List Region) → ((i j : ℕ) → i < j → j < suc (length rs) → (at (r ∷ rs) i).start < (at (r ∷ rs) j).start) → Rising (r ∷ rs)
rising_from r [] h = (tt, tt)
rising_from r (s ∷ rs) h = (
  All-from_get_or (λ (x : Region). r.start < x.start) (s ∷ rs) _ (λ i l. h 0 (suc i) (omega arith) (omega arith)),
  rising_from s rs (λ i j l k. h (suc i) (suc j) (omega arith) (omega arith)),
)

pub rising_list : (rs : List Region) → LawfulBook rs → Rising rs
rising_list [] b = tt
rising_list (r ∷ rs) b = rising_from r rs b.rising

all_part : (P : Region → Type 0) {xs ys : List Region} → Sublistᴰ xs ys → Every P ys → Every P xs
all_part P Sublistᴰ.slnil h = h
all_part P (Sublistᴰ.cons s) h = all_part P s h.1
all_part P (Sublistᴰ.cons-cons e s) h = (subst P (sym e) h.0, all_part P s h.1)

rising_part : {xs ys : List Region} → Sublistᴰ xs ys → Rising ys → Rising xs
rising_part Sublistᴰ.slnil h = h
rising_part (Sublistᴰ.cons s) h = rising_part s h.1
rising_part (Sublistᴰ.cons-cons {l₁ = xs} e s) h =
    (subst (λ (u : Region). Every (λ v. u.start < v.start) xs) (sym e) (all_part _ s h.0), rising_part s h.1)

pub parts_rise : PartsRise
parts_rise rs part b s = (rising_part s (rising_list rs b), all_part (Has rs) s (all_has_itself rs))
