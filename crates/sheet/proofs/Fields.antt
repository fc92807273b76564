-- Which elements and names the fields of a sheet can hold.
use Rattle.std.proofs.Common.{◌≡◌, ℕ, zero, suc, ◌+◌, ◌*◌, ◌<◌, ◌≤◌, Bool, true, false, cond, ltb, leb, List, [], ◌∷◌, ◌++◌, length, All, sum_by, flat_map, get_or, Option, Some, None, Ok, Err, Result, Bor, sym, refl, ap, ◌∙◌, mul-add, arith}
use Rattle.std.proofs.lemmas.Bool.{le-ltb, lt-leb, ltb-false, leb-false, cond-false}
use Rattle.std.proofs.lemmas.Iterator.Adapters.{position_from-zero}
use Rattle.std.proofs.lemmas.List.{length-map}
use Rattle.std.proofs.lemmas.List.Concat.{length-flat_map}
use Rattle.std.proofs.lemmas.List.Sums.{sum_by-le}
use Rattle.std.specs.List.{position, position_from}
use Rattle.markup.specs.declared.fault.Fault.{Fault}
use Rattle.markup.specs.declared.fault.Refusal.{Refusal}
use Rattle.markup.specs.declared.fault.Refusal.TheVariants.{ElementRecord, NameRecord}
use Rattle.markup.specs.Faults.{fault, and_then}
use Rattle.tree.specs.declared.element.Element.{Element}
use Rattle.layout.specs.Encoding.{blank, joint}
use Rattle.sheet.specs.Writing.{each_fits, numbers_fit, names_fit, fields_fit}
use Rattle.tree.specs.Tree.{bytes_of}

-- where a test refuses, it was false of what is granted
granted : (b : Bool) (r : Result (Unit {0}) Fault) (f : Fault) → cond b (Err f) r ≡ Ok tt → (b ≡ false) × (r ≡ Ok tt)
granted true r f e = let z : ◌≡◌ {A = ℕ} 0 1 = cc in absurd (omega arith)
granted false r f e = (refl, e)

both : (r : Result (Unit {0}) Fault) (k : Result (Unit {0}) Fault) → and_then r (λ _. k) ≡ Ok tt → (r ≡ Ok tt) × (k ≡ Ok tt)
both (Ok tt) k e = (refl, e)
both (Err f) k e = let z : ◌≡◌ {A = ℕ} 0 1 = cc in absurd (omega arith)

module _ {A : Type 0} (p : A → Bool) (r : Refusal) (size : ℕ) where
  -- none is too large where all fit
  none_large : (xs : List A) (o : ℕ) (d : A) → each_fits p r size xs o ≡ Ok tt → (k : ℕ) → k < length xs → p (get_or xs k d) ≡ false
  none_large [] o d h k l = absurd (omega arith)
  none_large (x ∷ xs) o d h zero l = (granted _ _ _ h).0
  none_large (x ∷ xs) o d h (suc k) l = none_large xs (o + size) d (granted _ _ _ h).1 k (omega arith)

  -- all fit where none is too large
  all_fit : (xs : List A) (o : ℕ) (d : A) → ((k : ℕ) → k < length xs → p (get_or xs k d) ≡ false) → each_fits p r size xs o ≡ Ok tt
  all_fit [] o d h = refl
  all_fit (x ∷ xs) o d h = cond-false _ _ _ (h 0 (omega arith)) ∙ all_fit xs (o + size) d (λ k l. h (suc k) (omega arith))

  -- the answer, where the first that is too large is the k-th
  refused_at : ℕ → Option ℕ → Result (Unit {0}) Fault
  refused_at o None = Ok tt
  refused_at o (Some k) = Err (fault r (o + size * k))

  fit_from : (xs : List A) (o i : ℕ) → each_fits p r size xs (o + size * i) ≡ refused_at o (position_from p i xs)
  unfolding refused_at
  fit_from [] o i = refl
  fit_from (x ∷ xs) o i =
      let next : o + size * i + size ≡ o + size * (i + 1) = omega (arith, mul-add size i 1) in
      let P : Bool → Type 0 = λ b. cond b (Err (fault r (o + size * i))) (each_fits p r size xs (o + size * i + size)) ≡ refused_at o (cond b (Some i) (position_from p (i + 1) xs)) in
      elim (p x) as P [ true ↦ refl | false ↦ ap (each_fits p r size xs) next ∙ fit_from xs o (i + 1) ]

  fit_by : (xs : List A) (o : ℕ) → each_fits p r size xs o ≡ refused_at o (position p xs)
  fit_by xs o = let z : o ≡ o + size * 0 = omega arith in ap (each_fits p r size xs) z ∙ (fit_from xs o 0 ∙ ap (refused_at o) (sym (position_from-zero p xs)))

-- Lent names are judged by their bytes.

abbrev pub long : Bor (List ℕ) → Bool
long x = ltb 32 (length x.now)

pub length-bytes_of : (xs : List (Bor (List ℕ))) → length (bytes_of xs) ≡ length xs
length-bytes_of xs = length-map xs (λ x. x.now)

lent_fit : (xs : List (Bor (List ℕ))) (o : ℕ) → names_fit (bytes_of xs) o ≡ each_fits long NameRecord 12 xs o
lent_fit [] o = refl
lent_fit (x ∷ xs) o = ap (cond (long x) (Err (fault NameRecord o))) (lent_fit xs (o + 12))

-- What is granted.

abbrev pub misnumbered : ℕ → Element → Bool
misnumbered n e = leb n e.name

pub record Roomy (es : List Element) (ts : List (List ℕ)) : Type 0 where
  pub elements : length es ≤ 65535
  pub names : length ts ≤ 1024
  pub named : (k : ℕ) → k < length es → (get_or es k blank).name < length ts
  pub short : (j : ℕ) → j < length ts → length (get_or ts j []) ≤ 32

pub roomy : (es : List Element) (ts : List (List ℕ)) → fields_fit es ts ≡ Ok tt → Roomy es ts
roomy es ts h =
    let a = granted _ _ _ h in
    let b = granted _ _ _ a.1 in
    let c = both _ _ b.1 in
    record {
      elements = ltb-false _ _ a.0;
      names = ltb-false _ _ b.0;
      named = λ k l. leb-false _ _ (none_large (misnumbered (length ts)) ElementRecord 16 es 32 blank c.0 k l);
      short = λ j l. ltb-false _ _ (none_large (λ t. ltb 32 (length t)) NameRecord 12 ts (32 + 16 * length es) [] c.1 j l);
    }

-- What is roomy is granted.

pub fields_fit_lem : (es : List Element) (ts : List (List ℕ)) → length es ≤ 65535 → length ts ≤ 1024 → ((k : ℕ) → k < length es → (get_or es k blank).name < length ts)
    → ((j : ℕ) → j < length ts → length (get_or ts j []) ≤ 32) → fields_fit es ts ≡ Ok tt
fields_fit_lem es ts few few_names named short =
    let a = all_fit (misnumbered (length ts)) ElementRecord 16 es 32 blank (λ k l. lt-leb _ _ (named k l)) in
    let b = all_fit (λ t. ltb 32 (length t)) NameRecord 12 ts (32 + 16 * length es) [] (λ j l. le-ltb _ _ (short j l)) in
    cond-false _ _ _ (le-ltb _ _ few) ∙ (cond-false _ _ _ (le-ltb _ _ few_names) ∙ rw (a, b) refl)

-- The answer, from the first that is too large.

numbers_by : (n : ℕ) (es : List Element) (i : Option ℕ) → position (misnumbered n) es ≡ i → numbers_fit n es 32 ≡ refused_at (misnumbered n) ElementRecord 16 32 i
numbers_by n es i p = fit_by (misnumbered n) ElementRecord 16 es 32 ∙ ap (refused_at (misnumbered n) ElementRecord 16 32) p

names_by : (xs : List (Bor (List ℕ))) (o : ℕ) (j : Option ℕ) → position long xs ≡ j
    → names_fit (bytes_of xs) o ≡ refused_at long NameRecord 12 o j
names_by xs o j p = lent_fit xs o ∙ (fit_by long NameRecord 12 xs o ∙ ap (refused_at long NameRecord 12 o) p)

module _ (es : List Element) (ts : List (List ℕ)) (n : ℕ) (names : length ts ≡ n) (few : length es ≤ 65535) where
  pub counts_fit : n ≤ 1024 → fields_fit es ts ≡ and_then (numbers_fit n es 32) (λ _. names_fit ts (32 + 16 * length es))
  counts_fit l =
      cond-false _ _ _ (le-ltb _ _ few)
      ∙ (cond-false _ _ _ (le-ltb 1024 (length ts) (omega arith)) ∙ ap (λ (m : ℕ). and_then (numbers_fit m es 32) (λ _. names_fit ts (32 + 16 * length es))) names)

module _ (es : List Element) (xs : List (Bor (List ℕ))) (few : length es ≤ 65535) (few_names : length xs ≤ 1024) where
  lent_counts : fields_fit es (bytes_of xs) ≡ and_then (numbers_fit (length xs) es 32) (λ _. names_fit (bytes_of xs) (32 + 16 * length es))
  lent_counts = counts_fit es (bytes_of xs) (length xs) (length-bytes_of xs) few few_names

  pub number_refused : (k : ℕ) → position (misnumbered (length xs)) es ≡ Some k → fields_fit es (bytes_of xs) ≡ Err (fault ElementRecord (32 + 16 * k))
  unfolding refused_at
  number_refused k p = lent_counts ∙ rw (numbers_by (length xs) es (Some k) p) refl

  module _ (numbered : position (misnumbered (length xs)) es ≡ None) where
    pub name_refused : (j : ℕ) → position long xs ≡ Some j → fields_fit es (bytes_of xs) ≡ Err (fault NameRecord (32 + 16 * length es + 12 * j))
    unfolding refused_at
    name_refused j p = lent_counts ∙ rw (numbers_by (length xs) es None numbered, names_by xs (32 + 16 * length es) (Some j) p) refl

    pub none_refused : position long xs ≡ None → fields_fit es (bytes_of xs) ≡ Ok tt
    unfolding refused_at
    none_refused p = lent_counts ∙ rw (numbers_by (length xs) es None numbered, names_by xs (32 + 16 * length es) None p) refl

-- The length of all names.

pub sum_texts : (xs : List (Bor (List ℕ))) → sum_by (λ x. length x.now) xs ≡ length (joint (bytes_of xs))
sum_texts xs = sym (ap length (flat xs) ∙ length-flat_map (λ x. x.now) xs)
  where
    flat : (xs : List (Bor (List ℕ))) → joint (bytes_of xs) ≡ flat_map (λ x. x.now) xs
    flat [] = refl
    flat (x ∷ xs) = ap (λ (bs : List ℕ). x.now ++ bs) (flat xs)

pub sum_texts_le : (xs : List (Bor (List ℕ))) → length xs ≤ 1024 → All (λ x. length x.now ≤ 32) xs → sum_by (λ x. length x.now) xs ≤ 32768
sum_texts_le xs few short = omega (arith, sum_by-le (λ x. length x.now) 32 xs short)

pub joint_le : (xs : List (Bor (List ℕ))) → length xs ≤ 1024 → All (λ x. length x.now ≤ 32) xs → length (joint (bytes_of xs)) ≤ 32768
joint_le xs few short = omega (arith, sum_texts_le xs few short, sum_texts xs)
