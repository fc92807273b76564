-- The tables of a sheet, as they are written record by record.
use Rattle.std.proofs.Common.{◌≡◌, ℕ, ◌+◌, ◌-◌, ◌*◌, ◌<◌, ◌≤◌, true, false, eqb, ◌≢◌, List, [], ◌∷◌, ◌++◌, length, get_or, take, drop, set, replicate, Bor, sym, refl, ap, ◌∙◌, ⊎_elim, add-one, zero-add, arith}
use Rattle.std.proofs.lemmas.List.{length-append, length-take-le, take_at, drop_at, drop-drop, take-take, get_or-take, at_drop_more, drop_all, get_or-replicate, get_or-set_same, get_or-set_other, get_or-map}
use Rattle.std.proofs.Math.Seq.{get_or-append_seam}
use Rattle.std.proofs.lemmas.Slice.{take-put_mid}
use Rattle.std.proofs.lemmas.Bool.{cases_eq, eq-eqb, ne_eqb, cond-true, cond-false}
use borrow.Rule.Slice.PartMut.{put_mid}
use Rattle.tree.specs.declared.element.Element.{Element}
use Rattle.layout.specs.Encoding.{blank, seek, element_bytes, element_table, name_bytes, name_table, header_bytes, joint, encoded}
use Rattle.layout.proofs.Tables.{length-name, length-encoded, joint_take, length_joint_halves, seek_more, names_take}
use Rattle.tree.specs.Tree.{bytes_of}
use Rattle.sheet.proofs.Fields.{length-bytes_of}

-- The element table, from the back.

-- no element is left behind the last
module _ (es : List Element) (m : ℕ) (past : length es ≤ m) where
  pub table_none : (table : List ℕ) → length table ≤ 16 * m → drop (16 * m) table ≡ element_table (drop m es) m
  table_none table h = let d = drop_all m es past in rw d (drop_all (16 * m) table h)

  pub seek_none : (n : ℕ) → n < 1024 → get_or (replicate 1024 m) n 0 ≡ seek n (drop m es) m
  seek_none n h = let d = drop_all m es past in rw d (get_or-replicate 1024 n m 0 h)

-- e is the last of the first m elements, and has the number k; `left` are those before it
pub record LastOf (es : List Element) (m k : ℕ) (left : List Element) (e : Element) : Type 0 where
  pub number : m ≡ k + 1
  pub before : take k es ≡ left
  pub element : e ≡ get_or es k blank

pub last_of : (es left : List Element) (e : Element) (m k : ℕ) → k ≡ length left → m ≤ length es → take m es ≡ left ++ e ∷ [] → LastOf es m k left e
last_of es left e m k p within h =
    let l : m ≡ k + 1 = sym (length-take-le m es within) ∙ (ap length h ∙ (length-append left (e ∷ []) ∙ omega arith)) in
    record {
      number = l;
      before = sym (take-take k m es (omega arith)) ∙ (ap (take k) h ∙ take_at left (e ∷ []) k (sym p));
      element =
          sym (get_or-append_seam left e [] blank)
          ∙ (ap (λ (xs : List Element). get_or xs (length left) blank) (sym h)
          ∙ (ap (λ (i : ℕ). get_or (take m es) i blank) (sym p) ∙ get_or-take m es k blank (omega arith)));
    }

-- element k, where those from m on are done
module _ (es : List Element) (k m : ℕ) (within : k < length es) (next : m ≡ k + 1) (e : Element) (is : e ≡ get_or es k blank) where
  pub seek_set : (nearest : List ℕ) → length nearest ≡ 1024 → e.name < 1024 → ((n : ℕ) → n < 1024 → get_or nearest n 0 ≡ seek n (drop m es) m)
      → (n : ℕ) → n < 1024 → get_or (set nearest e.name k) n 0 ≡ seek n (drop k es) k
  seek_set nearest l low done n b =
      ⊎_elim
      (λ (s : n ≡ e.name).
      let q : eqb (get_or es k blank).name n ≡ true = eq-eqb (get_or es k blank).name n (sym (s ∙ ap (λ x. x.name) is)) in
      let g : get_or (set nearest e.name k) n 0 ≡ k = rw s (get_or-set_same nearest e.name k 0 (omega arith)) in
      g ∙ sym (seek_more es k m within next n ∙ cond-true _ _ _ q))
      (λ (ne : n ≢ e.name).
      let q : eqb (get_or es k blank).name n ≡ false = ne_eqb (get_or es k blank).name n (λ x. ne (sym x ∙ sym (ap (λ x. x.name) is))) in
      get_or-set_other nearest e.name n k 0 ne ∙ (done n b ∙ sym (seek_more es k m within next n ∙ cond-false _ _ _ q)))
      (cases_eq n e.name)

  pub table_more : (table out : List ℕ) (v : ℕ) → v ≡ seek e.name (drop m es) m → out ≡ element_bytes e v
      → 16 * m ≤ length table → drop (16 * m) table ≡ element_table (drop m es) m
      → drop (16 * k) (put_mid (16 * k) (16 * (k + 1) - 16 * k) table out) ≡ element_table (drop k es) k
  table_more table out v p q room done =
      let a : 16 * (k + 1) - 16 * k ≡ 16 = omega arith in
      let r : drop 16 (drop (16 * k) table) ≡ drop (16 * m) table = drop-drop 16 (16 * k) table ∙ ap (λ (i : ℕ). drop i table) (omega arith) in
      let s : drop (16 * k) (put_mid (16 * k) 16 table out) ≡ out ++ drop 16 (drop (16 * k) table) =
      drop_at (take (16 * k) table) (out ++ drop 16 (drop (16 * k) table)) (16 * k) (length-take-le (16 * k) table (omega arith)) in
      ap (λ (i : ℕ). drop (16 * k) (put_mid (16 * k) i table out)) a
      ∙ (s ∙ (rw (q, r, done, p, is, next) (sym (at_drop_more (λ (xs : List Element). element_table xs k) es k blank within))))

-- The name table and the names' bytes, one name more.

-- name k, x, whose bytes begin at o
module _ (xs : List (Bor (List ℕ))) (k o : ℕ) (d : Bor (List ℕ)) (within : k < length xs) (begins : o ≡ length (joint (take k (bytes_of xs)))) where
  name : get_or (bytes_of xs) k [] ≡ (get_or xs k d).now
  name = get_or-map (λ x. x.now) xs k d [] within

  below : k < length (bytes_of xs)
  below = omega (arith, length-bytes_of xs)

  joint_more : joint (take (k + 1) (bytes_of xs)) ≡ joint (take k (bytes_of xs)) ++ (get_or xs k d).now
  joint_more = rw (add-one k) (joint_take (bytes_of xs) k below) ∙ ap (λ (t : List ℕ). joint (take k (bytes_of xs)) ++ t) name

  pub offset_more : o + length (get_or xs k d).now ≡ length (joint (take (k + 1) (bytes_of xs)))
  offset_more = omega (arith, begins, ap length joint_more, length-append (joint (take k (bytes_of xs))) (get_or xs k d).now)

  pub offset_within : o + length (get_or xs k d).now ≤ length (joint (bytes_of xs))
  offset_within = omega (arith, offset_more, length_joint_halves (bytes_of xs) (k + 1))

  pub text_more : (text out : List ℕ) → o ≤ length text → out ≡ (get_or xs k d).now → take o text ≡ joint (take k (bytes_of xs))
      → take (o + length (get_or xs k d).now) (put_mid o (o + length (get_or xs k d).now - o) text out) ≡ joint (take (k + 1) (bytes_of xs))
  text_more text out room q done =
      take-put_mid o (o + length (get_or xs k d).now - o) text out (o + length (get_or xs k d).now) (omega (arith, ap length q)) room
      ∙ (rw (done, q) (sym joint_more))

  pub names_more : (f : ℕ → ℕ) (table out : List ℕ) → 12 * k ≤ length table → out ≡ name_bytes o (length (get_or xs k d).now) (f k)
      → take (12 * k) table ≡ name_table f (take k (bytes_of xs)) 0 0
      → take (12 * (k + 1)) (put_mid (12 * k) (12 * (k + 1) - 12 * k) table out) ≡ name_table f (take (k + 1) (bytes_of xs)) 0 0
  names_more f table out room q done =
      let n : 12 * (k + 1) ≡ 12 * k + length out = omega (arith, ap length q, length-name o (length (get_or xs k d).now) (f k)) in
      take-put_mid (12 * k) (12 * (k + 1) - 12 * k) table out (12 * (k + 1)) n room
      ∙ (rw (done, q, begins, ← name, add-one k) (sym (names_take f (bytes_of xs) k 0 0 below ∙ rw (zero-add k, zero-add (length (joint (take k (bytes_of xs))))) refl)))

-- The whole.

pub length_sheet : (es : List Element) (xs : List (Bor (List ℕ))) → length (encoded es (bytes_of xs)) ≡ 32 + 16 * length es + 12 * length xs + length (joint (bytes_of xs))
length_sheet es xs = omega (arith, length-encoded es (bytes_of xs), length-bytes_of xs)

-- the name table asks for the first elements of its own names alone
pub names_same : (f g : ℕ → ℕ) (ts : List (List ℕ)) (j o : ℕ) → ((n : ℕ) → n < 1024 → f n ≡ g n) → j + length ts ≤ 1024 → name_table f ts j o ≡ name_table g ts j o
names_same f g [] j o e h = refl
names_same f g (t ∷ ts) j o e h =
    let p = e j (omega arith) in
    let q = names_same f g ts (j + 1) (o + length t) e (omega arith) in
    rw (p, q) refl

-- a sheet is its header, its tables and the names' bytes
pub sheet_of_parts : (es : List Element) (xs : List (Bor (List ℕ))) (f : ℕ → ℕ) (header elements names text : List ℕ)
    → length xs ≤ 1024 → ((n : ℕ) → n < 1024 → f n ≡ seek n es 0) → header ≡ header_bytes (length es) (length xs) (length (joint (bytes_of xs)))
    → elements ≡ element_table es 0 → names ≡ name_table f (bytes_of xs) 0 0 → text ≡ joint (bytes_of xs)
    → header ++ (elements ++ (names ++ text)) ≡ encoded es (bytes_of xs)
sheet_of_parts es xs f header elements names text few first p q r s =
    let same : name_table f (bytes_of xs) 0 0 ≡ name_table (λ j. seek j es 0) (bytes_of xs) 0 0 = names_same f (λ j. seek j es 0) (bytes_of xs) 0 0 first (omega (arith, length-bytes_of xs)) in
    rw (p, q, r, s, same, ← length-bytes_of xs) refl
