-- The tables of a sheet: how long they are, and what they begin with from one of their records on.
use Rattle.std.proofs.Common.{◌≡◌, ℕ, zero, suc, ◌+◌, ◌*◌, ◌<◌, ◌≤◌, cond, eqb, List, [], ◌∷◌, ◌++◌, length, get_or, take, drop, sym, refl, ap, ◌∙◌, arith}
use Rattle.std.proofs.lemmas.List.{append_assoc, append-nil, length-append, drop_at, drop-drop, at_drop_more}
use Rattle.tree.specs.declared.element.Element.{Element}
use Rattle.layout.specs.Encoding.{blank, seek, le16, le32, element_bytes, element_table, name_bytes, name_table, header_bytes, joint, encoded}

-- Lengths.

pub length-le16 : (n : ℕ) → length (le16 n) ≡ 2
unfolding le16
length-le16 n = refl

pub length-le32 : (n : ℕ) → length (le32 n) ≡ 4
unfolding le32
length-le32 n = refl

pub length-element : (e : Element) (next : ℕ) → length (element_bytes e next) ≡ 16
unfolding le16 le32
length-element e next = refl

pub length-name : (o n f : ℕ) → length (name_bytes o n f) ≡ 12
unfolding le32
length-name o n f = refl

pub length-header : (e n c : ℕ) → length (header_bytes e n c) ≡ 32
unfolding le32
length-header e n c = refl

pub length-elements : (es : List Element) (k : ℕ) → length (element_table es k) ≡ 16 * length es
length-elements [] k = refl
length-elements (e ∷ es) k = omega (arith, length-append {A = ℕ}, length-element e (seek e.name es (k + 1)), length-elements es (k + 1))

pub length-names : (f : ℕ → ℕ) (ts : List (List ℕ)) (j o : ℕ) → length (name_table f ts j o) ≡ 12 * length ts
length-names f [] j o = refl
length-names f (t ∷ ts) j o = omega (arith, length-append {A = ℕ}, length-name o (length t) (f j), length-names f ts (j + 1) (o + length t))

pub length-encoded : (es : List Element) (ts : List (List ℕ)) → length (encoded es ts) ≡ 32 + 16 * length es + 12 * length ts + length (joint ts)
length-encoded es ts =
    omega (
      arith,
      length-append {A = ℕ},
      length-header (length es) (length ts) (length (joint ts)),
      length-elements es 0,
      length-names (λ j. seek j es 0) ts 0 0,
    )

-- The names' bytes.

-- one name more
pub joint_take : (ts : List (List ℕ)) (k : ℕ) → k < length ts → joint (take (suc k) ts) ≡ joint (take k ts) ++ get_or ts k []
joint_take [] k h = absurd (omega arith)
joint_take (t ∷ ts) zero h = append-nil t
joint_take (t ∷ ts) (suc k) h = ap (λ (bs : List ℕ). t ++ bs) (joint_take ts k (omega arith)) ∙ sym (append_assoc t (joint (take k ts)) (get_or ts k []))

pub length_joint_halves : (ts : List (List ℕ)) (k : ℕ) → length (joint (take k ts)) + length (joint (drop k ts)) ≡ length (joint ts)
length_joint_halves ts zero = omega arith
length_joint_halves [] (suc k) = refl
length_joint_halves (t ∷ ts) (suc k) =
    omega (arith, length_joint_halves ts k, length-append t (joint (take k ts)), length-append t (joint ts))

pub length_joint_take : (ts : List (List ℕ)) (k : ℕ) → k < length ts → length (joint (take (suc k) ts)) ≡ length (joint (take k ts)) + length (get_or ts k [])
length_joint_take ts k h = ap length (joint_take ts k h) ∙ length-append (joint (take k ts)) (get_or ts k [])

pub length_joint_bounds : (ts : List (List ℕ)) → ((j : ℕ) → j < length ts → (1 ≤ length (get_or ts j [])) × (length (get_or ts j []) ≤ 32))
    → (length ts ≤ length (joint ts)) × (length (joint ts) ≤ 32 * length ts)
length_joint_bounds [] h = (omega arith, omega arith)
length_joint_bounds (t ∷ ts) h =
    let a = h 0 (omega arith) in
    let b = length_joint_bounds ts (λ j l. h (suc j) (omega arith)) in
    let c = length-append t (joint ts) in
    (omega arith, omega arith)

-- From a record on.

-- element k, where m is the next
pub seek_more : (es : List Element) (k m : ℕ) → k < length es → m ≡ k + 1 → (n : ℕ)
    → seek n (drop k es) k ≡ cond (eqb (get_or es k blank).name n) k (seek n (drop m es) m)
seek_more es k m h next n = rw next (at_drop_more (λ (xs : List Element). seek n xs k) es k blank h)

pub drop-elements : (es : List Element) (k m : ℕ) → k ≤ length es → drop (16 * k) (element_table es m) ≡ element_table (drop k es) (m + k)
drop-elements es zero m h = let z : m + 0 ≡ m = omega arith in rw z
drop-elements [] (suc k) m h = absurd (omega arith)
drop-elements (e ∷ es) (suc k) m h =
    let v = element_bytes e (seek e.name es (m + 1)) in
    let w = element_table es (m + 1) in
    let p : 16 * suc k ≡ 16 + 16 * k = omega arith in
    let q : m + suc k ≡ m + 1 + k = omega arith in
    rw (p, q) (sym (drop-drop (16 * k) 16 (v ++ w)) ∙ (ap (drop (16 * k)) (drop_at v w 16 (length-element e (seek e.name es (m + 1)))) ∙ drop-elements es k (m + 1) (omega arith)))

pub drop-names : (f : ℕ → ℕ) (ts : List (List ℕ)) (k j o : ℕ) → k ≤ length ts
    → drop (12 * k) (name_table f ts j o) ≡ name_table f (drop k ts) (j + k) (o + length (joint (take k ts)))
drop-names f ts zero j o h = let z : j + 0 ≡ j = omega arith in let y : o + 0 ≡ o = omega arith in rw (z, y)
drop-names f [] (suc k) j o h = absurd (omega arith)
drop-names f (t ∷ ts) (suc k) j o h =
    let v = name_bytes o (length t) (f j) in
    let w = name_table f ts (j + 1) (o + length t) in
    let p : 12 * suc k ≡ 12 + 12 * k = omega arith in
    let q : j + suc k ≡ j + 1 + k = omega arith in
    let r : o + length (t ++ joint (take k ts)) ≡ o + length t + length (joint (take k ts)) = omega (arith, length-append t (joint (take k ts))) in
    rw (p, q, r) (sym (drop-drop (12 * k) 12 (v ++ w)) ∙ (ap (drop (12 * k)) (drop_at v w 12 (length-name o (length t) (f j))) ∙ drop-names f ts k (j + 1) (o + length t) (omega arith)))

pub drop-joint : (ts : List (List ℕ)) (k : ℕ) → drop (length (joint (take k ts))) (joint ts) ≡ joint (drop k ts)
drop-joint ts zero = refl
drop-joint [] (suc k) = refl
drop-joint (t ∷ ts) (suc k) =
    let w = joint (take k ts) in
    let p = length-append t w in
    rw p (sym (drop-drop (length w) (length t) (t ++ joint ts)) ∙ (ap (drop (length w)) (drop_at t (joint ts) (length t) refl) ∙ drop-joint ts k))

-- The name table, one name more.

pub names_take : (f : ℕ → ℕ) (ts : List (List ℕ)) (k j o : ℕ) → k < length ts
    → name_table f (take (suc k) ts) j o ≡ name_table f (take k ts) j o ++ name_bytes (o + length (joint (take k ts))) (length (get_or ts k [])) (f (j + k))
names_take f [] k j o h = absurd (omega arith)
names_take f (t ∷ ts) zero j o h = let a : o + 0 ≡ o = omega arith in let b : j + 0 ≡ j = omega arith in rw (a, b) (append-nil (name_bytes o (length t) (f j)))
names_take f (t ∷ ts) (suc k) j o h =
    let a : o + length t + length (joint (take k ts)) ≡ o + length (t ++ joint (take k ts)) = omega (arith, length-append t (joint (take k ts))) in
    let b : j + 1 + k ≡ j + suc k = omega arith in
    let n = name_bytes o (length t) (f j) in
    let r = name_table f (take k ts) (j + 1) (o + length t) in
    let w = name_bytes (o + length (t ++ joint (take k ts))) (length (get_or ts k [])) (f (j + suc k)) in
    ap (λ (bs : List ℕ). n ++ bs) (names_take f ts k (j + 1) (o + length t) (omega arith) ∙ rw (a, b) refl) ∙ sym (append_assoc n r w)
