-- What stands in the bytes of a sheet that was made of elements and names.
use Rattle.std.proofs.Common.{◌≡◌, ℕ, ◌+◌, ◌*◌, ◌<◌, ◌≤◌, List, [], ◌++◌, length, get_or, take, drop, sym, refl, ap, ◌∙◌, arith}
use Rattle.std.proofs.lemmas.List.{append_assoc, drop-drop, drop_at, drop-append-le, take_at, at_drop_more}
use Rattle.tree.specs.declared.element.Element.{Element}
use Rattle.layout.specs.declared.record.NameRecord.{NameRecord}
use Rattle.layout.specs.Layout.{u16_at, u32_at, element_count, name_count, byte_count, bytes_offset, element_at, next_at, name_at, name_text}
use Rattle.layout.specs.Encoding.{blank, seek, le16, le32, element_bytes, element_table, name_bytes, name_table, header_bytes, joint, encoded}
use Rattle.layout.proofs.Digits.{value16, value32, u16_drop, u32_drop}
use Rattle.layout.proofs.Tables.{length-header, length-elements, length-names, length_joint_halves, drop-elements, drop-names, drop-joint}

-- the records' own numbers
abbrev pub ElementReads : List ℕ → Element → ℕ → Type 0
ElementReads bs e next =
    (u32_at bs 0 ≡ e.start) × (u32_at bs 4 ≡ e.«end») × (u16_at bs 8 ≡ e.level) × (u16_at bs 10 ≡ e.name) × (u32_at bs 12 ≡ next)

read_element : (e : Element) (v : ℕ) (rest : List ℕ) → e.start < 4294967296 → e.«end» < 4294967296 → e.level < 65536 → e.name < 65536 → v < 4294967296
    → ElementReads (element_bytes e v ++ rest) e v
unfolding u16_at u32_at le16 le32
read_element e v rest a b c d f = (value32 e.start a, value32 e.«end» b, value16 e.level c, value16 e.name d, value32 v f)

read_name : (o n f : ℕ) (rest : List ℕ) → o < 4294967296 → n < 4294967296 → f < 4294967296
    → (u32_at (name_bytes o n f ++ rest) 0 ≡ o) × (u32_at (name_bytes o n f ++ rest) 4 ≡ n) × (u32_at (name_bytes o n f ++ rest) 8 ≡ f)
unfolding u32_at le32
read_name o n f rest a b c = (value32 o a, value32 n b, value32 f c)

-- the header, for e elements, n names and c name bytes
abbrev pub HeaderReads : List ℕ → ℕ → ℕ → ℕ → Type 0
HeaderReads bs e n c =
    (u32_at bs 0 ≡ 1) × (u32_at bs 4 ≡ e) × (u32_at bs 8 ≡ n) × (u32_at bs 12 ≡ 32) × (u32_at bs 16 ≡ 32 + 16 * e)
    × (u32_at bs 20 ≡ 32 + 16 * e + 12 * n) × (u32_at bs 24 ≡ c) × (u32_at bs 28 ≡ 32 + 16 * e + 12 * n + c)

read_header : (e n c : ℕ) (rest : List ℕ) → e < 65536 → n < 65536 → c < 65536 → HeaderReads (header_bytes e n c ++ rest) e n c
unfolding u32_at le32
read_header e n c rest p q r = (
  refl,
  value32 e (omega arith),
  value32 n (omega arith),
  refl,
  value32 (32 + 16 * e) (omega arith),
  value32 (32 + 16 * e + 12 * n) (omega arith),
  value32 c (omega arith),
  value32 (32 + 16 * e + 12 * n + c) (omega arith),
)

-- a number of a part is one of the whole
pub at_offset : (bs v : List ℕ) (o i p : ℕ) → drop o bs ≡ v → p ≡ o + i → u32_at bs p ≡ u32_at v i
at_offset bs v o i p d e = ap (u32_at bs) e ∙ (sym (u32_drop bs o i) ∙ ap (λ (x : List ℕ). u32_at x i) d)

pub at_offset16 : (bs v : List ℕ) (o i p : ℕ) → drop o bs ≡ v → p ≡ o + i → u16_at bs p ≡ u16_at v i
at_offset16 bs v o i p d e = ap (u16_at bs) e ∙ (sym (u16_drop bs o i) ∙ ap (λ (x : List ℕ). u16_at x i) d)

-- The numbers fit their fields.
pub record Small (es : List Element) (ts : List (List ℕ)) : Type 0 where
  pub elements : length es ≤ 65535
  pub names : length ts ≤ 1024
  pub bytes : length (joint ts) ≤ 32768
  pub each : (k : ℕ) → k < length es
      → ((get_or es k blank).start < 4294967296) × ((get_or es k blank).«end» < 4294967296) × ((get_or es k blank).level < 65536) × ((get_or es k blank).name < 65536)
  pub found : (x m : ℕ) → m ≤ length es → seek x (drop m es) m < 4294967296
  pub short : (j : ℕ) → j < length ts → length (get_or ts j []) ≤ 32

module _ (es : List Element) (ts : List (List ℕ)) (s : Small es ts) where
  pub head : HeaderReads (encoded es ts) (length es) (length ts) (length (joint ts))
  head =
      read_header (length es) (length ts) (length (joint ts)) (element_table es 0 ++ (name_table (λ j. seek j es 0) ts 0 0 ++ joint ts))
      (omega (arith, s.elements)) (omega (arith, s.names)) (omega (arith, s.bytes))

  pub shown_count : element_count (encoded es ts) ≡ length es
  shown_count = head.1

  pub shown_names : name_count (encoded es ts) ≡ length ts
  shown_names = head.2

  pub shown_bytes : byte_count (encoded es ts) ≡ length (joint ts)
  shown_bytes = head.6

  past_header : (m : ℕ) → drop (32 + m) (encoded es ts) ≡ drop m (element_table es 0 ++ (name_table (λ j. seek j es 0) ts 0 0 ++ joint ts))
  past_header m =
      let h = header_bytes (length es) (length ts) (length (joint ts)) in
      let x = element_table es 0 ++ (name_table (λ j. seek j es 0) ts 0 0 ++ joint ts) in
      sym (drop-drop m 32 (encoded es ts)) ∙ ap (drop m) (drop_at h x 32 (length-header (length es) (length ts) (length (joint ts))))

  past_elements : (m : ℕ) → drop (32 + (16 * length es + m)) (encoded es ts) ≡ drop m (name_table (λ j. seek j es 0) ts 0 0 ++ joint ts)
  past_elements m =
      let a = element_table es 0 in
      let y = name_table (λ j. seek j es 0) ts 0 0 ++ joint ts in
      past_header (16 * length es + m)
      ∙ (sym (drop-drop m (16 * length es) (a ++ y)) ∙ ap (drop m) (drop_at a y (16 * length es) (length-elements es 0)))

  past_names : (m : ℕ) → drop (32 + (16 * length es + (12 * length ts + m))) (encoded es ts) ≡ drop m (joint ts)
  past_names m =
      let b = name_table (λ j. seek j es 0) ts 0 0 in
      past_elements (12 * length ts + m)
      ∙ (sym (drop-drop m (12 * length ts) (b ++ joint ts)) ∙ ap (drop m) (drop_at b (joint ts) (12 * length ts) (length-names (λ j. seek j es 0) ts 0 0)))

  module _ (k : ℕ) (h : k < length es) where
    next : ℕ
    next = seek (get_or es k blank).name (drop (k + 1) es) (k + 1)

    rest : List ℕ
    rest = element_table (drop (k + 1) es) (k + 1) ++ (name_table (λ j. seek j es 0) ts 0 0 ++ joint ts)

    at_element : drop (32 + 16 * k) (encoded es ts) ≡ element_bytes (get_or es k blank) next ++ rest
    unfolding next rest
    at_element =
        let y = name_table (λ j. seek j es 0) ts 0 0 ++ joint ts in
        let z : 0 + k ≡ k = omega arith in
        let v = element_bytes (get_or es k blank) (seek (get_or es k blank).name (drop (k + 1) es) (k + 1)) in
        let w = element_table (drop (k + 1) es) (k + 1) in
        let d : drop (16 * k) (element_table es 0) ≡ v ++ w =
        drop-elements es k 0 (omega arith) ∙ (ap (element_table (drop k es)) z ∙ at_drop_more (λ (xs : List Element). element_table xs k) es k blank h) in
        past_header (16 * k)
        ∙ (drop-append-le (16 * k) (element_table es 0) y (omega (arith, length-elements es 0))
        ∙ (ap (λ (x : List ℕ). x ++ y) d ∙ append_assoc v w y))

    numbers : ElementReads (element_bytes (get_or es k blank) next ++ rest) (get_or es k blank) next
    unfolding next
    numbers =
        let f = s.each k h in
        read_element (get_or es k blank) next rest f.0 f.1 f.2 f.3 (s.found (get_or es k blank).name (k + 1) (omega arith))

    pub shown_element : element_at (encoded es ts) k ≡ get_or es k blank
    shown_element =
        let v = element_bytes (get_or es k blank) next ++ rest in
        let r = numbers in
        let o = 32 + 16 * k in
        let a = at_offset (encoded es ts) v o 0 (32 + 16 * k) at_element (omega arith) ∙ r.0 in
        let b = at_offset (encoded es ts) v o 4 (36 + 16 * k) at_element (omega arith) ∙ r.1 in
        let c = at_offset16 (encoded es ts) v o 8 (40 + 16 * k) at_element (omega arith) ∙ r.2 in
        let d = at_offset16 (encoded es ts) v o 10 (42 + 16 * k) at_element (omega arith) ∙ r.3 in
        λ i. record { start = a i; «end» = b i; level = c i; name = d i }

    pub shown_next : next_at (encoded es ts) k ≡ seek (get_or es k blank).name (drop (k + 1) es) (k + 1)
    unfolding next
    shown_next =
        at_offset (encoded es ts) (element_bytes (get_or es k blank) next ++ rest) (32 + 16 * k) 12 (44 + 16 * k) at_element (omega arith) ∙ numbers.4

  module _ (j : ℕ) (h : j < length ts) where
    before_text : length (joint (take j ts)) + length (joint (drop j ts)) ≡ length (joint ts)
    before_text = length_joint_halves ts j

    more : List ℕ
    more = name_table (λ i. seek i es 0) (drop (j + 1) ts) (j + 1) (length (joint (take j ts)) + length (get_or ts j [])) ++ joint ts

    at_name : drop (32 + (16 * length es + 12 * j)) (encoded es ts) ≡ name_bytes (length (joint (take j ts))) (length (get_or ts j [])) (seek j es 0) ++ more
    unfolding more
    at_name =
        let f : ℕ → ℕ = λ i. seek i es 0 in
        let o = length (joint (take j ts)) in
        let z : 0 + j ≡ j = omega arith in
        let y : 0 + o ≡ o = omega arith in
        let v = name_bytes o (length (get_or ts j [])) (f j) in
        let w = name_table f (drop (j + 1) ts) (j + 1) (o + length (get_or ts j [])) in
        let d : drop (12 * j) (name_table f ts 0 0) ≡ v ++ w =
        drop-names f ts j 0 0 (omega arith) ∙ rw (z, y) (at_drop_more (λ (xs : List (List ℕ)). name_table f xs j o) ts j [] h) in
        past_elements (12 * j)
        ∙ (drop-append-le (12 * j) (name_table f ts 0 0) (joint ts) (omega (arith, length-names f ts 0 0))
        ∙ (ap (λ (x : List ℕ). x ++ joint ts) d ∙ append_assoc v w (joint ts)))

    pub shown_name : name_at (encoded es ts) j
        ≡ record { offset = length (joint (take j ts)); length = length (get_or ts j []); first = seek j es 0 }
    shown_name =
        let t = length (get_or ts j []) in
        let u = length (joint (take j ts)) in
        let v = name_bytes u t (seek j es 0) ++ more in
        let r = read_name u t (seek j es 0) more (omega (arith, before_text, s.bytes)) (omega (arith, s.short j h)) (s.found j 0 (omega arith)) in
        let o = 32 + (16 * length es + 12 * j) in
        let n = shown_count in
        let a : u32_at (encoded es ts) (32 + 16 * element_count (encoded es ts) + 12 * j) ≡ u = at_offset (encoded es ts) v o 0 _ at_name (omega arith) ∙ r.0 in
        let b : u32_at (encoded es ts) (32 + 16 * element_count (encoded es ts) + 12 * j + 4) ≡ t = at_offset (encoded es ts) v o 4 _ at_name (omega arith) ∙ r.1 in
        let c : u32_at (encoded es ts) (32 + 16 * element_count (encoded es ts) + 12 * j + 8) ≡ seek j es 0 = at_offset (encoded es ts) v o 8 _ at_name (omega arith) ∙ r.2 in
        λ i. record { offset = a i; length = b i; first = c i }

    pub shown_text : name_text (encoded es ts) j ≡ get_or ts j []
    shown_text =
        let t = get_or ts j [] in
        let u = length (joint (take j ts)) in
        let a : (name_at (encoded es ts) j).length ≡ length t = ap (λ (n : NameRecord). n.length) shown_name in
        let b : bytes_offset (encoded es ts) + (name_at (encoded es ts) j).offset ≡ 32 + (16 * length es + (12 * length ts + u)) =
        omega (arith, shown_count, shown_names, ap (λ (n : NameRecord). n.offset) shown_name) in
        let d : drop (32 + (16 * length es + (12 * length ts + u))) (encoded es ts) ≡ t ++ joint (drop (j + 1) ts) =
        past_names u ∙ (drop-joint ts j ∙ at_drop_more joint ts j [] h) in
        rw (a, b, d) (take_at t (joint (drop (j + 1) ts)) (length t) refl)
