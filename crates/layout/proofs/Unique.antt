-- A lawful sheet is the sheet of the tree that it shows, and that tree is lawful.
use Rattle.std.proofs.Common.{◌≡◌, ℕ, zero, suc, ◌+◌, ◌-◌, ◌*◌, ◌<◌, ◌≤◌, max, List, [], ◌∷◌, ◌++◌, length, get_or, take, drop, sym, refl, ap, ◌∙◌, subst, add-one, arith, lit<}
use Rattle.std.proofs.lemmas.List.{append_assoc, drop-drop, drop_all, at_drop_more, length-take-le, length-drop, take-append-drop}
use Rattle.std.proofs.lemmas.List.FromFn.{length-map-range_with_len, get_or-map-range_with_len}
use Rattle.markup.specs.Name.{LawfulName}
use Rattle.tree.specs.declared.element.Element.{Element}
use Rattle.tree.specs.Tree.{LawfulTree}
use Rattle.tree.proofs.Uses.{name_in, UsedBy, uses_from_places, name_below}
use Rattle.layout.specs.Layout.{u16_at, u32_at, element_count, name_count, byte_count, bytes_offset, element_at, next_at, name_at, name_text, name_offset, elements_of, names_of, tree_of}
use Rattle.layout.specs.Lawful.{FirstFrom, FirstNamed, LawfulSheet, names_end, used}
use Rattle.layout.specs.Encoding.{blank, seek, le16, le32, element_bytes, element_table, name_bytes, name_table, header_bytes, words, joint, encoded, sheet_of}
use Rattle.layout.specs.Laws.{Bytes, SheetShowsATree, SheetOfItsTree, OneSheetForATree, SheetsOfLawfulTrees}
use Rattle.layout.proofs.Digits.{split16, split32}
use Rattle.layout.proofs.Firsts.{seek_first, first_same, first_unique}
use Rattle.layout.proofs.Regions.{book_of_fits}
use Rattle.layout.proofs.Encoded.{encoded_lawful}

-- the lists that a sheet shows
pub length-elements_of : (bs : List ℕ) → length (elements_of bs) ≡ element_count bs
length-elements_of bs = length-map-range_with_len (element_at bs) 0 (element_count bs)

pub get_or-elements_of : (bs : List ℕ) (k : ℕ) → k < element_count bs → get_or (elements_of bs) k blank ≡ element_at bs k
get_or-elements_of bs k h = get_or-map-range_with_len (element_at bs) 0 (element_count bs) k k blank h (omega arith)

pub length-names_of : (bs : List ℕ) → length (names_of bs) ≡ name_count bs
length-names_of bs = length-map-range_with_len (name_text bs) 0 (name_count bs)

pub get_or-names_of : (bs : List ℕ) (j : ℕ) → j < name_count bs → get_or (names_of bs) j [] ≡ name_text bs j
get_or-names_of bs j h = get_or-map-range_with_len (name_text bs) 0 (name_count bs) j j [] h (omega arith)

-- The bytes, from the front, where the sheet shows these elements and names.
module _ (bs : List ℕ) (bytes : Bytes bs) (law : LawfulSheet bs)
    (els : List Element) (els_length : length els ≡ element_count bs) (els_at : (k : ℕ) → k < element_count bs → get_or els k blank ≡ element_at bs k)
    (nms : List (List ℕ)) (nms_length : length nms ≡ name_count bs) (nms_at : (j : ℕ) → j < name_count bs → get_or nms j [] ≡ name_text bs j)
  where
    size : length bs ≡ bytes_offset bs + byte_count bs
    size = law.size

    word : (o p : ℕ) → p ≡ o + 4 → p ≤ length bs → drop o bs ≡ le32 (u32_at bs o) ++ drop p bs
    word o p e h = split32 bs bytes o (omega arith) ∙ ap (λ (n : ℕ). le32 (u32_at bs o) ++ drop n bs) (sym e)

    half : (o p : ℕ) → p ≡ o + 2 → p ≤ length bs → drop o bs ≡ le16 (u16_at bs o) ++ drop p bs
    half o p e h = split16 bs bytes o (omega arith) ∙ ap (λ (n : ℕ). le16 (u16_at bs o) ++ drop n bs) (sym e)

    -- v stands at o, then w up to q
    join : (v w : List ℕ) (o p q : ℕ) → drop o bs ≡ v ++ drop p bs → drop p bs ≡ w ++ drop q bs → drop o bs ≡ (v ++ w) ++ drop q bs
    join v w o p q a b = a ∙ (ap (λ (x : List ℕ). v ++ x) b ∙ sym (append_assoc v w (drop q bs)))

    element_part : (k : ℕ) → k < element_count bs → drop (32 + 16 * k) bs ≡ element_bytes (element_at bs k) (next_at bs k) ++ drop (32 + 16 * (k + 1)) bs
    element_part k h =
        let e = size in
        join _ _ _ _ _ (word (32 + 16 * k) (36 + 16 * k) (omega arith) (omega arith))
        (join _ _ _ _ _ (word (36 + 16 * k) (40 + 16 * k) (omega arith) (omega arith))
        (join _ _ _ _ _ (half (40 + 16 * k) (42 + 16 * k) (omega arith) (omega arith))
        (join _ _ _ _ _ (half (42 + 16 * k) (44 + 16 * k) (omega arith) (omega arith)) (word (44 + 16 * k) (32 + 16 * (k + 1)) (omega arith) (omega arith)))))

    -- what is sought among the elements is what the sheet tells
    sought : (x m i : ℕ) → m ≤ element_count bs → FirstNamed bs x m i → i ≡ seek x (drop m els) m
    sought x m i h f =
        let l = els_length in
        let s = subst (λ (n : ℕ). FirstFrom (λ k. (get_or els k blank).name) n x m (seek x (drop m els) m)) l (seek_first els x m (omega arith)) in
        let t = first_same (λ k. (get_or els k blank).name) (λ n. (element_at bs n).name) (element_count bs) x m (seek x (drop m els) m)
        (λ k q. ap (λ (e : Element). e.name) (els_at k q)) s in
        first_unique (λ n. (element_at bs n).name) (element_count bs) x m i (seek x (drop m els) m) f t

    element_more : (k : ℕ) → k < element_count bs
        → element_bytes (element_at bs k) (next_at bs k) ++ element_table (drop (k + 1) els) (k + 1) ≡ element_table (drop k els) k
    element_more k h =
        let n = sought (element_at bs k).name (k + 1) (next_at bs k) (omega arith) (law.elements k h).numbers.next in
        let e = sym (els_at k h) in
        let r : element_bytes (element_at bs k) (next_at bs k) ≡ element_bytes (get_or els k blank) (seek (get_or els k blank).name (drop (k + 1) els) (k + 1)) =
        ap (element_bytes (element_at bs k)) n ∙ ap (λ (x : Element). element_bytes x (seek x.name (drop (k + 1) els) (k + 1))) e in
        ap (λ (v : List ℕ). v ++ element_table (drop (k + 1) els) (k + 1)) r
        ∙ sym (at_drop_more (λ (xs : List Element). element_table xs k) els k blank (omega (arith, els_length)))

    elements_part : (d k : ℕ) → k + d ≡ element_count bs → drop (32 + 16 * k) bs ≡ element_table (drop k els) k ++ drop (32 + 16 * element_count bs) bs
    elements_part zero k h =
        let p = drop_all k els (omega (arith, els_length)) in
        let e : k ≡ element_count bs = omega arith in
        rw p (ap (λ (n : ℕ). drop (32 + 16 * n) bs) e)
    elements_part (suc d) k h =
        join _ _ _ _ _ (element_part k (omega arith)) (elements_part d (k + 1) (omega arith))
        ∙ ap (λ (v : List ℕ). v ++ drop (32 + 16 * element_count bs) bs) (element_more k (omega arith))

    name_part : (j : ℕ) → j < name_count bs
        → drop (name_offset bs j) bs ≡ name_bytes (name_at bs j).offset (name_at bs j).length (name_at bs j).first ++ drop (name_offset bs (j + 1)) bs
    name_part j h =
        let e = size in
        let o = name_offset bs j in
        join _ _ _ _ _ (word o (o + 4) (omega arith) (omega arith))
        (join _ _ _ _ _ (word (o + 4) (o + 8) (omega arith) (omega arith)) (word (o + 8) (name_offset bs (j + 1)) (omega arith) (omega arith)))

    text_length : (j : ℕ) → j < name_count bs → length (name_text bs j) ≡ (name_at bs j).length
    text_length j h =
        let o = bytes_offset bs + (name_at bs j).offset in
        length-take-le (name_at bs j).length (drop o bs) (omega (arith, length-drop o bs, (law.names j h).within, size))

    name_more : (j : ℕ) → j < name_count bs
        → name_bytes (name_at bs j).offset (name_at bs j).length (name_at bs j).first
        ++ name_table (λ i. seek i els 0) (drop (j + 1) nms) (j + 1) (names_end bs j + (name_at bs j).length)
        ≡ name_table (λ i. seek i els 0) (drop j nms) j (names_end bs j)
    name_more j h =
        let f = sought j 0 (name_at bs j).first (omega arith) (law.names j h).first in
        let o = (law.names j h).follows in
        let l : (name_at bs j).length ≡ length (get_or nms j []) = sym (text_length j h) ∙ ap length (sym (nms_at j h)) in
        let g : ℕ → ℕ = λ i. seek i els 0 in
        let r : name_bytes (name_at bs j).offset (name_at bs j).length (name_at bs j).first ++ name_table g (drop (j + 1) nms) (j + 1) (names_end bs j + (name_at bs j).length)
        ≡ name_bytes (names_end bs j) (length (get_or nms j [])) (g j) ++ name_table g (drop (j + 1) nms) (j + 1) (names_end bs j + length (get_or nms j [])) =
        rw (o, f, l) in
        r ∙ sym (at_drop_more (λ (xs : List (List ℕ)). name_table g xs j (names_end bs j)) nms j [] (omega (arith, nms_length)))

    end_more : (j : ℕ) → names_end bs (j + 1) ≡ names_end bs j + (name_at bs j).length
    end_more j = rw add-one

    names_part : (d j : ℕ) → j + d ≡ name_count bs
        → drop (name_offset bs j) bs ≡ name_table (λ i. seek i els 0) (drop j nms) j (names_end bs j) ++ drop (bytes_offset bs) bs
    names_part zero j h =
        let p = drop_all j nms (omega (arith, nms_length)) in
        let e : j ≡ name_count bs = omega arith in
        rw p (ap (λ (n : ℕ). drop (name_offset bs n) bs) e)
    names_part (suc d) j h =
        let i : drop (name_offset bs (j + 1)) bs ≡ name_table (λ i. seek i els 0) (drop (j + 1) nms) (j + 1) (names_end bs j + (name_at bs j).length) ++ drop (bytes_offset bs) bs =
        let m = end_more j in rw m at (names_part d (j + 1) (omega arith)) in
        join _ _ _ _ _ (name_part j (omega arith)) i
        ∙ ap (λ (v : List ℕ). v ++ drop (bytes_offset bs) bs) (name_more j (omega arith))

    texts_part : (d j : ℕ) → j + d ≡ name_count bs → drop (bytes_offset bs + names_end bs j) bs ≡ joint (drop j nms)
    texts_part zero j h =
        let p = drop_all j nms (omega (arith, nms_length)) in
        let e : j ≡ name_count bs = omega arith in
        let n : names_end bs j ≡ byte_count bs = ap (names_end bs) e ∙ law.filled in
        rw p (drop_all (bytes_offset bs + names_end bs j) bs (omega (arith, size)))
    texts_part (suc d) j h =
        let l : j < name_count bs = omega arith in
        let o = bytes_offset bs + names_end bs j in
        let i : drop (bytes_offset bs + (names_end bs j + (name_at bs j).length)) bs ≡ joint (drop (j + 1) nms) = let m = end_more j in rw m at (texts_part d (j + 1) (omega arith)) in
        let t : take (name_at bs j).length (drop o bs) ≡ get_or nms j [] =
        ap (λ (n : ℕ). take (name_at bs j).length (drop (bytes_offset bs + n) bs)) (sym (law.names j l).follows) ∙ sym (nms_at j l) in
        let u : drop (name_at bs j).length (drop o bs) ≡ joint (drop (j + 1) nms) =
        drop-drop (name_at bs j).length o bs ∙ (ap (λ (n : ℕ). drop n bs) (omega arith) ∙ i) in
        sym (take-append-drop (name_at bs j).length (drop o bs))
        ∙ (ap (λ (x : List ℕ). x ++ drop (name_at bs j).length (drop o bs)) t
        ∙ (ap (λ (x : List ℕ). get_or nms j [] ++ x) u ∙ sym (at_drop_more joint nms j [] (omega (arith, nms_length)))))

    texts : drop (bytes_offset bs) bs ≡ joint nms
    texts = let z : bytes_offset bs ≡ bytes_offset bs + 0 = omega arith in ap (λ (n : ℕ). drop n bs) z ∙ texts_part (name_count bs) 0 (omega arith)

    texts_length : length (joint nms) ≡ byte_count bs
    texts_length = ap length (sym texts) ∙ (length-drop (bytes_offset bs) bs ∙ omega (arith, size))

    -- n numbers of 32 bits, from o on
    abbrev numbers : ℕ → ℕ → List ℕ
    numbers zero o = []
    numbers (suc n) o = u32_at bs o ∷ numbers n (o + 4)

    words_part : (n o : ℕ) → o + 4 * n ≡ 32 → drop o bs ≡ words (numbers n o) ++ drop 32 bs
    words_part zero o e = let z : o ≡ 32 = omega arith in rw z
    words_part (suc n) o e = join _ _ _ _ 32 (word o (o + 4) refl (omega (arith, size))) (words_part n (o + 4) (omega arith))

    header_part : bs ≡ words (u32_at bs 0 ∷ u32_at bs 4 ∷ u32_at bs 8 ∷ u32_at bs 12 ∷ u32_at bs 16 ∷ u32_at bs 20 ∷ u32_at bs 24 ∷ u32_at bs 28 ∷ []) ++ drop 32 bs
    header_part = words_part 8 0 refl

    header_same : words (u32_at bs 0 ∷ u32_at bs 4 ∷ u32_at bs 8 ∷ u32_at bs 12 ∷ u32_at bs 16 ∷ u32_at bs 20 ∷ u32_at bs 24 ∷ u32_at bs 28 ∷ [])
        ≡ header_bytes (length els) (length nms) (length (joint nms))
    header_same =
        rw (els_length, nms_length, texts_length, law.header 0 (lit< tt), law.header 3 (lit< tt), law.header 4 (lit< tt), law.header 5 (lit< tt), law.header 7 (lit< tt))

    one_by : bs ≡ encoded els nms
    one_by =
        let b = names_part (name_count bs) 0 (omega arith) in
        let z : name_offset bs 0 ≡ 32 + 16 * element_count bs = omega arith in
        let b' : drop (32 + 16 * element_count bs) bs ≡ name_table (λ i. seek i els 0) nms 0 0 ++ joint nms =
        ap (λ (n : ℕ). drop n bs) (sym z) ∙ (b ∙ ap (λ (x : List ℕ). name_table (λ i. seek i els 0) nms 0 0 ++ x) texts) in
        let a : drop 32 bs ≡ element_table els 0 ++ drop (32 + 16 * element_count bs) bs = elements_part (element_count bs) 0 (omega arith) in
        header_part
        ∙ (ap (λ (x : List ℕ). x ++ drop 32 bs) header_same
        ∙ ap (λ (x : List ℕ). header_bytes (length els) (length nms) (length (joint nms)) ++ x) (a ∙ ap (λ (x : List ℕ). element_table els 0 ++ x) b'))

pub sheet_of_its_tree : SheetOfItsTree
sheet_of_its_tree bs bytes law =
    one_by bs bytes law (elements_of bs) (length-elements_of bs) (get_or-elements_of bs) (names_of bs) (length-names_of bs) (get_or-names_of bs)

pub one_sheet_for_a_tree : OneSheetForATree
one_sheet_for_a_tree xs ys p q a b e = sheet_of_its_tree xs p a ∙ (ap sheet_of e ∙ sym (sheet_of_its_tree ys q b))

-- The tree.
module _ (bs : List ℕ) (law : LawfulSheet bs) where
  name_of : (k : ℕ) → k < element_count bs → name_in (elements_of bs) k ≡ (element_at bs k).name
  name_of k h = ap (λ (e : Element). e.name) (get_or-elements_of bs k h)

  used_by : UsedBy (λ k. (element_at bs k).name) (element_count bs) (used bs)
  used_by = (refl, λ k h. refl)

  used_in : UsedBy (name_in (elements_of bs)) (length (elements_of bs)) (used bs)
  used_in =
      (refl, λ k h. ap (λ (n : ℕ). max (used bs k) (n + 1)) (sym (name_of k (omega (arith, length-elements_of bs)))))

  used_most : (k : ℕ) → k ≤ element_count bs → used bs k ≤ name_count bs
  used_most zero h = omega arith
  used_most (suc k) h = omega (arith, used_most k (omega arith), (law.elements k h).numbers.named)

  -- the last name has an element, so all are used
  all_used : used bs (element_count bs) ≡ name_count bs
  all_used =
      let f = law.header 2 (lit< tt) in
      let last = law.names (name_count bs - 1) (omega arith) in
      let first = (name_at bs (name_count bs - 1)).first in
      let below = name_below (λ k. (element_at bs k).name) (element_count bs) (used bs) used_by first (element_count bs) last.has (omega arith) in
      omega (arith, used_most (element_count bs) (omega arith), last.first.here last.has)

  lawful_tree_of : LawfulTree (tree_of bs)
  lawful_tree_of =
      let count = length-elements_of bs in
      let names = length-names_of bs in
      let some = law.header 1 (lit< tt) in
      record {
        regions = book_of_fits bs (elements_of bs) (element_count bs) count (λ k h. sym (get_or-elements_of bs k h)) some.0 some.1 (λ k h. (law.elements k h).region);
        few = omega (arith, (law.header 2 (lit< tt)).1);
        lawful = λ j h. let l : j < name_count bs = omega arith in subst LawfulName (sym (get_or-names_of bs j l)) (law.names j l).lawful;
        different = λ i j h g e.
            let l : j < name_count bs = omega arith in
            (law.names j l).different i h (sym (get_or-names_of bs i (omega arith)) ∙ (e ∙ get_or-names_of bs j l));
        used =
            uses_from_places (elements_of bs) (length (names_of bs)) (used bs) used_in
            (λ k h. let l : k < element_count bs = omega arith in omega (arith, name_of k l, (law.elements k l).numbers.fresh))
            (ap (used bs) count ∙ (all_used ∙ sym names));
      }

pub sheet_shows_a_tree : SheetShowsATree
sheet_shows_a_tree = lawful_tree_of

pub sheets_of_lawful_trees : SheetsOfLawfulTrees
sheets_of_lawful_trees bs bytes = (
  λ law. (tree_of bs, lawful_tree_of bs law, sheet_of_its_tree bs bytes law),
  λ h. subst LawfulSheet (sym h.2) (encoded_lawful h.0.elements h.0.names h.1),
)
