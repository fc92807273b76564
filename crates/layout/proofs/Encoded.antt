-- The sheet of a lawful tree is lawful and shows that tree.
use Rattle.std.proofs.Common.{◌≡◌, ℕ, zero, suc, ◌+◌, ◌<◌, ◌≤◌, max, List, [], length, get_or, take, drop, sym, refl, ap, ◌∙◌, subst, arith}
use Rattle.std.proofs.lemmas.List.{length-map, get_or-map, take_all}
use Rattle.std.proofs.lemmas.List.FromFn.{fill_by_all}
use Rattle.markup.specs.Name.{LawfulName}
use Rattle.tree.specs.declared.element.Element.{Element}
use Rattle.tree.specs.Region.{Region, Fits}
use Rattle.tree.specs.Tree.{LawfulTree, region_of}
use Rattle.tree.proofs.Uses.{name_in, UsedBy, uses_by_places, uses_below, used_few, used_found}
use Rattle.layout.specs.declared.record.NameRecord.{NameRecord}
use Rattle.layout.specs.Layout.{element_count, name_count, element_at, region_at, name_at, name_text, elements_of, names_of}
use Rattle.layout.specs.Lawful.{RightField, FirstFrom, FirstNamed, RightNumbers, RightName, used, names_end, LawfulSheet}
use Rattle.layout.specs.Encoding.{blank, seek, joint, encoded}
use Rattle.layout.specs.Laws.{SheetReadsBack}
use Rattle.layout.proofs.Tables.{length-encoded, length_joint_halves, length_joint_take, length_joint_bounds}
use Rattle.layout.proofs.Firsts.{seek_first, first_same}
use Rattle.layout.proofs.Readback.{Small, head, shown_count, shown_names, shown_bytes, shown_element, shown_next, shown_name, shown_text}
use Rattle.layout.proofs.Regions.{fits_of_book}

-- What a sheet has room for.
module _ (es : List Element) (ts : List (List ℕ)) (law : LawfulTree (record { elements = es; names = ts })) where
  pub some_elements : 1 ≤ length es
  some_elements = omega (arith, length-map es region_of, law.regions.some)

  pub few_elements : length es ≤ 65535
  few_elements = omega (arith, length-map es region_of, law.regions.few)

  pub named_below : (k : ℕ) → k < length es → (get_or es k blank).name < length ts
  named_below k h = uses_below es 0 (length ts) law.used k h

  pub names_short : (j : ℕ) → j < length ts → length (get_or ts j []) ≤ 32
  names_short j h = (law.lawful j h).short

  some_names : 1 ≤ length ts
  some_names = omega (arith, named_below 0 some_elements)

  bounds : (k : ℕ) → k < length es
      → ((get_or es k blank).start < (get_or es k blank).«end») × ((get_or es k blank).«end» ≤ 16777215) × ((get_or es k blank).level ≤ 63)
  bounds k h =
      subst (λ (r : Region). (r.start < r.end) × (r.end ≤ 16777215) × (r.level ≤ 63))
      (get_or-map region_of es k blank (record { start = 0; end = 0; level = 0 }) h)
      (law.regions.each k (omega (arith, length-map es region_of)))

  small : Small es ts
  small = record {
    elements = few_elements;
    names = law.few;
    bytes = omega (arith, (length_joint_bounds ts (λ j h. ((law.lawful j h).some, (law.lawful j h).short))).1, law.few);
    each = λ k h.
        let b = bounds k h in
        let n = named_below k h in
        let f = law.few in
        (omega arith, omega arith, omega arith, omega arith);
    found = λ x m h. omega (arith, (seek_first es x m h).within, few_elements);
    short = names_short;
  }

  -- The elements.

  count : element_count (encoded es ts) ≡ length es
  count = shown_count es ts small

  name_of : (k : ℕ) → k < length es → (element_at (encoded es ts) k).name ≡ (get_or es k blank).name
  name_of k h = ap (λ (e : Element). e.name) (shown_element es ts small k h)

  region_fits : (k : ℕ) → k < length es → Fits (region_at (encoded es ts)) k
  region_fits = fits_of_book (encoded es ts) es (length es) refl (shown_element es ts small) law.regions

  -- what is sought among the elements is found in the sheet
  first_from : (x m : ℕ) → m ≤ length es → FirstNamed (encoded es ts) x m (seek x (drop m es) m)
  first_from x m h =
      subst (λ (n : ℕ). FirstFrom (λ i. (element_at (encoded es ts) i).name) n x m (seek x (drop m es) m)) (sym count)
      (first_same (λ i. (get_or es i blank).name) (λ i. (element_at (encoded es ts) i).name) (length es) x m (seek x (drop m es) m) (λ k l. sym (name_of k l)) (seek_first es x m h))

  used_by : UsedBy (name_in es) (length es) (used (encoded es ts))
  used_by = (refl, λ k h. ap (λ (n : ℕ). max (used (encoded es ts) k) (n + 1)) (name_of k h))

  fresh : ((k : ℕ) → k < length es → name_in es k ≤ used (encoded es ts) k) × (used (encoded es ts) (length es) ≡ length ts)
  fresh = uses_by_places es (length ts) (used (encoded es ts)) used_by law.used

  numbers : (k : ℕ) → k < length es → RightNumbers (encoded es ts) k
  numbers k h =
      let n = name_of k h in
      let x = shown_next es ts small k h in
      record {
        named = omega (arith, named_below k h, shown_names es ts small);
        fresh = omega (arith, fresh.0 k h);
        next = rw (n, x) (first_from (get_or es k blank).name (k + 1) (omega arith));
      }

  -- The names.

  ends : (j : ℕ) → j ≤ length ts → names_end (encoded es ts) j ≡ length (joint (take j ts))
  ends zero h = refl
  ends (suc j) h =
      let e = ends j (omega arith) in
      let n : (name_at (encoded es ts) j).length ≡ length (get_or ts j []) = ap (λ (x : NameRecord). x.length) (shown_name es ts small j h) in
      omega (arith, length_joint_take ts j h)

  has : (j : ℕ) → j < length ts → seek j es 0 < element_count (encoded es ts)
  has j h =
      let f = first_from j 0 (omega arith) in
      let r = used_found (name_in es) (length es) (used (encoded es ts)) used_by fresh.0 (length es) j (omega arith) (omega (arith, fresh.1)) in
      grind (arith, λ (a : element_count (encoded es ts) ≤ seek j es 0). f.before r.0 (omega arith) (omega (arith, r.1, count)) (name_of r.0 r.1 ∙ r.2))

  name : (j : ℕ) → j < length ts → RightName (encoded es ts) j
  name j h =
      let n = shown_name es ts small j h in
      let o : (name_at (encoded es ts) j).offset ≡ length (joint (take j ts)) = ap (λ (x : NameRecord). x.offset) n in
      let l : (name_at (encoded es ts) j).length ≡ length (get_or ts j []) = ap (λ (x : NameRecord). x.length) n in
      let f : (name_at (encoded es ts) j).first ≡ seek j es 0 = ap (λ (x : NameRecord). x.first) n in
      let t = shown_text es ts small j h in
      record {
        follows = o ∙ sym (ends j (omega arith));
        within = omega (arith, length_joint_take ts j h, length_joint_halves ts (suc j), shown_bytes es ts small);
        lawful = subst LawfulName (sym t) (law.lawful j h);
        has = omega (arith, has j h);
        first = subst (FirstNamed (encoded es ts) j 0) (sym f) (first_from j 0 (omega arith));
        different = λ i g e. law.different i j g h (sym (shown_text es ts small i (omega arith)) ∙ (e ∙ t));
      }

  -- The header.

  field : (i : ℕ) → i < 8 → RightField (encoded es ts) i
  field zero h = (head es ts small).0
  field (suc zero) h = (omega (arith, count, some_elements), omega (arith, count, few_elements))
  field (suc (suc zero)) h =
      let n = shown_names es ts small in (
        omega (arith, some_names),
        omega (arith, law.few),
        omega (arith, count, used_few (name_in es) (length es) (used (encoded es ts)) used_by fresh.0 (length es) (omega arith), fresh.1),
      )
  field (suc (suc (suc zero))) h = (head es ts small).3
  field (suc (suc (suc (suc zero)))) h = omega (arith, (head es ts small).4, count)
  field (suc (suc (suc (suc (suc zero))))) h = omega (arith, (head es ts small).5, count, shown_names es ts small)
  field (suc (suc (suc (suc (suc (suc zero)))))) h =
      let b = length_joint_bounds ts (λ j h. ((law.lawful j h).some, (law.lawful j h).short)) in
      let n = shown_names es ts small in
      let c = shown_bytes es ts small in
      (omega arith, omega arith)
  field (suc (suc (suc (suc (suc (suc (suc i))))))) h = omega (arith, (head es ts small).7, count, shown_names es ts small, shown_bytes es ts small)

  pub encoded_lawful : LawfulSheet (encoded es ts)
  encoded_lawful = record {
    header = field;
    size = omega (arith, length-encoded es ts, count, shown_names es ts small, shown_bytes es ts small);
    elements = λ k h. let l : k < length es = omega (arith, count) in record { region = region_fits k l; numbers = numbers k l };
    names = λ j h. name j (omega (arith, shown_names es ts small));
    filled =
        ap (names_end (encoded es ts)) (shown_names es ts small)
        ∙ (ends (length ts) (omega arith)
        ∙ (ap (λ (us : List (List ℕ)). length (joint us)) (take_all (length ts) ts (omega arith)) ∙ sym (shown_bytes es ts small)));
  }

  encoded_elements : elements_of (encoded es ts) ≡ es
  encoded_elements =
      sym (fill_by_all (element_at (encoded es ts)) es (element_count (encoded es ts)) blank (sym count)
      (λ k h. sym (shown_element es ts small k (omega (arith, count)))))

  encoded_names : names_of (encoded es ts) ≡ ts
  encoded_names =
      let n = shown_names es ts small in
      sym (fill_by_all (name_text (encoded es ts)) ts (name_count (encoded es ts)) [] (sym n) (λ j h. sym (shown_text es ts small j (omega arith))))

pub sheet_reads_back : SheetReadsBack
sheet_reads_back t law = (
  encoded_lawful t.elements t.names law,
  λ i. record { elements = encoded_elements t.elements t.names law i; names = encoded_names t.elements t.names law i },
)
