-- The names, while they are checked in order.
use Rattle.std.proofs.Common.{◌≡◌, ℕ, ◌+◌, ◌<◌, ◌≤◌, Bool, true, false, not, List, [], ◌∷◌, ◌++◌, length, get_or, MatchBool, sym, ap, ◌∙◌, subst, add-one, zero-add, arith, below_more}
use Rattle.std.proofs.lemmas.Grind.{elements}
use Rattle.std.specs.List.{range_with_len, HoldsAt, AllWithin}
use Rattle.std.proofs.lemmas.List.FromFn.{length-range_with_len, get_or-range_with_len}
use Rattle.std.proofs.lemmas.List.{length-append}
use Rattle.std.proofs.Math.Seq.{get_or-append_seam}
use Rattle.markup.specs.Name.{LawfulName}
use Rattle.layout.specs.declared.record.NameRecord.{NameRecord}
use Rattle.layout.specs.Layout.{element_count, name_count, byte_count, name_at, name_text}
use Rattle.layout.specs.Lawful.{FirstNamed, RightName, names_end}
use Rattle.sheet.specs.Opening.{Each}
use Rattle.layout.proofs.Firsts.{first_unique}
use Rattle.sheet.specs.Links.{key_of, CheckedNames}

-- the name after those that are checked, by what its record and its bytes are
pub right_name : (bs first keys : List ℕ) (end j : ℕ) (n : NameRecord) (text : List ℕ) (b : Bool) → CheckedNames bs first keys end → j ≡ length keys → j < 1024
    → n ≡ name_at bs j → n.offset ≡ end → n.offset + n.length ≤ byte_count bs → n.first < element_count bs → n.first ≡ get_or first j 0
    → text ≡ name_text bs j → LawfulName text
    → MatchBool b ((i : ℕ) × (i < length keys) × (name_text bs i ≡ text)) ((i : ℕ) → i < length keys → name_text bs i ≡ text → ⊥)
    → MatchBool (not b) (RightName bs (length keys)) (RightName bs (length keys) → ⊥)
right_name bs first keys end j n text true c e small r o w h f t l m = grind arith
right_name bs first keys end j n text false c e small r o w h f t l m = grind arith

-- any name, from the parts of its record
pub right_record : (bs : List ℕ) (j end : ℕ) (n : NameRecord) (b : Bool) → n ≡ name_at bs j → n.offset ≡ end → end ≡ names_end bs j
    → n.offset + n.length ≤ byte_count bs → LawfulName (name_text bs j) → (n.first < element_count bs) × FirstNamed bs j 0 n.first
    → MatchBool b ((i : ℕ) × (i < j) × (name_text bs i ≡ name_text bs j)) ((i : ℕ) → i < j → name_text bs i ≡ name_text bs j → ⊥)
    → MatchBool (not b) (RightName bs j) (RightName bs j → ⊥)
right_record bs j end n true e o p w t f r = λ right. right.different r.0 r.1 r.2
right_record bs j end n false e o p w t f r = record {
  follows = ap (λ (x : NameRecord). x.offset) (sym e) ∙ (o ∙ p);
  within = subst (λ (x : NameRecord). x.offset + x.length ≤ byte_count bs) e w;
  lawful = t;
  has = subst (λ (x : NameRecord). x.first < element_count bs) e f.0;
  first = subst (λ (x : NameRecord). FirstNamed bs j 0 x.first) e f.1;
  different = r;
}

-- its record has the first element that the table has
pub right_first : (bs first keys : List ℕ) (end j : ℕ) (n : NameRecord) → CheckedNames bs first keys end → j ≡ length keys → j < 1024 → n ≡ name_at bs j
    → RightName bs (length keys) → (n.first < element_count bs) × (n.first ≡ get_or first j 0)
right_first bs first keys end j n c e small r right = grind (arith, first_unique)

-- one more name is right
pub checked_more : (bs first keys : List ℕ) (end j v size : ℕ) → CheckedNames bs first keys end → j ≡ length keys → length keys < name_count bs → RightName bs (length keys)
    → v ≡ key_of (name_text bs j) → size ≡ (name_at bs j).length → CheckedNames bs first (keys ++ v ∷ []) (end + size)
checked_more bs first keys end j v size c e h r p q =
    let more : length (keys ++ v ∷ []) ≡ length keys + 1 = length-append keys (v ∷ []) in
    record {
      firsts = c.firsts;
      few = omega arith;
      right = rw more (below_more _ _ c.right r);
      keyed = rw more (below_more (λ i. get_or (keys ++ v ∷ []) i 0 ≡ key_of (name_text bs i)) _ (λ i l. grind (arith, elements)) (get_or-append_seam keys v [] 0 ∙ (p ∙ ap (λ (i : ℕ). key_of (name_text bs i)) e)));
      ends = rw (more, add-one) (grind arith);
    }

-- what `any` over the numbers below n gives
pub any_below : (P : ℕ → Type 0) (n : ℕ) (r : Bool)
    → MatchBool r ((k : ℕ) × (k < length (range_with_len 0 n)) × HoldsAt P (range_with_len 0 n) k)
    (AllWithin (λ i. i < n → P i → ⊥) (range_with_len 0 n) 0 (length (range_with_len 0 n)))
    → MatchBool r ((i : ℕ) × (i < n) × P i) ((i : ℕ) → i < n → P i → ⊥)
any_below P n true m =
    let l = length-range_with_len 0 n in
    let h : m.0 < n = omega (arith, m.1) in
    (m.0, h, subst P (get_or-range_with_len 0 n m.0 0 h ∙ zero-add m.0) (m.2 0))
any_below P n false m = λ i h p.
    let l = length-range_with_len 0 n in
    let e : get_or (range_with_len 0 n) i 0 ≡ i = get_or-range_with_len 0 n i 0 h ∙ zero-add i in
    m i 0 (omega arith) (omega arith) (rw e h) (subst P (sym e) p)

-- where all names are checked
pub all_checked : (bs first keys : List ℕ) (end : ℕ) → CheckedNames bs first keys end → length keys ≡ name_count bs
    → Each (RightName bs) (name_count bs) × (end ≡ names_end bs (name_count bs))
all_checked bs first keys end c n = grind arith
