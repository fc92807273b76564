-- The pass from the back over the elements' next numbers.
use Rattle.std.proofs.Common.{◌≡◌, ℕ, ◌+◌, ◌<◌, ◌≤◌, List, Option, Some, None, unwrap_or, MatchBool, leb, length, get_or, set, replicate, subst, ⊎_elim, arith}
use Rattle.std.proofs.lemmas.List.{get_or-set_same, get_or-set_other, get_or-replicate}
use Rattle.std.proofs.lemmas.Bool.{cases_eq, cases_lt, le-leb, lt-leb}
use Rattle.layout.specs.Layout.{element_count, name_count, element_at, next_at}
use Rattle.layout.specs.Lawful.{FirstFrom, FirstNamed, RightNumbers, used}
use Rattle.layout.proofs.Firsts.{first_unique, first_none, first_yes, first_no}
use Rattle.sheet.specs.Links.{RightNext, RightLink, LinkedFrom, Firsts}

pub linked_none : (bs : List ℕ) (m : ℕ) → m ≡ element_count bs → LinkedFrom bs m None
linked_none bs m e = grind arith

pub firsts_none : (bs : List ℕ) (m : ℕ) → m ≡ element_count bs → Firsts bs m (replicate 1024 m)
firsts_none bs m e n h =
    let g = get_or-replicate 1024 n m 0 h in
    rw g (subst (λ (x : ℕ). FirstFrom (λ k. (element_at bs k).name) x n m m) e (first_none (λ k. (element_at bs k).name) m n))

-- element k, where those from m on are done and x is its name number
module _ (bs : List ℕ) (k m x : ℕ) (h : k < element_count bs) (next : m ≡ k + 1) (is : x ≡ (element_at bs k).name) (table : List ℕ) (f : Firsts bs m table) where
  pub firsts_other : 1024 ≤ x → Firsts bs k table
  firsts_other big n l = grind (arith, first_no)

  pub firsts_set : length table ≡ 1024 → x < 1024 → Firsts bs k (set table x k)
  firsts_set size small n l = grind (arith, get_or-set_same, get_or-set_other, first_yes, first_no)

  -- the table has the nearest later element with k's name
  nearest : x < 1024 → FirstNamed bs (element_at bs k).name (k + 1) (get_or table x 0)
  nearest small = grind arith

  right_more : ((element_at bs k).name < 1024 → RightNext bs k) → (i : ℕ) → RightLink bs m i → RightLink bs k i
  right_more n i a l s = ⊎_elim (λ (e : i ≡ k). rw e (n (rw (← e) s))) (λ (ne : i ≡ k → ⊥). a (omega arith) s) (cases_eq i k)

  linked_more : (w : Option ℕ) → ((element_at bs k).name < 1024 → RightNext bs k) → LinkedFrom bs m w → LinkedFrom bs k w
  linked_more None n a = grind arith
  linked_more (Some w) n a = record { within = a.within; before = λ i l. right_more n i (a.before i l); here = grind arith }

  pub linked_other : (w : Option ℕ) → 1024 ≤ x → LinkedFrom bs m w → LinkedFrom bs k w
  linked_other w big a = linked_more w (λ s. absurd (omega arith)) a

  pub linked_right : (w : Option ℕ) (v : ℕ) → x < 1024 → v ≡ next_at bs k → v ≡ get_or table x 0 → LinkedFrom bs m w → LinkedFrom bs k w
  linked_right w v small p q a = linked_more w (grind (arith, nearest)) a

  pub linked_wrong : (v : ℕ) → x < 1024 → v ≡ next_at bs k → (v ≡ get_or table x 0 → ⊥) → LinkedFrom bs k (Some k)
  linked_wrong v small p q = record {
    within = h;
    before = λ i l s. absurd (omega arith);
    here = grind (arith, first_unique, nearest);
  }

-- an element below the lowest one whose next is wrong
pub linked_below : (bs : List ℕ) (wrong : Option ℕ) (k : ℕ) → LinkedFrom bs 0 wrong → k < unwrap_or wrong (element_count bs) → (k < element_count bs) × RightLink bs 0 k
linked_below bs None k a h = (h, a k h)
linked_below bs (Some w) k a h = let l = a.within in (omega arith, a.before k h)

-- the numbers of element k, where its name number is one of a name and its next is right
pub right_numbers : (bs : List ℕ) (k x seen : ℕ) → x ≡ (element_at bs k).name → seen ≡ used bs k → (element_at bs k).name < name_count bs → RightNext bs k
    → MatchBool (leb x seen) (RightNumbers bs k) (RightNumbers bs k → ⊥)
right_numbers bs k x seen is all named next =
    ⊎_elim
    (λ (p : seen < x). rw (lt-leb x seen p) (λ n. let f = n.fresh in omega arith))
    (λ (p : x ≤ seen). rw (le-leb x seen p) (record { named = named; fresh = omega arith; next = next }))
    (cases_lt seen x)
