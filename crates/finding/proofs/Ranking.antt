-- How many choices come after one, by a number that falls from each embedding that is paged to the next: numbers below `base` are the digits of a
-- choice, that of the root first.
use Rattle.std.proofs.Common.{◌≡◌, ℕ, zero, suc, ◌+◌, ◌-◌, ◌*◌, ◌<◌, ◌≤◌, List, Some, None, Option, length, refl, ap, ◌∙◌, subst, arith, ⊎_elim}
use Rattle.std.specs.Prelude.{slice_get}
use Rattle.std.proofs.Math.Nat.{suc-mul}
use Rattle.std.proofs.lemmas.Bool.{cases_eq, cases_lt}
use Rattle.std.proofs.lemmas.Nat.{mul-le}
use Rattle.std.proofs.lemmas.Option.{slice_get_within}
use Rattle.pattern.specs.Shape.{Shape}
use Rattle.stream.specs.declared.region.Region.{Region}
use Rattle.stream.proofs.Parts.{Rising, rising_part}
use Rattle.embedding.specs.Embedding.{node_count, PartsOf}
use Rattle.listing.specs.declared.place.Place.{Place}
use Rattle.listing.specs.declared.choice.Choice.{Choice}
use Rattle.listing.specs.Listing.{Listing}
use Rattle.listing.specs.Choices.{number_at}
use Rattle.listing.specs.Paging.{IsNumber, PagedTo}
use Rattle.listing.proofs.Numbers.{starts_rise, numbers_rise}

-- the number with these digits
rank : ℕ → ℕ → (ℕ → ℕ) → ℕ
rank base zero c = 0
rank base (suc n) c = rank base n c * base + c n

-- the least number with more than n digits
top : ℕ → ℕ → ℕ
top base zero = 1
top base (suc n) = top base n * base

module _ (base : ℕ) where
  -- a digit more
  next_digit : (a b d e : ℕ) → a < b → d < base → a * base + d < b * base + e
  next_digit a b d e l k =
      let m = mul-le (suc a) base b base l (omega arith) in
      let q = suc-mul a base in
      omega (arith, m, q, k)

  rank_bound : (n : ℕ) (c : ℕ → ℕ) → ((i : ℕ) → i < n → c i < base) → rank base n c < top base n
  unfolding rank top
  rank_bound zero c h = omega arith
  rank_bound (suc n) c h =
      let r = rank_bound n c (λ i l. h i (omega (arith, l))) in
      omega (arith, next_digit (rank base n c) (top base n) (c n) 0 r (h n (omega arith)))

  rank_same : (n : ℕ) (b c : ℕ → ℕ) → ((i : ℕ) → i < n → b i ≡ c i) → rank base n b ≡ rank base n c
  unfolding rank
  rank_same zero b c h = refl
  rank_same (suc n) b c h =
      let r = rank_same n b c (λ i l. h i (omega (arith, l))) in
      let d = h n (omega arith) in
      rw (r, d) refl

  -- the first digit that differs decides
  rank_rises : (n : ℕ) (b c : ℕ → ℕ) → ((i : ℕ) → i < n → b i < base) → (i : ℕ) → i < n → ((j : ℕ) → j < i → b j ≡ c j) → b i < c i → rank base n b < rank base n c
  unfolding rank
  rank_rises zero b c h i l same less = absurd (omega (arith, l))
  rank_rises (suc n) b c h i l same less =
      ⊎_elim
      (λ (e : i ≡ n).
      let r = ap (λ x. x * base) (rank_same n b c (λ j k. same j (omega (arith, k, e)))) in
      let d = subst (λ j. b j < c j) e less in
      omega (arith, r, d))
      (λ (e : i ≡ n → ⊥).
      let r = rank_rises n b c (λ j k. h j (omega (arith, k))) i (omega (arith, l, e)) same less in
      next_digit (rank base n b) (rank base n c) (b n) (c n) r (h n (omega arith)))
      (cases_eq i n)

-- the number that falls
pub after : ℕ → ℕ → Option Choice → ℕ
after base n None = suc (top base n)
after base n (Some c) = top base n - rank base n (number_at c)

-- the numbers of a choice in a listing are below the length of their lists, and a later one in the listing has a higher one at the first node
-- where they differ
module _ {s : Shape} {kept : ℕ → List Region} {ps : List Place} (l : Listing s kept ps) {book : List Region} (parts : PartsOf book kept)
    (base : ℕ) (fits : (i : ℕ) → i < node_count s → length (kept i) ≤ base) where
  rises : (i : ℕ) → Rising (kept i)
  rises i = rising_part parts.0 (parts.1 i)

  digits : (k : ℕ) (c : Choice) → IsNumber l k c → (i : ℕ) → i < node_count s → number_at c i < base
  digits k c h i w = omega (arith, slice_get_within (kept i) (number_at c i) _ (h.chooses.region i w), fits i w)

  one_number : (xs : List Region) → Rising xs → (j k : ℕ) (r : Region) → slice_get xs j ≡ Some r → slice_get xs k ≡ Some r → j ≡ k
  one_number xs up j k r a b =
      ⊎_elim (λ (p : j < k). absurd (omega (arith, starts_rise xs up j k r r a b p)))
      (λ (p : k ≤ j).
      ⊎_elim (λ (e : j ≡ k). e) (λ (e : j ≡ k → ⊥). absurd (omega (arith, starts_rise xs up k j r r b a (omega (arith, p, e))))) (cases_eq j k))
      (cases_lt j k)

  later_rank : (j k : ℕ) (b c : Choice) → j < k → IsNumber l j b → IsNumber l k c → rank base (node_count s) (number_at b) < rank base (node_count s) (number_at c)
  later_rank j k b c less hb hc =
      let o = l.in_order j k less hc.within in
      rank_rises base (node_count s) (number_at b) (number_at c) (digits j b hb) o.node o.there
      (λ i p.
      let w : i < node_count s = omega (arith, p, o.there) in
      one_number (kept i) (rises i) (number_at b i) (number_at c i) (l.embedding k i)
      (hb.chooses.region i w ∙ ap Some (o.same i p)) (hc.chooses.region i w))
      (numbers_rise (kept o.node) (rises o.node) (number_at b o.node) (number_at c o.node) _ _ (hb.chooses.region o.node o.there) (hc.chooses.region o.node o.there) o.first)

  -- it falls from page to page
  pub after_falls : (m count : ℕ) (old new : Option Choice) → 0 < count → PagedTo l m old → PagedTo l (m + count) new → after base (node_count s) new < after base (node_count s) old
  unfolding after
  after_falls m count old None pos h k = absurd (omega (arith, k, pos))
  after_falls m count None (Some c) pos h k = omega arith
  after_falls m count (Some b) (Some c) pos h k =
      let r = later_rank h.0 k.0 b c (omega (arith, h.1, k.1, pos)) h.2 k.2 in
      let t = rank_bound base (node_count s) (number_at c) (digits k.0 c k.2) in
      omega (arith, r, t)
