-- That bytes are a lawful sheet, or have a right header and length, has at most one proof, so the fact comes out of its truncation.
use Rattle.std.proofs.Common.{◌≡◌, ℕ, zero, suc, ◌+◌, ◌<◌, ◌≤◌, List, length, get_or}
use Rattle.std.proofs.Math.Logic.{∥∥₁_elim}
use Rattle.std.proofs.Math.Nat.{ℕ_set}
use Rattle.std.proofs.Math.Bridge.{le_prop}
use denote.Struct.Props.{props}
use Rattle.markup.proofs.Names.{lawful_name_prop}
use Rattle.tree.specs.Region.{Region, Contains, Fits}
use Rattle.layout.specs.Layout.{element_count, name_count, element_at, region_at, next_at, name_at, name_text}
use Rattle.layout.specs.Lawful.{RightField, RightHeader, FirstFrom, FirstNamed, RightNumbers, RightElement, RightName, LawfulSheet}
use Rattle.sheet.specs.Opening.{Sized}
use Rattle.sheet.specs.Links.{CheckedNames, key_of}

field_prop : (bs : List ℕ) (i : ℕ) → IsProp (RightField bs i)
field_prop bs zero = hlevel props
field_prop bs (suc zero) = hlevel props
field_prop bs (suc (suc zero)) = hlevel props
field_prop bs (suc (suc (suc zero))) = hlevel props
field_prop bs (suc (suc (suc (suc zero)))) = hlevel props
field_prop bs (suc (suc (suc (suc (suc zero))))) = hlevel props
field_prop bs (suc (suc (suc (suc (suc (suc zero)))))) = hlevel props
field_prop bs (suc (suc (suc (suc (suc (suc (suc i))))))) = hlevel props

fits_prop : (r : ℕ → Region) (k : ℕ) → IsProp (Fits r k)
fits_prop r k a b =
    let rising : IsProp ((j : ℕ) → j < k → (r j).start < (r k).start) = hlevel props in
    let nested : IsProp ((j : ℕ) → j < k → (r k).start ≤ (r j).end → (r k).end < (r j).end) = hlevel props in
    let first : IsProp (0 < k → Contains (r 0) (r k)) = hlevel props in
    λ i. record {
      span = le_prop a.span b.span i;
      reach = le_prop a.reach b.reach i;
      depth = le_prop a.depth b.depth i;
      rising = rising a.rising b.rising i;
      nested = nested a.nested b.nested i;
      counted = ℕ_set _ _ a.counted b.counted i;
      first = first a.first b.first i;
    }

first_prop : (f : ℕ → ℕ) (n x m k : ℕ) → IsProp (FirstFrom f n x m k)
first_prop f n x m k a b =
    let before : IsProp ((j : ℕ) → m ≤ j → j < k → f j ≡ x → ⊥) = hlevel props in
    let here : IsProp (k < n → f k ≡ x) = hlevel props in
    λ i. record {
      from = le_prop a.from b.from i;
      within = le_prop a.within b.within i;
      before = before a.before b.before i;
      here = here a.here b.here i;
    }

numbers_prop : (bs : List ℕ) (k : ℕ) → IsProp (RightNumbers bs k)
numbers_prop bs k a b =
    λ i. record {
      named = le_prop a.named b.named i;
      fresh = le_prop a.fresh b.fresh i;
      next = first_prop (λ j. (element_at bs j).name) (element_count bs) (element_at bs k).name (k + 1) (next_at bs k) a.next b.next i;
    }

element_prop : (bs : List ℕ) (k : ℕ) → IsProp (RightElement bs k)
element_prop bs k a b =
    λ i. record { region = fits_prop (region_at bs) k a.region b.region i; numbers = numbers_prop bs k a.numbers b.numbers i }

name_prop : (bs : List ℕ) (j : ℕ) → IsProp (RightName bs j)
name_prop bs j a b =
    let different : IsProp ((i : ℕ) → i < j → name_text bs i ≡ name_text bs j → ⊥) = hlevel props in
    λ i. record {
      follows = ℕ_set _ _ a.follows b.follows i;
      within = le_prop a.within b.within i;
      lawful = lawful_name_prop (name_text bs j) a.lawful b.lawful i;
      has = le_prop a.has b.has i;
      first = first_prop (λ k. (element_at bs k).name) (element_count bs) j 0 (name_at bs j).first a.first b.first i;
      different = different a.different b.different i;
    }

lawful_prop : (bs : List ℕ) → IsProp (LawfulSheet bs)
lawful_prop bs a b =
    let header : IsProp (RightHeader bs) = hlevel (props, field_prop) in
    let elements : IsProp ((k : ℕ) → k < element_count bs → RightElement bs k) = hlevel (props, element_prop) in
    let names : IsProp ((j : ℕ) → j < name_count bs → RightName bs j) = hlevel (props, name_prop) in
    λ i. record {
      header = header a.header b.header i;
      size = ℕ_set _ _ a.size b.size i;
      elements = elements a.elements b.elements i;
      names = names a.names b.names i;
      filled = ℕ_set _ _ a.filled b.filled i;
    }

pub lawful_of : (bs : List ℕ) → ∥ LawfulSheet bs ∥₁ → LawfulSheet bs
lawful_of bs h = ∥∥₁_elim h (lawful_prop bs) (λ l. l)

sized_prop : (bs : List ℕ) → IsProp (Sized bs)
sized_prop bs = hlevel (props, field_prop)

pub sized_of : (bs : List ℕ) → ∥ Sized bs ∥₁ → Sized bs
sized_of bs h = ∥∥₁_elim h (sized_prop bs) (λ s. s)

checked_prop : (bs first keys : List ℕ) (end : ℕ) → IsProp (CheckedNames bs first keys end)
checked_prop bs first keys end a b =
    let firsts : IsProp ((n : ℕ) → n < 1024 → FirstNamed bs n 0 (get_or first n 0)) = hlevel (props, first_prop) in
    let right : IsProp ((j : ℕ) → j < length keys → RightName bs j) = hlevel (props, name_prop) in
    let keyed : IsProp ((j : ℕ) → j < length keys → get_or keys j 0 ≡ key_of (name_text bs j)) = hlevel props in
    λ i. record {
      firsts = firsts a.firsts b.firsts i;
      few = le_prop a.few b.few i;
      right = right a.right b.right i;
      keyed = keyed a.keyed b.keyed i;
      ends = ℕ_set _ _ a.ends b.ends i;
    }

pub checked_of : (bs first keys : List ℕ) (end : ℕ) → ∥ CheckedNames bs first keys end ∥₁ → CheckedNames bs first keys end
checked_of bs first keys end h = ∥∥₁_elim h (checked_prop bs first keys end) (λ c. c)
