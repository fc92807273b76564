-- The first with a name, from some number on.
use Rattle.std.proofs.Common.{◌≡◌, ℕ, zero, suc, ◌+◌, ◌-◌, ◌<◌, ◌≤◌, eqb, List, length, get_or, drop, sym, refl, ◌∙◌, subst, arith}
use Rattle.std.proofs.lemmas.List.{drop_all}
use Rattle.std.proofs.lemmas.Bool.{eqb-true, eqb-false, cond_both}
use Rattle.tree.specs.declared.element.Element.{Element}
use Rattle.layout.specs.Lawful.{FirstFrom}
use Rattle.layout.specs.Encoding.{blank, seek}
use Rattle.layout.proofs.Tables.{seek_more}

-- There is one.

no_before : (f : ℕ → ℕ) (n x m i j : ℕ) → FirstFrom f n x m i → FirstFrom f n x m j → i < j → ⊥
no_before f n x m i j a b h = b.before i a.from h (a.here (omega (arith, b.within)))

pub first_unique : (f : ℕ → ℕ) (n x m i j : ℕ) → FirstFrom f n x m i → FirstFrom f n x m j → i ≡ j
first_unique f n x m i j a b = grind (arith, no_before f n x m i j a b, no_before f n x m j i b a)

-- where the names are the same
pub first_same : (f g : ℕ → ℕ) (n x m i : ℕ) → ((k : ℕ) → k < n → f k ≡ g k) → FirstFrom f n x m i → FirstFrom g n x m i
first_same f g n x m i e a = record {
  from = a.from;
  within = a.within;
  before = λ j p q r. a.before j p q (e j (omega (arith, a.within)) ∙ r);
  here = λ h. sym (e i h) ∙ a.here h;
}

-- From the back.

pub first_none : (f : ℕ → ℕ) (n x : ℕ) → FirstFrom f n x n n
first_none f n x = record
    { from = omega arith; within = omega arith; before = λ j p q. absurd (omega arith); here = λ h. absurd (omega arith) }

pub first_yes : (f : ℕ → ℕ) (n x m : ℕ) → m < n → f m ≡ x → FirstFrom f n x m m
first_yes f n x m h e = record
    { from = omega arith; within = omega arith; before = λ j p q. absurd (omega arith); here = λ _. e }

pub first_no : (f : ℕ → ℕ) (n x m i : ℕ) → (f m ≡ x → ⊥) → FirstFrom f n x (m + 1) i → FirstFrom f n x m i
first_no f n x m i ne a = record {
  from = omega (arith, a.from);
  within = a.within;
  before = λ j p q r. grind (arith, ne, λ (u : m + 1 ≤ j). a.before j u q r);
  here = a.here;
}

-- What `seek` finds.

seek_by : (es : List Element) (x d m : ℕ) → m + d ≡ length es → FirstFrom (λ i. (get_or es i blank).name) (length es) x m (seek x (drop m es) m)
seek_by es x zero m h =
    let e : m ≡ length es = omega arith in
    let p = drop_all m es (omega arith) in
    rw p (subst (λ (n : ℕ). FirstFrom (λ i. (get_or es i blank).name) n x m m) e (first_none (λ i. (get_or es i blank).name) m x))
seek_by es x (suc d) m h =
    let f : ℕ → ℕ = λ i. (get_or es i blank).name in
    let r = seek x (drop (m + 1) es) (m + 1) in
    rw (seek_more es m (m + 1) (omega arith) refl x)
    (cond_both (eqb (f m) x) m r (FirstFrom f (length es) x m) (λ b. first_yes f (length es) x m (omega arith) (eqb-true _ _ b))
    (λ b. first_no f (length es) x m r (eqb-false _ _ b) (seek_by es x d (m + 1) (omega arith))))

pub seek_first : (es : List Element) (x m : ℕ) → m ≤ length es → FirstFrom (λ i. (get_or es i blank).name) (length es) x m (seek x (drop m es) m)
seek_first es x m h = seek_by es x (length es - m) m (omega arith)
