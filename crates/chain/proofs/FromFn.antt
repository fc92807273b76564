-- What the calls of `array::from_fn` gave, where a fact of the closure's state stays.
use Rattle.std.proofs.Common.{◌≡◌, ℕ, zero, suc, ◌+◌, ◌<◌, ◌≤◌, List, get_or, sym, subst, ⊎_elim, arith}
use denote.Param.Members.{Mut, Called}
use Rattle.std.specs.Array.{IsFromFnResultFrom}
use Rattle.std.proofs.lemmas.Bool.{cases_lt}

module _ {F B : Type 0} (g : Mut F (ℕ × Unit {0}) B) (I : F → Type 0) (P : ℕ → B → Type 0) (step : (f q : F) (i : ℕ) (y : B) → I f → Called g f (i, tt) y q → I q × P i y) where
  pub each_gives : (n i : ℕ) (f : F) (ys : List B) → I f → IsFromFnResultFrom g f ys i n → (k : ℕ) (d : B) → i ≤ k → k < i + n → P k (get_or ys k d)
  each_gives zero i f ys inv r k d low high = absurd (omega arith)
  each_gives (suc n) i f ys inv r k d low high =
      let s = step f r.0 i r.1 inv r.3 in
      ⊎_elim
      (λ (l : i < k). each_gives n (i + 1) r.0 ys s.0 r.4 k d (omega arith) (omega arith))
      (λ (l : k ≤ i). let e : i ≡ k = omega arith in subst (λ j. P j (get_or ys j d)) e (subst (P i) (sym (r.2.1 d)) s.1)) (cases_lt i k)
