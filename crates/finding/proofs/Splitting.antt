-- The two parts of an input, by the place of the first LF.
use Rattle.std.proofs.Common.{◌≡◌, ℕ, ◌+◌, ◌-◌, ◌<◌, ◌≤◌, Bool, true, false, cond, List, [], Some, None, length, take, drop, ltb, sym, refl, ap, ◌∙◌, arith}
use Rattle.std.specs.Prelude.{◌==◌}
use Rattle.std.specs.List.{position_or_len}
use Rattle.std.proofs.lemmas.Bool.{ltb-true, ltb-false}
use Rattle.std.proofs.lemmas.List.{take_all, drop_all, length-drop}
use Rattle.finding.specs.Input.{pattern_in, text_in}

module _ (input : List ℕ) where
  -- the place of the first LF, or the length
  abbrev first : ℕ
  first = position_or_len (λ b. b == 10) input

  -- there is one, at k
  module _ (k : ℕ) (e : cond (ltb first (length input)) (Some first) None ≡ Some k) where
    found : (k ≡ first) × (k < length input)
    found = go (ltb first (length input)) refl e
      where
        go : (b : Bool) → ltb first (length input) ≡ b → cond b (Some first) None ≡ Some k → (k ≡ first) × (k < length input)
        go true q e = let i : first ≡ k = cc in (sym i, omega (arith, ltb-true _ _ q, i))
        go false q e = cc

    pub pattern_before : take k input ≡ pattern_in input
    pattern_before = ap (λ i. take i input) found.0

    pub text_behind : take (length input - (k + 1)) (drop (k + 1) input) ≡ text_in input
    text_behind = take_all (length input - (k + 1)) (drop (k + 1) input) (omega (arith, length-drop (k + 1) input)) ∙ ap (λ i. drop (i + 1) input) found.0

  -- there is none
  module _ (e : cond (ltb first (length input)) (Some first) None ≡ None) where
    missing : length input ≤ first
    missing = go (ltb first (length input)) refl e
      where
        go : (b : Bool) → ltb first (length input) ≡ b → cond b (Some first) None ≡ None → length input ≤ first
        go true q e = cc
        go false q e = ltb-false _ _ q

    pub pattern_all : input ≡ pattern_in input
    pattern_all = sym (take_all first input missing)

    pub text_none : ◌≡◌ {A = List ℕ} [] (text_in input)
    text_none = sym (drop_all (first + 1) input (omega (arith, missing)))
