-- Lawful names.
use Rattle.std.proofs.Common.{◌≡◌, ℕ, ◌≤◌, true, cond, List, [], ◌∷◌, length, get_or, take, sym, ap, ◌∙◌, true≢false, arith, length-take}
use Rattle.std.specs.List.{prefix_len, AllByRecursion-prop}
use Rattle.std.proofs.Math.Bool.{Bool-set}
use Rattle.std.proofs.Math.Bridge.{le_prop}
use Rattle.std.proofs.lemmas.List.{get_or-take}
use Rattle.std.proofs.lemmas.List.Sums.{prefix_len-le-length}
use Rattle.std.proofs.lemmas.Bool.{or_left}
use Rattle.markup.specs.Name.{name_first, name_byte, LawfulName}
use Rattle.markup.proofs.Leading.{leading_all, all_front, all_from_leading}

-- what may begin a name may stand in one
pub first_is_byte : (b : ℕ) → name_first b ≡ true → name_byte b ≡ true
first_is_byte b f = or_left _ _ (or_left _ _ (or_left _ _ f))

-- up to 32 bytes at the front of a run of name bytes that begins as a name does
pub name_of : (bs : List ℕ) (n : ℕ) → name_first (get_or bs 0 0) ≡ true → n ≤ prefix_len name_byte bs → 1 ≤ n → n ≤ 32 → LawfulName (take n bs)
name_of bs n f h some short = record {
  some = omega (arith, length-take n bs, prefix_len-le-length name_byte bs);
  short = omega (arith, length-take n bs);
  first = ap name_first (get_or-take n bs 0 0 some) ∙ f;
  each = all_front name_byte n bs h;
}

-- all of such a run, if it is not too long
pub name_of_run : (bs : List ℕ) → name_first (get_or bs 0 0) ≡ true → prefix_len name_byte bs ≤ 32 → LawfulName (take (prefix_len name_byte bs) bs)
name_of_run [] f h = absurd (true≢false (sym f))
name_of_run (b ∷ bs) f h = name_of (b ∷ bs) (prefix_len name_byte (b ∷ bs)) f (omega arith) (rw (first_is_byte b f, cond) (omega arith)) h

-- a lawful name is one run of name bytes
pub name_run : (name : List ℕ) → LawfulName name → prefix_len name_byte name ≡ length name
name_run name l = leading_all name_byte name l.each

pub name_from_run : (name : List ℕ) → length name ≤ 32 → name_first (get_or name 0 0) ≡ true → prefix_len name_byte name ≡ length name → LawfulName name
name_from_run [] short first run = absurd (true≢false (sym first))
name_from_run (b ∷ name) short first run = record { some = omega arith; short = short; first = first; each = all_from_leading name_byte (b ∷ name) run }

-- all proofs that a name is lawful are equal
pub lawful_name_prop : (name : List ℕ) → IsProp (LawfulName name)
lawful_name_prop name a b i = record {
  some = le_prop a.some b.some i;
  short = le_prop a.short b.short i;
  first = Bool-set _ _ a.first b.first i;
  each = AllByRecursion-prop _ (λ _. Bool-set _ _) name a.each b.each i;
}
