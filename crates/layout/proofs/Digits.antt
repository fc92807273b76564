-- Numbers and their bytes.
use Rattle.std.proofs.Common.{◌≡◌, ℕ, ◌+◌, ◌*◌, ◌/◌, ◌%◌, ◌<◌, ◌≤◌, List, ◌∷◌, ◌++◌, length, get_or, drop, refl, arith}
use Rattle.std.proofs.lemmas.List.{get_or-drop, drop_more}
use Rattle.layout.specs.Layout.{u16_at, u32_at}
use Rattle.layout.specs.Encoding.{le16, le32}

pub value16 : (n : ℕ) → n < 65536 → n % 256 + n / 256 % 256 * 256 ≡ n
value16 n h = omega arith

pub value32 : (n : ℕ) → n < 4294967296 → n % 256 + n / 256 % 256 * 256 + n / 65536 % 256 * 65536 + n / 16777216 % 256 * 16777216 ≡ n
value32 n h = omega arith

-- a number reads back from its bytes
pub read-le16 : (n : ℕ) (rest : List ℕ) → n < 65536 → u16_at (le16 n ++ rest) 0 ≡ n
unfolding u16_at le16
read-le16 n rest h = value16 n h

pub read-le32 : (n : ℕ) (rest : List ℕ) → n < 4294967296 → u32_at (le32 n ++ rest) 0 ≡ n
unfolding u32_at le32
read-le32 n rest h = value32 n h

pub u16_drop : (bs : List ℕ) (o i : ℕ) → u16_at (drop o bs) i ≡ u16_at bs (o + i)
unfolding u16_at
u16_drop bs o i = grind (arith, get_or-drop)

pub u32_drop : (bs : List ℕ) (o i : ℕ) → u32_at (drop o bs) i ≡ u32_at bs (o + i)
unfolding u32_at
u32_drop bs o i = grind (arith, get_or-drop)

-- the digits of a number made of bytes
digits16 : (a b : ℕ) → a < 256 → b < 256 → ((a + b * 256) % 256 ≡ a) × ((a + b * 256) / 256 % 256 ≡ b)
digits16 a b h i = (omega arith, omega arith)

digits32 : (a b c d : ℕ) → a < 256 → b < 256 → c < 256 → d < 256
    → ((a + b * 256 + c * 65536 + d * 16777216) % 256 ≡ a) × ((a + b * 256 + c * 65536 + d * 16777216) / 256 % 256 ≡ b)
    × ((a + b * 256 + c * 65536 + d * 16777216) / 65536 % 256 ≡ c) × ((a + b * 256 + c * 65536 + d * 16777216) / 16777216 % 256 ≡ d)
digits32 a b c d h i j k = (omega arith, omega arith, omega arith, omega arith)

module _ (bs : List ℕ) (bytes : (i : ℕ) → get_or bs i 0 < 256) (o : ℕ) where
  one : (i j : ℕ) → j ≡ i + 1 → i < length bs → drop i bs ≡ get_or bs i 0 ∷ drop j bs
  one i j e h = rw e (drop_more bs i 0 h)

  pub split16 : o + 2 ≤ length bs → drop o bs ≡ le16 (u16_at bs o) ++ drop (o + 2) bs
  unfolding u16_at le16
  split16 h =
      let d = digits16 (get_or bs o 0) (get_or bs (o + 1) 0) (bytes o) (bytes (o + 1)) in
      rw (d.0, d.1, one o (o + 1) refl (omega arith), one (o + 1) (o + 2) (omega arith) (omega arith))

  pub split32 : o + 4 ≤ length bs → drop o bs ≡ le32 (u32_at bs o) ++ drop (o + 4) bs
  unfolding u32_at le32
  split32 h =
      let d = digits32 (get_or bs o 0) (get_or bs (o + 1) 0) (get_or bs (o + 2) 0) (get_or bs (o + 3) 0) (bytes o) (bytes (o + 1)) (bytes (o + 2)) (bytes (o + 3)) in
      rw (
        d.0,
        d.1,
        d.2,
        d.3,
        one o (o + 1) refl (omega arith),
        one (o + 1) (o + 2) (omega arith) (omega arith),
        one (o + 2) (o + 3) (omega arith) (omega arith),
        one (o + 3) (o + 4) (omega arith) (omega arith),
      )
