-- What `byteorder` reads from an offset on is the number there.
use Rattle.std.proofs.Common.{◌≡◌, ℕ, ◌-◌, List, length, take, drop, arith, add-zero}
use Rattle.std.proofs.lemmas.List.{get_or-drop, take_rest}
use Rattle.byteorder.specs.Endian.{little_number}
use Rattle.layout.specs.Layout.{u16_at, u32_at}

pub u16_read : (bs : List ℕ) (o : ℕ) → little_number 2 (take (length bs - o) (drop o bs)) ≡ u16_at bs o
unfolding u16_at
u16_read bs o = rw take_rest (simp (get_or-drop, add-zero) (omega arith))

pub u32_read : (bs : List ℕ) (o : ℕ) → little_number 4 (take (length bs - o) (drop o bs)) ≡ u32_at bs o
unfolding u32_at
u32_read bs o = rw take_rest (simp (get_or-drop, add-zero) (omega arith))
