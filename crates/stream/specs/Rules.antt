-- What a band and a window keep.
use Rattle.std.specs.Prelude.{ℕ, Bool, false, ◌&&◌, nat_le, nat_lt, slice_get}
use Rattle.std.specs.Option.{option_map_or}
use Rattle.stream.specs.declared.region.Region.{Region}
use Rattle.stream.specs.declared.rule.LevelRange.{LevelRange}
use Rattle.stream.specs.declared.rule.Levels.{Levels}
use Rattle.stream.specs.declared.rule.Span.{Span}

-- from the lowest level to the highest
abbrev pub in_range : LevelRange → ℕ → Bool
in_range range level = nat_le range.lowest level && nat_le level range.highest

-- within the levels of position i
abbrev pub within : Levels → ℕ → Region → Bool
within l i r = option_map_or (λ range. in_range range r.level) (slice_get l.ranges i) false

-- inside the span
abbrev pub inside : Span → Region → Bool
inside w r = nat_le w.start r.start && nat_lt r.«end» w.«end»
