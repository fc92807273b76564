-- What a count of calls is after one more.
use Rattle.std.specs.Prelude.{ℕ, ◌+◌, min}

-- one more, up to the largest number
abbrev pub one_more : ℕ → ℕ
one_more n = min (n + 1) 18446744073709551615
