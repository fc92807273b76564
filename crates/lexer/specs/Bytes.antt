-- The classes of bytes in a book text, beside those of names.
use Rattle.std.specs.Prelude.{ℕ, Bool, not, ◌||◌, ◌==◌}

-- a text run holds all bytes but `<`
abbrev pub text_byte : ℕ → Bool
text_byte b = not (b == 60)

-- space, tab, CR and LF
abbrev pub blank_byte : ℕ → Bool
blank_byte b = b == 32 || b == 9 || b == 13 || b == 10
