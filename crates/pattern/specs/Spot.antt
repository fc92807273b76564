-- A place in a text.
use Rattle.std.specs.Prelude.{ℕ, List}

-- a byte offset from 0, and what is left of the text from there on
pub record Spot : Type 0 where
  pub place : ℕ
  pub rest : List ℕ
