-- How a result is told to programs in other languages.
use Rattle.std.specs.Prelude.{◌≡◌, ℕ, Ok, Err, Result}
use Rattle.markup.specs.declared.fault.Error.{Error}
use Rattle.markup.specs.declared.fault.Error.TheVariants.{Refused, Memory}
use Rattle.markup.specs.Number.{number_of}
use Rattle.twigfinder.specs.declared.answer.Answer.{Answer}

-- the answer of a result: a count; a refusal's number and place; or want of memory
abbrev pub answer_of : Result ℕ Error → Answer
answer_of (Ok n) = record { number = 0; place = 0; count = n }
answer_of (Err (Refused f)) = record { number = number_of f.refusal; place = f.place; count = 0 }
answer_of (Err Memory) = record { number = 255; place = 0; count = 0 }

-- a result as it was promised, and its answer
pub record Answers (promised : Result ℕ Error → Type 0) (a : Answer) : Type 0 where
  pub result : Result ℕ Error
  pub kept : promised result
  pub told : a ≡ answer_of result
