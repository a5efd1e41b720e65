-- What a writer answers: the number of bytes written, or why nothing is. Assumes nothing.
use Rattle.std.specs.Prelude.{ℕ, Option, None, Some, Result, Ok, Err}
use Rattle.scope.specs.declared.answers.Refusal.{Refusal}

abbrev pub Writing : Type 0
Writing = Result ℕ Refusal

abbrev pub writing : Option Refusal → ℕ → Writing
writing None n = Ok n
writing (Some r) n = Err r
