-- Rows of values in the bytes of a file. Assumes nothing.
use Rattle.std.specs.Prelude.{◌≡◌, refl, ℕ, zero, suc, ◌+◌, ◌*◌, ◌≤◌, List, map, length}
use Rattle.std.proofs.Common.{ap}
use Rattle.scope.specs.Lists.{range}
use Rattle.file_read.specs.Format.{words, bytes, numbers, Finite}

-- a row of n values has n of them
pub record Cells {A : Type 0} (row : List ℕ → ℕ → ℕ → List A) : Type 0 where
  pub size : (b : List ℕ) (from n : ℕ) → length (row b from n) ≡ n

-- a word takes four bytes, a mark one, a number eight
abbrev pub HoldsWords : List ℕ → ℕ → ℕ → Type 0
HoldsWords b from n = from + 4 * n ≤ length b

abbrev pub HoldsMarks : List ℕ → ℕ → ℕ → Type 0
HoldsMarks b from n = from + n ≤ length b

pub record HoldsNumbers (b : List ℕ) (from n : ℕ) : Type 0 where
  pub inside : from + 8 * n ≤ length b
  pub finite : Finite b from n

length-from : {A : Type 0} (f : ℕ → A) (k n : ℕ) → length (map f (range k n)) ≡ n
unfolding range
length-from f k zero = refl
length-from f k (suc n) = ap suc (length-from f (suc k) n)

pub length-row : {A : Type 0} (f : ℕ → A) (n : ℕ) → length (map f (range 0 n)) ≡ n
length-row f n = length-from f 0 n

pub words_laws : Cells words
words_laws = record { size = λ b from n. length-row _ n }

pub marks_laws : Cells bytes
marks_laws = record { size = λ b from n. length-row _ n }

pub numbers_laws : Cells numbers
numbers_laws = record { size = λ b from n. length-row _ n }
