-- The bytes of numbers and marks, and what the writer asks. Assumes nothing.
use Rattle.std.specs.Prelude.{ℕ, ◌*◌, ◌/◌, ◌%◌, ◌<◌, ◌≤◌, ◌≡◌, true, List, [], ◌∷◌, ◌++◌, eqb, get_or, length, Float}
use Rattle.std.specs.Float.{nan, binary64}
use Rattle.std.specs.Float.Ieee.{to_bits}
use Rattle.std.specs.Float.Ieee.Scale.{finite}
use Rattle.scope.specs.declared.records.Counts.{Counts}
use Rattle.scope.specs.Lists.{if}
use Rattle.scope.specs.Slices.{Slices}
use Rattle.file_read.specs.Format.{word_bytes, file_end}

-- the bytes of one number, and of one mark
unfoldable pub number_bytes : Float → List ℕ
number_bytes x = let n = to_bits binary64 x in word_bytes (n % 4294967296) ++ word_bytes (n / 4294967296)

unfoldable pub mark_bytes : ℕ → List ℕ
mark_bytes k = if (eqb k 0) 0 1 ∷ []

-- the first n numbers are finite
pub record Finites (ps : List Float) (n : ℕ) : Type 0 where
  pub at : (i : ℕ) → i < n → finite (get_or ps i nan) ≡ true

-- counts up to 1,048,576
pub record Held (c : Counts) : Type 0 where
  pub v : c.v ≤ 1048576
  pub e : c.e ≤ 1048576
  pub f : c.f ≤ 1048576

-- slices as long as their counts, and room for the file
pub record Room (c : Counts) (s : Slices) (ps : List Float) (b : List ℕ) : Type 0 where
  pub held : Held c
  pub outs : c.v ≤ length s.outs
  pub edges : 8 * c.e ≤ length s.edges
  pub faces : c.f ≤ length s.faces
  pub vmarks : c.v ≤ length s.vmarks
  pub emarks : c.e ≤ length s.emarks
  pub fmarks : c.f ≤ length s.fmarks
  pub points : 3 * c.v ≤ length ps
  pub finites : Finites ps (3 * c.v)
  pub file : file_end c ≤ length b
