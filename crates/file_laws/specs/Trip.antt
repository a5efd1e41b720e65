-- What a round trip assumes of a mesh, and what it gives. Assumes nothing.
use Rattle.std.specs.Prelude.{ℕ, ◌≤◌, ◌<◌, ◌≡◌, true, List, T, length, get_or, Float}
use Rattle.std.specs.Float.{binary64, nan}
use Rattle.std.specs.Float.Ieee.{fits}
use Rattle.scope.specs.declared.records.Counts.{Counts}
use Rattle.scope.specs.Slices.{Slices, sizes, fits_with, used, points_of}
use Rattle.file_read.specs.Format.{right, file_counts, file_slices, file_points, marks_bytes}

-- words
pub record Small (l : List ℕ) : Type 0 where
  pub at : (i : ℕ) → i < length l → get_or l i 0 < 4294967296

-- marks 0 or 1
pub record Marks01 (l : List ℕ) : Type 0 where
  pub at : (i : ℕ) → i < length l → get_or l i 0 ≤ 1

-- values of an f64
pub record Doubles (l : List Float) : Type 0 where
  pub at : (i : ℕ) → i < length l → T (fits binary64 (get_or l i nan))

-- a mesh whose slices are long enough, and hold words and values of an f64; its marks are any bytes
pub record Fair (c : Counts) (s : Slices) (ps : List Float) : Type 0 where
  pub sized : fits_with c (sizes s) (length ps) ≡ true
  pub outs : Small (used c s).outs
  pub edges : Small (used c s).edges
  pub faces : Small (used c s).faces
  pub points : Doubles (points_of c ps)

-- §5: the mesh as a file holds it: what is used of each slice, and a mark that is not 0 as 1
unfoldable pub filed : Counts → Slices → Slices
filed c s =
    let u = used c s in
    record {
      outs = u.outs;
      edges = u.edges;
      faces = u.faces;
      vmarks = marks_bytes u.vmarks;
      emarks = marks_bytes u.emarks;
      fmarks = marks_bytes u.fmarks;
    }

-- what reading gives
pub record GivenBack (b : List ℕ) (c : Counts) (s : Slices) (ps : List Float) : Type 0 where
  pub right : right b ≡ true
  pub counts : file_counts b ≡ c
  pub slices : file_slices b ≡ s
  pub points : file_points b ≡ ps
