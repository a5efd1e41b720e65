-- Counts, and document 01's table of them (section 3). Assumes nothing.
use Rattle.std.specs.Prelude.{ℕ, ◌+◌, ◌-◌, ◌*◌, Bool, length}
use Rattle.scope.specs.declared.records.Counts.{Counts}
use Rattle.scope.specs.Lists.{if, number_of, sum}
use Rattle.scope.specs.Links.{Links, start, rim_edge, loop}

unfoldable pub counts_of : Links → Counts
counts_of m = record { v = m.nv; e = m.ne; f = m.nf }

-- §3: V, E, F; S is the sum of face lengths, b the number of edges with a rim halfedge
pub record Tally : Type 0 where
  pub v : ℕ
  pub e : ℕ
  pub f : ℕ
  pub s : ℕ
  pub b : ℕ

unfoldable pub tally_of : Links → Tally
tally_of m = record {
  v = m.nv;
  e = m.ne;
  f = m.nf;
  s = sum m.nf (λ f. length (loop m (start m f)));
  b = number_of m.ne (rim_edge m);
}

unfoldable pub counted : Tally → Counts
counted t = record { v = t.v; e = t.e; f = t.f }

-- §3: Loop and sqrt3 first triangulate: faces S-2F, edges E+S-3F
unfoldable pub triangulated : Tally → Tally
triangulated t = record { v = t.v; e = t.e + t.s - 3 * t.f; f = t.s - 2 * t.f; s = 3 * (t.s - 2 * t.f); b = t.b }

-- §3, the table: Catmull-Clark gives faces of length 4, the others triangles; a rim edge becomes two, or three where sqrt3 puts a pair on it
unfoldable pub catmull_tally : Tally → Tally
catmull_tally t = record { v = t.v + t.e + t.f; e = 2 * t.e + t.s; f = t.s; s = 4 * t.s; b = 2 * t.b }

unfoldable pub loop_tally : Tally → Tally
loop_tally t = record { v = t.v + t.e; e = 2 * t.e + 3 * t.f; f = 4 * t.f; s = 12 * t.f; b = 2 * t.b }

unfoldable pub sqrt_tally : Bool → Tally → Tally
sqrt_tally flag t =
    let b = if flag t.b 0 in
    record { v = t.v + t.f + b; e = t.e + 3 * t.f + b; f = 3 * t.f; s = 9 * t.f; b = t.b + 2 * b }
