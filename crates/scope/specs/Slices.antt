-- What is handed over and what is lent (document 01, sections 2 and 4). Assumes nothing.
use Rattle.std.specs.Prelude.{ℕ, ◌*◌, Bool, ◌&&◌, List, [], leb, length, take, replicate, Float}
use Rattle.std.specs.Float.{binary64}
use Rattle.std.specs.Float.Ieee.{of_bits}
use Rattle.scope.specs.declared.records.Counts.{Counts}
use Rattle.scope.specs.Lists.{lay}
use Rattle.scope.specs.Links.{Links, Marks}

-- links and marks, each in a slice
pub record Slices : Type 0 where
  pub outs : List ℕ
  pub edges : List ℕ
  pub faces : List ℕ
  pub vmarks : List ℕ
  pub emarks : List ℕ
  pub fmarks : List ℕ

-- a mesh as given: what is past the counts is not part of it
pub record Given : Type 0 where
  pub counts : Counts
  pub slices : Slices
  pub points : List Float

-- what is lent for the result of a subdivision
pub record Buffers : Type 0 where
  pub result : Slices
  pub points : List Float
  pub work : List Float

pub record Sizes : Type 0 where
  pub outs : ℕ
  pub edges : ℕ
  pub faces : ℕ
  pub vmarks : ℕ
  pub emarks : ℕ
  pub fmarks : ℕ

unfoldable pub sizes : Slices → Sizes
sizes s = record {
  outs = length s.outs;
  edges = length s.edges;
  faces = length s.faces;
  vmarks = length s.vmarks;
  emarks = length s.emarks;
  fmarks = length s.fmarks;
}

-- §4, answers 2 and 5: no slice is shorter than its count, and no count is over 1,048,576
unfoldable pub fits : Counts → Sizes → Bool
fits c s =
    leb c.v s.outs && leb (8 * c.e) s.edges && leb c.f s.faces
    && leb c.v s.vmarks && leb c.e s.emarks && leb c.f s.fmarks
    && leb c.v 1048576 && leb c.e 1048576 && leb c.f 1048576

-- the same with three numbers for each vertex
unfoldable pub fits_with : Counts → Sizes → ℕ → Bool
fits_with c s points = fits c s && leb (3 * c.v) points

-- ---- the mesh itself: as much of each slice as the counts say
unfoldable pub used : Counts → Slices → Slices
used c s = record {
  outs = take c.v s.outs;
  edges = take (8 * c.e) s.edges;
  faces = take c.f s.faces;
  vmarks = take c.v s.vmarks;
  emarks = take c.e s.emarks;
  fmarks = take c.f s.fmarks;
}

unfoldable pub links_of : Counts → Slices → Links
links_of c s = let u = used c s in record { nv = c.v; ne = c.e; nf = c.f; outs = u.outs; edges = u.edges; faces = u.faces }

unfoldable pub marks_of : Counts → Slices → Marks
marks_of c s = let u = used c s in record { vs = u.vmarks; es = u.emarks; fs = u.fmarks }

unfoldable pub points_of : Counts → List Float → List Float
points_of c ps = take (3 * c.v) ps

-- nothing is deleted
unfoldable pub clean : Links → Marks
clean m = record { vs = replicate m.nv 0; es = replicate m.ne 0; fs = replicate m.nf 0 }

abbrev pub slices_of : Links → Marks → Slices
slices_of m k = record { outs = m.outs; edges = m.edges; faces = m.faces; vmarks = k.vs; emarks = k.es; fmarks = k.fs }

-- ---- §4: when done, the result is zero past what is used, the work area wholly
abbrev pub float_zero : Float
float_zero = of_bits binary64 0

unfoldable pub filled : Counts → Slices → List Float → Buffers → Buffers
filled c s ps b =
    let u = used c s in
    let r = b.result in
    record {
      result = record {
        outs = lay 0 u.outs r.outs;
        edges = lay 0 u.edges r.edges;
        faces = lay 0 u.faces r.faces;
        vmarks = lay 0 u.vmarks r.vmarks;
        emarks = lay 0 u.emarks r.emarks;
        fmarks = lay 0 u.fmarks r.fmarks;
      };
      points = lay float_zero (points_of c ps) b.points;
      work = lay float_zero [] b.work;
    }

-- all zero
unfoldable pub wiped : Buffers → Buffers
wiped b =
    filled (record { v = 0; e = 0; f = 0 }) (record { outs = []; edges = []; faces = []; vmarks = []; emarks = []; fmarks = [] }) [] b
