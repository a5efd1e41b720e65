-- Small meshes, as links. Assumes nothing.
use Rattle.std.specs.Prelude.{[], ◌∷◌}
use Rattle.scope.specs.Links.{Links, Marks, NONE}

-- one triangle
abbrev pub triangle : Links
triangle = record {
  nv = 3;
  ne = 3;
  nf = 1;
  outs = 5 ∷ 1 ∷ 3 ∷ [];
  edges =
      0 ∷ 1 ∷ 2 ∷ 4 ∷ NONE ∷ 0 ∷ 5 ∷ 3
      ∷ 0 ∷ 2 ∷ 4 ∷ 0 ∷ NONE ∷ 1 ∷ 1 ∷ 5
      ∷ 0 ∷ 0 ∷ 0 ∷ 2 ∷ NONE ∷ 2 ∷ 3 ∷ 1 ∷ [];
  faces = 0 ∷ [];
}

-- the cube
abbrev pub cube : Links
cube = record {
  nv = 8;
  ne = 12;
  nf = 6;
  outs = 0 ∷ 1 ∷ 3 ∷ 5 ∷ 8 ∷ 9 ∷ 11 ∷ 13 ∷ [];
  edges =
      0 ∷ 1 ∷ 2 ∷ 6 ∷ 5 ∷ 0 ∷ 19 ∷ 23
      ∷ 0 ∷ 2 ∷ 4 ∷ 0 ∷ 4 ∷ 1 ∷ 22 ∷ 21
      ∷ 0 ∷ 3 ∷ 6 ∷ 2 ∷ 3 ∷ 2 ∷ 20 ∷ 17
      ∷ 0 ∷ 0 ∷ 0 ∷ 4 ∷ 2 ∷ 3 ∷ 16 ∷ 18
      ∷ 1 ∷ 5 ∷ 10 ∷ 14 ∷ 2 ∷ 4 ∷ 18 ∷ 16
      ∷ 1 ∷ 6 ∷ 12 ∷ 8 ∷ 3 ∷ 5 ∷ 17 ∷ 20
      ∷ 1 ∷ 7 ∷ 14 ∷ 10 ∷ 4 ∷ 6 ∷ 21 ∷ 22
      ∷ 1 ∷ 4 ∷ 8 ∷ 12 ∷ 5 ∷ 7 ∷ 23 ∷ 19
      ∷ 2 ∷ 5 ∷ 9 ∷ 7 ∷ 3 ∷ 3 ∷ 5 ∷ 11
      ∷ 2 ∷ 0 ∷ 7 ∷ 9 ∷ 5 ∷ 4 ∷ 15 ∷ 1
      ∷ 3 ∷ 6 ∷ 11 ∷ 5 ∷ 4 ∷ 2 ∷ 3 ∷ 13
      ∷ 4 ∷ 7 ∷ 13 ∷ 3 ∷ 5 ∷ 1 ∷ 1 ∷ 15 ∷ [];
  faces = 0 ∷ 8 ∷ 7 ∷ 5 ∷ 3 ∷ 1 ∷ [];
}

-- four triangles around a vertex, each with one edge on the rim
abbrev pub wheel : Links
wheel = record {
  nv = 5;
  ne = 8;
  nf = 4;
  outs = 7 ∷ 1 ∷ 3 ∷ 5 ∷ 9 ∷ [];
  edges =
      0 ∷ 1 ∷ 10 ∷ 9 ∷ NONE ∷ 0 ∷ 7 ∷ 3
      ∷ 1 ∷ 2 ∷ 12 ∷ 11 ∷ NONE ∷ 1 ∷ 1 ∷ 5
      ∷ 2 ∷ 3 ∷ 14 ∷ 13 ∷ NONE ∷ 2 ∷ 3 ∷ 7
      ∷ 3 ∷ 0 ∷ 8 ∷ 15 ∷ NONE ∷ 3 ∷ 5 ∷ 1
      ∷ 3 ∷ 4 ∷ 15 ∷ 6 ∷ 0 ∷ 0 ∷ 0 ∷ 10
      ∷ 0 ∷ 4 ∷ 9 ∷ 0 ∷ 1 ∷ 1 ∷ 2 ∷ 12
      ∷ 1 ∷ 4 ∷ 11 ∷ 2 ∷ 2 ∷ 2 ∷ 4 ∷ 14
      ∷ 2 ∷ 4 ∷ 13 ∷ 4 ∷ 3 ∷ 3 ∷ 6 ∷ 8 ∷ [];
  faces = 0 ∷ 2 ∷ 4 ∷ 6 ∷ [];
}

-- the triangle with an isolated vertex, and one vertex, one edge and one face that are marked deleted
abbrev pub worn : Links
worn = record {
  nv = 5;
  ne = 4;
  nf = 2;
  outs = 5 ∷ 1 ∷ 3 ∷ 7 ∷ NONE ∷ [];
  edges =
      0 ∷ 1 ∷ 2 ∷ 4 ∷ NONE ∷ 0 ∷ 5 ∷ 3
      ∷ 0 ∷ 2 ∷ 4 ∷ 0 ∷ NONE ∷ 1 ∷ 1 ∷ 5
      ∷ 0 ∷ 0 ∷ 0 ∷ 2 ∷ NONE ∷ 2 ∷ 3 ∷ 1
      ∷ 1 ∷ 9 ∷ 9 ∷ 9 ∷ 9 ∷ 9 ∷ 9 ∷ 9 ∷ [];
  faces = 0 ∷ 6 ∷ [];
}

abbrev pub worn_marks : Marks
worn_marks = record { vs = 0 ∷ 0 ∷ 0 ∷ 1 ∷ 0 ∷ []; es = 0 ∷ 0 ∷ 0 ∷ 1 ∷ []; fs = 0 ∷ 1 ∷ [] }
