-- The laws of triangulate, the three schemes and split face on small meshes: their premises hold there. Assumes nothing.
use mathlib.Core.Path.{◌≡◌, refl, ap, ◌∙◌}
use mathlib.Core.Bool.{true, false, false≢true}
use Prim.Native.Nat.{zero, suc, ◌≤◌}
use native.Mathlib.Omega.{arith}
use Rattle.scope.specs.Lists.{round, sum, number_of}
use Rattle.scope.specs.Links.{next, start, loop}
use Rattle.scope.specs.Edits.{split_face, triangulate}
use Rattle.scope.specs.Passes.{catmull_pass, loop_pass, sqrt_pass, centre_face}
use Rattle.scope.specs.Tally.{Tally, tally_of, triangulated, catmull_tally, loop_tally, sqrt_tally}
use Rattle.laws_mesh.specs.Mesh.{Consistent}
use Rattle.laws_mesh.specs.Of.{mesh_of, Good}
use Rattle.laws_mesh.specs.Sides.{Within, Sided, Triangles}
use Rattle.laws_mesh.proofs.Count.{Length}
use Rattle.laws_mesh.proofs.Shapes.{shape_of, size_of}
use Rattle.laws_mesh.proofs.Loops.{loop-cycle}
use Rattle.laws_mesh.proofs.SplitFaceLaws.{loop-long, split_face-marked-consistent, centre-good}
use Rattle.laws_catmull.proofs.Pass.{catmull-pass}
use Rattle.laws_loop.proofs.Pass.{loop-pass}
use Rattle.laws_triangulate.proofs.Triangulate.{triangulates}
use Rattle.laws_sqrt3.proofs.Pass.{sqrt-pass, two_rims-after}
use Rattle.laws_examples.specs.Meshes.{triangle, cube, worn, worn_marks}
use Rattle.laws_examples.proofs.Meshes.{triangle-good, cube-good, worn-consistent, worn-sized, worn-marked}

pub tally-triangle : tally_of triangle ≡ record { v = 3; e = 3; f = 1; s = 3; b = 3 }
unfolding tally_of sum number_of loop round
tally-triangle = refl

pub tally-cube : tally_of cube ≡ record { v = 8; e = 12; f = 6; s = 24; b = 0 }
unfolding tally_of sum number_of loop round
tally-cube = refl

pub within : {t u : Tally} → t ≡ u → u.v ≤ 1048576 → u.e ≤ 1048576 → u.f ≤ 1048576 → Within t
within {t} {u} q v e f = record {
  v_within = (let r = ap (λ (t : Tally). t.v) q in omega arith);
  e_within = (let r = ap (λ (t : Tally). t.e) q in omega arith);
  f_within = (let r = ap (λ (t : Tally). t.f) q in omega arith);
}

-- one triangle, Catmull-Clark: 7/9/3
pub catmull-triangle : Good (catmull_pass triangle) × (tally_of (catmull_pass triangle) ≡ record { v = 7; e = 9; f = 3; s = 12; b = 6 }) × Sided 4 (catmull_pass triangle)
unfolding catmull_tally
catmull-triangle =
    let t = ap catmull_tally tally-triangle in
    let (a, b, c) = catmull-pass triangle triangle-good (within t (omega arith) (omega arith) (omega arith)) in
    (a, b ∙ t, c)

-- the cube, Catmull-Clark: 26/48/24
pub catmull-cube : Good (catmull_pass cube) × (tally_of (catmull_pass cube) ≡ record { v = 26; e = 48; f = 24; s = 96; b = 0 }) × Sided 4 (catmull_pass cube)
unfolding catmull_tally
catmull-cube =
    let t = ap catmull_tally tally-cube in
    let (a, b, c) = catmull-pass cube cube-good (within t (omega arith) (omega arith) (omega arith)) in
    (a, b ∙ t, c)

-- one triangle, Loop: 6/9/4
pub triangle-triangles : Triangles triangle
unfolding loop round
triangle-triangles zero l = refl
triangle-triangles (suc f) l = absurd (omega arith)

pub loop-triangle : Good (loop_pass triangle) × Triangles (loop_pass triangle) × (tally_of (loop_pass triangle) ≡ record { v = 6; e = 9; f = 4; s = 12; b = 6 })
unfolding loop_tally
loop-triangle =
    let t = ap loop_tally tally-triangle in
    let (a, b, c) = loop-pass triangle triangle-good triangle-triangles (within t (omega arith) (omega arith) (omega arith)) in
    (a, b, c ∙ t)

-- the cube triangulated, 8/18/12; then Loop, 26/72/48, or sqrt3, 20/54/36
pub triangulate-cube : Good (triangulate cube) × Triangles (triangulate cube) × (tally_of (triangulate cube) ≡ record { v = 8; e = 18; f = 12; s = 36; b = 0 })
unfolding triangulated
triangulate-cube =
    let t = ap triangulated tally-cube in
    let (a, b, c) = triangulates cube cube-good (within t (omega arith) (omega arith) (omega arith)) in
    (a, b, c ∙ t)

pub loop-cube : Good (loop_pass (triangulate cube)) × Triangles (loop_pass (triangulate cube)) × (tally_of (loop_pass (triangulate cube)) ≡ record { v = 26; e = 72; f = 48; s = 144; b = 0 })
unfolding loop_tally
loop-cube =
    let (g, T, u) = triangulate-cube in
    let t = ap loop_tally u in
    let (a, b, c) = loop-pass (triangulate cube) g T (within t (omega arith) (omega arith) (omega arith)) in
    (a, b, c ∙ t)

pub sqrt-cube : Good (sqrt_pass false (triangulate cube)) × (tally_of (sqrt_pass false (triangulate cube)) ≡ record { v = 20; e = 54; f = 36; s = 108; b = 0 })
unfolding sqrt_tally
sqrt-cube =
    let (g, T, u) = triangulate-cube in
    let t = ap (sqrt_tally false) u in
    let r = sqrt-pass false (triangulate cube) g T (λ e. absurd (false≢true e)) (within t (omega arith) (omega arith) (omega arith)) in
    (r.0, r.2 ∙ t)

-- one triangle, sqrt3: 4/6/3, and once more with the flag true: 10/18/9
pub sqrt-triangle : Good (sqrt_pass false triangle) × Triangles (sqrt_pass false triangle) × (tally_of (sqrt_pass false triangle) ≡ record { v = 4; e = 6; f = 3; s = 9; b = 3 })
unfolding sqrt_tally
sqrt-triangle =
    let t = ap (sqrt_tally false) tally-triangle in
    let (a, b, c) = sqrt-pass false triangle triangle-good triangle-triangles (λ e. absurd (false≢true e)) (within t (omega arith) (omega arith) (omega arith)) in
    (a, b, c ∙ t)

pub sqrt-triangle-twice : Good (sqrt_pass true (sqrt_pass false triangle)) × (tally_of (sqrt_pass true (sqrt_pass false triangle)) ≡ record { v = 10; e = 18; f = 9; s = 27; b = 9 })
unfolding sqrt_tally
sqrt-triangle-twice =
    let (g, T, u) = sqrt-triangle in
    let t = ap (sqrt_tally true) u in
    let w = within (ap (sqrt_tally false) tally-triangle) (omega arith) (omega arith) (omega arith) in
    let (a, b, c) = sqrt-pass true (sqrt_pass false triangle) g T (λ e. two_rims-after triangle triangle-good triangle-triangles w) (within t (omega arith) (omega arith) (omega arith)) in
    (a, c ∙ t)

-- split face around a new vertex, and around an isolated one beside deleted elements
pub centre-triangle : Good (centre_face 0 triangle)
unfolding loop round
centre-triangle = centre-good triangle 0 3 triangle-good (omega arith) long (omega arith) (omega arith) (omega arith)
  where
    long : Length (next triangle) (start triangle 0) 3
    long = loop-cycle triangle triangle-good 0 (omega arith)

pub split-worn : Consistent (mesh_of (split_face 0 4 worn) worn_marks)
unfolding loop round
split-worn =
    split_face-marked-consistent worn worn_marks 0 4 3 worn-sized worn-marked worn-consistent (omega arith, refl) (omega arith, refl) refl
    (loop-long worn (shape_of worn worn_marks (omega arith) (omega arith)) (size_of worn worn_marks (omega arith) (omega arith)) worn-consistent.core 0 (omega arith, refl)) (omega arith) (omega arith)
