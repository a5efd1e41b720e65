-- The laws of triangulate and sqrt3 on small meshes: their premises hold there, with either flag. Assumes nothing.
use mathlib.Core.Path.{◌≡◌, refl, sym, ap, ◌∙◌}
use mathlib.Core.Bool.{true, false, true≢false}
use Rattle.std.specs.Prelude.{None}
use Prim.Native.Nat.{zero, suc}
use native.Mathlib.Omega.{arith}
use Rattle.scope.specs.Lists.{round, sum, number_of, only, first}
use Rattle.scope.specs.Links.{partner, loop}
use Rattle.scope.specs.Edits.{triangulate}
use Rattle.scope.specs.Passes.{sqrt_pass}
use Rattle.scope.specs.Schemes.{two_rims}
use Rattle.scope.specs.Tally.{tally_of, triangulated, sqrt_tally}
use Rattle.laws_mesh.specs.Of.{Good}
use Rattle.laws_mesh.specs.Sides.{Triangles}
use Rattle.laws_triangulate.proofs.Triangulate.{triangulates}
use Rattle.laws_sqrt3.proofs.Pass.{sqrt-pass, two_rims-after}
use Rattle.laws_examples.specs.Meshes.{triangle, cube, wheel}
use Rattle.laws_examples.proofs.Meshes.{triangle-good, cube-good, wheel-good}
use Rattle.laws_examples.proofs.Passes.{tally-triangle, tally-cube, within, triangle-triangles}

-- the cube triangulated, and then sqrt3: 20/54/36
pub triangulate-cube : Good (triangulate cube) × Triangles (triangulate cube) × (tally_of (triangulate cube) ≡ record { v = 8; e = 18; f = 12; s = 36; b = 0 })
unfolding triangulated
triangulate-cube =
    let t = ap triangulated tally-cube in
    let (a, b, c) = triangulates cube cube-good (within t (omega arith) (omega arith) (omega arith)) in
    (a, b, c ∙ t)

pub sqrt-cube : Good (sqrt_pass false (triangulate cube)) × Triangles (sqrt_pass false (triangulate cube))
    × (tally_of (sqrt_pass false (triangulate cube)) ≡ record { v = 20; e = 54; f = 36; s = 108; b = 0 })
unfolding sqrt_tally
sqrt-cube =
    let (g, q, u) = triangulate-cube in
    let t = ap (sqrt_tally false) u in
    let (a, b, c) = sqrt-pass false (triangulate cube) g q (λ e. absurd (true≢false (sym e))) (within t (omega arith) (omega arith) (omega arith)) in
    (a, b, c ∙ t)

-- one triangle: 4/6/3, then with the flag true 10/18/9
pub sqrt-triangle : Good (sqrt_pass false triangle) × Triangles (sqrt_pass false triangle) × (tally_of (sqrt_pass false triangle) ≡ record { v = 4; e = 6; f = 3; s = 9; b = 3 })
unfolding sqrt_tally
sqrt-triangle =
    let t = ap (sqrt_tally false) tally-triangle in
    let (a, b, c) = sqrt-pass false triangle triangle-good triangle-triangles (λ e. absurd (true≢false (sym e))) (within t (omega arith) (omega arith) (omega arith)) in
    (a, b, c ∙ t)

pub sqrt-triangle-twice : Good (sqrt_pass true (sqrt_pass false triangle)) × Triangles (sqrt_pass true (sqrt_pass false triangle))
    × (tally_of (sqrt_pass true (sqrt_pass false triangle)) ≡ record { v = 10; e = 18; f = 9; s = 27; b = 9 })
unfolding sqrt_tally
sqrt-triangle-twice =
    let (g, q, u) = sqrt-triangle in
    let t = ap (sqrt_tally true) u in
    let r = two_rims-after triangle triangle-good triangle-triangles (within (ap (sqrt_tally false) tally-triangle) (omega arith) (omega arith) (omega arith)) in
    let (a, b, c) = sqrt-pass true (sqrt_pass false triangle) g q (λ e. r) (within t (omega arith) (omega arith) (omega arith)) in
    (a, b, c ∙ t)

-- the wheel with the flag true: 13/24/12
tally-wheel : tally_of wheel ≡ record { v = 5; e = 8; f = 4; s = 12; b = 4 }
unfolding tally_of sum number_of loop round
tally-wheel = refl

wheel-triangles : Triangles wheel
unfolding loop round
wheel-triangles zero l = refl
wheel-triangles (suc zero) l = refl
wheel-triangles (suc (suc zero)) l = refl
wheel-triangles (suc (suc (suc zero))) l = refl
wheel-triangles (suc (suc (suc (suc f)))) l = absurd (omega arith)

wheel-rims : two_rims wheel ≡ None
unfolding two_rims first only loop round partner
wheel-rims = refl

pub sqrt-wheel : Good (sqrt_pass true wheel) × Triangles (sqrt_pass true wheel) × (tally_of (sqrt_pass true wheel) ≡ record { v = 13; e = 24; f = 12; s = 36; b = 12 })
unfolding sqrt_tally
sqrt-wheel =
    let t = ap (sqrt_tally true) tally-wheel in
    let (a, b, c) = sqrt-pass true wheel wheel-good wheel-triangles (λ e. wheel-rims) (within t (omega arith) (omega arith) (omega arith)) in
    (a, b, c ∙ t)
