-- A mesh of triangles is triangulated already, in links and in numbers. Assumes nothing.
use mathlib.Core.Path.{◌≡◌}
use Prim.Native.Nat.{◌+◌, ◌-◌, ◌*◌}
use native.Mathlib.Omega.{arith}
use lib.ListN.{length}
use Rattle.scope.specs.Links.{Links, start, loop}
use Rattle.scope.specs.Tally.{Tally, tally_of, triangulated}
use Rattle.laws_mesh.specs.Sides.{Triangles}
use Rattle.laws_mesh.proofs.Corners.{sum-all}
use Rattle.laws_call.specs.Laws.{Faced, Step}

pub triangles-ready : (m : Links) → Triangles m → triangulated (tally_of m) ≡ tally_of m
unfolding triangulated tally_of
triangles-ready m h =
    let s = sum-all m.nf 3 (λ f. length (loop m (start m f))) h in
    let e : m.ne + 3 * m.nf - 3 * m.nf ≡ m.ne = omega arith in
    let f : 3 * m.nf - 2 * m.nf ≡ m.nf = omega arith in
    rw (s, e, f)

pub triangulated-step : (t : Tally) → Faced t → Step t (triangulated t)
unfolding triangulated
triangulated-step t h = omega arith
