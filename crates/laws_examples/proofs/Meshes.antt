-- The small meshes are good, as the check finds; so the laws of the passes and of split face hold of them, and are not empty. Assumes nothing.
use mathlib.Core.Path.{◌≡◌, refl}
use mathlib.Core.List.{[]}
use Rattle.std.specs.Prelude.{None}
use native.Mathlib.Omega.{arith}
use Rattle.scope.specs.Lists.{has, distinct, first, all, round}
use Rattle.scope.specs.Links.{Links, Marks, partner, loop, around, is_v, is_h, is_f}
use Rattle.scope.specs.Check.{every, c1_vertex, c1_halfedge, c1_face, c2, c3, c4, c5, c6, c7, c8, c9, fault}
use Rattle.laws_mesh.specs.Mesh.{Consistent}
use Rattle.laws_mesh.specs.Of.{mesh_of, Sized, Marked, Good}
use Rattle.laws_mesh.proofs.Puts.{get_d_past}
use Rattle.laws_mesh.proofs.Shapes.{to-mesh}
use Rattle.laws_check.proofs.Theorems.{none-consistent}
use Rattle.laws_examples.specs.Meshes.{triangle, cube, wheel, worn, worn_marks}

-- nothing is marked
abbrev unmarked : Marks
unmarked = record { vs = []; es = []; fs = [] }

good : (m : Links) → Sized m → fault m unmarked ≡ None → Good m
good m z e = record {
  sized = z;
  consistent = to-mesh m unmarked (record { no-v = λ v l. get_d_past [] v (omega arith); no-e = λ v l. get_d_past [] v (omega arith); no-f = λ v l. get_d_past [] v (omega arith) })
      (none-consistent m unmarked z.few_e z.few_f e);
}

pub triangle-good : Good triangle
unfolding fault first all every has distinct round loop around is_v is_h is_f partner c1_vertex c1_halfedge c1_face c2 c3 c4 c5 c6 c7 c8 c9
triangle-good = good triangle (record { outs_long = refl; edges_long = refl; faces_long = refl; few_v = omega arith; few_e = omega arith; few_f = omega arith }) refl

pub cube-good : Good cube
unfolding fault first all every has distinct round loop around is_v is_h is_f partner c1_vertex c1_halfedge c1_face c2 c3 c4 c5 c6 c7 c8 c9
cube-good = good cube (record { outs_long = refl; edges_long = refl; faces_long = refl; few_v = omega arith; few_e = omega arith; few_f = omega arith }) refl

pub wheel-good : Good wheel
unfolding fault first all every has distinct round loop around is_v is_h is_f partner c1_vertex c1_halfedge c1_face c2 c3 c4 c5 c6 c7 c8 c9
wheel-good = good wheel (record { outs_long = refl; edges_long = refl; faces_long = refl; few_v = omega arith; few_e = omega arith; few_f = omega arith }) refl

-- deleted elements are passed over
pub worn-consistent : Consistent (mesh_of worn worn_marks)
unfolding fault first all every has distinct round loop around is_v is_h is_f partner c1_vertex c1_halfedge c1_face c2 c3 c4 c5 c6 c7 c8 c9
worn-consistent = none-consistent worn worn_marks (omega arith) (omega arith) refl

pub worn-sized : Sized worn
worn-sized = record { outs_long = refl; edges_long = refl; faces_long = refl; few_v = omega arith; few_e = omega arith; few_f = omega arith }

pub worn-marked : Marked worn worn_marks
worn-marked = record { vs_long = refl; es_long = refl; fs_long = refl }
