-- The theorems about calls on the small meshes: their premises are met, by computation. Assumes nothing.
use Rattle.std.specs.Prelude.{Ok, Err}
use mathlib.Core.Path.{◌≡◌, refl, ◌∙◌}
use mathlib.Core.Bool.{Bool, true, false}
use Prim.Native.Nat.{ℕ, ◌+◌, ◌*◌}
use native.Mathlib.Omega.{arith}
use lib.IntN.{pos}
use lib.ListN.{replicate}
use lib.Ieee.{binary64, of_int}
use Rattle.scope.specs.declared.records.Counts.{Counts}
use Rattle.scope.specs.declared.answers.Place.TheVariants.{AtFace}
use Rattle.scope.specs.declared.answers.Refusal.TheVariants.{MarkedDeleted}
use Rattle.scope.specs.Lists.{each, has, distinct, first, all, only, round, number_of, sum}
use Rattle.scope.specs.Links.{Links, partner, loop, around, is_v, is_h, is_f}
use Rattle.scope.specs.Check.{every, c1_vertex, c1_halfedge, c1_face, c2, c3, c4, c5, c6, c7, c8, c9, fault, set_mark, marked}
use Rattle.scope.specs.Edits.{triangulate_face, triangulate}
use Rattle.scope.specs.Tally.{counts_of, tally_of, counted, catmull_tally, triangulated, loop_tally, sqrt_tally}
use Rattle.scope.specs.Slices.{Given, clean, slices_of, float_zero, filled, Buffers, sizes, fits, fits_with, used, links_of, marks_of}
use Rattle.scope.specs.Call.{Scheme, call, onward, begin, tally, turned, heavy, final, work_needed, enough, unwanted, overweight}
use Rattle.scope.specs.Schemes.{crowded, two_rims, catmull, loop_scheme, sqrt3}
use Rattle.laws_examples.specs.Meshes.{triangle, cube, wheel, worn, worn_marks}
use Rattle.laws_call.specs.Demand.{links_in, Room, Repeated, Repeats, RoomIsEnough}
use Rattle.laws_call.specs.Exactly.{Past6, When}
use Rattle.laws_call.specs.Made.{grown, Made, Makes}
use Rattle.laws_call.proofs.Exactly.{exactly, done-exactly}
use Rattle.laws_call.proofs.Made.{copies}
use Rattle.laws_schemes.proofs.Catmull.{catmull-repeats, catmull-room-is-enough, catmull-repeats-exactly, catmull-makes}
use Rattle.laws_schemes.proofs.Loop.{loop-repeats, loop-room-is-enough, loop-makes}
use Rattle.laws_schemes.proofs.Sqrt3.{sqrt3-repeats, sqrt3-room-is-enough, sqrt3-makes}

-- slices for v vertices, e edges and f faces, n words more each, and w numbers of work, all of them x
abbrev lent : ℕ → ℕ → ℕ → ℕ → ℕ → ℕ → Buffers
lent n x v e f w = record {
  result = record {
    outs = replicate (v + n) x;
    edges = replicate (8 * e + n) x;
    faces = replicate (f + n) x;
    vmarks = replicate (v + n) x;
    emarks = replicate (e + n) x;
    fmarks = replicate (f + n) x;
  };
  points = replicate (3 * v + n) (of_int binary64 (pos x));
  work = replicate w (of_int binary64 (pos x));
}

-- the mesh of these links, with nothing deleted and all points at zero
abbrev given : Links → Given
given m = record { counts = counts_of m; slices = slices_of m (clean m); points = replicate (3 * m.nv) float_zero }

-- ---- demand 3: one pass and then one more, where there is room
abbrev Twice : Scheme → Bool → Given → Buffers → Buffers → Buffers → Type 0
Twice S flag g x y z = Repeated 1 (call S 1 flag g x) (onward S 1 (call S 1 flag g x) y) (call S 2 flag g z)

twice : (S : Scheme) → Repeats S → RoomIsEnough S → (flag : Bool) (g : Given) (x y z : Buffers) → Room S 1 flag g x → Room S 2 flag g y → Room S 2 flag g z → Twice S flag g x y z
twice S repeats enough flag g x y z rx ry rz = let n = enough 1 1 flag g x y z rx ry rz in repeats 1 1 flag g x y z (omega arith) n.0 n.1 n.2

-- room is exact: 26/48/24 and then 98/192/96, work for 8 + 12 + 6 and then for 26 + 48 + 24
pub cube-twice : Twice catmull true (given cube) (lent 0 7 26 48 24 156) (lent 0 7 98 192 96 588) (lent 5 8 98 192 96 588)
unfolding enough counts_of clean final work_needed begin tally counted tally_of links_of used sizes fits fits_with sum number_of loop round catmull catmull_tally
cube-twice = twice catmull catmull-repeats catmull-room-is-enough true (given cube) (lent 0 7 26 48 24 156) (lent 0 7 98 192 96 588) (lent 5 8 98 192 96 588) refl refl refl

pub triangle-twice : Twice loop_scheme false (given triangle) (lent 0 7 6 9 4 42) (lent 0 7 15 30 16 114) (lent 1 8 15 30 16 120)
unfolding enough counts_of clean final work_needed begin tally counted tally_of links_of used sizes fits fits_with sum number_of loop round loop_scheme triangulated loop_tally
triangle-twice = twice loop_scheme loop-repeats loop-room-is-enough false (given triangle) (lent 0 7 6 9 4 42) (lent 0 7 15 30 16 114) (lent 1 8 15 30 16 120) refl refl refl

-- a wheel with a rim: the flag is true in the first pass and false in the second
pub wheel-twice : Twice sqrt3 true (given wheel) (lent 0 7 13 24 12 102) (lent 0 7 25 60 36 294) (lent 2 8 25 60 36 294)
unfolding enough counts_of clean final work_needed begin tally counted tally_of links_of used sizes fits fits_with sum number_of loop round each partner only first two_rims triangulate_face triangulate sqrt3 triangulated sqrt_tally
wheel-twice = twice sqrt3 sqrt3-repeats sqrt3-room-is-enough true (given wheel) (lent 0 7 13 24 12 102) (lent 0 7 25 60 36 294) (lent 2 8 25 60 36 294) refl refl refl

-- ---- a call that is done, and what it made
abbrev Done-well : Scheme → ℕ → Bool → Given → Buffers → Counts → Bool → Type 0
Done-well S sides flag g b c next = ((call S 1 flag g b).answer ≡ Ok (c, next)) × Made S sides 1 flag g c next (call S 1 flag g b).left

-- none of the six conditions holds, and the table gives these counts
done-well : (S : Scheme) (sides : ℕ) → Makes S sides → (flag : Bool) (g : Given) (b : Buffers) (c : Counts) (next : Bool) → Past6 S 1 flag g b →
    counted (grown S 1 flag (links_in g)) ≡ c → turned S 1 (S.settle (S.prepare (links_in g)) flag) ≡ next → Done-well S sides flag g b c next
done-well S sides makes flag g b c next p q r =
    let d = (done-exactly S 1 flag g b).1 p in
    let m = makes 0 flag g b d.0 d.1 d.2 in
    let i : d.0 ≡ c = m.counts ∙ q in
    let j : d.1 ≡ next = m.flag_back ∙ r in
    rw (← i, ← j) (d.2, m)

abbrev counts : ℕ → ℕ → ℕ → Counts
counts v e f = record { v = v; e = e; f = f }

pub cube-made : Done-well catmull 4 true (given cube) (lent 0 7 26 48 24 156) (counts 26 48 24) true
unfolding fault counts_of clean every c1_vertex c1_halfedge c1_face c2 c3 c4 c5 c6 c7 c8 c9 has distinct first all is_v is_h is_f partner around set_mark marked marks_of unwanted overweight heavy turned enough final work_needed begin tally counted tally_of links_of used sizes fits fits_with sum number_of loop round catmull catmull_tally
cube-made = done-well catmull 4 catmull-makes true (given cube) (lent 0 7 26 48 24 156) (counts 26 48 24) true ((((((omega arith, refl), refl), refl), refl), refl)) refl refl

pub triangle-made : Done-well loop_scheme 3 true (given triangle) (lent 0 7 6 9 4 42) (counts 6 9 4) true
unfolding fault counts_of clean every c1_vertex c1_halfedge c1_face c2 c3 c4 c5 c6 c7 c8 c9 has distinct first all is_v is_h is_f partner around set_mark marked marks_of unwanted overweight heavy turned enough final work_needed begin tally counted tally_of links_of used sizes fits fits_with sum number_of loop round each triangulate_face triangulate crowded loop_scheme triangulated loop_tally
triangle-made = done-well loop_scheme 3 loop-makes true (given triangle) (lent 0 7 6 9 4 42) (counts 6 9 4) true ((((((omega arith, refl), refl), refl), refl), refl)) refl refl

pub wheel-made : Done-well sqrt3 3 true (given wheel) (lent 0 7 13 24 12 102) (counts 13 24 12) false
unfolding fault counts_of clean every c1_vertex c1_halfedge c1_face c2 c3 c4 c5 c6 c7 c8 c9 has distinct first all is_v is_h is_f partner around set_mark marked marks_of unwanted overweight heavy turned enough final work_needed begin tally counted tally_of links_of used sizes fits fits_with sum number_of loop round each only two_rims triangulate_face triangulate crowded sqrt3 triangulated sqrt_tally
wheel-made = done-well sqrt3 3 sqrt3-makes true (given wheel) (lent 0 7 13 24 12 102) (counts 13 24 12) false ((((((omega arith, refl), refl), refl), refl), refl)) refl refl

-- ---- two passes that are done: what slices of the same lengths held before does not matter
pub cube-exactly : onward catmull 1 (call catmull 1 true (given cube) (lent 0 7 26 48 24 156)) (lent 0 8 98 192 96 588) ≡ call catmull 2 true (given cube) (lent 0 9 98 192 96 588)
unfolding fault counts_of clean every c1_vertex c1_halfedge c1_face c2 c3 c4 c5 c6 c7 c8 c9 has distinct first all is_v is_h is_f partner around set_mark marked marks_of unwanted overweight heavy turned enough final work_needed begin tally counted tally_of links_of used sizes fits fits_with sum number_of loop round catmull catmull_tally
cube-exactly =
    let x = lent 0 7 26 48 24 156 in
    let y = lent 0 8 98 192 96 588 in
    let z = lent 0 9 98 192 96 588 in
    let n = catmull-room-is-enough 1 1 true (given cube) x y z refl refl refl in
    let d = (done-exactly catmull 2 true (given cube) z).1 ((((((omega arith, refl), refl), refl), refl), refl)) in
    catmull-repeats-exactly 1 1 true (given cube) x y z (record { of_result = refl; of_points = refl; of_work = refl }) n.0 n.1 d.0 d.1 d.2

-- ---- deleted elements, by any scheme: zero passes copy them, one pass is refused for the face
abbrev worn-given : Given
worn-given = record { counts = counts_of worn; slices = slices_of worn worn_marks; points = replicate (3 * worn.nv) float_zero }

pub worn-copied : (S : Scheme) (flag : Bool) → let b = lent 1 7 5 4 2 0 in
    call S 0 flag worn-given b ≡ record { answer = Ok (counts 5 4 2, flag); left = filled (counts 5 4 2) worn-given.slices worn-given.points b }
unfolding fault counts_of every c1_vertex c1_halfedge c1_face c2 c3 c4 c5 c6 c7 c8 c9 has distinct first all is_v is_h is_f partner around loop round marks_of links_of used sizes fits fits_with
worn-copied S flag = copies S flag worn-given (lent 1 7 5 4 2 0) refl refl refl

pub worn-refused : (S : Scheme) (flag : Bool) (b : Buffers) → (call S 1 flag worn-given b).answer ≡ Err (MarkedDeleted (AtFace 1))
unfolding When fault counts_of every c1_vertex c1_halfedge c1_face c2 c3 c4 c5 c6 c7 c8 c9 has distinct first all is_v is_h is_f partner around loop round set_mark marked marks_of links_of used sizes fits fits_with unwanted
worn-refused S flag b = (exactly S 1 flag worn-given b (Err (MarkedDeleted (AtFace 1)))).1 (((omega arith, refl), refl), refl)
