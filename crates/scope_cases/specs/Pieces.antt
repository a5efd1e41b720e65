-- K1 to K12 (document 01, section 6), proved in one table under one statement about whole calls. Written by tools/theorems.py. Assumes nothing.
use Rattle.std.specs.Prelude.{◌≡◌, refl, Bool, true, false, List, [], ◌∷◌, map, ℕ, ℤ, pos, negsuc, replicate, Float, Ok}
use Rattle.std.specs.Float.{binary64}
use Rattle.std.specs.Float.Ieee.{of_int, of_bits, add, sub, mul, div}
use Rattle.std.specs.Float.Ieee as Ieee
use Rattle.scope.specs.declared.records.Point.{Point}
use Rattle.scope.specs.Answers.{Subdivided}
use Rattle.scope.specs.Answers.{said_checked, said_subdivided, said_edited}
use Rattle.scope.specs.Call.{Outcome, Scheme, links, points, tally, turned, heavy, begin, final, work_needed, enough, unwanted, overweight, refusal, last_links, last_flag, last_points, last_marks, subdivided, left_after, ended, call, then, onward}
use Rattle.scope.specs.Check.{every, c1_vertex, c1_halfedge, c1_face, c2, c3, c4, c5, c6, c7, c8, c9, fault, set_mark, marked}
use Rattle.scope.specs.EditCalls.{unmarked_new, written, edit_ended, edit_refusal, edit, split_edge_edit, split_face_edit, insert_edge_edit, swap_denied, swap_ccw_edit, swap_cw_edit, triangulate_all}
use Rattle.scope.specs.Edits.{split_edge, joined, paint, across_face, across_hole, insert_edge, insert_new, cut_off, cut_corner, triangulate_face, triangulate, petal, petals, fan, singles, split_face, swap_ccw, swap_cw}
use Rattle.scope.specs.Links.{NONE, partner, loop, around, is_v, is_e, is_h, is_f}
use Rattle.scope.specs.Lists.{put, lay, over, each, range, round, only, has, distinct, first, all, number_of, sum}
use Rattle.scope.specs.Passes.{split_edges, from_old, pairs, catmull_face, catmull_pass, corners, loop_face, loop_pass, rim_of, rim_side, rim_face, centre_face, sqrt_face, swap_inner, sqrt_pass}
use Rattle.scope.specs.Point.{zero_p, add_p, scale_p, over_p}
use Rattle.scope.specs.Points.{point_at, flat, plus, heads, face_point, catmull_edge, catmull_rim, catmull_inner, catmull_vertex, catmull_points, inner, on_rim, loop_edge_point, loop_vertex, loop_points, sqrt_vertex, sqrt_answer, answers, sqrt_points}
use Rattle.scope.specs.Rules.{cc_edge, middle, cc_inner, loop_edge, loop_rim, weighted, sqrt_rim, sqrt_pair}
use Rattle.scope.specs.Schemes.{crowded, two_rims, catmull, loop_scheme, sqrt3}
use Rattle.scope.specs.Slices.{Given, sizes, fits, fits_with, used, links_of, marks_of, points_of, clean, filled, wiped}
use Rattle.scope.specs.Tally.{counts_of, tally_of, counted, triangulated, catmull_tally, loop_tally, sqrt_tally}
use Rattle.scope.specs.Weights.{dec, row}
use Rattle.scope.proofs.Recorded.{lent}

abbrev mesh : ℕ → ℕ → ℕ → List ℕ → List ℕ → List ℕ → List ℤ → Given
mesh v e f outs edges faces ps = record {
  counts = record { v = v; e = e; f = f };
  slices = record { outs = outs; edges = edges; faces = faces; vmarks = replicate v 0; emarks = replicate e 0; fmarks = replicate f 0 };
  points = map (of_int binary64) ps;
}

-- the cube with corners at ±1
abbrev pub cube : Given
cube = mesh 8 12 6
    (0 ∷ 1 ∷ 3 ∷ 5 ∷ 8 ∷ 9 ∷ 11 ∷ 13 ∷ [])
    (
    0 ∷ 1 ∷ 2 ∷ 6 ∷ 5 ∷ 0 ∷ 19 ∷ 23 ∷
    0 ∷ 2 ∷ 4 ∷ 0 ∷ 4 ∷ 1 ∷ 22 ∷ 21 ∷
    0 ∷ 3 ∷ 6 ∷ 2 ∷ 3 ∷ 2 ∷ 20 ∷ 17 ∷
    0 ∷ 0 ∷ 0 ∷ 4 ∷ 2 ∷ 3 ∷ 16 ∷ 18 ∷
    1 ∷ 5 ∷ 10 ∷ 14 ∷ 2 ∷ 4 ∷ 18 ∷ 16 ∷
    1 ∷ 6 ∷ 12 ∷ 8 ∷ 3 ∷ 5 ∷ 17 ∷ 20 ∷
    1 ∷ 7 ∷ 14 ∷ 10 ∷ 4 ∷ 6 ∷ 21 ∷ 22 ∷
    1 ∷ 4 ∷ 8 ∷ 12 ∷ 5 ∷ 7 ∷ 23 ∷ 19 ∷
    2 ∷ 5 ∷ 9 ∷ 7 ∷ 3 ∷ 3 ∷ 5 ∷ 11 ∷
    2 ∷ 0 ∷ 7 ∷ 9 ∷ 5 ∷ 4 ∷ 15 ∷ 1 ∷
    3 ∷ 6 ∷ 11 ∷ 5 ∷ 4 ∷ 2 ∷ 3 ∷ 13 ∷
    4 ∷ 7 ∷ 13 ∷ 3 ∷ 5 ∷ 1 ∷ 1 ∷ 15 ∷
    [])
    (0 ∷ 8 ∷ 7 ∷ 5 ∷ 3 ∷ 1 ∷ [])
    (negsuc 0 ∷ negsuc 0 ∷ negsuc 0 ∷ negsuc 0 ∷ pos 1 ∷ negsuc 0 ∷ pos 1 ∷ pos 1 ∷ negsuc 0 ∷ pos 1 ∷ negsuc 0 ∷ negsuc 0 ∷ negsuc 0 ∷ negsuc 0 ∷ pos 1 ∷ pos 1 ∷ negsuc 0 ∷ pos 1 ∷ pos 1 ∷ pos 1 ∷ pos 1 ∷ negsuc 0 ∷ pos 1 ∷ pos 1 ∷ [])

-- one triangle, (0,0), (8,0), (0,8)
abbrev pub triangle : Given
triangle = mesh 3 3 1
    (5 ∷ 1 ∷ 3 ∷ [])
    (
    0 ∷ 1 ∷ 2 ∷ 4 ∷ NONE ∷ 0 ∷ 5 ∷ 3 ∷
    0 ∷ 2 ∷ 4 ∷ 0 ∷ NONE ∷ 1 ∷ 1 ∷ 5 ∷
    0 ∷ 0 ∷ 0 ∷ 2 ∷ NONE ∷ 2 ∷ 3 ∷ 1 ∷
    [])
    (0 ∷ [])
    (pos 0 ∷ pos 0 ∷ pos 0 ∷ pos 8 ∷ pos 0 ∷ pos 0 ∷ pos 0 ∷ pos 8 ∷ pos 0 ∷ [])

-- the square (0,0), (6,0), (6,6), (0,6)
abbrev pub square : Given
square = mesh 4 4 1
    (7 ∷ 1 ∷ 3 ∷ 5 ∷ [])
    (
    0 ∷ 1 ∷ 2 ∷ 6 ∷ NONE ∷ 0 ∷ 7 ∷ 3 ∷
    0 ∷ 2 ∷ 4 ∷ 0 ∷ NONE ∷ 1 ∷ 1 ∷ 5 ∷
    0 ∷ 3 ∷ 6 ∷ 2 ∷ NONE ∷ 2 ∷ 3 ∷ 7 ∷
    0 ∷ 0 ∷ 0 ∷ 4 ∷ NONE ∷ 3 ∷ 5 ∷ 1 ∷
    [])
    (0 ∷ [])
    (pos 0 ∷ pos 0 ∷ pos 0 ∷ pos 6 ∷ pos 0 ∷ pos 0 ∷ pos 6 ∷ pos 6 ∷ pos 0 ∷ pos 0 ∷ pos 6 ∷ pos 0 ∷ [])

-- the octahedron of radius 1
abbrev pub octahedron : Given
octahedron = mesh 6 12 8
    (0 ∷ 1 ∷ 3 ∷ 7 ∷ 11 ∷ 17 ∷ [])
    (
    0 ∷ 1 ∷ 2 ∷ 4 ∷ 4 ∷ 0 ∷ 16 ∷ 18 ∷
    0 ∷ 2 ∷ 4 ∷ 0 ∷ 1 ∷ 1 ∷ 6 ∷ 8 ∷
    0 ∷ 0 ∷ 0 ∷ 2 ∷ 3 ∷ 2 ∷ 13 ∷ 14 ∷
    1 ∷ 3 ∷ 8 ∷ 3 ∷ 5 ∷ 1 ∷ 19 ∷ 20 ∷
    1 ∷ 2 ∷ 3 ∷ 6 ∷ 2 ∷ 3 ∷ 10 ∷ 12 ∷
    2 ∷ 4 ∷ 12 ∷ 9 ∷ 6 ∷ 3 ∷ 21 ∷ 22 ∷
    2 ∷ 2 ∷ 9 ∷ 10 ∷ 3 ∷ 4 ∷ 14 ∷ 5 ∷
    3 ∷ 0 ∷ 5 ∷ 13 ∷ 7 ∷ 4 ∷ 23 ∷ 17 ∷
    4 ∷ 5 ∷ 18 ∷ 1 ∷ 7 ∷ 0 ∷ 15 ∷ 23 ∷
    4 ∷ 1 ∷ 1 ∷ 16 ∷ 5 ∷ 5 ∷ 20 ∷ 7 ∷
    5 ∷ 3 ∷ 7 ∷ 19 ∷ 6 ∷ 5 ∷ 22 ∷ 11 ∷
    6 ∷ 4 ∷ 11 ∷ 21 ∷ 7 ∷ 5 ∷ 17 ∷ 15 ∷
    [])
    (0 ∷ 6 ∷ 10 ∷ 14 ∷ 1 ∷ 7 ∷ 11 ∷ 15 ∷ [])
    (pos 1 ∷ pos 0 ∷ pos 0 ∷ pos 0 ∷ pos 1 ∷ pos 0 ∷ pos 0 ∷ pos 0 ∷ pos 1 ∷ negsuc 0 ∷ pos 0 ∷ pos 0 ∷ pos 0 ∷ negsuc 0 ∷ pos 0 ∷ pos 0 ∷ pos 0 ∷ negsuc 0 ∷ [])

-- a hub with three spokes; vertex 1 is (0,0,0) and on the rim, its rim neighbours are (27,0,0) and (0,27,0)
abbrev pub wheel : Given
wheel = mesh 4 6 3
    (0 ∷ 11 ∷ 3 ∷ 7 ∷ [])
    (
    0 ∷ 1 ∷ 2 ∷ 4 ∷ 2 ∷ 0 ∷ 9 ∷ 10 ∷
    0 ∷ 2 ∷ 4 ∷ 0 ∷ NONE ∷ 1 ∷ 11 ∷ 7 ∷
    0 ∷ 0 ∷ 0 ∷ 2 ∷ 1 ∷ 2 ∷ 6 ∷ 8 ∷
    1 ∷ 3 ∷ 8 ∷ 5 ∷ NONE ∷ 2 ∷ 3 ∷ 11 ∷
    1 ∷ 0 ∷ 5 ∷ 6 ∷ 2 ∷ 3 ∷ 10 ∷ 1 ∷
    2 ∷ 1 ∷ 1 ∷ 9 ∷ NONE ∷ 3 ∷ 7 ∷ 3 ∷
    [])
    (0 ∷ 5 ∷ 9 ∷ [])
    (pos 0 ∷ pos 0 ∷ pos 0 ∷ pos 0 ∷ pos 0 ∷ pos 0 ∷ pos 0 ∷ pos 27 ∷ pos 0 ∷ pos 27 ∷ pos 0 ∷ pos 0 ∷ [])

-- no elements at all
abbrev pub nothing : Given
nothing = mesh 0 0 0
    ([])
    (
    [])
    ([])
    ([])

-- one pass
abbrev one : Scheme → Bool → Given → Outcome
one S flag g = call S 1 flag g (lent 40 80 60 600)

-- a row of the table: what a call answers, or where it puts vertex v
pub data Row : Type 0 where
  says : Subdivided → Row
  puts : Point → Row

abbrev said : Outcome → Row
said o = says o.answer

abbrev put_at : Outcome → ℕ → Row
put_at o v = puts (point_at o.left.points v)

abbrev counts : ℕ → ℕ → ℕ → Bool → Row
counts v e f flag = says (Ok (record { v = v; e = e; f = f }, flag))

abbrev at : Float → Float → Float → Row
at x y z = puts (record { x = x; y = y; z = z })

abbrev n : ℕ → Float
n k = of_int binary64 (pos k)

-- three quarters, and 0.515625
abbrev three_quarters : Float
three_quarters = of_bits binary64 0x3fe8_0000_0000_0000

abbrev k11 : Float
k11 = of_bits binary64 0x3fe0_8000_0000_0000

pub pieces :
    ◌≡◌ {A = List Row} (
    -- K1
    said (one catmull true cube) ∷
    -- K2
    said (one loop_scheme true cube) ∷
    -- K3
    said (one sqrt3 false cube) ∷
    -- K4
    said (one catmull true triangle) ∷
    -- K5
    said (one sqrt3 true triangle) ∷
    -- K6
    said (onward sqrt3 1 (one sqrt3 true triangle) (lent 10 18 9 600)) ∷
    -- K7
    said (one catmull true nothing) ∷
    -- K7
    said (one loop_scheme true nothing) ∷
    -- K7
    said (one sqrt3 false nothing) ∷
    -- K8
    put_at (one catmull true cube) 14 ∷
    -- K9
    put_at (one catmull true square) 0 ∷
    -- K10
    put_at (one loop_scheme true triangle) 0 ∷
    -- K11
    put_at (one loop_scheme true octahedron) 0 ∷
    -- K12
    put_at (one sqrt3 true wheel) 1 ∷
    []
    ) (
    -- K1
    counts 26 48 24 true ∷
    -- K2
    counts 26 72 48 true ∷
    -- K3
    counts 20 54 36 true ∷
    -- K4
    counts 7 9 3 true ∷
    -- K5
    counts 4 6 3 true ∷
    -- K6
    counts 10 18 9 false ∷
    -- K7
    counts 0 0 0 true ∷
    -- K7
    counts 0 0 0 true ∷
    -- K7
    counts 0 0 0 true ∷
    -- K8
    at (n 0) three_quarters three_quarters ∷
    -- K9
    at (n 1) (n 1) (n 0) ∷
    -- K10
    at (n 1) (n 1) (n 0) ∷
    -- K11
    at k11 (n 0) (n 0) ∷
    -- K12
    at (n 4) (n 4) (n 0) ∷
    []
    )
unfolding of_int of_bits add sub mul div Ieee.round said_checked said_subdivided said_edited links points tally turned heavy begin final work_needed enough unwanted overweight refusal last_links last_flag last_points last_marks subdivided left_after ended call then onward every c1_vertex c1_halfedge c1_face c2 c3 c4 c5 c6 c7 c8 c9 fault set_mark marked unmarked_new written edit_ended edit_refusal edit split_edge_edit split_face_edit insert_edge_edit swap_denied swap_ccw_edit swap_cw_edit triangulate_all split_edge joined paint across_face across_hole insert_edge insert_new cut_off cut_corner triangulate_face triangulate petal petals fan singles split_face swap_ccw swap_cw partner loop around is_v is_e is_h is_f put lay over each range round only has distinct first all number_of sum split_edges from_old pairs catmull_face catmull_pass corners loop_face loop_pass rim_of rim_side rim_face centre_face sqrt_face swap_inner sqrt_pass zero_p add_p scale_p over_p flat plus heads face_point catmull_edge catmull_rim catmull_inner catmull_vertex catmull_points inner on_rim loop_edge_point loop_vertex loop_points sqrt_vertex sqrt_answer answers sqrt_points cc_edge middle cc_inner loop_edge loop_rim weighted sqrt_rim sqrt_pair crowded two_rims catmull loop_scheme sqrt3 sizes fits fits_with used links_of marks_of points_of clean filled wiped counts_of tally_of counted triangulated catmull_tally loop_tally sqrt_tally dec row
pieces = refl
