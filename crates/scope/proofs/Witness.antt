-- A few recorded cases of the Rust by computation, and the room that a pass asks for, beside the definitions themselves: a definition that is changed is refused here.
-- Written by tools/theorems.py from oracle/vectors; crates/scope_cases has more. Assumes nothing.
use mathlib.Core.Path.{◌≡◌, refl}
use mathlib.Core.Bool.{true, false}
use mathlib.Core.List.{List, [], ◌∷◌, ◌++◌}
use Rattle.std.specs.Prelude.{Option, None, Some, Ok, Err}
use Prim.Native.Nat.{ℕ}
use lib.ListN.{get_or, replicate}
use lib.Ieee.{Float, binary64, nan, of_int, of_bits, add, sub, mul, div}
use lib.Ieee as Ieee
use Rattle.scope.specs.declared.answers.Place.TheVariants.{AtVertex, AtHalfedge, AtFace}
use Rattle.scope.specs.declared.answers.Refusal.{Refusal}
use Rattle.scope.specs.declared.answers.Refusal.TheVariants.{NoRoom, HalfedgesNotInTheSameLoop, WouldBreak}
use Rattle.scope.specs.Answers.{said_checked, said_subdivided, said_edited}
use Rattle.scope.specs.Call.{Scheme, links, points, tally, turned, heavy, begin, final, work_needed, enough, unwanted, overweight, refusal, last_links, last_flag, last_points, last_marks, subdivided, left_after, ended, call, then, onward}
use Rattle.scope.specs.Check.{every, c1_vertex, c1_halfedge, c1_face, c2, c3, c4, c5, c6, c7, c8, c9, fault, set_mark, marked}
use Rattle.scope.specs.EditCalls.{unmarked_new, written, edit_ended, edit_refusal, edit, split_edge_edit, split_face_edit, insert_edge_edit, swap_denied, swap_ccw_edit, swap_cw_edit, triangulate_all}
use Rattle.scope.specs.Edits.{split_edge, joined, paint, across_face, across_hole, insert_edge, insert_new, cut_off, cut_corner, triangulate_face, triangulate, petal, petals, fan, singles, split_face, swap_ccw, swap_cw}
use Rattle.scope.specs.Links.{NONE, partner, loop, around, is_v, is_e, is_h, is_f}
use Rattle.scope.specs.Lists.{put, lay, over, each, range, round, only, has, distinct, first, all, number_of, sum}
use Rattle.scope.specs.Passes.{split_edges, from_old, pairs, catmull_face, catmull_pass, corners, loop_face, loop_pass, rim_of, rim_side, rim_face, centre_face, sqrt_face, swap_inner, sqrt_pass}
use Rattle.scope.specs.Point.{zero_p, add_p, scale_p, over_p}
use Rattle.scope.specs.Points.{flat, plus, heads, face_point, catmull_edge, catmull_rim, catmull_inner, catmull_vertex, catmull_points, inner, on_rim, loop_edge_point, loop_vertex, loop_points, sqrt_vertex, sqrt_answer, answers, sqrt_points}
use Rattle.scope.specs.Rules.{cc_edge, middle, cc_inner, loop_edge, loop_rim, weighted, sqrt_rim, sqrt_pair}
use Rattle.scope.specs.Schemes.{crowded, two_rims, catmull, loop_scheme, sqrt3}
use Rattle.scope.specs.Slices.{Given, sizes, fits, fits_with, used, links_of, marks_of, points_of, clean, filled, wiped}
use Rattle.scope.specs.Tally.{counts_of, tally_of, counted, triangulated, catmull_tally, loop_tally, sqrt_tally}
use Rattle.scope.specs.Weights.{dec, row}
use Rattle.scope.proofs.Recorded.{mesh, zero, lent, done, own, gives, wrong}

check-25 :
    wrong (mesh 4 5 2 (0 ∷ 2 ∷ 4 ∷ 7 ∷ []) (NONE ∷ 2 ∷ 4 ∷ 7 ∷ 0 ∷ 0 ∷ 8 ∷ 5 ∷ NONE ∷ 3 ∷ 7 ∷ 4 ∷ 1 ∷ 1 ∷ 9 ∷ 6 ∷ NONE ∷ 1 ∷ 2 ∷ 0 ∷ 0 ∷ 2 ∷ 1 ∷ 8 ∷ 1 ∷ 3 ∷ 3 ∷ 9 ∷ NONE ∷ 0 ∷ 0 ∷ 2 ∷ 0 ∷ 1 ∷ 5 ∷ 1 ∷ 1 ∷ 0 ∷ 6 ∷ 3 ∷ []) (1 ∷ 9 ∷ []) (0 ∷ 0 ∷ 0 ∷ 0 ∷ []) (1 ∷ 0 ∷ 0 ∷ 0 ∷ 0 ∷ []) (0 ∷ 0 ∷ []) (of_bits binary64 13837309855095848960 ∷ of_bits binary64 13849694754071117824 ∷ of_bits binary64 13846317054350589952 ∷ of_bits binary64 13849413279094407168 ∷ of_bits binary64 13830554455654793216 ∷ of_bits binary64 4623507967449235456 ∷ of_bits binary64 4616189618054758400 ∷ of_bits binary64 4613937818241073152 ∷ of_bits binary64 4622945017495814144 ∷ of_bits binary64 13849413279094407168 ∷ of_bits binary64 13848568854164275200 ∷ of_bits binary64 13841813454723219456 ∷ [])) ≡ Some (record { rule = 1; place = AtVertex 0 })
unfolding of_int of_bits add sub mul div Ieee.round said_checked said_subdivided said_edited links points tally turned heavy begin final work_needed enough unwanted overweight refusal last_links last_flag last_points last_marks subdivided left_after ended call then onward every c1_vertex c1_halfedge c1_face c2 c3 c4 c5 c6 c7 c8 c9 fault set_mark marked unmarked_new written edit_ended edit_refusal edit split_edge_edit split_face_edit insert_edge_edit swap_denied swap_ccw_edit swap_cw_edit triangulate_all split_edge joined paint across_face across_hole insert_edge insert_new cut_off cut_corner triangulate_face triangulate petal petals fan singles split_face swap_ccw swap_cw partner loop around is_v is_e is_h is_f put lay over each range round only has distinct first all number_of sum split_edges from_old pairs catmull_face catmull_pass corners loop_face loop_pass rim_of rim_side rim_face centre_face sqrt_face swap_inner sqrt_pass zero_p add_p scale_p over_p flat plus heads face_point catmull_edge catmull_rim catmull_inner catmull_vertex catmull_points inner on_rim loop_edge_point loop_vertex loop_points sqrt_vertex sqrt_answer answers sqrt_points cc_edge middle cc_inner loop_edge loop_rim weighted sqrt_rim sqrt_pair crowded two_rims catmull loop_scheme sqrt3 sizes fits fits_with used links_of marks_of points_of clean filled wiped counts_of tally_of counted triangulated catmull_tally loop_tally sqrt_tally dec row
check-25 = refl

check-27 :
    wrong (mesh 5 5 2 (8 ∷ 9 ∷ 5 ∷ 4 ∷ 6 ∷ []) (1 ∷ 2 ∷ 5 ∷ 7 ∷ 0 ∷ 4 ∷ 6 ∷ 4 ∷ 1 ∷ 1 ∷ 9 ∷ 5 ∷ 0 ∷ 3 ∷ 4 ∷ 8 ∷ 0 ∷ 2 ∷ 1 ∷ 8 ∷ 1 ∷ 3 ∷ 2 ∷ 0 ∷ 0 ∷ 0 ∷ 8 ∷ 1 ∷ 1 ∷ 4 ∷ 0 ∷ 9 ∷ 0 ∷ 1 ∷ 3 ∷ 6 ∷ 1 ∷ 0 ∷ 7 ∷ 2 ∷ []) (1 ∷ 2 ∷ []) (0 ∷ 0 ∷ 0 ∷ 0 ∷ 0 ∷ []) (0 ∷ 0 ∷ 0 ∷ 0 ∷ 0 ∷ []) (0 ∷ 0 ∷ []) (of_bits binary64 4625196817309499392 ∷ of_bits binary64 13841813454723219456 ∷ of_bits binary64 13848568854164275200 ∷ of_bits binary64 13846880004304011264 ∷ of_bits binary64 4611686018427387904 ∷ of_bits binary64 13842939354630062080 ∷ of_bits binary64 4625759767262920704 ∷ of_bits binary64 4607182418800017408 ∷ of_bits binary64 13839561654909534208 ∷ of_bits binary64 13835058055282163712 ∷ of_bits binary64 4625759767262920704 ∷ of_bits binary64 4625478292286210048 ∷ of_bits binary64 4625196817309499392 ∷ of_bits binary64 0 ∷ of_bits binary64 4622945017495814144 ∷ [])) ≡ Some (record { rule = 2; place = AtHalfedge 3 })
unfolding of_int of_bits add sub mul div Ieee.round said_checked said_subdivided said_edited links points tally turned heavy begin final work_needed enough unwanted overweight refusal last_links last_flag last_points last_marks subdivided left_after ended call then onward every c1_vertex c1_halfedge c1_face c2 c3 c4 c5 c6 c7 c8 c9 fault set_mark marked unmarked_new written edit_ended edit_refusal edit split_edge_edit split_face_edit insert_edge_edit swap_denied swap_ccw_edit swap_cw_edit triangulate_all split_edge joined paint across_face across_hole insert_edge insert_new cut_off cut_corner triangulate_face triangulate petal petals fan singles split_face swap_ccw swap_cw partner loop around is_v is_e is_h is_f put lay over each range round only has distinct first all number_of sum split_edges from_old pairs catmull_face catmull_pass corners loop_face loop_pass rim_of rim_side rim_face centre_face sqrt_face swap_inner sqrt_pass zero_p add_p scale_p over_p flat plus heads face_point catmull_edge catmull_rim catmull_inner catmull_vertex catmull_points inner on_rim loop_edge_point loop_vertex loop_points sqrt_vertex sqrt_answer answers sqrt_points cc_edge middle cc_inner loop_edge loop_rim weighted sqrt_rim sqrt_pair crowded two_rims catmull loop_scheme sqrt3 sizes fits fits_with used links_of marks_of points_of clean filled wiped counts_of tally_of counted triangulated catmull_tally loop_tally sqrt_tally dec row
check-27 = refl

check-59 :
    wrong (mesh 5 5 2 (1 ∷ 8 ∷ 7 ∷ NONE ∷ 5 ∷ []) (1 ∷ 0 ∷ 3 ∷ 6 ∷ NONE ∷ 2 ∷ 7 ∷ 5 ∷ 0 ∷ 0 ∷ 4 ∷ 8 ∷ 1 ∷ 1 ∷ 6 ∷ 0 ∷ 0 ∷ 4 ∷ 8 ∷ 2 ∷ NONE ∷ 0 ∷ 1 ∷ 9 ∷ 1 ∷ 2 ∷ 0 ∷ 3 ∷ NONE ∷ 1 ∷ 9 ∷ 1 ∷ 0 ∷ 1 ∷ 2 ∷ 4 ∷ NONE ∷ 4 ∷ 5 ∷ 7 ∷ []) (4 ∷ 3 ∷ []) (0 ∷ 0 ∷ 0 ∷ 0 ∷ 0 ∷ []) (0 ∷ 0 ∷ 0 ∷ 0 ∷ 0 ∷ []) (0 ∷ 0 ∷ []) (of_bits binary64 4625759767262920704 ∷ of_bits binary64 13848850329140985856 ∷ of_bits binary64 13837309855095848960 ∷ of_bits binary64 4617315517961601024 ∷ of_bits binary64 13846317054350589952 ∷ of_bits binary64 4624633867356078080 ∷ of_bits binary64 4624633867356078080 ∷ of_bits binary64 13844065254536904704 ∷ of_bits binary64 4611686018427387904 ∷ of_bits binary64 4625196817309499392 ∷ of_bits binary64 4620693217682128896 ∷ of_bits binary64 4619567317775286272 ∷ of_bits binary64 13849413279094407168 ∷ of_bits binary64 4625196817309499392 ∷ of_bits binary64 4625196817309499392 ∷ [])) ≡ Some (record { rule = 8; place = AtVertex 1 })
unfolding of_int of_bits add sub mul div Ieee.round said_checked said_subdivided said_edited links points tally turned heavy begin final work_needed enough unwanted overweight refusal last_links last_flag last_points last_marks subdivided left_after ended call then onward every c1_vertex c1_halfedge c1_face c2 c3 c4 c5 c6 c7 c8 c9 fault set_mark marked unmarked_new written edit_ended edit_refusal edit split_edge_edit split_face_edit insert_edge_edit swap_denied swap_ccw_edit swap_cw_edit triangulate_all split_edge joined paint across_face across_hole insert_edge insert_new cut_off cut_corner triangulate_face triangulate petal petals fan singles split_face swap_ccw swap_cw partner loop around is_v is_e is_h is_f put lay over each range round only has distinct first all number_of sum split_edges from_old pairs catmull_face catmull_pass corners loop_face loop_pass rim_of rim_side rim_face centre_face sqrt_face swap_inner sqrt_pass zero_p add_p scale_p over_p flat plus heads face_point catmull_edge catmull_rim catmull_inner catmull_vertex catmull_points inner on_rim loop_edge_point loop_vertex loop_points sqrt_vertex sqrt_answer answers sqrt_points cc_edge middle cc_inner loop_edge loop_rim weighted sqrt_rim sqrt_pair crowded two_rims catmull loop_scheme sqrt3 sizes fits fits_with used links_of marks_of points_of clean filled wiped counts_of tally_of counted triangulated catmull_tally loop_tally sqrt_tally dec row
check-59 = refl

edits-197 :
    edit (triangulate_all) (own 3 3 1 ((3 ∷ 5 ∷ 1 ∷ []) ++ replicate 2 7) ((0 ∷ 2 ∷ 4 ∷ 2 ∷ NONE ∷ 0 ∷ 3 ∷ 5 ∷ 0 ∷ 0 ∷ 0 ∷ 4 ∷ NONE ∷ 1 ∷ 5 ∷ 1 ∷ 0 ∷ 1 ∷ 2 ∷ 0 ∷ NONE ∷ 2 ∷ 1 ∷ 3 ∷ []) ++ replicate 8 7) ((4 ∷ []) ++ replicate 1 7) ((0 ∷ 0 ∷ 0 ∷ []) ++ replicate 2 7) ((0 ∷ 0 ∷ 0 ∷ []) ++ replicate 1 7) ((0 ∷ []) ++ replicate 1 7)) ≡
    gives (Ok (record { v = 3; e = 3; f = 1 }, 0)) (own 3 3 1 ((3 ∷ 5 ∷ 1 ∷ []) ++ replicate 2 7) ((0 ∷ 2 ∷ 4 ∷ 2 ∷ NONE ∷ 0 ∷ 3 ∷ 5 ∷ 0 ∷ 0 ∷ 0 ∷ 4 ∷ NONE ∷ 1 ∷ 5 ∷ 1 ∷ 0 ∷ 1 ∷ 2 ∷ 0 ∷ NONE ∷ 2 ∷ 1 ∷ 3 ∷ []) ++ replicate 8 7) ((4 ∷ []) ++ replicate 1 7) ((0 ∷ 0 ∷ 0 ∷ []) ++ replicate 2 7) ((0 ∷ 0 ∷ 0 ∷ []) ++ replicate 1 7) ((0 ∷ []) ++ replicate 1 7))
unfolding of_int of_bits add sub mul div Ieee.round said_checked said_subdivided said_edited links points tally turned heavy begin final work_needed enough unwanted overweight refusal last_links last_flag last_points last_marks subdivided left_after ended call then onward every c1_vertex c1_halfedge c1_face c2 c3 c4 c5 c6 c7 c8 c9 fault set_mark marked unmarked_new written edit_ended edit_refusal edit split_edge_edit split_face_edit insert_edge_edit swap_denied swap_ccw_edit swap_cw_edit triangulate_all split_edge joined paint across_face across_hole insert_edge insert_new cut_off cut_corner triangulate_face triangulate petal petals fan singles split_face swap_ccw swap_cw partner loop around is_v is_e is_h is_f put lay over each range round only has distinct first all number_of sum split_edges from_old pairs catmull_face catmull_pass corners loop_face loop_pass rim_of rim_side rim_face centre_face sqrt_face swap_inner sqrt_pass zero_p add_p scale_p over_p flat plus heads face_point catmull_edge catmull_rim catmull_inner catmull_vertex catmull_points inner on_rim loop_edge_point loop_vertex loop_points sqrt_vertex sqrt_answer answers sqrt_points cc_edge middle cc_inner loop_edge loop_rim weighted sqrt_rim sqrt_pair crowded two_rims catmull loop_scheme sqrt3 sizes fits fits_with used links_of marks_of points_of clean filled wiped counts_of tally_of counted triangulated catmull_tally loop_tally sqrt_tally dec row
edits-197 = refl

edits-140 :
    edit (split_edge_edit 3 4) (own 5 3 1 ((1 ∷ 2 ∷ 4 ∷ NONE ∷ NONE ∷ []) ++ replicate 2 7) ((0 ∷ 0 ∷ 3 ∷ 5 ∷ NONE ∷ 2 ∷ 4 ∷ 2 ∷ NONE ∷ 0 ∷ 1 ∷ 4 ∷ 0 ∷ 1 ∷ 5 ∷ 0 ∷ NONE ∷ 1 ∷ 2 ∷ 1 ∷ 0 ∷ 2 ∷ 0 ∷ 3 ∷ []) ++ replicate 16 7) ((5 ∷ []) ++ replicate 1 7) ((0 ∷ 0 ∷ 0 ∷ 0 ∷ 0 ∷ []) ++ replicate 2 7) ((0 ∷ 0 ∷ 0 ∷ []) ++ replicate 2 7) ((0 ∷ []) ++ replicate 1 7)) ≡
    gives (Ok (record { v = 5; e = 4; f = 1 }, 6)) (own 5 4 1 ((1 ∷ 2 ∷ 4 ∷ NONE ∷ 7 ∷ []) ++ replicate 2 7) ((0 ∷ 0 ∷ 6 ∷ 5 ∷ NONE ∷ 2 ∷ 4 ∷ 7 ∷ NONE ∷ 4 ∷ 7 ∷ 4 ∷ 0 ∷ 1 ∷ 5 ∷ 6 ∷ NONE ∷ 1 ∷ 2 ∷ 1 ∷ 0 ∷ 2 ∷ 0 ∷ 3 ∷ 0 ∷ 4 ∷ 3 ∷ 0 ∷ NONE ∷ 0 ∷ 1 ∷ 2 ∷ []) ++ replicate 8 7) ((5 ∷ []) ++ replicate 1 7) ((0 ∷ 0 ∷ 0 ∷ 0 ∷ 0 ∷ []) ++ replicate 2 7) ((0 ∷ 0 ∷ 0 ∷ 0 ∷ []) ++ replicate 1 7) ((0 ∷ []) ++ replicate 1 7))
unfolding of_int of_bits add sub mul div Ieee.round said_checked said_subdivided said_edited links points tally turned heavy begin final work_needed enough unwanted overweight refusal last_links last_flag last_points last_marks subdivided left_after ended call then onward every c1_vertex c1_halfedge c1_face c2 c3 c4 c5 c6 c7 c8 c9 fault set_mark marked unmarked_new written edit_ended edit_refusal edit split_edge_edit split_face_edit insert_edge_edit swap_denied swap_ccw_edit swap_cw_edit triangulate_all split_edge joined paint across_face across_hole insert_edge insert_new cut_off cut_corner triangulate_face triangulate petal petals fan singles split_face swap_ccw swap_cw partner loop around is_v is_e is_h is_f put lay over each range round only has distinct first all number_of sum split_edges from_old pairs catmull_face catmull_pass corners loop_face loop_pass rim_of rim_side rim_face centre_face sqrt_face swap_inner sqrt_pass zero_p add_p scale_p over_p flat plus heads face_point catmull_edge catmull_rim catmull_inner catmull_vertex catmull_points inner on_rim loop_edge_point loop_vertex loop_points sqrt_vertex sqrt_answer answers sqrt_points cc_edge middle cc_inner loop_edge loop_rim weighted sqrt_rim sqrt_pair crowded two_rims catmull loop_scheme sqrt3 sizes fits fits_with used links_of marks_of points_of clean filled wiped counts_of tally_of counted triangulated catmull_tally loop_tally sqrt_tally dec row
edits-140 = refl

edits-212 :
    edit (insert_edge_edit 4 3 NONE) (own 3 3 1 ((4 ∷ 3 ∷ 0 ∷ []) ++ replicate 2 7) ((NONE ∷ 1 ∷ 3 ∷ 4 ∷ 0 ∷ 2 ∷ 5 ∷ 2 ∷ 0 ∷ 1 ∷ 1 ∷ 5 ∷ NONE ∷ 0 ∷ 4 ∷ 0 ∷ NONE ∷ 2 ∷ 0 ∷ 3 ∷ 0 ∷ 0 ∷ 2 ∷ 1 ∷ []) ++ replicate 16 7) ((1 ∷ []) ++ replicate 2 7) ((0 ∷ 0 ∷ 0 ∷ []) ++ replicate 2 7) ((0 ∷ 0 ∷ 0 ∷ []) ++ replicate 2 7) ((0 ∷ []) ++ replicate 2 7)) ≡
    gives (Ok (record { v = 3; e = 4; f = 2 }, 3)) (own 3 4 2 ((4 ∷ 7 ∷ 0 ∷ []) ++ replicate 2 7) ((NONE ∷ 1 ∷ 7 ∷ 7 ∷ 0 ∷ 2 ∷ 5 ∷ 2 ∷ 0 ∷ 1 ∷ 1 ∷ 5 ∷ 1 ∷ 0 ∷ 4 ∷ 6 ∷ 1 ∷ 2 ∷ 6 ∷ 3 ∷ 0 ∷ 0 ∷ 2 ∷ 1 ∷ 1 ∷ 1 ∷ 3 ∷ 4 ∷ NONE ∷ 2 ∷ 0 ∷ 0 ∷ []) ++ replicate 8 7) ((1 ∷ 6 ∷ []) ++ replicate 1 7) ((0 ∷ 0 ∷ 0 ∷ []) ++ replicate 2 7) ((0 ∷ 0 ∷ 0 ∷ 0 ∷ []) ++ replicate 1 7) ((0 ∷ 0 ∷ []) ++ replicate 1 7))
unfolding of_int of_bits add sub mul div Ieee.round said_checked said_subdivided said_edited links points tally turned heavy begin final work_needed enough unwanted overweight refusal last_links last_flag last_points last_marks subdivided left_after ended call then onward every c1_vertex c1_halfedge c1_face c2 c3 c4 c5 c6 c7 c8 c9 fault set_mark marked unmarked_new written edit_ended edit_refusal edit split_edge_edit split_face_edit insert_edge_edit swap_denied swap_ccw_edit swap_cw_edit triangulate_all split_edge joined paint across_face across_hole insert_edge insert_new cut_off cut_corner triangulate_face triangulate petal petals fan singles split_face swap_ccw swap_cw partner loop around is_v is_e is_h is_f put lay over each range round only has distinct first all number_of sum split_edges from_old pairs catmull_face catmull_pass corners loop_face loop_pass rim_of rim_side rim_face centre_face sqrt_face swap_inner sqrt_pass zero_p add_p scale_p over_p flat plus heads face_point catmull_edge catmull_rim catmull_inner catmull_vertex catmull_points inner on_rim loop_edge_point loop_vertex loop_points sqrt_vertex sqrt_answer answers sqrt_points cc_edge middle cc_inner loop_edge loop_rim weighted sqrt_rim sqrt_pair crowded two_rims catmull loop_scheme sqrt3 sizes fits fits_with used links_of marks_of points_of clean filled wiped counts_of tally_of counted triangulated catmull_tally loop_tally sqrt_tally dec row
edits-212 = refl

edits-92 :
    edit (insert_edge_edit 5 1 NONE) (own 4 4 1 ((3 ∷ 6 ∷ 0 ∷ 4 ∷ []) ++ replicate 2 7) ((NONE ∷ 0 ∷ 3 ∷ 6 ∷ 0 ∷ 2 ∷ 7 ∷ 2 ∷ 0 ∷ 0 ∷ 1 ∷ 5 ∷ NONE ∷ 3 ∷ 4 ∷ 0 ∷ NONE ∷ 1 ∷ 6 ∷ 3 ∷ 0 ∷ 3 ∷ 2 ∷ 7 ∷ NONE ∷ 2 ∷ 0 ∷ 4 ∷ 0 ∷ 1 ∷ 5 ∷ 1 ∷ []) ++ replicate 8 7) ((2 ∷ []) ++ replicate 1 7) ((0 ∷ 0 ∷ 0 ∷ 0 ∷ []) ++ replicate 2 7) ((0 ∷ 0 ∷ 0 ∷ 0 ∷ []) ++ replicate 1 7) ((0 ∷ []) ++ replicate 1 7)) ≡
    gives (Err (WouldBreak)) (own 4 4 1 ((3 ∷ 6 ∷ 0 ∷ 4 ∷ []) ++ replicate 2 7) ((NONE ∷ 0 ∷ 3 ∷ 6 ∷ 0 ∷ 2 ∷ 7 ∷ 2 ∷ 0 ∷ 0 ∷ 1 ∷ 5 ∷ NONE ∷ 3 ∷ 4 ∷ 0 ∷ NONE ∷ 1 ∷ 6 ∷ 3 ∷ 0 ∷ 3 ∷ 2 ∷ 7 ∷ NONE ∷ 2 ∷ 0 ∷ 4 ∷ 0 ∷ 1 ∷ 5 ∷ 1 ∷ []) ++ replicate 8 7) ((2 ∷ []) ++ replicate 1 7) ((0 ∷ 0 ∷ 0 ∷ 0 ∷ []) ++ replicate 2 7) ((0 ∷ 0 ∷ 0 ∷ 0 ∷ []) ++ replicate 1 7) ((0 ∷ []) ++ replicate 1 7))
unfolding of_int of_bits add sub mul div Ieee.round said_checked said_subdivided said_edited links points tally turned heavy begin final work_needed enough unwanted overweight refusal last_links last_flag last_points last_marks subdivided left_after ended call then onward every c1_vertex c1_halfedge c1_face c2 c3 c4 c5 c6 c7 c8 c9 fault set_mark marked unmarked_new written edit_ended edit_refusal edit split_edge_edit split_face_edit insert_edge_edit swap_denied swap_ccw_edit swap_cw_edit triangulate_all split_edge joined paint across_face across_hole insert_edge insert_new cut_off cut_corner triangulate_face triangulate petal petals fan singles split_face swap_ccw swap_cw partner loop around is_v is_e is_h is_f put lay over each range round only has distinct first all number_of sum split_edges from_old pairs catmull_face catmull_pass corners loop_face loop_pass rim_of rim_side rim_face centre_face sqrt_face swap_inner sqrt_pass zero_p add_p scale_p over_p flat plus heads face_point catmull_edge catmull_rim catmull_inner catmull_vertex catmull_points inner on_rim loop_edge_point loop_vertex loop_points sqrt_vertex sqrt_answer answers sqrt_points cc_edge middle cc_inner loop_edge loop_rim weighted sqrt_rim sqrt_pair crowded two_rims catmull loop_scheme sqrt3 sizes fits fits_with used links_of marks_of points_of clean filled wiped counts_of tally_of counted triangulated catmull_tally loop_tally sqrt_tally dec row
edits-92 = refl

schemes-56 :
    call sqrt3 1 true (mesh 6 3 1 (0 ∷ NONE ∷ 2 ∷ NONE ∷ NONE ∷ 4 ∷ []) (NONE ∷ 2 ∷ 2 ∷ 4 ∷ 0 ∷ 0 ∷ 5 ∷ 3 ∷ NONE ∷ 5 ∷ 4 ∷ 0 ∷ 0 ∷ 2 ∷ 1 ∷ 5 ∷ NONE ∷ 0 ∷ 0 ∷ 2 ∷ 0 ∷ 5 ∷ 3 ∷ 1 ∷ []) (5 ∷ []) (0 ∷ 0 ∷ 0 ∷ 0 ∷ 0 ∷ 0 ∷ []) (0 ∷ 0 ∷ 0 ∷ []) (0 ∷ []) (of_bits binary64 4610944590611637400 ∷ of_bits binary64 4617935479248770296 ∷ of_bits binary64 4615086907563457136 ∷ of_bits binary64 13836409667603431136 ∷ of_bits binary64 4614696438957864608 ∷ of_bits binary64 13837913357952636176 ∷ of_bits binary64 13827497123693196080 ∷ of_bits binary64 4618325783825231412 ∷ of_bits binary64 4607235676659941400 ∷ of_bits binary64 13817755075861934976 ∷ of_bits binary64 4597213144275258304 ∷ of_bits binary64 4614797627608667724 ∷ of_bits binary64 13844957342950457908 ∷ of_bits binary64 4620979722730200026 ∷ of_bits binary64 4611942225181322224 ∷ of_bits binary64 13842112987300984844 ∷ of_bits binary64 13833168126383533480 ∷ of_bits binary64 13839991491944865962 ∷ [])) (lent 7 6 3 96) ≡
    done (mesh 7 6 3 (0 ∷ NONE ∷ 2 ∷ NONE ∷ NONE ∷ 4 ∷ 11 ∷ []) (NONE ∷ 2 ∷ 2 ∷ 4 ∷ 2 ∷ 0 ∷ 10 ∷ 9 ∷ NONE ∷ 5 ∷ 4 ∷ 0 ∷ 1 ∷ 2 ∷ 8 ∷ 7 ∷ NONE ∷ 0 ∷ 0 ∷ 2 ∷ 0 ∷ 5 ∷ 6 ∷ 11 ∷ 0 ∷ 6 ∷ 11 ∷ 5 ∷ 1 ∷ 5 ∷ 3 ∷ 8 ∷ 1 ∷ 6 ∷ 7 ∷ 3 ∷ 2 ∷ 2 ∷ 1 ∷ 10 ∷ 2 ∷ 6 ∷ 9 ∷ 1 ∷ 0 ∷ 0 ∷ 5 ∷ 6 ∷ []) (5 ∷ 3 ∷ 1 ∷ []) (0 ∷ 0 ∷ 0 ∷ 0 ∷ 0 ∷ 0 ∷ 0 ∷ []) (0 ∷ 0 ∷ 0 ∷ 0 ∷ 0 ∷ 0 ∷ []) (0 ∷ 0 ∷ 0 ∷ []) (of_bits binary64 4610944590611637400 ∷ of_bits binary64 4617935479248770296 ∷ of_bits binary64 4615086907563457136 ∷ of_bits binary64 13836409667603431136 ∷ of_bits binary64 4614696438957864608 ∷ of_bits binary64 13837913357952636176 ∷ of_bits binary64 13827497123693196080 ∷ of_bits binary64 4618325783825231412 ∷ of_bits binary64 4607235676659941400 ∷ of_bits binary64 13817755075861934976 ∷ of_bits binary64 4597213144275258304 ∷ of_bits binary64 4614797627608667724 ∷ of_bits binary64 13844957342950457908 ∷ of_bits binary64 4620979722730200026 ∷ of_bits binary64 4611942225181322224 ∷ of_bits binary64 13842112987300984844 ∷ of_bits binary64 13833168126383533480 ∷ of_bits binary64 13839991491944865962 ∷ of_bits binary64 13833693819455044709 ∷ of_bits binary64 4614589024553482881 ∷ of_bits binary64 4586903096911687168 ∷ [])) true 96
unfolding of_int of_bits add sub mul div Ieee.round said_checked said_subdivided said_edited links points tally turned heavy begin final work_needed enough unwanted overweight refusal last_links last_flag last_points last_marks subdivided left_after ended call then onward every c1_vertex c1_halfedge c1_face c2 c3 c4 c5 c6 c7 c8 c9 fault set_mark marked unmarked_new written edit_ended edit_refusal edit split_edge_edit split_face_edit insert_edge_edit swap_denied swap_ccw_edit swap_cw_edit triangulate_all split_edge joined paint across_face across_hole insert_edge insert_new cut_off cut_corner triangulate_face triangulate petal petals fan singles split_face swap_ccw swap_cw partner loop around is_v is_e is_h is_f put lay over each range round only has distinct first all number_of sum split_edges from_old pairs catmull_face catmull_pass corners loop_face loop_pass rim_of rim_side rim_face centre_face sqrt_face swap_inner sqrt_pass zero_p add_p scale_p over_p flat plus heads face_point catmull_edge catmull_rim catmull_inner catmull_vertex catmull_points inner on_rim loop_edge_point loop_vertex loop_points sqrt_vertex sqrt_answer answers sqrt_points cc_edge middle cc_inner loop_edge loop_rim weighted sqrt_rim sqrt_pair crowded two_rims catmull loop_scheme sqrt3 sizes fits fits_with used links_of marks_of points_of clean filled wiped counts_of tally_of counted triangulated catmull_tally loop_tally sqrt_tally dec row
schemes-56 = refl

edits-184 :
    edit (insert_edge_edit 6 1 NONE) (own 4 4 2 ((1 ∷ 7 ∷ 4 ∷ 6 ∷ []) ++ replicate 2 7) ((0 ∷ 0 ∷ 3 ∷ 7 ∷ 1 ∷ 3 ∷ 6 ∷ 2 ∷ 1 ∷ 0 ∷ 1 ∷ 5 ∷ 0 ∷ 2 ∷ 4 ∷ 0 ∷ 0 ∷ 1 ∷ 7 ∷ 3 ∷ 1 ∷ 2 ∷ 2 ∷ 6 ∷ 1 ∷ 1 ∷ 5 ∷ 1 ∷ 0 ∷ 3 ∷ 0 ∷ 4 ∷ []) ++ replicate 16 7) ((4 ∷ 1 ∷ []) ++ replicate 2 7) ((0 ∷ 0 ∷ 0 ∷ 0 ∷ []) ++ replicate 2 7) ((0 ∷ 0 ∷ 0 ∷ 0 ∷ []) ++ replicate 2 7) ((0 ∷ 0 ∷ []) ++ replicate 2 7)) ≡
    gives (Ok (record { v = 4; e = 5; f = 3 }, 4)) (own 4 5 3 ((1 ∷ 7 ∷ 4 ∷ 6 ∷ []) ++ replicate 2 7) ((0 ∷ 0 ∷ 3 ∷ 7 ∷ 1 ∷ 3 ∷ 6 ∷ 8 ∷ 2 ∷ 0 ∷ 9 ∷ 5 ∷ 0 ∷ 2 ∷ 4 ∷ 0 ∷ 0 ∷ 1 ∷ 7 ∷ 3 ∷ 2 ∷ 2 ∷ 2 ∷ 9 ∷ 1 ∷ 1 ∷ 8 ∷ 1 ∷ 0 ∷ 3 ∷ 0 ∷ 4 ∷ 1 ∷ 0 ∷ 1 ∷ 6 ∷ 2 ∷ 1 ∷ 5 ∷ 2 ∷ []) ++ replicate 8 7) ((4 ∷ 1 ∷ 9 ∷ []) ++ replicate 1 7) ((0 ∷ 0 ∷ 0 ∷ 0 ∷ []) ++ replicate 2 7) ((0 ∷ 0 ∷ 0 ∷ 0 ∷ 0 ∷ []) ++ replicate 1 7) ((0 ∷ 0 ∷ 0 ∷ []) ++ replicate 1 7))
unfolding of_int of_bits add sub mul div Ieee.round said_checked said_subdivided said_edited links points tally turned heavy begin final work_needed enough unwanted overweight refusal last_links last_flag last_points last_marks subdivided left_after ended call then onward every c1_vertex c1_halfedge c1_face c2 c3 c4 c5 c6 c7 c8 c9 fault set_mark marked unmarked_new written edit_ended edit_refusal edit split_edge_edit split_face_edit insert_edge_edit swap_denied swap_ccw_edit swap_cw_edit triangulate_all split_edge joined paint across_face across_hole insert_edge insert_new cut_off cut_corner triangulate_face triangulate petal petals fan singles split_face swap_ccw swap_cw partner loop around is_v is_e is_h is_f put lay over each range round only has distinct first all number_of sum split_edges from_old pairs catmull_face catmull_pass corners loop_face loop_pass rim_of rim_side rim_face centre_face sqrt_face swap_inner sqrt_pass zero_p add_p scale_p over_p flat plus heads face_point catmull_edge catmull_rim catmull_inner catmull_vertex catmull_points inner on_rim loop_edge_point loop_vertex loop_points sqrt_vertex sqrt_answer answers sqrt_points cc_edge middle cc_inner loop_edge loop_rim weighted sqrt_rim sqrt_pair crowded two_rims catmull loop_scheme sqrt3 sizes fits fits_with used links_of marks_of points_of clean filled wiped counts_of tally_of counted triangulated catmull_tally loop_tally sqrt_tally dec row
edits-184 = refl

edits-291 :
    edit (insert_edge_edit 1 3 1) (own 5 4 4 ((4 ∷ 5 ∷ NONE ∷ 7 ∷ 1 ∷ []) ++ replicate 2 7) ((2 ∷ 4 ∷ 2 ∷ 6 ∷ 0 ∷ 3 ∷ 7 ∷ 3 ∷ 2 ∷ 1 ∷ 5 ∷ 0 ∷ 0 ∷ 4 ∷ 1 ∷ 4 ∷ 0 ∷ 1 ∷ 3 ∷ 7 ∷ 2 ∷ 0 ∷ 6 ∷ 2 ∷ 2 ∷ 3 ∷ 0 ∷ 5 ∷ 0 ∷ 0 ∷ 4 ∷ 1 ∷ []) ++ replicate 16 7) ((1 ∷ 4 ∷ 5 ∷ 31 ∷ []) ++ replicate 1 7) ((0 ∷ 0 ∷ 1 ∷ 0 ∷ 0 ∷ []) ++ replicate 2 7) ((0 ∷ 0 ∷ 0 ∷ 0 ∷ []) ++ replicate 2 7) ((0 ∷ 1 ∷ 0 ∷ 1 ∷ []) ++ replicate 1 7)) ≡
    gives (Ok (record { v = 5; e = 5; f = 4 }, 4)) (own 5 5 4 ((4 ∷ 5 ∷ NONE ∷ 7 ∷ 1 ∷ []) ++ replicate 2 7) ((2 ∷ 4 ∷ 2 ∷ 6 ∷ 0 ∷ 3 ∷ 8 ∷ 3 ∷ 2 ∷ 1 ∷ 5 ∷ 0 ∷ 0 ∷ 4 ∷ 1 ∷ 8 ∷ 1 ∷ 1 ∷ 9 ∷ 7 ∷ 2 ∷ 0 ∷ 6 ∷ 2 ∷ 2 ∷ 3 ∷ 0 ∷ 5 ∷ 1 ∷ 0 ∷ 4 ∷ 9 ∷ 0 ∷ 1 ∷ 3 ∷ 1 ∷ 1 ∷ 3 ∷ 7 ∷ 4 ∷ []) ++ replicate 8 7) ((1 ∷ 9 ∷ 5 ∷ 31 ∷ []) ++ replicate 1 7) ((0 ∷ 0 ∷ 1 ∷ 0 ∷ 0 ∷ []) ++ replicate 2 7) ((0 ∷ 0 ∷ 0 ∷ 0 ∷ 0 ∷ []) ++ replicate 1 7) ((0 ∷ 0 ∷ 0 ∷ 1 ∷ []) ++ replicate 1 7))
unfolding of_int of_bits add sub mul div Ieee.round said_checked said_subdivided said_edited links points tally turned heavy begin final work_needed enough unwanted overweight refusal last_links last_flag last_points last_marks subdivided left_after ended call then onward every c1_vertex c1_halfedge c1_face c2 c3 c4 c5 c6 c7 c8 c9 fault set_mark marked unmarked_new written edit_ended edit_refusal edit split_edge_edit split_face_edit insert_edge_edit swap_denied swap_ccw_edit swap_cw_edit triangulate_all split_edge joined paint across_face across_hole insert_edge insert_new cut_off cut_corner triangulate_face triangulate petal petals fan singles split_face swap_ccw swap_cw partner loop around is_v is_e is_h is_f put lay over each range round only has distinct first all number_of sum split_edges from_old pairs catmull_face catmull_pass corners loop_face loop_pass rim_of rim_side rim_face centre_face sqrt_face swap_inner sqrt_pass zero_p add_p scale_p over_p flat plus heads face_point catmull_edge catmull_rim catmull_inner catmull_vertex catmull_points inner on_rim loop_edge_point loop_vertex loop_points sqrt_vertex sqrt_answer answers sqrt_points cc_edge middle cc_inner loop_edge loop_rim weighted sqrt_rim sqrt_pair crowded two_rims catmull loop_scheme sqrt3 sizes fits fits_with used links_of marks_of points_of clean filled wiped counts_of tally_of counted triangulated catmull_tally loop_tally sqrt_tally dec row
edits-291 = refl

check-83 :
    wrong (mesh 8 9 3 (6 ∷ 14 ∷ 12 ∷ 5 ∷ 9 ∷ 3 ∷ 17 ∷ 10 ∷ []) (1 ∷ 1 ∷ 8 ∷ 7 ∷ 2 ∷ 7 ∷ 4 ∷ 15 ∷ 2 ∷ 5 ∷ 16 ∷ 4 ∷ NONE ∷ 3 ∷ 5 ∷ 17 ∷ 2 ∷ 3 ∷ 2 ∷ 1 ∷ NONE ∷ 7 ∷ 10 ∷ 3 ∷ 0 ∷ 4 ∷ 9 ∷ 11 ∷ 1 ∷ 7 ∷ 0 ∷ 8 ∷ 1 ∷ 4 ∷ 7 ∷ 0 ∷ 0 ∷ 1 ∷ 11 ∷ 6 ∷ NONE ∷ 1 ∷ 14 ∷ 5 ∷ 0 ∷ 7 ∷ 6 ∷ 9 ∷ NONE ∷ 6 ∷ 17 ∷ 14 ∷ 2 ∷ 2 ∷ 15 ∷ 16 ∷ NONE ∷ 2 ∷ 12 ∷ 10 ∷ 2 ∷ 1 ∷ 1 ∷ 13 ∷ 2 ∷ 6 ∷ 13 ∷ 2 ∷ NONE ∷ 5 ∷ 3 ∷ 12 ∷ []) (0 ∷ 8 ∷ 16 ∷ []) (1 ∷ 0 ∷ 0 ∷ 0 ∷ 0 ∷ 0 ∷ 0 ∷ 0 ∷ []) (0 ∷ 0 ∷ 0 ∷ 0 ∷ 0 ∷ 0 ∷ 0 ∷ 0 ∷ 0 ∷ []) (0 ∷ 0 ∷ 0 ∷ []) (of_bits binary64 4453455217169748346 ∷ of_bits binary64 905331775904684823 ∷ of_bits binary64 2873160019275419092 ∷ of_bits binary64 13849413279094407168 ∷ of_bits binary64 4625196817309499392 ∷ of_bits binary64 4616189618054758400 ∷ of_bits binary64 13844628204490326016 ∷ of_bits binary64 4621256167635550208 ∷ of_bits binary64 4626041242239631360 ∷ of_bits binary64 4623507967449235456 ∷ of_bits binary64 13835058055282163712 ∷ of_bits binary64 4622382067542392832 ∷ of_bits binary64 13839561654909534208 ∷ of_bits binary64 13837309855095848960 ∷ of_bits binary64 4616189618054758400 ∷ of_bits binary64 13835058055282163712 ∷ of_bits binary64 4623507967449235456 ∷ of_bits binary64 4621819117588971520 ∷ of_bits binary64 4626041242239631360 ∷ of_bits binary64 4617315517961601024 ∷ of_bits binary64 4607182418800017408 ∷ of_bits binary64 13839561654909534208 ∷ of_bits binary64 4617315517961601024 ∷ of_bits binary64 13841813454723219456 ∷ [])) ≡ Some (record { rule = 4; place = AtFace 0 })
unfolding of_int of_bits add sub mul div Ieee.round said_checked said_subdivided said_edited links points tally turned heavy begin final work_needed enough unwanted overweight refusal last_links last_flag last_points last_marks subdivided left_after ended call then onward every c1_vertex c1_halfedge c1_face c2 c3 c4 c5 c6 c7 c8 c9 fault set_mark marked unmarked_new written edit_ended edit_refusal edit split_edge_edit split_face_edit insert_edge_edit swap_denied swap_ccw_edit swap_cw_edit triangulate_all split_edge joined paint across_face across_hole insert_edge insert_new cut_off cut_corner triangulate_face triangulate petal petals fan singles split_face swap_ccw swap_cw partner loop around is_v is_e is_h is_f put lay over each range round only has distinct first all number_of sum split_edges from_old pairs catmull_face catmull_pass corners loop_face loop_pass rim_of rim_side rim_face centre_face sqrt_face swap_inner sqrt_pass zero_p add_p scale_p over_p flat plus heads face_point catmull_edge catmull_rim catmull_inner catmull_vertex catmull_points inner on_rim loop_edge_point loop_vertex loop_points sqrt_vertex sqrt_answer answers sqrt_points cc_edge middle cc_inner loop_edge loop_rim weighted sqrt_rim sqrt_pair crowded two_rims catmull loop_scheme sqrt3 sizes fits fits_with used links_of marks_of points_of clean filled wiped counts_of tally_of counted triangulated catmull_tally loop_tally sqrt_tally dec row
check-83 = refl

edits-23 :
    edit (swap_cw_edit 1) (own 5 5 2 ((1 ∷ 6 ∷ 4 ∷ 2 ∷ 5 ∷ []) ++ replicate 2 7) ((0 ∷ 0 ∷ 9 ∷ 5 ∷ 1 ∷ 2 ∷ 4 ∷ 8 ∷ 0 ∷ 1 ∷ 6 ∷ 9 ∷ 1 ∷ 3 ∷ 8 ∷ 7 ∷ 1 ∷ 4 ∷ 7 ∷ 1 ∷ 0 ∷ 2 ∷ 0 ∷ 6 ∷ 0 ∷ 4 ∷ 5 ∷ 2 ∷ 1 ∷ 1 ∷ 3 ∷ 4 ∷ 1 ∷ 0 ∷ 1 ∷ 3 ∷ 0 ∷ 3 ∷ 2 ∷ 0 ∷ []) ++ replicate 8 7) ((6 ∷ 3 ∷ []) ++ replicate 1 7) ((0 ∷ 0 ∷ 0 ∷ 0 ∷ 0 ∷ []) ++ replicate 2 7) ((0 ∷ 0 ∷ 0 ∷ 0 ∷ 0 ∷ []) ++ replicate 1 7) ((0 ∷ 0 ∷ []) ++ replicate 1 7)) ≡
    gives (Err (WouldBreak)) (own 5 5 2 ((1 ∷ 6 ∷ 4 ∷ 2 ∷ 5 ∷ []) ++ replicate 2 7) ((0 ∷ 0 ∷ 9 ∷ 5 ∷ 1 ∷ 2 ∷ 4 ∷ 8 ∷ 0 ∷ 1 ∷ 6 ∷ 9 ∷ 1 ∷ 3 ∷ 8 ∷ 7 ∷ 1 ∷ 4 ∷ 7 ∷ 1 ∷ 0 ∷ 2 ∷ 0 ∷ 6 ∷ 0 ∷ 4 ∷ 5 ∷ 2 ∷ 1 ∷ 1 ∷ 3 ∷ 4 ∷ 1 ∷ 0 ∷ 1 ∷ 3 ∷ 0 ∷ 3 ∷ 2 ∷ 0 ∷ []) ++ replicate 8 7) ((6 ∷ 3 ∷ []) ++ replicate 1 7) ((0 ∷ 0 ∷ 0 ∷ 0 ∷ 0 ∷ []) ++ replicate 2 7) ((0 ∷ 0 ∷ 0 ∷ 0 ∷ 0 ∷ []) ++ replicate 1 7) ((0 ∷ 0 ∷ []) ++ replicate 1 7))
unfolding of_int of_bits add sub mul div Ieee.round said_checked said_subdivided said_edited links points tally turned heavy begin final work_needed enough unwanted overweight refusal last_links last_flag last_points last_marks subdivided left_after ended call then onward every c1_vertex c1_halfedge c1_face c2 c3 c4 c5 c6 c7 c8 c9 fault set_mark marked unmarked_new written edit_ended edit_refusal edit split_edge_edit split_face_edit insert_edge_edit swap_denied swap_ccw_edit swap_cw_edit triangulate_all split_edge joined paint across_face across_hole insert_edge insert_new cut_off cut_corner triangulate_face triangulate petal petals fan singles split_face swap_ccw swap_cw partner loop around is_v is_e is_h is_f put lay over each range round only has distinct first all number_of sum split_edges from_old pairs catmull_face catmull_pass corners loop_face loop_pass rim_of rim_side rim_face centre_face sqrt_face swap_inner sqrt_pass zero_p add_p scale_p over_p flat plus heads face_point catmull_edge catmull_rim catmull_inner catmull_vertex catmull_points inner on_rim loop_edge_point loop_vertex loop_points sqrt_vertex sqrt_answer answers sqrt_points cc_edge middle cc_inner loop_edge loop_rim weighted sqrt_rim sqrt_pair crowded two_rims catmull loop_scheme sqrt3 sizes fits fits_with used links_of marks_of points_of clean filled wiped counts_of tally_of counted triangulated catmull_tally loop_tally sqrt_tally dec row
edits-23 = refl

edits-273 :
    edit (insert_edge_edit 2 4 0) (own 5 5 4 ((1 ∷ 7 ∷ 8 ∷ 2 ∷ 4 ∷ []) ++ replicate 2 7) ((3 ∷ 0 ∷ 9 ∷ 5 ∷ NONE ∷ 4 ∷ 4 ∷ 8 ∷ NONE ∷ 2 ∷ 8 ∷ 7 ∷ 3 ∷ 3 ∷ 6 ∷ 9 ∷ NONE ∷ 1 ∷ 7 ∷ 1 ∷ 3 ∷ 4 ∷ 0 ∷ 6 ∷ 3 ∷ 1 ∷ 5 ∷ 3 ∷ NONE ∷ 3 ∷ 2 ∷ 4 ∷ NONE ∷ 0 ∷ 1 ∷ 2 ∷ 3 ∷ 2 ∷ 3 ∷ 0 ∷ []) ++ replicate 16 7) ((24 ∷ 16 ∷ 38 ∷ 6 ∷ []) ++ replicate 1 7) ((0 ∷ 0 ∷ 0 ∷ 0 ∷ 0 ∷ []) ++ replicate 2 7) ((0 ∷ 0 ∷ 0 ∷ 0 ∷ 0 ∷ []) ++ replicate 2 7) ((1 ∷ 1 ∷ 1 ∷ 0 ∷ []) ++ replicate 1 7)) ≡
    gives (Ok (record { v = 5; e = 6; f = 4 }, 5)) (own 5 6 4 ((1 ∷ 7 ∷ 8 ∷ 2 ∷ 11 ∷ []) ++ replicate 2 7) ((3 ∷ 0 ∷ 9 ∷ 5 ∷ NONE ∷ 4 ∷ 11 ∷ 8 ∷ 0 ∷ 2 ∷ 10 ∷ 7 ∷ 3 ∷ 3 ∷ 6 ∷ 9 ∷ 0 ∷ 1 ∷ 7 ∷ 10 ∷ 3 ∷ 4 ∷ 0 ∷ 6 ∷ 3 ∷ 1 ∷ 5 ∷ 3 ∷ 0 ∷ 3 ∷ 2 ∷ 4 ∷ NONE ∷ 0 ∷ 1 ∷ 11 ∷ 3 ∷ 2 ∷ 3 ∷ 0 ∷ 0 ∷ 4 ∷ 4 ∷ 2 ∷ NONE ∷ 2 ∷ 8 ∷ 1 ∷ []) ++ replicate 8 7) ((10 ∷ 16 ∷ 38 ∷ 6 ∷ []) ++ replicate 1 7) ((0 ∷ 0 ∷ 0 ∷ 0 ∷ 0 ∷ []) ++ replicate 2 7) ((0 ∷ 0 ∷ 0 ∷ 0 ∷ 0 ∷ 0 ∷ []) ++ replicate 1 7) ((0 ∷ 1 ∷ 1 ∷ 0 ∷ []) ++ replicate 1 7))
unfolding of_int of_bits add sub mul div Ieee.round said_checked said_subdivided said_edited links points tally turned heavy begin final work_needed enough unwanted overweight refusal last_links last_flag last_points last_marks subdivided left_after ended call then onward every c1_vertex c1_halfedge c1_face c2 c3 c4 c5 c6 c7 c8 c9 fault set_mark marked unmarked_new written edit_ended edit_refusal edit split_edge_edit split_face_edit insert_edge_edit swap_denied swap_ccw_edit swap_cw_edit triangulate_all split_edge joined paint across_face across_hole insert_edge insert_new cut_off cut_corner triangulate_face triangulate petal petals fan singles split_face swap_ccw swap_cw partner loop around is_v is_e is_h is_f put lay over each range round only has distinct first all number_of sum split_edges from_old pairs catmull_face catmull_pass corners loop_face loop_pass rim_of rim_side rim_face centre_face sqrt_face swap_inner sqrt_pass zero_p add_p scale_p over_p flat plus heads face_point catmull_edge catmull_rim catmull_inner catmull_vertex catmull_points inner on_rim loop_edge_point loop_vertex loop_points sqrt_vertex sqrt_answer answers sqrt_points cc_edge middle cc_inner loop_edge loop_rim weighted sqrt_rim sqrt_pair crowded two_rims catmull loop_scheme sqrt3 sizes fits fits_with used links_of marks_of points_of clean filled wiped counts_of tally_of counted triangulated catmull_tally loop_tally sqrt_tally dec row
edits-273 = refl

edits-78 :
    edit (swap_ccw_edit 5) (own 7 6 4 ((10 ∷ NONE ∷ NONE ∷ 3 ∷ NONE ∷ 2 ∷ 5 ∷ []) ++ replicate 2 7) ((2 ∷ 5 ∷ 11 ∷ 6 ∷ 3 ∷ 6 ∷ 5 ∷ 3 ∷ 0 ∷ 3 ∷ 9 ∷ 10 ∷ 3 ∷ 5 ∷ 1 ∷ 5 ∷ 1 ∷ 6 ∷ 7 ∷ 8 ∷ 3 ∷ 3 ∷ 3 ∷ 1 ∷ 2 ∷ 6 ∷ 0 ∷ 11 ∷ 1 ∷ 0 ∷ 8 ∷ 4 ∷ 1 ∷ 3 ∷ 4 ∷ 7 ∷ 0 ∷ 0 ∷ 10 ∷ 2 ∷ 0 ∷ 5 ∷ 2 ∷ 9 ∷ 2 ∷ 0 ∷ 6 ∷ 0 ∷ []) ++ replicate 8 7) ((9 ∷ 8 ∷ 6 ∷ 3 ∷ []) ++ replicate 1 7) ((0 ∷ 0 ∷ 0 ∷ 0 ∷ 0 ∷ 0 ∷ 0 ∷ []) ++ replicate 2 7) ((0 ∷ 0 ∷ 0 ∷ 0 ∷ 0 ∷ 0 ∷ []) ++ replicate 1 7) ((0 ∷ 0 ∷ 0 ∷ 0 ∷ []) ++ replicate 1 7)) ≡
    gives (Ok (record { v = 7; e = 6; f = 4 }, 0)) (own 7 6 4 ((6 ∷ NONE ∷ NONE ∷ 3 ∷ NONE ∷ 2 ∷ 5 ∷ []) ++ replicate 2 7) ((2 ∷ 5 ∷ 2 ∷ 11 ∷ 3 ∷ 6 ∷ 5 ∷ 3 ∷ 2 ∷ 3 ∷ 11 ∷ 0 ∷ 3 ∷ 5 ∷ 1 ∷ 5 ∷ 1 ∷ 6 ∷ 7 ∷ 8 ∷ 3 ∷ 3 ∷ 3 ∷ 1 ∷ 0 ∷ 6 ∷ 10 ∷ 9 ∷ 1 ∷ 0 ∷ 8 ∷ 4 ∷ 1 ∷ 3 ∷ 4 ∷ 7 ∷ 0 ∷ 0 ∷ 6 ∷ 10 ∷ 0 ∷ 3 ∷ 9 ∷ 6 ∷ 2 ∷ 6 ∷ 0 ∷ 2 ∷ []) ++ replicate 8 7) ((9 ∷ 8 ∷ 11 ∷ 3 ∷ []) ++ replicate 1 7) ((0 ∷ 0 ∷ 0 ∷ 0 ∷ 0 ∷ 0 ∷ 0 ∷ []) ++ replicate 2 7) ((0 ∷ 0 ∷ 0 ∷ 0 ∷ 0 ∷ 0 ∷ []) ++ replicate 1 7) ((0 ∷ 0 ∷ 0 ∷ 0 ∷ []) ++ replicate 1 7))
unfolding of_int of_bits add sub mul div Ieee.round said_checked said_subdivided said_edited links points tally turned heavy begin final work_needed enough unwanted overweight refusal last_links last_flag last_points last_marks subdivided left_after ended call then onward every c1_vertex c1_halfedge c1_face c2 c3 c4 c5 c6 c7 c8 c9 fault set_mark marked unmarked_new written edit_ended edit_refusal edit split_edge_edit split_face_edit insert_edge_edit swap_denied swap_ccw_edit swap_cw_edit triangulate_all split_edge joined paint across_face across_hole insert_edge insert_new cut_off cut_corner triangulate_face triangulate petal petals fan singles split_face swap_ccw swap_cw partner loop around is_v is_e is_h is_f put lay over each range round only has distinct first all number_of sum split_edges from_old pairs catmull_face catmull_pass corners loop_face loop_pass rim_of rim_side rim_face centre_face sqrt_face swap_inner sqrt_pass zero_p add_p scale_p over_p flat plus heads face_point catmull_edge catmull_rim catmull_inner catmull_vertex catmull_points inner on_rim loop_edge_point loop_vertex loop_points sqrt_vertex sqrt_answer answers sqrt_points cc_edge middle cc_inner loop_edge loop_rim weighted sqrt_rim sqrt_pair crowded two_rims catmull loop_scheme sqrt3 sizes fits fits_with used links_of marks_of points_of clean filled wiped counts_of tally_of counted triangulated catmull_tally loop_tally sqrt_tally dec row
edits-78 = refl

edits-96 :
    edit (swap_ccw_edit 2) (own 6 6 2 ((3 ∷ 4 ∷ 11 ∷ 9 ∷ 6 ∷ 8 ∷ []) ++ replicate 2 7) ((0 ∷ 4 ∷ 6 ∷ 9 ∷ 1 ∷ 5 ∷ 8 ∷ 7 ∷ 1 ∷ 0 ∷ 5 ∷ 10 ∷ 0 ∷ 2 ∷ 11 ∷ 4 ∷ 0 ∷ 0 ∷ 3 ∷ 6 ∷ 1 ∷ 1 ∷ 7 ∷ 2 ∷ 0 ∷ 1 ∷ 4 ∷ 0 ∷ 1 ∷ 4 ∷ 1 ∷ 5 ∷ 1 ∷ 3 ∷ 10 ∷ 1 ∷ 0 ∷ 5 ∷ 0 ∷ 11 ∷ 1 ∷ 2 ∷ 2 ∷ 8 ∷ 0 ∷ 3 ∷ 9 ∷ 3 ∷ []) ++ replicate 8 7) ((6 ∷ 1 ∷ []) ++ replicate 1 7) ((0 ∷ 0 ∷ 0 ∷ 0 ∷ 0 ∷ 0 ∷ []) ++ replicate 2 7) ((0 ∷ 0 ∷ 0 ∷ 0 ∷ 0 ∷ 0 ∷ []) ++ replicate 1 7) ((0 ∷ 0 ∷ []) ++ replicate 1 7)) ≡
    gives (Err (WouldBreak)) (own 6 6 2 ((3 ∷ 4 ∷ 11 ∷ 9 ∷ 6 ∷ 8 ∷ []) ++ replicate 2 7) ((0 ∷ 4 ∷ 6 ∷ 9 ∷ 1 ∷ 5 ∷ 8 ∷ 7 ∷ 1 ∷ 0 ∷ 5 ∷ 10 ∷ 0 ∷ 2 ∷ 11 ∷ 4 ∷ 0 ∷ 0 ∷ 3 ∷ 6 ∷ 1 ∷ 1 ∷ 7 ∷ 2 ∷ 0 ∷ 1 ∷ 4 ∷ 0 ∷ 1 ∷ 4 ∷ 1 ∷ 5 ∷ 1 ∷ 3 ∷ 10 ∷ 1 ∷ 0 ∷ 5 ∷ 0 ∷ 11 ∷ 1 ∷ 2 ∷ 2 ∷ 8 ∷ 0 ∷ 3 ∷ 9 ∷ 3 ∷ []) ++ replicate 8 7) ((6 ∷ 1 ∷ []) ++ replicate 1 7) ((0 ∷ 0 ∷ 0 ∷ 0 ∷ 0 ∷ 0 ∷ []) ++ replicate 2 7) ((0 ∷ 0 ∷ 0 ∷ 0 ∷ 0 ∷ 0 ∷ []) ++ replicate 1 7) ((0 ∷ 0 ∷ []) ++ replicate 1 7))
unfolding of_int of_bits add sub mul div Ieee.round said_checked said_subdivided said_edited links points tally turned heavy begin final work_needed enough unwanted overweight refusal last_links last_flag last_points last_marks subdivided left_after ended call then onward every c1_vertex c1_halfedge c1_face c2 c3 c4 c5 c6 c7 c8 c9 fault set_mark marked unmarked_new written edit_ended edit_refusal edit split_edge_edit split_face_edit insert_edge_edit swap_denied swap_ccw_edit swap_cw_edit triangulate_all split_edge joined paint across_face across_hole insert_edge insert_new cut_off cut_corner triangulate_face triangulate petal petals fan singles split_face swap_ccw swap_cw partner loop around is_v is_e is_h is_f put lay over each range round only has distinct first all number_of sum split_edges from_old pairs catmull_face catmull_pass corners loop_face loop_pass rim_of rim_side rim_face centre_face sqrt_face swap_inner sqrt_pass zero_p add_p scale_p over_p flat plus heads face_point catmull_edge catmull_rim catmull_inner catmull_vertex catmull_points inner on_rim loop_edge_point loop_vertex loop_points sqrt_vertex sqrt_answer answers sqrt_points cc_edge middle cc_inner loop_edge loop_rim weighted sqrt_rim sqrt_pair crowded two_rims catmull loop_scheme sqrt3 sizes fits fits_with used links_of marks_of points_of clean filled wiped counts_of tally_of counted triangulated catmull_tally loop_tally sqrt_tally dec row
edits-96 = refl

edits-123 :
    edit (insert_edge_edit 8 3 NONE) (own 4 6 4 ((4 ∷ 0 ∷ 7 ∷ 8 ∷ []) ++ replicate 2 7) ((2 ∷ 2 ∷ 9 ∷ 3 ∷ 1 ∷ 1 ∷ 5 ∷ 6 ∷ 0 ∷ 3 ∷ 10 ∷ 4 ∷ 2 ∷ 1 ∷ 0 ∷ 9 ∷ 0 ∷ 1 ∷ 2 ∷ 10 ∷ 1 ∷ 0 ∷ 6 ∷ 1 ∷ 1 ∷ 2 ∷ 1 ∷ 5 ∷ 3 ∷ 0 ∷ 11 ∷ 8 ∷ 3 ∷ 2 ∷ 7 ∷ 11 ∷ 2 ∷ 3 ∷ 3 ∷ 0 ∷ 0 ∷ 0 ∷ 4 ∷ 2 ∷ 3 ∷ 3 ∷ 8 ∷ 7 ∷ []) ++ replicate 8 7) ((10 ∷ 5 ∷ 3 ∷ 8 ∷ []) ++ replicate 1 7) ((0 ∷ 0 ∷ 0 ∷ 0 ∷ []) ++ replicate 2 7) ((0 ∷ 0 ∷ 0 ∷ 0 ∷ 0 ∷ 0 ∷ []) ++ replicate 1 7) ((0 ∷ 0 ∷ 0 ∷ 0 ∷ []) ++ replicate 1 7)) ≡
    gives (Err (HalfedgesNotInTheSameLoop)) (own 4 6 4 ((4 ∷ 0 ∷ 7 ∷ 8 ∷ []) ++ replicate 2 7) ((2 ∷ 2 ∷ 9 ∷ 3 ∷ 1 ∷ 1 ∷ 5 ∷ 6 ∷ 0 ∷ 3 ∷ 10 ∷ 4 ∷ 2 ∷ 1 ∷ 0 ∷ 9 ∷ 0 ∷ 1 ∷ 2 ∷ 10 ∷ 1 ∷ 0 ∷ 6 ∷ 1 ∷ 1 ∷ 2 ∷ 1 ∷ 5 ∷ 3 ∷ 0 ∷ 11 ∷ 8 ∷ 3 ∷ 2 ∷ 7 ∷ 11 ∷ 2 ∷ 3 ∷ 3 ∷ 0 ∷ 0 ∷ 0 ∷ 4 ∷ 2 ∷ 3 ∷ 3 ∷ 8 ∷ 7 ∷ []) ++ replicate 8 7) ((10 ∷ 5 ∷ 3 ∷ 8 ∷ []) ++ replicate 1 7) ((0 ∷ 0 ∷ 0 ∷ 0 ∷ []) ++ replicate 2 7) ((0 ∷ 0 ∷ 0 ∷ 0 ∷ 0 ∷ 0 ∷ []) ++ replicate 1 7) ((0 ∷ 0 ∷ 0 ∷ 0 ∷ []) ++ replicate 1 7))
unfolding of_int of_bits add sub mul div Ieee.round said_checked said_subdivided said_edited links points tally turned heavy begin final work_needed enough unwanted overweight refusal last_links last_flag last_points last_marks subdivided left_after ended call then onward every c1_vertex c1_halfedge c1_face c2 c3 c4 c5 c6 c7 c8 c9 fault set_mark marked unmarked_new written edit_ended edit_refusal edit split_edge_edit split_face_edit insert_edge_edit swap_denied swap_ccw_edit swap_cw_edit triangulate_all split_edge joined paint across_face across_hole insert_edge insert_new cut_off cut_corner triangulate_face triangulate petal petals fan singles split_face swap_ccw swap_cw partner loop around is_v is_e is_h is_f put lay over each range round only has distinct first all number_of sum split_edges from_old pairs catmull_face catmull_pass corners loop_face loop_pass rim_of rim_side rim_face centre_face sqrt_face swap_inner sqrt_pass zero_p add_p scale_p over_p flat plus heads face_point catmull_edge catmull_rim catmull_inner catmull_vertex catmull_points inner on_rim loop_edge_point loop_vertex loop_points sqrt_vertex sqrt_answer answers sqrt_points cc_edge middle cc_inner loop_edge loop_rim weighted sqrt_rim sqrt_pair crowded two_rims catmull loop_scheme sqrt3 sizes fits fits_with used links_of marks_of points_of clean filled wiped counts_of tally_of counted triangulated catmull_tally loop_tally sqrt_tally dec row
edits-123 = refl

edits-175 :
    edit (split_face_edit 0 3) (own 6 4 1 ((3 ∷ NONE ∷ 4 ∷ NONE ∷ 1 ∷ 7 ∷ []) ++ replicate 2 7) ((0 ∷ 4 ∷ 2 ∷ 5 ∷ NONE ∷ 2 ∷ 4 ∷ 3 ∷ 0 ∷ 0 ∷ 6 ∷ 0 ∷ NONE ∷ 4 ∷ 1 ∷ 7 ∷ NONE ∷ 5 ∷ 7 ∷ 1 ∷ 0 ∷ 2 ∷ 0 ∷ 6 ∷ 0 ∷ 5 ∷ 5 ∷ 2 ∷ NONE ∷ 0 ∷ 3 ∷ 4 ∷ []) ++ replicate 40 7) ((5 ∷ []) ++ replicate 4 7) ((0 ∷ 0 ∷ 0 ∷ 0 ∷ 0 ∷ 0 ∷ []) ++ replicate 2 7) ((0 ∷ 0 ∷ 0 ∷ 0 ∷ []) ++ replicate 5 7) ((0 ∷ []) ++ replicate 4 7)) ≡
    gives (Ok (record { v = 6; e = 8; f = 4 }, 0)) (own 6 8 4 ((3 ∷ NONE ∷ 4 ∷ 15 ∷ 1 ∷ 7 ∷ []) ++ replicate 2 7) ((1 ∷ 4 ∷ 10 ∷ 9 ∷ NONE ∷ 2 ∷ 4 ∷ 3 ∷ 2 ∷ 0 ∷ 12 ∷ 11 ∷ NONE ∷ 4 ∷ 1 ∷ 7 ∷ NONE ∷ 5 ∷ 7 ∷ 1 ∷ 0 ∷ 2 ∷ 8 ∷ 15 ∷ 3 ∷ 5 ∷ 14 ∷ 13 ∷ NONE ∷ 0 ∷ 3 ∷ 4 ∷ 0 ∷ 3 ∷ 15 ∷ 5 ∷ 1 ∷ 2 ∷ 0 ∷ 10 ∷ 1 ∷ 3 ∷ 9 ∷ 0 ∷ 2 ∷ 4 ∷ 2 ∷ 12 ∷ 2 ∷ 3 ∷ 11 ∷ 2 ∷ 3 ∷ 0 ∷ 6 ∷ 14 ∷ 3 ∷ 3 ∷ 13 ∷ 6 ∷ 0 ∷ 5 ∷ 5 ∷ 8 ∷ []) ++ replicate 8 7) ((5 ∷ 0 ∷ 2 ∷ 6 ∷ []) ++ replicate 1 7) ((0 ∷ 0 ∷ 0 ∷ 0 ∷ 0 ∷ 0 ∷ []) ++ replicate 2 7) ((0 ∷ 0 ∷ 0 ∷ 0 ∷ 0 ∷ 0 ∷ 0 ∷ 0 ∷ []) ++ replicate 1 7) ((0 ∷ 0 ∷ 0 ∷ 0 ∷ []) ++ replicate 1 7))
unfolding of_int of_bits add sub mul div Ieee.round said_checked said_subdivided said_edited links points tally turned heavy begin final work_needed enough unwanted overweight refusal last_links last_flag last_points last_marks subdivided left_after ended call then onward every c1_vertex c1_halfedge c1_face c2 c3 c4 c5 c6 c7 c8 c9 fault set_mark marked unmarked_new written edit_ended edit_refusal edit split_edge_edit split_face_edit insert_edge_edit swap_denied swap_ccw_edit swap_cw_edit triangulate_all split_edge joined paint across_face across_hole insert_edge insert_new cut_off cut_corner triangulate_face triangulate petal petals fan singles split_face swap_ccw swap_cw partner loop around is_v is_e is_h is_f put lay over each range round only has distinct first all number_of sum split_edges from_old pairs catmull_face catmull_pass corners loop_face loop_pass rim_of rim_side rim_face centre_face sqrt_face swap_inner sqrt_pass zero_p add_p scale_p over_p flat plus heads face_point catmull_edge catmull_rim catmull_inner catmull_vertex catmull_points inner on_rim loop_edge_point loop_vertex loop_points sqrt_vertex sqrt_answer answers sqrt_points cc_edge middle cc_inner loop_edge loop_rim weighted sqrt_rim sqrt_pair crowded two_rims catmull loop_scheme sqrt3 sizes fits fits_with used links_of marks_of points_of clean filled wiped counts_of tally_of counted triangulated catmull_tally loop_tally sqrt_tally dec row
edits-175 = refl

schemes-37 :
    call catmull 1 false (mesh 4 4 1 (4 ∷ 6 ∷ 2 ∷ 0 ∷ []) (NONE ∷ 1 ∷ 6 ∷ 4 ∷ 0 ∷ 3 ∷ 5 ∷ 7 ∷ NONE ∷ 0 ∷ 4 ∷ 6 ∷ 0 ∷ 2 ∷ 7 ∷ 5 ∷ NONE ∷ 3 ∷ 0 ∷ 2 ∷ 0 ∷ 0 ∷ 3 ∷ 1 ∷ NONE ∷ 2 ∷ 2 ∷ 0 ∷ 0 ∷ 1 ∷ 1 ∷ 3 ∷ []) (7 ∷ []) (0 ∷ 0 ∷ 0 ∷ 0 ∷ []) (0 ∷ 0 ∷ 0 ∷ 0 ∷ []) (0 ∷ []) (of_bits binary64 6759219761388730703 ∷ of_bits binary64 4475507786634200213 ∷ of_bits binary64 14186655528842470886 ∷ of_bits binary64 9223372036854775809 ∷ of_bits binary64 17499352161022177216 ∷ of_bits binary64 7341804568708044211 ∷ of_bits binary64 9214364837600034816 ∷ of_bits binary64 14294671265113636863 ∷ of_bits binary64 9223372036854775808 ∷ nan ∷ of_bits binary64 1 ∷ of_bits binary64 8445707157107298257 ∷ [])) (lent 9 12 4 150) ≡
    done (mesh 9 12 4 (12 ∷ 14 ∷ 10 ∷ 8 ∷ 0 ∷ 2 ∷ 4 ∷ 6 ∷ 17 ∷ []) (NONE ∷ 1 ∷ 14 ∷ 8 ∷ 0 ∷ 4 ∷ 18 ∷ 15 ∷ NONE ∷ 0 ∷ 12 ∷ 10 ∷ 2 ∷ 5 ∷ 22 ∷ 13 ∷ NONE ∷ 3 ∷ 8 ∷ 12 ∷ 1 ∷ 6 ∷ 20 ∷ 9 ∷ NONE ∷ 2 ∷ 10 ∷ 14 ∷ 3 ∷ 7 ∷ 16 ∷ 11 ∷ NONE ∷ 4 ∷ 0 ∷ 4 ∷ 1 ∷ 3 ∷ 5 ∷ 19 ∷ NONE ∷ 5 ∷ 2 ∷ 6 ∷ 3 ∷ 2 ∷ 7 ∷ 23 ∷ NONE ∷ 6 ∷ 4 ∷ 2 ∷ 2 ∷ 0 ∷ 3 ∷ 21 ∷ NONE ∷ 7 ∷ 6 ∷ 0 ∷ 0 ∷ 1 ∷ 1 ∷ 17 ∷ 3 ∷ 8 ∷ 23 ∷ 7 ∷ 0 ∷ 7 ∷ 15 ∷ 18 ∷ 0 ∷ 8 ∷ 17 ∷ 1 ∷ 1 ∷ 4 ∷ 9 ∷ 20 ∷ 1 ∷ 8 ∷ 19 ∷ 5 ∷ 2 ∷ 6 ∷ 13 ∷ 22 ∷ 2 ∷ 8 ∷ 21 ∷ 3 ∷ 3 ∷ 5 ∷ 11 ∷ 16 ∷ []) (15 ∷ 9 ∷ 13 ∷ 11 ∷ []) (0 ∷ 0 ∷ 0 ∷ 0 ∷ 0 ∷ 0 ∷ 0 ∷ 0 ∷ 0 ∷ []) (0 ∷ 0 ∷ 0 ∷ 0 ∷ 0 ∷ 0 ∷ 0 ∷ 0 ∷ 0 ∷ 0 ∷ 0 ∷ 0 ∷ []) (0 ∷ 0 ∷ 0 ∷ 0 ∷ []) (of_bits binary64 6759219761388730703 ∷ of_bits binary64 4475507786634200213 ∷ of_bits binary64 14186655528842470886 ∷ of_bits binary64 9223372036854775809 ∷ of_bits binary64 17499352161022177216 ∷ of_bits binary64 7341804568708044211 ∷ of_bits binary64 9214364837600034816 ∷ of_bits binary64 14294671265113636863 ∷ of_bits binary64 9223372036854775808 ∷ nan ∷ of_bits binary64 1 ∷ of_bits binary64 8445707157107298257 ∷ nan ∷ of_bits binary64 17494848561394806720 ∷ of_bits binary64 8441203557479927761 ∷ of_bits binary64 9209861237972664320 ∷ of_bits binary64 14290167665486266367 ∷ of_bits binary64 14182151929215100390 ∷ nan ∷ of_bits binary64 4471004187006829717 ∷ of_bits binary64 8441203557479927761 ∷ of_bits binary64 9209861237972664320 ∷ of_bits binary64 17494848561394806720 ∷ of_bits binary64 7337300969080673715 ∷ nan ∷ of_bits binary64 17490344961767436224 ∷ of_bits binary64 8436699957852557265 ∷ [])) false 150
unfolding of_int of_bits add sub mul div Ieee.round said_checked said_subdivided said_edited links points tally turned heavy begin final work_needed enough unwanted overweight refusal last_links last_flag last_points last_marks subdivided left_after ended call then onward every c1_vertex c1_halfedge c1_face c2 c3 c4 c5 c6 c7 c8 c9 fault set_mark marked unmarked_new written edit_ended edit_refusal edit split_edge_edit split_face_edit insert_edge_edit swap_denied swap_ccw_edit swap_cw_edit triangulate_all split_edge joined paint across_face across_hole insert_edge insert_new cut_off cut_corner triangulate_face triangulate petal petals fan singles split_face swap_ccw swap_cw partner loop around is_v is_e is_h is_f put lay over each range round only has distinct first all number_of sum split_edges from_old pairs catmull_face catmull_pass corners loop_face loop_pass rim_of rim_side rim_face centre_face sqrt_face swap_inner sqrt_pass zero_p add_p scale_p over_p flat plus heads face_point catmull_edge catmull_rim catmull_inner catmull_vertex catmull_points inner on_rim loop_edge_point loop_vertex loop_points sqrt_vertex sqrt_answer answers sqrt_points cc_edge middle cc_inner loop_edge loop_rim weighted sqrt_rim sqrt_pair crowded two_rims catmull loop_scheme sqrt3 sizes fits fits_with used links_of marks_of points_of clean filled wiped counts_of tally_of counted triangulated catmull_tally loop_tally sqrt_tally dec row
schemes-37 = refl

schemes-123 :
    call catmull 1 true (mesh 4 4 1 (5 ∷ 2 ∷ 6 ∷ 1 ∷ []) (0 ∷ 3 ∷ 4 ∷ 3 ∷ NONE ∷ 1 ∷ 2 ∷ 5 ∷ NONE ∷ 2 ∷ 6 ∷ 1 ∷ 0 ∷ 1 ∷ 0 ∷ 7 ∷ 0 ∷ 0 ∷ 7 ∷ 0 ∷ NONE ∷ 3 ∷ 1 ∷ 6 ∷ NONE ∷ 0 ∷ 5 ∷ 2 ∷ 0 ∷ 2 ∷ 3 ∷ 4 ∷ []) (0 ∷ []) (0 ∷ 0 ∷ 0 ∷ 0 ∷ []) (0 ∷ 0 ∷ 0 ∷ 0 ∷ []) (0 ∷ []) (of_bits binary64 9214364837600034816 ∷ of_bits binary64 14149984814905522057 ∷ of_bits binary64 1619445595311717064 ∷ of_bits binary64 234708374838296190 ∷ nan ∷ of_bits binary64 4299265635691795760 ∷ of_bits binary64 15875786283829592556 ∷ of_bits binary64 13176871216503158994 ∷ of_bits binary64 0 ∷ of_bits binary64 8525416543882939452 ∷ of_bits binary64 13688376956189427894 ∷ of_bits binary64 10130830783666559593 ∷ [])) (lent 9 12 4 150) ≡
    done (mesh 9 12 4 (5 ∷ 10 ∷ 14 ∷ 1 ∷ 9 ∷ 2 ∷ 13 ∷ 6 ∷ 17 ∷ []) (0 ∷ 3 ∷ 12 ∷ 17 ∷ NONE ∷ 4 ∷ 9 ∷ 13 ∷ NONE ∷ 2 ∷ 14 ∷ 10 ∷ 2 ∷ 5 ∷ 22 ∷ 15 ∷ 1 ∷ 0 ∷ 7 ∷ 19 ∷ NONE ∷ 6 ∷ 13 ∷ 6 ∷ NONE ∷ 0 ∷ 5 ∷ 14 ∷ 1 ∷ 7 ∷ 20 ∷ 4 ∷ 3 ∷ 4 ∷ 16 ∷ 11 ∷ NONE ∷ 1 ∷ 10 ∷ 1 ∷ NONE ∷ 5 ∷ 2 ∷ 9 ∷ 3 ∷ 1 ∷ 8 ∷ 23 ∷ 0 ∷ 6 ∷ 18 ∷ 0 ∷ NONE ∷ 3 ∷ 1 ∷ 5 ∷ NONE ∷ 7 ∷ 6 ∷ 2 ∷ 2 ∷ 2 ∷ 3 ∷ 21 ∷ 3 ∷ 8 ∷ 23 ∷ 8 ∷ 0 ∷ 4 ∷ 0 ∷ 18 ∷ 0 ∷ 8 ∷ 17 ∷ 12 ∷ 1 ∷ 6 ∷ 4 ∷ 20 ∷ 1 ∷ 8 ∷ 19 ∷ 7 ∷ 2 ∷ 7 ∷ 15 ∷ 22 ∷ 2 ∷ 8 ∷ 21 ∷ 3 ∷ 3 ∷ 5 ∷ 11 ∷ 16 ∷ []) (0 ∷ 4 ∷ 15 ∷ 11 ∷ []) (0 ∷ 0 ∷ 0 ∷ 0 ∷ 0 ∷ 0 ∷ 0 ∷ 0 ∷ 0 ∷ []) (0 ∷ 0 ∷ 0 ∷ 0 ∷ 0 ∷ 0 ∷ 0 ∷ 0 ∷ 0 ∷ 0 ∷ 0 ∷ 0 ∷ []) (0 ∷ 0 ∷ 0 ∷ 0 ∷ []) (of_bits binary64 9218868437227405312 ∷ of_bits binary64 14147090819918133851 ∷ of_bits binary64 1617059952407357232 ∷ of_bits binary64 8513441094633481637 ∷ nan ∷ of_bits binary64 4296820572089224736 ∷ of_bits binary64 9202355238593713493 ∷ nan ∷ of_bits binary64 4287813372834483744 ∷ of_bits binary64 9202355238593713493 ∷ nan ∷ of_bits binary64 4287813372834483744 ∷ of_bits binary64 8520912944255568956 ∷ nan ∷ of_bits binary64 4294762036064425264 ∷ of_bits binary64 15871282684202222060 ∷ nan ∷ of_bits binary64 4294762036064425264 ∷ of_bits binary64 9209861237972664320 ∷ of_bits binary64 14145481215278151561 ∷ of_bits binary64 1614941995684346568 ∷ of_bits binary64 9209861237972664320 ∷ of_bits binary64 14145481215278151561 ∷ of_bits binary64 1614941995684346568 ∷ of_bits binary64 9205357638345293824 ∷ nan ∷ of_bits binary64 4290258436437054768 ∷ [])) true 150
unfolding of_int of_bits add sub mul div Ieee.round said_checked said_subdivided said_edited links points tally turned heavy begin final work_needed enough unwanted overweight refusal last_links last_flag last_points last_marks subdivided left_after ended call then onward every c1_vertex c1_halfedge c1_face c2 c3 c4 c5 c6 c7 c8 c9 fault set_mark marked unmarked_new written edit_ended edit_refusal edit split_edge_edit split_face_edit insert_edge_edit swap_denied swap_ccw_edit swap_cw_edit triangulate_all split_edge joined paint across_face across_hole insert_edge insert_new cut_off cut_corner triangulate_face triangulate petal petals fan singles split_face swap_ccw swap_cw partner loop around is_v is_e is_h is_f put lay over each range round only has distinct first all number_of sum split_edges from_old pairs catmull_face catmull_pass corners loop_face loop_pass rim_of rim_side rim_face centre_face sqrt_face swap_inner sqrt_pass zero_p add_p scale_p over_p flat plus heads face_point catmull_edge catmull_rim catmull_inner catmull_vertex catmull_points inner on_rim loop_edge_point loop_vertex loop_points sqrt_vertex sqrt_answer answers sqrt_points cc_edge middle cc_inner loop_edge loop_rim weighted sqrt_rim sqrt_pair crowded two_rims catmull loop_scheme sqrt3 sizes fits fits_with used links_of marks_of points_of clean filled wiped counts_of tally_of counted triangulated catmull_tally loop_tally sqrt_tally dec row
schemes-123 = refl

edits-57 :
    edit (swap_cw_edit 3) (own 7 9 8 ((NONE ∷ 9 ∷ 15 ∷ 5 ∷ 7 ∷ 13 ∷ 6 ∷ []) ++ replicate 2 7) ((3 ∷ 1 ∷ 9 ∷ 16 ∷ 6 ∷ 6 ∷ 6 ∷ 15 ∷ 1 ∷ 5 ∷ 13 ∷ 4 ∷ 3 ∷ 3 ∷ 16 ∷ 9 ∷ 1 ∷ 3 ∷ 2 ∷ 11 ∷ 7 ∷ 4 ∷ 7 ∷ 17 ∷ 6 ∷ 4 ∷ 10 ∷ 1 ∷ 7 ∷ 6 ∷ 17 ∷ 5 ∷ 2 ∷ 1 ∷ 14 ∷ 12 ∷ 3 ∷ 5 ∷ 3 ∷ 0 ∷ 6 ∷ 2 ∷ 15 ∷ 6 ∷ 1 ∷ 4 ∷ 4 ∷ 13 ∷ 2 ∷ 5 ∷ 8 ∷ 14 ∷ 1 ∷ 2 ∷ 11 ∷ 2 ∷ 2 ∷ 2 ∷ 12 ∷ 8 ∷ 6 ∷ 1 ∷ 1 ∷ 10 ∷ 3 ∷ 6 ∷ 0 ∷ 3 ∷ 7 ∷ 3 ∷ 5 ∷ 7 ∷ []) ++ replicate 8 7) ((24 ∷ 4 ∷ 14 ∷ 16 ∷ 5 ∷ 17 ∷ 6 ∷ 17 ∷ []) ++ replicate 1 7) ((0 ∷ 0 ∷ 0 ∷ 0 ∷ 0 ∷ 0 ∷ 0 ∷ []) ++ replicate 2 7) ((0 ∷ 0 ∷ 0 ∷ 0 ∷ 0 ∷ 0 ∷ 0 ∷ 0 ∷ 0 ∷ []) ++ replicate 1 7) ((1 ∷ 0 ∷ 0 ∷ 0 ∷ 1 ∷ 1 ∷ 0 ∷ 0 ∷ []) ++ replicate 1 7)) ≡
    gives (Ok (record { v = 7; e = 9; f = 8 }, 0)) (own 7 9 8 ((NONE ∷ 9 ∷ 15 ∷ 5 ∷ 10 ∷ 13 ∷ 17 ∷ []) ++ replicate 2 7) ((3 ∷ 1 ∷ 9 ∷ 16 ∷ 7 ∷ 6 ∷ 17 ∷ 7 ∷ 1 ∷ 5 ∷ 13 ∷ 4 ∷ 3 ∷ 3 ∷ 16 ∷ 9 ∷ 1 ∷ 3 ∷ 2 ∷ 11 ∷ 6 ∷ 4 ∷ 10 ∷ 6 ∷ 6 ∷ 3 ∷ 5 ∷ 15 ∷ 7 ∷ 1 ∷ 1 ∷ 17 ∷ 2 ∷ 1 ∷ 14 ∷ 12 ∷ 3 ∷ 5 ∷ 3 ∷ 0 ∷ 6 ∷ 2 ∷ 15 ∷ 5 ∷ 1 ∷ 4 ∷ 4 ∷ 13 ∷ 2 ∷ 5 ∷ 8 ∷ 14 ∷ 1 ∷ 2 ∷ 11 ∷ 2 ∷ 2 ∷ 2 ∷ 12 ∷ 8 ∷ 6 ∷ 1 ∷ 6 ∷ 10 ∷ 3 ∷ 6 ∷ 0 ∷ 3 ∷ 7 ∷ 3 ∷ 7 ∷ 1 ∷ []) ++ replicate 8 7) ((24 ∷ 4 ∷ 14 ∷ 16 ∷ 5 ∷ 17 ∷ 6 ∷ 17 ∷ []) ++ replicate 1 7) ((0 ∷ 0 ∷ 0 ∷ 0 ∷ 0 ∷ 0 ∷ 0 ∷ []) ++ replicate 2 7) ((0 ∷ 0 ∷ 0 ∷ 0 ∷ 0 ∷ 0 ∷ 0 ∷ 0 ∷ 0 ∷ []) ++ replicate 1 7) ((1 ∷ 0 ∷ 0 ∷ 0 ∷ 1 ∷ 1 ∷ 0 ∷ 0 ∷ []) ++ replicate 1 7))
unfolding of_int of_bits add sub mul div Ieee.round said_checked said_subdivided said_edited links points tally turned heavy begin final work_needed enough unwanted overweight refusal last_links last_flag last_points last_marks subdivided left_after ended call then onward every c1_vertex c1_halfedge c1_face c2 c3 c4 c5 c6 c7 c8 c9 fault set_mark marked unmarked_new written edit_ended edit_refusal edit split_edge_edit split_face_edit insert_edge_edit swap_denied swap_ccw_edit swap_cw_edit triangulate_all split_edge joined paint across_face across_hole insert_edge insert_new cut_off cut_corner triangulate_face triangulate petal petals fan singles split_face swap_ccw swap_cw partner loop around is_v is_e is_h is_f put lay over each range round only has distinct first all number_of sum split_edges from_old pairs catmull_face catmull_pass corners loop_face loop_pass rim_of rim_side rim_face centre_face sqrt_face swap_inner sqrt_pass zero_p add_p scale_p over_p flat plus heads face_point catmull_edge catmull_rim catmull_inner catmull_vertex catmull_points inner on_rim loop_edge_point loop_vertex loop_points sqrt_vertex sqrt_answer answers sqrt_points cc_edge middle cc_inner loop_edge loop_rim weighted sqrt_rim sqrt_pair crowded two_rims catmull loop_scheme sqrt3 sizes fits fits_with used links_of marks_of points_of clean filled wiped counts_of tally_of counted triangulated catmull_tally loop_tally sqrt_tally dec row
edits-57 = refl

schemes-120 :
    call loop_scheme 1 false (mesh 6 4 1 (NONE ∷ NONE ∷ 7 ∷ 0 ∷ 2 ∷ 5 ∷ []) (NONE ∷ 4 ∷ 2 ∷ 7 ∷ 0 ∷ 3 ∷ 6 ∷ 3 ∷ NONE ∷ 5 ∷ 5 ∷ 0 ∷ 0 ∷ 4 ∷ 1 ∷ 4 ∷ 0 ∷ 5 ∷ 3 ∷ 6 ∷ NONE ∷ 2 ∷ 7 ∷ 2 ∷ 0 ∷ 2 ∷ 4 ∷ 1 ∷ NONE ∷ 3 ∷ 0 ∷ 5 ∷ []) (4 ∷ []) (0 ∷ 0 ∷ 0 ∷ 0 ∷ 0 ∷ 0 ∷ []) (0 ∷ 0 ∷ 0 ∷ 0 ∷ []) (0 ∷ []) (of_bits binary64 4991950325045397601 ∷ of_bits binary64 3569190773600738727 ∷ of_bits binary64 3440233398381002651 ∷ of_bits binary64 9928941178655049711 ∷ of_bits binary64 18092001781464199549 ∷ of_bits binary64 6180457998004624885 ∷ of_bits binary64 3200692628091179586 ∷ of_bits binary64 10046558107450641994 ∷ of_bits binary64 13742668948766180406 ∷ of_bits binary64 18398097115871051206 ∷ of_bits binary64 15361084365699700780 ∷ of_bits binary64 10367149949831386269 ∷ of_bits binary64 17918379099886222139 ∷ of_bits binary64 3400851128045158458 ∷ of_bits binary64 11950483983248559996 ∷ of_bits binary64 318919603648471050 ∷ of_bits binary64 17069368141857541293 ∷ of_bits binary64 17566711790917729245 ∷ [])) (lent 11 16 8 210) ≡
    done (mesh 11 16 8 (NONE ∷ NONE ∷ 7 ∷ 10 ∷ 12 ∷ 5 ∷ 0 ∷ 2 ∷ 15 ∷ 17 ∷ 8 ∷ []) (NONE ∷ 4 ∷ 12 ∷ 10 ∷ 0 ∷ 6 ∷ 20 ∷ 8 ∷ NONE ∷ 5 ∷ 5 ∷ 12 ∷ 1 ∷ 7 ∷ 26 ∷ 4 ∷ 1 ∷ 5 ∷ 3 ∷ 26 ∷ NONE ∷ 8 ∷ 15 ∷ 2 ∷ 3 ∷ 2 ∷ 18 ∷ 24 ∷ NONE ∷ 9 ∷ 17 ∷ 15 ∷ 0 ∷ 4 ∷ 1 ∷ 20 ∷ 5 ∷ 10 ∷ 28 ∷ 13 ∷ NONE ∷ 6 ∷ 0 ∷ 17 ∷ 2 ∷ 3 ∷ 16 ∷ 22 ∷ NONE ∷ 7 ∷ 2 ∷ 0 ∷ 5 ∷ 4 ∷ 9 ∷ 28 ∷ 6 ∷ 8 ∷ 30 ∷ 19 ∷ NONE ∷ 2 ∷ 7 ∷ 5 ∷ 2 ∷ 9 ∷ 22 ∷ 11 ∷ NONE ∷ 3 ∷ 10 ∷ 7 ∷ 3 ∷ 10 ∷ 24 ∷ 6 ∷ 6 ∷ 2 ∷ 14 ∷ 30 ∷ 0 ∷ 10 ∷ 8 ∷ 1 ∷ 4 ∷ 6 ∷ 23 ∷ 25 ∷ 2 ∷ 6 ∷ 11 ∷ 16 ∷ 4 ∷ 9 ∷ 25 ∷ 21 ∷ 3 ∷ 9 ∷ 6 ∷ 18 ∷ 4 ∷ 10 ∷ 21 ∷ 23 ∷ 1 ∷ 8 ∷ 4 ∷ 3 ∷ 7 ∷ 7 ∷ 29 ∷ 31 ∷ 5 ∷ 7 ∷ 13 ∷ 9 ∷ 7 ∷ 10 ∷ 31 ∷ 27 ∷ 6 ∷ 10 ∷ 19 ∷ 14 ∷ 7 ∷ 8 ∷ 27 ∷ 29 ∷ []) (8 ∷ 4 ∷ 22 ∷ 24 ∷ 25 ∷ 28 ∷ 30 ∷ 31 ∷ []) (0 ∷ 0 ∷ 0 ∷ 0 ∷ 0 ∷ 0 ∷ 0 ∷ 0 ∷ 0 ∷ 0 ∷ 0 ∷ []) (0 ∷ 0 ∷ 0 ∷ 0 ∷ 0 ∷ 0 ∷ 0 ∷ 0 ∷ 0 ∷ 0 ∷ 0 ∷ 0 ∷ 0 ∷ 0 ∷ 0 ∷ 0 ∷ []) (0 ∷ 0 ∷ 0 ∷ 0 ∷ 0 ∷ 0 ∷ 0 ∷ 0 ∷ []) (of_bits binary64 4991950325045397601 ∷ of_bits binary64 3569190773600738727 ∷ of_bits binary64 3440233398381002651 ∷ of_bits binary64 9928941178655049711 ∷ of_bits binary64 18092001781464199549 ∷ of_bits binary64 6180457998004624885 ∷ of_bits binary64 3200692628091179586 ∷ of_bits binary64 10046558107450641994 ∷ of_bits binary64 13742668948766180406 ∷ of_bits binary64 18398097115871051206 ∷ of_bits binary64 15361084365699700780 ∷ of_bits binary64 10367149949831386269 ∷ of_bits binary64 17918379099886222139 ∷ of_bits binary64 3400851128045158458 ∷ of_bits binary64 11950483983248559996 ∷ of_bits binary64 318919603648471050 ∷ of_bits binary64 17069368141857541293 ∷ of_bits binary64 17566711790917729245 ∷ of_bits binary64 18393593516243680710 ∷ of_bits binary64 15356580766072330284 ∷ of_bits binary64 11945980383621189500 ∷ of_bits binary64 17913875500258851643 ∷ of_bits binary64 17064864542230170797 ∷ of_bits binary64 17562208191290358749 ∷ of_bits binary64 3196189028463809090 ∷ of_bits binary64 17064864542230170797 ∷ of_bits binary64 17562208191290358749 ∷ of_bits binary64 18393593516243680710 ∷ of_bits binary64 15356580766072330284 ∷ of_bits binary64 13738165349138809910 ∷ of_bits binary64 17913875500258851643 ∷ of_bits binary64 3396347528417787962 ∷ of_bits binary64 13738165349138809910 ∷ [])) false 210
unfolding of_int of_bits add sub mul div Ieee.round said_checked said_subdivided said_edited links points tally turned heavy begin final work_needed enough unwanted overweight refusal last_links last_flag last_points last_marks subdivided left_after ended call then onward every c1_vertex c1_halfedge c1_face c2 c3 c4 c5 c6 c7 c8 c9 fault set_mark marked unmarked_new written edit_ended edit_refusal edit split_edge_edit split_face_edit insert_edge_edit swap_denied swap_ccw_edit swap_cw_edit triangulate_all split_edge joined paint across_face across_hole insert_edge insert_new cut_off cut_corner triangulate_face triangulate petal petals fan singles split_face swap_ccw swap_cw partner loop around is_v is_e is_h is_f put lay over each range round only has distinct first all number_of sum split_edges from_old pairs catmull_face catmull_pass corners loop_face loop_pass rim_of rim_side rim_face centre_face sqrt_face swap_inner sqrt_pass zero_p add_p scale_p over_p flat plus heads face_point catmull_edge catmull_rim catmull_inner catmull_vertex catmull_points inner on_rim loop_edge_point loop_vertex loop_points sqrt_vertex sqrt_answer answers sqrt_points cc_edge middle cc_inner loop_edge loop_rim weighted sqrt_rim sqrt_pair crowded two_rims catmull loop_scheme sqrt3 sizes fits fits_with used links_of marks_of points_of clean filled wiped counts_of tally_of counted triangulated catmull_tally loop_tally sqrt_tally dec row
schemes-120 = refl

schemes-154 :
    call sqrt3 1 false (mesh 6 6 2 (0 ∷ 10 ∷ 8 ∷ NONE ∷ 2 ∷ 4 ∷ []) (NONE ∷ 1 ∷ 10 ∷ 8 ∷ 1 ∷ 0 ∷ 9 ∷ 7 ∷ NONE ∷ 2 ∷ 8 ∷ 4 ∷ 1 ∷ 4 ∷ 7 ∷ 9 ∷ NONE ∷ 4 ∷ 2 ∷ 10 ∷ 0 ∷ 5 ∷ 11 ∷ 6 ∷ 0 ∷ 4 ∷ 5 ∷ 11 ∷ 1 ∷ 1 ∷ 1 ∷ 3 ∷ NONE ∷ 0 ∷ 0 ∷ 2 ∷ 1 ∷ 2 ∷ 3 ∷ 1 ∷ NONE ∷ 5 ∷ 4 ∷ 0 ∷ 0 ∷ 1 ∷ 6 ∷ 5 ∷ []) (11 ∷ 1 ∷ []) (0 ∷ 0 ∷ 0 ∷ 0 ∷ 0 ∷ 0 ∷ []) (0 ∷ 0 ∷ 0 ∷ 0 ∷ 0 ∷ 0 ∷ []) (0 ∷ 0 ∷ []) (of_bits binary64 13208171951434938213 ∷ of_bits binary64 5196380585673006053 ∷ of_bits binary64 10637015196689661983 ∷ of_bits binary64 240241845899776705 ∷ of_bits binary64 4506003170978223205 ∷ of_bits binary64 18150202283727978904 ∷ of_bits binary64 5029683877920641497 ∷ of_bits binary64 17368980588610922432 ∷ of_bits binary64 13686957375014524638 ∷ of_bits binary64 10464541888631576238 ∷ of_bits binary64 5573077911169793161 ∷ of_bits binary64 3908806440201142195 ∷ of_bits binary64 9972285244632471780 ∷ of_bits binary64 8575751403622851236 ∷ of_bits binary64 15038310262468891752 ∷ of_bits binary64 598917126412680856 ∷ of_bits binary64 406078888399621764 ∷ of_bits binary64 12744914129923370659 ∷ [])) (lent 9 16 9 204) ≡
    done (mesh 9 16 9 (0 ∷ 10 ∷ 8 ∷ NONE ∷ 2 ∷ 4 ∷ 19 ∷ 25 ∷ 31 ∷ []) (NONE ∷ 1 ∷ 10 ∷ 8 ∷ 2 ∷ 0 ∷ 26 ∷ 31 ∷ NONE ∷ 2 ∷ 8 ∷ 4 ∷ 5 ∷ 4 ∷ 22 ∷ 21 ∷ NONE ∷ 4 ∷ 2 ∷ 10 ∷ 4 ∷ 5 ∷ 18 ∷ 17 ∷ 3 ∷ 6 ∷ 15 ∷ 24 ∷ 6 ∷ 7 ∷ 23 ∷ 16 ∷ NONE ∷ 0 ∷ 0 ∷ 2 ∷ 7 ∷ 2 ∷ 28 ∷ 27 ∷ NONE ∷ 5 ∷ 4 ∷ 0 ∷ 0 ∷ 1 ∷ 14 ∷ 19 ∷ 1 ∷ 7 ∷ 25 ∷ 30 ∷ 8 ∷ 8 ∷ 29 ∷ 20 ∷ 0 ∷ 6 ∷ 19 ∷ 11 ∷ 3 ∷ 1 ∷ 24 ∷ 6 ∷ 6 ∷ 6 ∷ 7 ∷ 23 ∷ 4 ∷ 4 ∷ 5 ∷ 18 ∷ 4 ∷ 6 ∷ 17 ∷ 5 ∷ 0 ∷ 5 ∷ 11 ∷ 14 ∷ 8 ∷ 7 ∷ 13 ∷ 29 ∷ 5 ∷ 2 ∷ 3 ∷ 22 ∷ 5 ∷ 7 ∷ 21 ∷ 3 ∷ 6 ∷ 4 ∷ 16 ∷ 7 ∷ 3 ∷ 7 ∷ 6 ∷ 15 ∷ 1 ∷ 1 ∷ 30 ∷ 12 ∷ 2 ∷ 8 ∷ 31 ∷ 1 ∷ 7 ∷ 0 ∷ 9 ∷ 28 ∷ 7 ∷ 8 ∷ 27 ∷ 9 ∷ 8 ∷ 2 ∷ 20 ∷ 13 ∷ 1 ∷ 8 ∷ 12 ∷ 25 ∷ 2 ∷ 1 ∷ 1 ∷ 26 ∷ []) (11 ∷ 12 ∷ 1 ∷ 6 ∷ 5 ∷ 3 ∷ 7 ∷ 9 ∷ 13 ∷ []) (0 ∷ 0 ∷ 0 ∷ 0 ∷ 0 ∷ 0 ∷ 0 ∷ 0 ∷ 0 ∷ []) (0 ∷ 0 ∷ 0 ∷ 0 ∷ 0 ∷ 0 ∷ 0 ∷ 0 ∷ 0 ∷ 0 ∷ 0 ∷ 0 ∷ 0 ∷ 0 ∷ 0 ∷ 0 ∷ []) (0 ∷ 0 ∷ 0 ∷ 0 ∷ 0 ∷ 0 ∷ 0 ∷ 0 ∷ 0 ∷ []) (of_bits binary64 13208171951434938213 ∷ of_bits binary64 5196380585673006053 ∷ of_bits binary64 10637015196689661983 ∷ of_bits binary64 240241845899776705 ∷ of_bits binary64 4506003170978223205 ∷ of_bits binary64 18150202283727978904 ∷ of_bits binary64 5029683877920641497 ∷ of_bits binary64 17368980588610922432 ∷ of_bits binary64 13686957375014524638 ∷ of_bits binary64 10464541888631576238 ∷ of_bits binary64 5573077911169793161 ∷ of_bits binary64 3908806440201142195 ∷ of_bits binary64 9972285244632471780 ∷ of_bits binary64 8575751403622851236 ∷ of_bits binary64 15038310262468891752 ∷ of_bits binary64 598917126412680856 ∷ of_bits binary64 406078888399621764 ∷ of_bits binary64 12744914129923370659 ∷ of_bits binary64 9965217801797557897 ∷ of_bits binary64 8568544641947042693 ∷ of_bits binary64 18142928212823988085 ∷ of_bits binary64 5022456847159091515 ∷ of_bits binary64 8568544641947042693 ∷ of_bits binary64 18142928212823988085 ∷ of_bits binary64 5022456847159091515 ∷ of_bits binary64 17361942313950998485 ∷ of_bits binary64 18142928212823988085 ∷ [])) true 204
unfolding of_int of_bits add sub mul div Ieee.round said_checked said_subdivided said_edited links points tally turned heavy begin final work_needed enough unwanted overweight refusal last_links last_flag last_points last_marks subdivided left_after ended call then onward every c1_vertex c1_halfedge c1_face c2 c3 c4 c5 c6 c7 c8 c9 fault set_mark marked unmarked_new written edit_ended edit_refusal edit split_edge_edit split_face_edit insert_edge_edit swap_denied swap_ccw_edit swap_cw_edit triangulate_all split_edge joined paint across_face across_hole insert_edge insert_new cut_off cut_corner triangulate_face triangulate petal petals fan singles split_face swap_ccw swap_cw partner loop around is_v is_e is_h is_f put lay over each range round only has distinct first all number_of sum split_edges from_old pairs catmull_face catmull_pass corners loop_face loop_pass rim_of rim_side rim_face centre_face sqrt_face swap_inner sqrt_pass zero_p add_p scale_p over_p flat plus heads face_point catmull_edge catmull_rim catmull_inner catmull_vertex catmull_points inner on_rim loop_edge_point loop_vertex loop_points sqrt_vertex sqrt_answer answers sqrt_points cc_edge middle cc_inner loop_edge loop_rim weighted sqrt_rim sqrt_pair crowded two_rims catmull loop_scheme sqrt3 sizes fits fits_with used links_of marks_of points_of clean filled wiped counts_of tally_of counted triangulated catmull_tally loop_tally sqrt_tally dec row
schemes-154 = refl

schemes-65 :
    call catmull 1 true (mesh 4 6 4 (6 ∷ 5 ∷ 8 ∷ 10 ∷ []) (2 ∷ 2 ∷ 8 ∷ 3 ∷ 1 ∷ 0 ∷ 6 ∷ 5 ∷ 0 ∷ 3 ∷ 10 ∷ 7 ∷ 2 ∷ 0 ∷ 0 ∷ 8 ∷ 3 ∷ 1 ∷ 11 ∷ 9 ∷ 1 ∷ 2 ∷ 1 ∷ 6 ∷ 1 ∷ 1 ∷ 5 ∷ 1 ∷ 0 ∷ 0 ∷ 2 ∷ 10 ∷ 2 ∷ 3 ∷ 3 ∷ 0 ∷ 3 ∷ 2 ∷ 4 ∷ 11 ∷ 0 ∷ 1 ∷ 7 ∷ 2 ∷ 3 ∷ 3 ∷ 9 ∷ 4 ∷ []) (2 ∷ 6 ∷ 3 ∷ 4 ∷ []) (0 ∷ 0 ∷ 0 ∷ 0 ∷ []) (0 ∷ 0 ∷ 0 ∷ 0 ∷ 0 ∷ 0 ∷ []) (0 ∷ 0 ∷ 0 ∷ 0 ∷ []) (of_bits binary64 12828160061508487860 ∷ of_bits binary64 7659280640298048162 ∷ of_bits binary64 4607182418800017408 ∷ of_bits binary64 2912072168153477553 ∷ of_bits binary64 16048361902212265143 ∷ of_bits binary64 5237998941582258076 ∷ of_bits binary64 17994535286222550529 ∷ of_bits binary64 9491961400817420525 ∷ of_bits binary64 6529122289849725234 ∷ of_bits binary64 1 ∷ of_bits binary64 7150951714805636977 ∷ of_bits binary64 9223372036854775808 ∷ [])) (lent 14 24 12 300) ≡
    done (mesh 14 24 12 (18 ∷ 5 ∷ 20 ∷ 22 ∷ 0 ∷ 2 ∷ 4 ∷ 6 ∷ 8 ∷ 10 ∷ 25 ∷ 31 ∷ 37 ∷ 43 ∷ []) (8 ∷ 2 ∷ 20 ∷ 39 ∷ 6 ∷ 4 ∷ 34 ∷ 17 ∷ 0 ∷ 3 ∷ 22 ∷ 25 ∷ 9 ∷ 5 ∷ 36 ∷ 8 ∷ 3 ∷ 1 ∷ 11 ∷ 43 ∷ 1 ∷ 6 ∷ 32 ∷ 6 ∷ 1 ∷ 1 ∷ 5 ∷ 31 ∷ 4 ∷ 7 ∷ 28 ∷ 10 ∷ 9 ∷ 3 ∷ 3 ∷ 41 ∷ 10 ∷ 8 ∷ 46 ∷ 23 ∷ 4 ∷ 1 ∷ 7 ∷ 27 ∷ 3 ∷ 9 ∷ 44 ∷ 4 ∷ 2 ∷ 4 ∷ 38 ∷ 15 ∷ 7 ∷ 0 ∷ 18 ∷ 35 ∷ 5 ∷ 5 ∷ 24 ∷ 19 ∷ 2 ∷ 0 ∷ 12 ∷ 37 ∷ 11 ∷ 6 ∷ 42 ∷ 21 ∷ 6 ∷ 2 ∷ 1 ∷ 33 ∷ 7 ∷ 7 ∷ 30 ∷ 13 ∷ 5 ∷ 0 ∷ 14 ∷ 29 ∷ 8 ∷ 8 ∷ 40 ∷ 0 ∷ 11 ∷ 2 ∷ 16 ∷ 47 ∷ 0 ∷ 9 ∷ 26 ∷ 2 ∷ 10 ∷ 3 ∷ 9 ∷ 45 ∷ 5 ∷ 10 ∷ 29 ∷ 14 ∷ 0 ∷ 5 ∷ 2 ∷ 26 ∷ 0 ∷ 10 ∷ 25 ∷ 22 ∷ 4 ∷ 9 ∷ 10 ∷ 28 ∷ 4 ∷ 10 ∷ 27 ∷ 7 ∷ 5 ∷ 7 ∷ 19 ∷ 24 ∷ 7 ∷ 11 ∷ 35 ∷ 18 ∷ 1 ∷ 7 ∷ 6 ∷ 32 ∷ 1 ∷ 11 ∷ 31 ∷ 5 ∷ 6 ∷ 6 ∷ 17 ∷ 34 ∷ 6 ∷ 11 ∷ 33 ∷ 1 ∷ 7 ∷ 4 ∷ 13 ∷ 30 ∷ 9 ∷ 12 ∷ 41 ∷ 3 ∷ 2 ∷ 5 ∷ 15 ∷ 38 ∷ 2 ∷ 12 ∷ 37 ∷ 12 ∷ 8 ∷ 4 ∷ 0 ∷ 40 ∷ 8 ∷ 12 ∷ 39 ∷ 20 ∷ 9 ∷ 8 ∷ 8 ∷ 36 ∷ 11 ∷ 13 ∷ 47 ∷ 16 ∷ 3 ∷ 6 ∷ 4 ∷ 44 ∷ 3 ∷ 13 ∷ 43 ∷ 11 ∷ 10 ∷ 9 ∷ 23 ∷ 46 ∷ 10 ∷ 13 ∷ 45 ∷ 9 ∷ 11 ∷ 8 ∷ 21 ∷ 42 ∷ []) (2 ∷ 6 ∷ 15 ∷ 4 ∷ 10 ∷ 19 ∷ 17 ∷ 13 ∷ 0 ∷ 8 ∷ 23 ∷ 21 ∷ []) (0 ∷ 0 ∷ 0 ∷ 0 ∷ 0 ∷ 0 ∷ 0 ∷ 0 ∷ 0 ∷ 0 ∷ 0 ∷ 0 ∷ 0 ∷ 0 ∷ []) (0 ∷ 0 ∷ 0 ∷ 0 ∷ 0 ∷ 0 ∷ 0 ∷ 0 ∷ 0 ∷ 0 ∷ 0 ∷ 0 ∷ 0 ∷ 0 ∷ 0 ∷ 0 ∷ 0 ∷ 0 ∷ 0 ∷ 0 ∷ 0 ∷ 0 ∷ 0 ∷ 0 ∷ []) (0 ∷ 0 ∷ 0 ∷ 0 ∷ 0 ∷ 0 ∷ 0 ∷ 0 ∷ 0 ∷ 0 ∷ 0 ∷ 0 ∷ []) (of_bits binary64 17983672212096197443 ∷ of_bits binary64 7653925388071169281 ∷ of_bits binary64 6518064342227549827 ∷ of_bits binary64 17983672212096197443 ∷ of_bits binary64 7648286251644454274 ∷ of_bits binary64 6518064342227549827 ∷ of_bits binary64 17989236311650203421 ∷ of_bits binary64 7648286251644454274 ∷ of_bits binary64 6523739798064882847 ∷ of_bits binary64 17983672212096197443 ∷ of_bits binary64 7648286251644454274 ∷ of_bits binary64 6518064342227549827 ∷ of_bits binary64 17988838624177715116 ∷ of_bits binary64 7653499561771415089 ∷ of_bits binary64 6523300351986146901 ∷ of_bits binary64 17978638362505509206 ∷ of_bits binary64 7653499561771415089 ∷ of_bits binary64 6512974814495198071 ∷ of_bits binary64 17988838624177715116 ∷ of_bits binary64 7643214883617411521 ∷ of_bits binary64 6523300351986146901 ∷ of_bits binary64 17978638362505509206 ∷ of_bits binary64 7653499561771415089 ∷ of_bits binary64 6512974814495198071 ∷ of_bits binary64 17988838624177715116 ∷ of_bits binary64 7643214883617411521 ∷ of_bits binary64 6523300351986146901 ∷ of_bits binary64 17978638362505509206 ∷ of_bits binary64 7643214883617411521 ∷ of_bits binary64 6512974814495198071 ∷ of_bits binary64 12821290169715308784 ∷ of_bits binary64 7652222082872152513 ∷ of_bits binary64 5230597133853430992 ∷ of_bits binary64 17987645561760250198 ∷ of_bits binary64 7652222082872152513 ∷ of_bits binary64 6521982013749939063 ∷ of_bits binary64 17987645561760250198 ∷ of_bits binary64 7652222082872152513 ∷ of_bits binary64 6521982013749939063 ∷ of_bits binary64 17987645561760250198 ∷ of_bits binary64 7143700546579589707 ∷ of_bits binary64 6521982013749939063 ∷ [])) true 300
unfolding of_int of_bits add sub mul div Ieee.round said_checked said_subdivided said_edited links points tally turned heavy begin final work_needed enough unwanted overweight refusal last_links last_flag last_points last_marks subdivided left_after ended call then onward every c1_vertex c1_halfedge c1_face c2 c3 c4 c5 c6 c7 c8 c9 fault set_mark marked unmarked_new written edit_ended edit_refusal edit split_edge_edit split_face_edit insert_edge_edit swap_denied swap_ccw_edit swap_cw_edit triangulate_all split_edge joined paint across_face across_hole insert_edge insert_new cut_off cut_corner triangulate_face triangulate petal petals fan singles split_face swap_ccw swap_cw partner loop around is_v is_e is_h is_f put lay over each range round only has distinct first all number_of sum split_edges from_old pairs catmull_face catmull_pass corners loop_face loop_pass rim_of rim_side rim_face centre_face sqrt_face swap_inner sqrt_pass zero_p add_p scale_p over_p flat plus heads face_point catmull_edge catmull_rim catmull_inner catmull_vertex catmull_points inner on_rim loop_edge_point loop_vertex loop_points sqrt_vertex sqrt_answer answers sqrt_points cc_edge middle cc_inner loop_edge loop_rim weighted sqrt_rim sqrt_pair crowded two_rims catmull loop_scheme sqrt3 sizes fits fits_with used links_of marks_of points_of clean filled wiped counts_of tally_of counted triangulated catmull_tally loop_tally sqrt_tally dec row
schemes-65 = refl

schemes-62 :
    call loop_scheme 1 true (mesh 7 7 2 (0 ∷ 3 ∷ 7 ∷ 4 ∷ 8 ∷ 11 ∷ 13 ∷ []) (NONE ∷ 6 ∷ 13 ∷ 7 ∷ 1 ∷ 0 ∷ 6 ∷ 12 ∷ 1 ∷ 1 ∷ 12 ∷ 6 ∷ NONE ∷ 2 ∷ 7 ∷ 13 ∷ NONE ∷ 4 ∷ 8 ∷ 11 ∷ 0 ∷ 3 ∷ 10 ∷ 9 ∷ 1 ∷ 2 ∷ 2 ∷ 1 ∷ NONE ∷ 0 ∷ 0 ∷ 3 ∷ NONE ∷ 5 ∷ 11 ∷ 4 ∷ 0 ∷ 4 ∷ 5 ∷ 10 ∷ 0 ∷ 5 ∷ 9 ∷ 5 ∷ NONE ∷ 3 ∷ 4 ∷ 8 ∷ 1 ∷ 6 ∷ 1 ∷ 2 ∷ NONE ∷ 1 ∷ 3 ∷ 0 ∷ []) (10 ∷ 2 ∷ []) (0 ∷ 0 ∷ 0 ∷ 0 ∷ 0 ∷ 0 ∷ 0 ∷ []) (0 ∷ 0 ∷ 0 ∷ 0 ∷ 0 ∷ 0 ∷ 0 ∷ []) (0 ∷ 0 ∷ []) (of_bits binary64 0 ∷ of_bits binary64 6366866773116702108 ∷ of_bits binary64 14781848188731582408 ∷ of_bits binary64 9218868437227405312 ∷ of_bits binary64 15237957157554785355 ∷ of_bits binary64 10384237144766519888 ∷ of_bits binary64 6303799086481752965 ∷ of_bits binary64 9214364837600034816 ∷ of_bits binary64 9218868437227405312 ∷ of_bits binary64 6055581949823755050 ∷ of_bits binary64 669348935709273273 ∷ of_bits binary64 9218868437227405311 ∷ of_bits binary64 1938910903661520450 ∷ of_bits binary64 392504143553243473 ∷ of_bits binary64 5992343195685720729 ∷ of_bits binary64 9360496253938849004 ∷ of_bits binary64 12953564076244073073 ∷ of_bits binary64 12761979329240602227 ∷ of_bits binary64 1 ∷ of_bits binary64 5662119299022143661 ∷ of_bits binary64 3867040669984559203 ∷ [])) (lent 15 25 12 312) ≡
    done (mesh 15 25 12 (16 ∷ 3 ∷ 7 ∷ 20 ∷ 24 ∷ 11 ∷ 13 ∷ 0 ∷ 19 ∷ 4 ∷ 23 ∷ 8 ∷ 27 ∷ 29 ∷ 14 ∷ []) (NONE ∷ 6 ∷ 13 ∷ 16 ∷ 1 ∷ 7 ∷ 38 ∷ 14 ∷ 2 ∷ 1 ∷ 28 ∷ 44 ∷ NONE ∷ 8 ∷ 19 ∷ 29 ∷ NONE ∷ 4 ∷ 24 ∷ 20 ∷ 3 ∷ 9 ∷ 34 ∷ 25 ∷ 7 ∷ 2 ∷ 30 ∷ 42 ∷ NONE ∷ 10 ∷ 23 ∷ 19 ∷ NONE ∷ 5 ∷ 11 ∷ 24 ∷ 0 ∷ 11 ∷ 32 ∷ 10 ∷ 0 ∷ 5 ∷ 9 ∷ 32 ∷ NONE ∷ 12 ∷ 27 ∷ 8 ∷ 9 ∷ 6 ∷ 15 ∷ 46 ∷ NONE ∷ 13 ∷ 29 ∷ 0 ∷ 1 ∷ 6 ∷ 1 ∷ 38 ∷ 9 ∷ 14 ∷ 46 ∷ 12 ∷ NONE ∷ 7 ∷ 0 ∷ 23 ∷ 6 ∷ 0 ∷ 22 ∷ 40 ∷ 10 ∷ 8 ∷ 48 ∷ 31 ∷ NONE ∷ 2 ∷ 7 ∷ 3 ∷ NONE ∷ 9 ∷ 4 ∷ 27 ∷ 4 ∷ 3 ∷ 26 ∷ 36 ∷ 6 ∷ 10 ∷ 40 ∷ 17 ∷ NONE ∷ 0 ∷ 16 ∷ 7 ∷ NONE ∷ 11 ∷ 8 ∷ 4 ∷ 3 ∷ 4 ∷ 5 ∷ 34 ∷ 4 ∷ 12 ∷ 36 ∷ 21 ∷ NONE ∷ 3 ∷ 20 ∷ 11 ∷ 2 ∷ 13 ∷ 44 ∷ 2 ∷ NONE ∷ 1 ∷ 3 ∷ 13 ∷ 7 ∷ 14 ∷ 42 ∷ 6 ∷ 10 ∷ 2 ∷ 18 ∷ 48 ∷ 0 ∷ 12 ∷ 10 ∷ 9 ∷ 5 ∷ 11 ∷ 35 ∷ 37 ∷ 3 ∷ 11 ∷ 25 ∷ 5 ∷ 5 ∷ 9 ∷ 37 ∷ 33 ∷ 4 ∷ 9 ∷ 21 ∷ 26 ∷ 5 ∷ 12 ∷ 33 ∷ 35 ∷ 1 ∷ 14 ∷ 14 ∷ 1 ∷ 8 ∷ 7 ∷ 41 ∷ 43 ∷ 6 ∷ 7 ∷ 17 ∷ 22 ∷ 8 ∷ 10 ∷ 43 ∷ 39 ∷ 7 ∷ 10 ∷ 6 ∷ 30 ∷ 8 ∷ 14 ∷ 39 ∷ 41 ∷ 2 ∷ 8 ∷ 2 ∷ 28 ∷ 11 ∷ 13 ∷ 47 ∷ 49 ∷ 9 ∷ 13 ∷ 12 ∷ 15 ∷ 11 ∷ 14 ∷ 49 ∷ 45 ∷ 10 ∷ 14 ∷ 31 ∷ 18 ∷ 11 ∷ 8 ∷ 45 ∷ 47 ∷ []) (10 ∷ 14 ∷ 2 ∷ 34 ∷ 36 ∷ 37 ∷ 40 ∷ 42 ∷ 43 ∷ 46 ∷ 48 ∷ 49 ∷ []) (0 ∷ 0 ∷ 0 ∷ 0 ∷ 0 ∷ 0 ∷ 0 ∷ 0 ∷ 0 ∷ 0 ∷ 0 ∷ 0 ∷ 0 ∷ 0 ∷ 0 ∷ []) (0 ∷ 0 ∷ 0 ∷ 0 ∷ 0 ∷ 0 ∷ 0 ∷ 0 ∷ 0 ∷ 0 ∷ 0 ∷ 0 ∷ 0 ∷ 0 ∷ 0 ∷ 0 ∷ 0 ∷ 0 ∷ 0 ∷ 0 ∷ 0 ∷ 0 ∷ 0 ∷ 0 ∷ 0 ∷ []) (0 ∷ 0 ∷ 0 ∷ 0 ∷ 0 ∷ 0 ∷ 0 ∷ 0 ∷ 0 ∷ 0 ∷ 0 ∷ 0 ∷ []) (of_bits binary64 6290288287599641477 ∷ of_bits binary64 9200854038717923328 ∷ of_bits binary64 9218868437227405312 ∷ of_bits binary64 9218868437227405312 ∷ of_bits binary64 9200854038717923328 ∷ of_bits binary64 9218868437227405312 ∷ of_bits binary64 9218868437227405312 ∷ of_bits binary64 9218868437227405312 ∷ of_bits binary64 9218868437227405312 ∷ of_bits binary64 6053770037257460320 ∷ of_bits binary64 12940053277361961585 ∷ of_bits binary64 9218868437227405312 ∷ of_bits binary64 6042071150941643562 ∷ of_bits binary64 12940053277361961585 ∷ of_bits binary64 9205357638345293823 ∷ of_bits binary64 6042071150941643562 ∷ of_bits binary64 12951918050393651114 ∷ of_bits binary64 9205357638345293823 ∷ of_bits binary64 9218868437227405312 ∷ of_bits binary64 6353355974234590620 ∷ of_bits binary64 14768337389849470920 ∷ of_bits binary64 0 ∷ of_bits binary64 6362363173489331612 ∷ of_bits binary64 14777344589104211912 ∷ of_bits binary64 9218868437227405312 ∷ of_bits binary64 9209861237972664320 ∷ of_bits binary64 9218868437227405312 ∷ of_bits binary64 6051078350196384554 ∷ of_bits binary64 664845336081902777 ∷ of_bits binary64 9214364837600034815 ∷ of_bits binary64 6299295486854382469 ∷ of_bits binary64 9209861237972664320 ∷ of_bits binary64 9218868437227405312 ∷ of_bits binary64 1934407304034149954 ∷ of_bits binary64 12949060476616702577 ∷ of_bits binary64 5987839596058350233 ∷ of_bits binary64 6051078350196384554 ∷ of_bits binary64 12949060476616702577 ∷ of_bits binary64 9214364837600034815 ∷ of_bits binary64 9218868437227405312 ∷ of_bits binary64 15233453557927414859 ∷ of_bits binary64 3862537070357188707 ∷ of_bits binary64 9218868437227405312 ∷ of_bits binary64 9218868437227405312 ∷ of_bits binary64 9218868437227405312 ∷ [])) true 312
unfolding of_int of_bits add sub mul div Ieee.round said_checked said_subdivided said_edited links points tally turned heavy begin final work_needed enough unwanted overweight refusal last_links last_flag last_points last_marks subdivided left_after ended call then onward every c1_vertex c1_halfedge c1_face c2 c3 c4 c5 c6 c7 c8 c9 fault set_mark marked unmarked_new written edit_ended edit_refusal edit split_edge_edit split_face_edit insert_edge_edit swap_denied swap_ccw_edit swap_cw_edit triangulate_all split_edge joined paint across_face across_hole insert_edge insert_new cut_off cut_corner triangulate_face triangulate petal petals fan singles split_face swap_ccw swap_cw partner loop around is_v is_e is_h is_f put lay over each range round only has distinct first all number_of sum split_edges from_old pairs catmull_face catmull_pass corners loop_face loop_pass rim_of rim_side rim_face centre_face sqrt_face swap_inner sqrt_pass zero_p add_p scale_p over_p flat plus heads face_point catmull_edge catmull_rim catmull_inner catmull_vertex catmull_points inner on_rim loop_edge_point loop_vertex loop_points sqrt_vertex sqrt_answer answers sqrt_points cc_edge middle cc_inner loop_edge loop_rim weighted sqrt_rim sqrt_pair crowded two_rims catmull loop_scheme sqrt3 sizes fits fits_with used links_of marks_of points_of clean filled wiped counts_of tally_of counted triangulated catmull_tally loop_tally sqrt_tally dec row
schemes-62 = refl

abbrev one-triangle : Given
one-triangle = mesh 3 3 1 (5 ∷ 1 ∷ 3 ∷ []) (0 ∷ 1 ∷ 2 ∷ 4 ∷ NONE ∷ 0 ∷ 5 ∷ 3 ∷ 0 ∷ 2 ∷ 4 ∷ 0 ∷ NONE ∷ 1 ∷ 1 ∷ 5 ∷ 0 ∷ 0 ∷ 0 ∷ 2 ∷ NONE ∷ 2 ∷ 3 ∷ 1 ∷ []) (0 ∷ []) (0 ∷ 0 ∷ 0 ∷ []) (0 ∷ 0 ∷ 0 ∷ []) (0 ∷ []) (replicate 9 zero)

-- what one pass answers with so many words in outs, edges, faces, their marks, the points and the work
abbrev with-room : Scheme → List ℕ → Option Refusal
with-room S l =
    let n : ℕ → ℕ = λ i. get_or l i 0 in
    let g = one-triangle in
    refusal S 1 true (links_of g.counts g.slices) (marks_of g.counts g.slices) (sizes g.slices) 9
    (record { outs = n 0; edges = n 1; faces = n 2; vmarks = n 3; emarks = n 4; fmarks = n 5 }) (n 6) (n 7)

-- exact room, and one word less in each slice
pub rooms :
    ◌≡◌ {A = List (Option Refusal)} (
    with-room catmull (7 ∷ 72 ∷ 3 ∷ 7 ∷ 9 ∷ 3 ∷ 21 ∷ 42 ∷ []) ∷
    with-room catmull (6 ∷ 72 ∷ 3 ∷ 7 ∷ 9 ∷ 3 ∷ 21 ∷ 42 ∷ []) ∷
    with-room catmull (7 ∷ 71 ∷ 3 ∷ 7 ∷ 9 ∷ 3 ∷ 21 ∷ 42 ∷ []) ∷
    with-room catmull (7 ∷ 72 ∷ 2 ∷ 7 ∷ 9 ∷ 3 ∷ 21 ∷ 42 ∷ []) ∷
    with-room catmull (7 ∷ 72 ∷ 3 ∷ 6 ∷ 9 ∷ 3 ∷ 21 ∷ 42 ∷ []) ∷
    with-room catmull (7 ∷ 72 ∷ 3 ∷ 7 ∷ 8 ∷ 3 ∷ 21 ∷ 42 ∷ []) ∷
    with-room catmull (7 ∷ 72 ∷ 3 ∷ 7 ∷ 9 ∷ 2 ∷ 21 ∷ 42 ∷ []) ∷
    with-room catmull (7 ∷ 72 ∷ 3 ∷ 7 ∷ 9 ∷ 3 ∷ 20 ∷ 42 ∷ []) ∷
    with-room catmull (7 ∷ 72 ∷ 3 ∷ 7 ∷ 9 ∷ 3 ∷ 21 ∷ 41 ∷ []) ∷
    with-room loop_scheme (6 ∷ 72 ∷ 4 ∷ 6 ∷ 9 ∷ 4 ∷ 18 ∷ 42 ∷ []) ∷
    with-room loop_scheme (5 ∷ 72 ∷ 4 ∷ 6 ∷ 9 ∷ 4 ∷ 18 ∷ 42 ∷ []) ∷
    with-room loop_scheme (6 ∷ 71 ∷ 4 ∷ 6 ∷ 9 ∷ 4 ∷ 18 ∷ 42 ∷ []) ∷
    with-room loop_scheme (6 ∷ 72 ∷ 3 ∷ 6 ∷ 9 ∷ 4 ∷ 18 ∷ 42 ∷ []) ∷
    with-room loop_scheme (6 ∷ 72 ∷ 4 ∷ 5 ∷ 9 ∷ 4 ∷ 18 ∷ 42 ∷ []) ∷
    with-room loop_scheme (6 ∷ 72 ∷ 4 ∷ 6 ∷ 8 ∷ 4 ∷ 18 ∷ 42 ∷ []) ∷
    with-room loop_scheme (6 ∷ 72 ∷ 4 ∷ 6 ∷ 9 ∷ 3 ∷ 18 ∷ 42 ∷ []) ∷
    with-room loop_scheme (6 ∷ 72 ∷ 4 ∷ 6 ∷ 9 ∷ 4 ∷ 17 ∷ 42 ∷ []) ∷
    with-room loop_scheme (6 ∷ 72 ∷ 4 ∷ 6 ∷ 9 ∷ 4 ∷ 18 ∷ 41 ∷ []) ∷
    with-room sqrt3 (4 ∷ 48 ∷ 3 ∷ 4 ∷ 6 ∷ 3 ∷ 12 ∷ 42 ∷ []) ∷
    with-room sqrt3 (3 ∷ 48 ∷ 3 ∷ 4 ∷ 6 ∷ 3 ∷ 12 ∷ 42 ∷ []) ∷
    with-room sqrt3 (4 ∷ 47 ∷ 3 ∷ 4 ∷ 6 ∷ 3 ∷ 12 ∷ 42 ∷ []) ∷
    with-room sqrt3 (4 ∷ 48 ∷ 2 ∷ 4 ∷ 6 ∷ 3 ∷ 12 ∷ 42 ∷ []) ∷
    with-room sqrt3 (4 ∷ 48 ∷ 3 ∷ 3 ∷ 6 ∷ 3 ∷ 12 ∷ 42 ∷ []) ∷
    with-room sqrt3 (4 ∷ 48 ∷ 3 ∷ 4 ∷ 5 ∷ 3 ∷ 12 ∷ 42 ∷ []) ∷
    with-room sqrt3 (4 ∷ 48 ∷ 3 ∷ 4 ∷ 6 ∷ 2 ∷ 12 ∷ 42 ∷ []) ∷
    with-room sqrt3 (4 ∷ 48 ∷ 3 ∷ 4 ∷ 6 ∷ 3 ∷ 11 ∷ 42 ∷ []) ∷
    with-room sqrt3 (4 ∷ 48 ∷ 3 ∷ 4 ∷ 6 ∷ 3 ∷ 12 ∷ 41 ∷ []) ∷
    []
    ) (
    None ∷ Some NoRoom ∷ Some NoRoom ∷ Some NoRoom ∷ Some NoRoom ∷ Some NoRoom ∷ Some NoRoom ∷ Some NoRoom ∷ Some NoRoom ∷ None ∷ Some NoRoom ∷ Some NoRoom ∷ Some NoRoom ∷ Some NoRoom ∷ Some NoRoom ∷ Some NoRoom ∷ Some NoRoom ∷ Some NoRoom ∷ None ∷ Some NoRoom ∷ Some NoRoom ∷ Some NoRoom ∷ Some NoRoom ∷ Some NoRoom ∷ Some NoRoom ∷ Some NoRoom ∷ Some NoRoom ∷ []
    )
unfolding of_int of_bits add sub mul div Ieee.round said_checked said_subdivided said_edited links points tally turned heavy begin final work_needed enough unwanted overweight refusal last_links last_flag last_points last_marks subdivided left_after ended call then onward every c1_vertex c1_halfedge c1_face c2 c3 c4 c5 c6 c7 c8 c9 fault set_mark marked unmarked_new written edit_ended edit_refusal edit split_edge_edit split_face_edit insert_edge_edit swap_denied swap_ccw_edit swap_cw_edit triangulate_all split_edge joined paint across_face across_hole insert_edge insert_new cut_off cut_corner triangulate_face triangulate petal petals fan singles split_face swap_ccw swap_cw partner loop around is_v is_e is_h is_f put lay over each range round only has distinct first all number_of sum split_edges from_old pairs catmull_face catmull_pass corners loop_face loop_pass rim_of rim_side rim_face centre_face sqrt_face swap_inner sqrt_pass zero_p add_p scale_p over_p flat plus heads face_point catmull_edge catmull_rim catmull_inner catmull_vertex catmull_points inner on_rim loop_edge_point loop_vertex loop_points sqrt_vertex sqrt_answer answers sqrt_points cc_edge middle cc_inner loop_edge loop_rim weighted sqrt_rim sqrt_pair crowded two_rims catmull loop_scheme sqrt3 sizes fits fits_with used links_of marks_of points_of clean filled wiped counts_of tally_of counted triangulated catmull_tally loop_tally sqrt_tally dec row
rooms = refl
