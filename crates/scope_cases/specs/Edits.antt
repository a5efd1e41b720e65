-- Recorded cases of the edits in the Rust, by computation on whole calls: every link and mark, the value, what is lent beyond what is used, refusals.
-- Written by tools/theorems.py from oracle/vectors. Assumes nothing.
use Rattle.std.specs.Prelude.{◌≡◌, refl, [], ◌∷◌, ◌++◌, replicate, Ok, Err}
use Rattle.std.specs.Float.Ieee.{of_int, of_bits, add, sub, mul, div}
use Rattle.std.specs.Float.Ieee as Ieee
use Rattle.scope.specs.declared.answers.Place.TheVariants.{AtFace}
use Rattle.scope.specs.declared.answers.Refusal.TheVariants.{MarkedDeleted, BadHandle, CannotInsertEdge, HalfedgesNotInTheSameLoop, NotDeletedFace, ComplexVertex, CannotSwapBoundaryEdge, WouldBreak}
use Rattle.scope.specs.Answers.{said_checked, said_subdivided, said_edited}
use Rattle.scope.specs.Call.{links, points, tally, turned, heavy, begin, final, work_needed, enough, unwanted, overweight, refusal, last_links, last_flag, last_points, last_marks, subdivided, left_after, ended, call, then, onward}
use Rattle.scope.specs.Check.{every, c1_vertex, c1_halfedge, c1_face, c2, c3, c4, c5, c6, c7, c8, c9, fault, set_mark, marked}
use Rattle.scope.specs.EditCalls.{unmarked_new, written, edit_ended, edit_refusal, edit, split_edge_edit, split_face_edit, insert_edge_edit, swap_denied, swap_ccw_edit, swap_cw_edit, triangulate_all}
use Rattle.scope.specs.Edits.{split_edge, joined, paint, across_face, across_hole, insert_edge, insert_new, cut_off, cut_corner, triangulate_face, triangulate, petal, petals, fan, singles, split_face, swap_ccw, swap_cw}
use Rattle.scope.specs.Links.{NONE, partner, loop, around, is_v, is_e, is_h, is_f}
use Rattle.scope.specs.Lists.{put, lay, over, each, range, round, only, has, distinct, first, all, number_of, sum}
use Rattle.scope.specs.Passes.{split_edges, from_old, pairs, catmull_face, catmull_pass, corners, loop_face, loop_pass, rim_of, rim_side, rim_face, centre_face, sqrt_face, swap_inner, sqrt_pass}
use Rattle.scope.specs.Point.{zero_p, add_p, scale_p, over_p}
use Rattle.scope.specs.Points.{flat, plus, heads, face_point, catmull_edge, catmull_rim, catmull_inner, catmull_vertex, catmull_points, inner, on_rim, loop_edge_point, loop_vertex, loop_points, sqrt_vertex, sqrt_answer, answers, sqrt_points}
use Rattle.scope.specs.Rules.{cc_edge, middle, cc_inner, loop_edge, loop_rim, weighted, sqrt_rim, sqrt_pair}
use Rattle.scope.specs.Schemes.{crowded, two_rims, catmull, loop_scheme, sqrt3}
use Rattle.scope.specs.Slices.{sizes, fits, fits_with, used, links_of, marks_of, points_of, clean, filled, wiped}
use Rattle.scope.specs.Tally.{counts_of, tally_of, counted, triangulated, catmull_tally, loop_tally, sqrt_tally}
use Rattle.scope.specs.Weights.{dec, row}
use Rattle.scope.proofs.Recorded.{own, gives}

edits-13 :
    edit (swap_cw_edit 1) (own 6 3 1 ((NONE ∷ NONE ∷ 1 ∷ 4 ∷ NONE ∷ 2 ∷ []) ++ replicate 2 7) ((0 ∷ 2 ∷ 5 ∷ 3 ∷ NONE ∷ 5 ∷ 2 ∷ 4 ∷ NONE ∷ 3 ∷ 4 ∷ 1 ∷ 0 ∷ 5 ∷ 0 ∷ 5 ∷ NONE ∷ 2 ∷ 1 ∷ 2 ∷ 0 ∷ 3 ∷ 3 ∷ 0 ∷ []) ++ replicate 8 7) ((5 ∷ []) ++ replicate 1 7) ((0 ∷ 0 ∷ 0 ∷ 0 ∷ 0 ∷ 0 ∷ []) ++ replicate 2 7) ((0 ∷ 0 ∷ 0 ∷ []) ++ replicate 1 7) ((0 ∷ []) ++ replicate 1 7)) ≡
    gives (Err (CannotSwapBoundaryEdge)) (own 6 3 1 ((NONE ∷ NONE ∷ 1 ∷ 4 ∷ NONE ∷ 2 ∷ []) ++ replicate 2 7) ((0 ∷ 2 ∷ 5 ∷ 3 ∷ NONE ∷ 5 ∷ 2 ∷ 4 ∷ NONE ∷ 3 ∷ 4 ∷ 1 ∷ 0 ∷ 5 ∷ 0 ∷ 5 ∷ NONE ∷ 2 ∷ 1 ∷ 2 ∷ 0 ∷ 3 ∷ 3 ∷ 0 ∷ []) ++ replicate 8 7) ((5 ∷ []) ++ replicate 1 7) ((0 ∷ 0 ∷ 0 ∷ 0 ∷ 0 ∷ 0 ∷ []) ++ replicate 2 7) ((0 ∷ 0 ∷ 0 ∷ []) ++ replicate 1 7) ((0 ∷ []) ++ replicate 1 7))
unfolding of_int of_bits add sub mul div Ieee.round said_checked said_subdivided said_edited links points tally turned heavy begin final work_needed enough unwanted overweight refusal last_links last_flag last_points last_marks subdivided left_after ended call then onward every c1_vertex c1_halfedge c1_face c2 c3 c4 c5 c6 c7 c8 c9 fault set_mark marked unmarked_new written edit_ended edit_refusal edit split_edge_edit split_face_edit insert_edge_edit swap_denied swap_ccw_edit swap_cw_edit triangulate_all split_edge joined paint across_face across_hole insert_edge insert_new cut_off cut_corner triangulate_face triangulate petal petals fan singles split_face swap_ccw swap_cw partner loop around is_v is_e is_h is_f put lay over each range round only has distinct first all number_of sum split_edges from_old pairs catmull_face catmull_pass corners loop_face loop_pass rim_of rim_side rim_face centre_face sqrt_face swap_inner sqrt_pass zero_p add_p scale_p over_p flat plus heads face_point catmull_edge catmull_rim catmull_inner catmull_vertex catmull_points inner on_rim loop_edge_point loop_vertex loop_points sqrt_vertex sqrt_answer answers sqrt_points cc_edge middle cc_inner loop_edge loop_rim weighted sqrt_rim sqrt_pair crowded two_rims catmull loop_scheme sqrt3 sizes fits fits_with used links_of marks_of points_of clean filled wiped counts_of tally_of counted triangulated catmull_tally loop_tally sqrt_tally dec row
edits-13 = refl

edits-84 :
    edit (split_edge_edit 6 3) (own 3 3 2 ((4 ∷ 2 ∷ 3 ∷ []) ++ replicate 2 7) ((1 ∷ 1 ∷ 2 ∷ 5 ∷ 0 ∷ 0 ∷ 4 ∷ 3 ∷ 1 ∷ 2 ∷ 5 ∷ 0 ∷ 0 ∷ 1 ∷ 1 ∷ 4 ∷ 0 ∷ 2 ∷ 3 ∷ 1 ∷ 1 ∷ 0 ∷ 0 ∷ 2 ∷ []) ++ replicate 8 7) ((4 ∷ 2 ∷ []) ++ replicate 1 7) ((0 ∷ 0 ∷ 0 ∷ []) ++ replicate 2 7) ((0 ∷ 0 ∷ 0 ∷ []) ++ replicate 1 7) ((0 ∷ 0 ∷ []) ++ replicate 1 7)) ≡
    gives (Err (BadHandle)) (own 3 3 2 ((4 ∷ 2 ∷ 3 ∷ []) ++ replicate 2 7) ((1 ∷ 1 ∷ 2 ∷ 5 ∷ 0 ∷ 0 ∷ 4 ∷ 3 ∷ 1 ∷ 2 ∷ 5 ∷ 0 ∷ 0 ∷ 1 ∷ 1 ∷ 4 ∷ 0 ∷ 2 ∷ 3 ∷ 1 ∷ 1 ∷ 0 ∷ 0 ∷ 2 ∷ []) ++ replicate 8 7) ((4 ∷ 2 ∷ []) ++ replicate 1 7) ((0 ∷ 0 ∷ 0 ∷ []) ++ replicate 2 7) ((0 ∷ 0 ∷ 0 ∷ []) ++ replicate 1 7) ((0 ∷ 0 ∷ []) ++ replicate 1 7))
unfolding of_int of_bits add sub mul div Ieee.round said_checked said_subdivided said_edited links points tally turned heavy begin final work_needed enough unwanted overweight refusal last_links last_flag last_points last_marks subdivided left_after ended call then onward every c1_vertex c1_halfedge c1_face c2 c3 c4 c5 c6 c7 c8 c9 fault set_mark marked unmarked_new written edit_ended edit_refusal edit split_edge_edit split_face_edit insert_edge_edit swap_denied swap_ccw_edit swap_cw_edit triangulate_all split_edge joined paint across_face across_hole insert_edge insert_new cut_off cut_corner triangulate_face triangulate petal petals fan singles split_face swap_ccw swap_cw partner loop around is_v is_e is_h is_f put lay over each range round only has distinct first all number_of sum split_edges from_old pairs catmull_face catmull_pass corners loop_face loop_pass rim_of rim_side rim_face centre_face sqrt_face swap_inner sqrt_pass zero_p add_p scale_p over_p flat plus heads face_point catmull_edge catmull_rim catmull_inner catmull_vertex catmull_points inner on_rim loop_edge_point loop_vertex loop_points sqrt_vertex sqrt_answer answers sqrt_points cc_edge middle cc_inner loop_edge loop_rim weighted sqrt_rim sqrt_pair crowded two_rims catmull loop_scheme sqrt3 sizes fits fits_with used links_of marks_of points_of clean filled wiped counts_of tally_of counted triangulated catmull_tally loop_tally sqrt_tally dec row
edits-84 = refl

edits-197 :
    edit (triangulate_all) (own 3 3 1 ((3 ∷ 5 ∷ 1 ∷ []) ++ replicate 2 7) ((0 ∷ 2 ∷ 4 ∷ 2 ∷ NONE ∷ 0 ∷ 3 ∷ 5 ∷ 0 ∷ 0 ∷ 0 ∷ 4 ∷ NONE ∷ 1 ∷ 5 ∷ 1 ∷ 0 ∷ 1 ∷ 2 ∷ 0 ∷ NONE ∷ 2 ∷ 1 ∷ 3 ∷ []) ++ replicate 8 7) ((4 ∷ []) ++ replicate 1 7) ((0 ∷ 0 ∷ 0 ∷ []) ++ replicate 2 7) ((0 ∷ 0 ∷ 0 ∷ []) ++ replicate 1 7) ((0 ∷ []) ++ replicate 1 7)) ≡
    gives (Ok (record { v = 3; e = 3; f = 1 }, 0)) (own 3 3 1 ((3 ∷ 5 ∷ 1 ∷ []) ++ replicate 2 7) ((0 ∷ 2 ∷ 4 ∷ 2 ∷ NONE ∷ 0 ∷ 3 ∷ 5 ∷ 0 ∷ 0 ∷ 0 ∷ 4 ∷ NONE ∷ 1 ∷ 5 ∷ 1 ∷ 0 ∷ 1 ∷ 2 ∷ 0 ∷ NONE ∷ 2 ∷ 1 ∷ 3 ∷ []) ++ replicate 8 7) ((4 ∷ []) ++ replicate 1 7) ((0 ∷ 0 ∷ 0 ∷ []) ++ replicate 2 7) ((0 ∷ 0 ∷ 0 ∷ []) ++ replicate 1 7) ((0 ∷ []) ++ replicate 1 7))
unfolding of_int of_bits add sub mul div Ieee.round said_checked said_subdivided said_edited links points tally turned heavy begin final work_needed enough unwanted overweight refusal last_links last_flag last_points last_marks subdivided left_after ended call then onward every c1_vertex c1_halfedge c1_face c2 c3 c4 c5 c6 c7 c8 c9 fault set_mark marked unmarked_new written edit_ended edit_refusal edit split_edge_edit split_face_edit insert_edge_edit swap_denied swap_ccw_edit swap_cw_edit triangulate_all split_edge joined paint across_face across_hole insert_edge insert_new cut_off cut_corner triangulate_face triangulate petal petals fan singles split_face swap_ccw swap_cw partner loop around is_v is_e is_h is_f put lay over each range round only has distinct first all number_of sum split_edges from_old pairs catmull_face catmull_pass corners loop_face loop_pass rim_of rim_side rim_face centre_face sqrt_face swap_inner sqrt_pass zero_p add_p scale_p over_p flat plus heads face_point catmull_edge catmull_rim catmull_inner catmull_vertex catmull_points inner on_rim loop_edge_point loop_vertex loop_points sqrt_vertex sqrt_answer answers sqrt_points cc_edge middle cc_inner loop_edge loop_rim weighted sqrt_rim sqrt_pair crowded two_rims catmull loop_scheme sqrt3 sizes fits fits_with used links_of marks_of points_of clean filled wiped counts_of tally_of counted triangulated catmull_tally loop_tally sqrt_tally dec row
edits-197 = refl

edits-140 :
    edit (split_edge_edit 3 4) (own 5 3 1 ((1 ∷ 2 ∷ 4 ∷ NONE ∷ NONE ∷ []) ++ replicate 2 7) ((0 ∷ 0 ∷ 3 ∷ 5 ∷ NONE ∷ 2 ∷ 4 ∷ 2 ∷ NONE ∷ 0 ∷ 1 ∷ 4 ∷ 0 ∷ 1 ∷ 5 ∷ 0 ∷ NONE ∷ 1 ∷ 2 ∷ 1 ∷ 0 ∷ 2 ∷ 0 ∷ 3 ∷ []) ++ replicate 16 7) ((5 ∷ []) ++ replicate 1 7) ((0 ∷ 0 ∷ 0 ∷ 0 ∷ 0 ∷ []) ++ replicate 2 7) ((0 ∷ 0 ∷ 0 ∷ []) ++ replicate 2 7) ((0 ∷ []) ++ replicate 1 7)) ≡
    gives (Ok (record { v = 5; e = 4; f = 1 }, 6)) (own 5 4 1 ((1 ∷ 2 ∷ 4 ∷ NONE ∷ 7 ∷ []) ++ replicate 2 7) ((0 ∷ 0 ∷ 6 ∷ 5 ∷ NONE ∷ 2 ∷ 4 ∷ 7 ∷ NONE ∷ 4 ∷ 7 ∷ 4 ∷ 0 ∷ 1 ∷ 5 ∷ 6 ∷ NONE ∷ 1 ∷ 2 ∷ 1 ∷ 0 ∷ 2 ∷ 0 ∷ 3 ∷ 0 ∷ 4 ∷ 3 ∷ 0 ∷ NONE ∷ 0 ∷ 1 ∷ 2 ∷ []) ++ replicate 8 7) ((5 ∷ []) ++ replicate 1 7) ((0 ∷ 0 ∷ 0 ∷ 0 ∷ 0 ∷ []) ++ replicate 2 7) ((0 ∷ 0 ∷ 0 ∷ 0 ∷ []) ++ replicate 1 7) ((0 ∷ []) ++ replicate 1 7))
unfolding of_int of_bits add sub mul div Ieee.round said_checked said_subdivided said_edited links points tally turned heavy begin final work_needed enough unwanted overweight refusal last_links last_flag last_points last_marks subdivided left_after ended call then onward every c1_vertex c1_halfedge c1_face c2 c3 c4 c5 c6 c7 c8 c9 fault set_mark marked unmarked_new written edit_ended edit_refusal edit split_edge_edit split_face_edit insert_edge_edit swap_denied swap_ccw_edit swap_cw_edit triangulate_all split_edge joined paint across_face across_hole insert_edge insert_new cut_off cut_corner triangulate_face triangulate petal petals fan singles split_face swap_ccw swap_cw partner loop around is_v is_e is_h is_f put lay over each range round only has distinct first all number_of sum split_edges from_old pairs catmull_face catmull_pass corners loop_face loop_pass rim_of rim_side rim_face centre_face sqrt_face swap_inner sqrt_pass zero_p add_p scale_p over_p flat plus heads face_point catmull_edge catmull_rim catmull_inner catmull_vertex catmull_points inner on_rim loop_edge_point loop_vertex loop_points sqrt_vertex sqrt_answer answers sqrt_points cc_edge middle cc_inner loop_edge loop_rim weighted sqrt_rim sqrt_pair crowded two_rims catmull loop_scheme sqrt3 sizes fits fits_with used links_of marks_of points_of clean filled wiped counts_of tally_of counted triangulated catmull_tally loop_tally sqrt_tally dec row
edits-140 = refl

edits-212 :
    edit (insert_edge_edit 4 3 NONE) (own 3 3 1 ((4 ∷ 3 ∷ 0 ∷ []) ++ replicate 2 7) ((NONE ∷ 1 ∷ 3 ∷ 4 ∷ 0 ∷ 2 ∷ 5 ∷ 2 ∷ 0 ∷ 1 ∷ 1 ∷ 5 ∷ NONE ∷ 0 ∷ 4 ∷ 0 ∷ NONE ∷ 2 ∷ 0 ∷ 3 ∷ 0 ∷ 0 ∷ 2 ∷ 1 ∷ []) ++ replicate 16 7) ((1 ∷ []) ++ replicate 2 7) ((0 ∷ 0 ∷ 0 ∷ []) ++ replicate 2 7) ((0 ∷ 0 ∷ 0 ∷ []) ++ replicate 2 7) ((0 ∷ []) ++ replicate 2 7)) ≡
    gives (Ok (record { v = 3; e = 4; f = 2 }, 3)) (own 3 4 2 ((4 ∷ 7 ∷ 0 ∷ []) ++ replicate 2 7) ((NONE ∷ 1 ∷ 7 ∷ 7 ∷ 0 ∷ 2 ∷ 5 ∷ 2 ∷ 0 ∷ 1 ∷ 1 ∷ 5 ∷ 1 ∷ 0 ∷ 4 ∷ 6 ∷ 1 ∷ 2 ∷ 6 ∷ 3 ∷ 0 ∷ 0 ∷ 2 ∷ 1 ∷ 1 ∷ 1 ∷ 3 ∷ 4 ∷ NONE ∷ 2 ∷ 0 ∷ 0 ∷ []) ++ replicate 8 7) ((1 ∷ 6 ∷ []) ++ replicate 1 7) ((0 ∷ 0 ∷ 0 ∷ []) ++ replicate 2 7) ((0 ∷ 0 ∷ 0 ∷ 0 ∷ []) ++ replicate 1 7) ((0 ∷ 0 ∷ []) ++ replicate 1 7))
unfolding of_int of_bits add sub mul div Ieee.round said_checked said_subdivided said_edited links points tally turned heavy begin final work_needed enough unwanted overweight refusal last_links last_flag last_points last_marks subdivided left_after ended call then onward every c1_vertex c1_halfedge c1_face c2 c3 c4 c5 c6 c7 c8 c9 fault set_mark marked unmarked_new written edit_ended edit_refusal edit split_edge_edit split_face_edit insert_edge_edit swap_denied swap_ccw_edit swap_cw_edit triangulate_all split_edge joined paint across_face across_hole insert_edge insert_new cut_off cut_corner triangulate_face triangulate petal petals fan singles split_face swap_ccw swap_cw partner loop around is_v is_e is_h is_f put lay over each range round only has distinct first all number_of sum split_edges from_old pairs catmull_face catmull_pass corners loop_face loop_pass rim_of rim_side rim_face centre_face sqrt_face swap_inner sqrt_pass zero_p add_p scale_p over_p flat plus heads face_point catmull_edge catmull_rim catmull_inner catmull_vertex catmull_points inner on_rim loop_edge_point loop_vertex loop_points sqrt_vertex sqrt_answer answers sqrt_points cc_edge middle cc_inner loop_edge loop_rim weighted sqrt_rim sqrt_pair crowded two_rims catmull loop_scheme sqrt3 sizes fits fits_with used links_of marks_of points_of clean filled wiped counts_of tally_of counted triangulated catmull_tally loop_tally sqrt_tally dec row
edits-212 = refl

edits-41 :
    edit (insert_edge_edit 4 2 NONE) (own 4 4 2 ((1 ∷ 5 ∷ 3 ∷ 0 ∷ []) ++ replicate 2 7) ((1 ∷ 0 ∷ 7 ∷ 5 ∷ 0 ∷ 3 ∷ 4 ∷ 6 ∷ 0 ∷ 2 ∷ 6 ∷ 4 ∷ 1 ∷ 1 ∷ 5 ∷ 7 ∷ 0 ∷ 1 ∷ 2 ∷ 1 ∷ 1 ∷ 3 ∷ 0 ∷ 3 ∷ 0 ∷ 0 ∷ 1 ∷ 2 ∷ 1 ∷ 2 ∷ 3 ∷ 0 ∷ []) ++ replicate 8 7) ((1 ∷ 0 ∷ []) ++ replicate 1 7) ((0 ∷ 0 ∷ 0 ∷ 0 ∷ []) ++ replicate 2 7) ((0 ∷ 0 ∷ 0 ∷ 0 ∷ []) ++ replicate 1 7) ((0 ∷ 0 ∷ []) ++ replicate 1 7)) ≡
    gives (Err (CannotInsertEdge)) (own 4 4 2 ((1 ∷ 5 ∷ 3 ∷ 0 ∷ []) ++ replicate 2 7) ((1 ∷ 0 ∷ 7 ∷ 5 ∷ 0 ∷ 3 ∷ 4 ∷ 6 ∷ 0 ∷ 2 ∷ 6 ∷ 4 ∷ 1 ∷ 1 ∷ 5 ∷ 7 ∷ 0 ∷ 1 ∷ 2 ∷ 1 ∷ 1 ∷ 3 ∷ 0 ∷ 3 ∷ 0 ∷ 0 ∷ 1 ∷ 2 ∷ 1 ∷ 2 ∷ 3 ∷ 0 ∷ []) ++ replicate 8 7) ((1 ∷ 0 ∷ []) ++ replicate 1 7) ((0 ∷ 0 ∷ 0 ∷ 0 ∷ []) ++ replicate 2 7) ((0 ∷ 0 ∷ 0 ∷ 0 ∷ []) ++ replicate 1 7) ((0 ∷ 0 ∷ []) ++ replicate 1 7))
unfolding of_int of_bits add sub mul div Ieee.round said_checked said_subdivided said_edited links points tally turned heavy begin final work_needed enough unwanted overweight refusal last_links last_flag last_points last_marks subdivided left_after ended call then onward every c1_vertex c1_halfedge c1_face c2 c3 c4 c5 c6 c7 c8 c9 fault set_mark marked unmarked_new written edit_ended edit_refusal edit split_edge_edit split_face_edit insert_edge_edit swap_denied swap_ccw_edit swap_cw_edit triangulate_all split_edge joined paint across_face across_hole insert_edge insert_new cut_off cut_corner triangulate_face triangulate petal petals fan singles split_face swap_ccw swap_cw partner loop around is_v is_e is_h is_f put lay over each range round only has distinct first all number_of sum split_edges from_old pairs catmull_face catmull_pass corners loop_face loop_pass rim_of rim_side rim_face centre_face sqrt_face swap_inner sqrt_pass zero_p add_p scale_p over_p flat plus heads face_point catmull_edge catmull_rim catmull_inner catmull_vertex catmull_points inner on_rim loop_edge_point loop_vertex loop_points sqrt_vertex sqrt_answer answers sqrt_points cc_edge middle cc_inner loop_edge loop_rim weighted sqrt_rim sqrt_pair crowded two_rims catmull loop_scheme sqrt3 sizes fits fits_with used links_of marks_of points_of clean filled wiped counts_of tally_of counted triangulated catmull_tally loop_tally sqrt_tally dec row
edits-41 = refl

edits-92 :
    edit (insert_edge_edit 5 1 NONE) (own 4 4 1 ((3 ∷ 6 ∷ 0 ∷ 4 ∷ []) ++ replicate 2 7) ((NONE ∷ 0 ∷ 3 ∷ 6 ∷ 0 ∷ 2 ∷ 7 ∷ 2 ∷ 0 ∷ 0 ∷ 1 ∷ 5 ∷ NONE ∷ 3 ∷ 4 ∷ 0 ∷ NONE ∷ 1 ∷ 6 ∷ 3 ∷ 0 ∷ 3 ∷ 2 ∷ 7 ∷ NONE ∷ 2 ∷ 0 ∷ 4 ∷ 0 ∷ 1 ∷ 5 ∷ 1 ∷ []) ++ replicate 8 7) ((2 ∷ []) ++ replicate 1 7) ((0 ∷ 0 ∷ 0 ∷ 0 ∷ []) ++ replicate 2 7) ((0 ∷ 0 ∷ 0 ∷ 0 ∷ []) ++ replicate 1 7) ((0 ∷ []) ++ replicate 1 7)) ≡
    gives (Err (WouldBreak)) (own 4 4 1 ((3 ∷ 6 ∷ 0 ∷ 4 ∷ []) ++ replicate 2 7) ((NONE ∷ 0 ∷ 3 ∷ 6 ∷ 0 ∷ 2 ∷ 7 ∷ 2 ∷ 0 ∷ 0 ∷ 1 ∷ 5 ∷ NONE ∷ 3 ∷ 4 ∷ 0 ∷ NONE ∷ 1 ∷ 6 ∷ 3 ∷ 0 ∷ 3 ∷ 2 ∷ 7 ∷ NONE ∷ 2 ∷ 0 ∷ 4 ∷ 0 ∷ 1 ∷ 5 ∷ 1 ∷ []) ++ replicate 8 7) ((2 ∷ []) ++ replicate 1 7) ((0 ∷ 0 ∷ 0 ∷ 0 ∷ []) ++ replicate 2 7) ((0 ∷ 0 ∷ 0 ∷ 0 ∷ []) ++ replicate 1 7) ((0 ∷ []) ++ replicate 1 7))
unfolding of_int of_bits add sub mul div Ieee.round said_checked said_subdivided said_edited links points tally turned heavy begin final work_needed enough unwanted overweight refusal last_links last_flag last_points last_marks subdivided left_after ended call then onward every c1_vertex c1_halfedge c1_face c2 c3 c4 c5 c6 c7 c8 c9 fault set_mark marked unmarked_new written edit_ended edit_refusal edit split_edge_edit split_face_edit insert_edge_edit swap_denied swap_ccw_edit swap_cw_edit triangulate_all split_edge joined paint across_face across_hole insert_edge insert_new cut_off cut_corner triangulate_face triangulate petal petals fan singles split_face swap_ccw swap_cw partner loop around is_v is_e is_h is_f put lay over each range round only has distinct first all number_of sum split_edges from_old pairs catmull_face catmull_pass corners loop_face loop_pass rim_of rim_side rim_face centre_face sqrt_face swap_inner sqrt_pass zero_p add_p scale_p over_p flat plus heads face_point catmull_edge catmull_rim catmull_inner catmull_vertex catmull_points inner on_rim loop_edge_point loop_vertex loop_points sqrt_vertex sqrt_answer answers sqrt_points cc_edge middle cc_inner loop_edge loop_rim weighted sqrt_rim sqrt_pair crowded two_rims catmull loop_scheme sqrt3 sizes fits fits_with used links_of marks_of points_of clean filled wiped counts_of tally_of counted triangulated catmull_tally loop_tally sqrt_tally dec row
edits-92 = refl

edits-260 :
    edit (insert_edge_edit 3 4 0) (own 4 4 2 ((7 ∷ 3 ∷ 1 ∷ 0 ∷ []) ++ replicate 2 7) ((0 ∷ 2 ∷ 6 ∷ 5 ∷ 1 ∷ 3 ∷ 4 ∷ 7 ∷ 0 ∷ 1 ∷ 5 ∷ 6 ∷ 1 ∷ 0 ∷ 7 ∷ 4 ∷ 1 ∷ 1 ∷ 3 ∷ 1 ∷ 0 ∷ 3 ∷ 0 ∷ 2 ∷ 0 ∷ 0 ∷ 2 ∷ 0 ∷ 1 ∷ 2 ∷ 1 ∷ 3 ∷ []) ++ replicate 8 7) ((0 ∷ 1 ∷ []) ++ replicate 1 7) ((0 ∷ 0 ∷ 0 ∷ 0 ∷ []) ++ replicate 2 7) ((0 ∷ 0 ∷ 0 ∷ 0 ∷ []) ++ replicate 1 7) ((0 ∷ 0 ∷ []) ++ replicate 1 7)) ≡
    gives (Err (NotDeletedFace)) (own 4 4 2 ((7 ∷ 3 ∷ 1 ∷ 0 ∷ []) ++ replicate 2 7) ((0 ∷ 2 ∷ 6 ∷ 5 ∷ 1 ∷ 3 ∷ 4 ∷ 7 ∷ 0 ∷ 1 ∷ 5 ∷ 6 ∷ 1 ∷ 0 ∷ 7 ∷ 4 ∷ 1 ∷ 1 ∷ 3 ∷ 1 ∷ 0 ∷ 3 ∷ 0 ∷ 2 ∷ 0 ∷ 0 ∷ 2 ∷ 0 ∷ 1 ∷ 2 ∷ 1 ∷ 3 ∷ []) ++ replicate 8 7) ((0 ∷ 1 ∷ []) ++ replicate 1 7) ((0 ∷ 0 ∷ 0 ∷ 0 ∷ []) ++ replicate 2 7) ((0 ∷ 0 ∷ 0 ∷ 0 ∷ []) ++ replicate 1 7) ((0 ∷ 0 ∷ []) ++ replicate 1 7))
unfolding of_int of_bits add sub mul div Ieee.round said_checked said_subdivided said_edited links points tally turned heavy begin final work_needed enough unwanted overweight refusal last_links last_flag last_points last_marks subdivided left_after ended call then onward every c1_vertex c1_halfedge c1_face c2 c3 c4 c5 c6 c7 c8 c9 fault set_mark marked unmarked_new written edit_ended edit_refusal edit split_edge_edit split_face_edit insert_edge_edit swap_denied swap_ccw_edit swap_cw_edit triangulate_all split_edge joined paint across_face across_hole insert_edge insert_new cut_off cut_corner triangulate_face triangulate petal petals fan singles split_face swap_ccw swap_cw partner loop around is_v is_e is_h is_f put lay over each range round only has distinct first all number_of sum split_edges from_old pairs catmull_face catmull_pass corners loop_face loop_pass rim_of rim_side rim_face centre_face sqrt_face swap_inner sqrt_pass zero_p add_p scale_p over_p flat plus heads face_point catmull_edge catmull_rim catmull_inner catmull_vertex catmull_points inner on_rim loop_edge_point loop_vertex loop_points sqrt_vertex sqrt_answer answers sqrt_points cc_edge middle cc_inner loop_edge loop_rim weighted sqrt_rim sqrt_pair crowded two_rims catmull loop_scheme sqrt3 sizes fits fits_with used links_of marks_of points_of clean filled wiped counts_of tally_of counted triangulated catmull_tally loop_tally sqrt_tally dec row
edits-260 = refl

edits-184 :
    edit (insert_edge_edit 6 1 NONE) (own 4 4 2 ((1 ∷ 7 ∷ 4 ∷ 6 ∷ []) ++ replicate 2 7) ((0 ∷ 0 ∷ 3 ∷ 7 ∷ 1 ∷ 3 ∷ 6 ∷ 2 ∷ 1 ∷ 0 ∷ 1 ∷ 5 ∷ 0 ∷ 2 ∷ 4 ∷ 0 ∷ 0 ∷ 1 ∷ 7 ∷ 3 ∷ 1 ∷ 2 ∷ 2 ∷ 6 ∷ 1 ∷ 1 ∷ 5 ∷ 1 ∷ 0 ∷ 3 ∷ 0 ∷ 4 ∷ []) ++ replicate 16 7) ((4 ∷ 1 ∷ []) ++ replicate 2 7) ((0 ∷ 0 ∷ 0 ∷ 0 ∷ []) ++ replicate 2 7) ((0 ∷ 0 ∷ 0 ∷ 0 ∷ []) ++ replicate 2 7) ((0 ∷ 0 ∷ []) ++ replicate 2 7)) ≡
    gives (Ok (record { v = 4; e = 5; f = 3 }, 4)) (own 4 5 3 ((1 ∷ 7 ∷ 4 ∷ 6 ∷ []) ++ replicate 2 7) ((0 ∷ 0 ∷ 3 ∷ 7 ∷ 1 ∷ 3 ∷ 6 ∷ 8 ∷ 2 ∷ 0 ∷ 9 ∷ 5 ∷ 0 ∷ 2 ∷ 4 ∷ 0 ∷ 0 ∷ 1 ∷ 7 ∷ 3 ∷ 2 ∷ 2 ∷ 2 ∷ 9 ∷ 1 ∷ 1 ∷ 8 ∷ 1 ∷ 0 ∷ 3 ∷ 0 ∷ 4 ∷ 1 ∷ 0 ∷ 1 ∷ 6 ∷ 2 ∷ 1 ∷ 5 ∷ 2 ∷ []) ++ replicate 8 7) ((4 ∷ 1 ∷ 9 ∷ []) ++ replicate 1 7) ((0 ∷ 0 ∷ 0 ∷ 0 ∷ []) ++ replicate 2 7) ((0 ∷ 0 ∷ 0 ∷ 0 ∷ 0 ∷ []) ++ replicate 1 7) ((0 ∷ 0 ∷ 0 ∷ []) ++ replicate 1 7))
unfolding of_int of_bits add sub mul div Ieee.round said_checked said_subdivided said_edited links points tally turned heavy begin final work_needed enough unwanted overweight refusal last_links last_flag last_points last_marks subdivided left_after ended call then onward every c1_vertex c1_halfedge c1_face c2 c3 c4 c5 c6 c7 c8 c9 fault set_mark marked unmarked_new written edit_ended edit_refusal edit split_edge_edit split_face_edit insert_edge_edit swap_denied swap_ccw_edit swap_cw_edit triangulate_all split_edge joined paint across_face across_hole insert_edge insert_new cut_off cut_corner triangulate_face triangulate petal petals fan singles split_face swap_ccw swap_cw partner loop around is_v is_e is_h is_f put lay over each range round only has distinct first all number_of sum split_edges from_old pairs catmull_face catmull_pass corners loop_face loop_pass rim_of rim_side rim_face centre_face sqrt_face swap_inner sqrt_pass zero_p add_p scale_p over_p flat plus heads face_point catmull_edge catmull_rim catmull_inner catmull_vertex catmull_points inner on_rim loop_edge_point loop_vertex loop_points sqrt_vertex sqrt_answer answers sqrt_points cc_edge middle cc_inner loop_edge loop_rim weighted sqrt_rim sqrt_pair crowded two_rims catmull loop_scheme sqrt3 sizes fits fits_with used links_of marks_of points_of clean filled wiped counts_of tally_of counted triangulated catmull_tally loop_tally sqrt_tally dec row
edits-184 = refl

edits-291 :
    edit (insert_edge_edit 1 3 1) (own 5 4 4 ((4 ∷ 5 ∷ NONE ∷ 7 ∷ 1 ∷ []) ++ replicate 2 7) ((2 ∷ 4 ∷ 2 ∷ 6 ∷ 0 ∷ 3 ∷ 7 ∷ 3 ∷ 2 ∷ 1 ∷ 5 ∷ 0 ∷ 0 ∷ 4 ∷ 1 ∷ 4 ∷ 0 ∷ 1 ∷ 3 ∷ 7 ∷ 2 ∷ 0 ∷ 6 ∷ 2 ∷ 2 ∷ 3 ∷ 0 ∷ 5 ∷ 0 ∷ 0 ∷ 4 ∷ 1 ∷ []) ++ replicate 16 7) ((1 ∷ 4 ∷ 5 ∷ 31 ∷ []) ++ replicate 1 7) ((0 ∷ 0 ∷ 1 ∷ 0 ∷ 0 ∷ []) ++ replicate 2 7) ((0 ∷ 0 ∷ 0 ∷ 0 ∷ []) ++ replicate 2 7) ((0 ∷ 1 ∷ 0 ∷ 1 ∷ []) ++ replicate 1 7)) ≡
    gives (Ok (record { v = 5; e = 5; f = 4 }, 4)) (own 5 5 4 ((4 ∷ 5 ∷ NONE ∷ 7 ∷ 1 ∷ []) ++ replicate 2 7) ((2 ∷ 4 ∷ 2 ∷ 6 ∷ 0 ∷ 3 ∷ 8 ∷ 3 ∷ 2 ∷ 1 ∷ 5 ∷ 0 ∷ 0 ∷ 4 ∷ 1 ∷ 8 ∷ 1 ∷ 1 ∷ 9 ∷ 7 ∷ 2 ∷ 0 ∷ 6 ∷ 2 ∷ 2 ∷ 3 ∷ 0 ∷ 5 ∷ 1 ∷ 0 ∷ 4 ∷ 9 ∷ 0 ∷ 1 ∷ 3 ∷ 1 ∷ 1 ∷ 3 ∷ 7 ∷ 4 ∷ []) ++ replicate 8 7) ((1 ∷ 9 ∷ 5 ∷ 31 ∷ []) ++ replicate 1 7) ((0 ∷ 0 ∷ 1 ∷ 0 ∷ 0 ∷ []) ++ replicate 2 7) ((0 ∷ 0 ∷ 0 ∷ 0 ∷ 0 ∷ []) ++ replicate 1 7) ((0 ∷ 0 ∷ 0 ∷ 1 ∷ []) ++ replicate 1 7))
unfolding of_int of_bits add sub mul div Ieee.round said_checked said_subdivided said_edited links points tally turned heavy begin final work_needed enough unwanted overweight refusal last_links last_flag last_points last_marks subdivided left_after ended call then onward every c1_vertex c1_halfedge c1_face c2 c3 c4 c5 c6 c7 c8 c9 fault set_mark marked unmarked_new written edit_ended edit_refusal edit split_edge_edit split_face_edit insert_edge_edit swap_denied swap_ccw_edit swap_cw_edit triangulate_all split_edge joined paint across_face across_hole insert_edge insert_new cut_off cut_corner triangulate_face triangulate petal petals fan singles split_face swap_ccw swap_cw partner loop around is_v is_e is_h is_f put lay over each range round only has distinct first all number_of sum split_edges from_old pairs catmull_face catmull_pass corners loop_face loop_pass rim_of rim_side rim_face centre_face sqrt_face swap_inner sqrt_pass zero_p add_p scale_p over_p flat plus heads face_point catmull_edge catmull_rim catmull_inner catmull_vertex catmull_points inner on_rim loop_edge_point loop_vertex loop_points sqrt_vertex sqrt_answer answers sqrt_points cc_edge middle cc_inner loop_edge loop_rim weighted sqrt_rim sqrt_pair crowded two_rims catmull loop_scheme sqrt3 sizes fits fits_with used links_of marks_of points_of clean filled wiped counts_of tally_of counted triangulated catmull_tally loop_tally sqrt_tally dec row
edits-291 = refl

edits-23 :
    edit (swap_cw_edit 1) (own 5 5 2 ((1 ∷ 6 ∷ 4 ∷ 2 ∷ 5 ∷ []) ++ replicate 2 7) ((0 ∷ 0 ∷ 9 ∷ 5 ∷ 1 ∷ 2 ∷ 4 ∷ 8 ∷ 0 ∷ 1 ∷ 6 ∷ 9 ∷ 1 ∷ 3 ∷ 8 ∷ 7 ∷ 1 ∷ 4 ∷ 7 ∷ 1 ∷ 0 ∷ 2 ∷ 0 ∷ 6 ∷ 0 ∷ 4 ∷ 5 ∷ 2 ∷ 1 ∷ 1 ∷ 3 ∷ 4 ∷ 1 ∷ 0 ∷ 1 ∷ 3 ∷ 0 ∷ 3 ∷ 2 ∷ 0 ∷ []) ++ replicate 8 7) ((6 ∷ 3 ∷ []) ++ replicate 1 7) ((0 ∷ 0 ∷ 0 ∷ 0 ∷ 0 ∷ []) ++ replicate 2 7) ((0 ∷ 0 ∷ 0 ∷ 0 ∷ 0 ∷ []) ++ replicate 1 7) ((0 ∷ 0 ∷ []) ++ replicate 1 7)) ≡
    gives (Err (WouldBreak)) (own 5 5 2 ((1 ∷ 6 ∷ 4 ∷ 2 ∷ 5 ∷ []) ++ replicate 2 7) ((0 ∷ 0 ∷ 9 ∷ 5 ∷ 1 ∷ 2 ∷ 4 ∷ 8 ∷ 0 ∷ 1 ∷ 6 ∷ 9 ∷ 1 ∷ 3 ∷ 8 ∷ 7 ∷ 1 ∷ 4 ∷ 7 ∷ 1 ∷ 0 ∷ 2 ∷ 0 ∷ 6 ∷ 0 ∷ 4 ∷ 5 ∷ 2 ∷ 1 ∷ 1 ∷ 3 ∷ 4 ∷ 1 ∷ 0 ∷ 1 ∷ 3 ∷ 0 ∷ 3 ∷ 2 ∷ 0 ∷ []) ++ replicate 8 7) ((6 ∷ 3 ∷ []) ++ replicate 1 7) ((0 ∷ 0 ∷ 0 ∷ 0 ∷ 0 ∷ []) ++ replicate 2 7) ((0 ∷ 0 ∷ 0 ∷ 0 ∷ 0 ∷ []) ++ replicate 1 7) ((0 ∷ 0 ∷ []) ++ replicate 1 7))
unfolding of_int of_bits add sub mul div Ieee.round said_checked said_subdivided said_edited links points tally turned heavy begin final work_needed enough unwanted overweight refusal last_links last_flag last_points last_marks subdivided left_after ended call then onward every c1_vertex c1_halfedge c1_face c2 c3 c4 c5 c6 c7 c8 c9 fault set_mark marked unmarked_new written edit_ended edit_refusal edit split_edge_edit split_face_edit insert_edge_edit swap_denied swap_ccw_edit swap_cw_edit triangulate_all split_edge joined paint across_face across_hole insert_edge insert_new cut_off cut_corner triangulate_face triangulate petal petals fan singles split_face swap_ccw swap_cw partner loop around is_v is_e is_h is_f put lay over each range round only has distinct first all number_of sum split_edges from_old pairs catmull_face catmull_pass corners loop_face loop_pass rim_of rim_side rim_face centre_face sqrt_face swap_inner sqrt_pass zero_p add_p scale_p over_p flat plus heads face_point catmull_edge catmull_rim catmull_inner catmull_vertex catmull_points inner on_rim loop_edge_point loop_vertex loop_points sqrt_vertex sqrt_answer answers sqrt_points cc_edge middle cc_inner loop_edge loop_rim weighted sqrt_rim sqrt_pair crowded two_rims catmull loop_scheme sqrt3 sizes fits fits_with used links_of marks_of points_of clean filled wiped counts_of tally_of counted triangulated catmull_tally loop_tally sqrt_tally dec row
edits-23 = refl

edits-104 :
    edit (insert_edge_edit 2 4 NONE) (own 4 5 1 ((0 ∷ NONE ∷ 2 ∷ 6 ∷ []) ++ replicate 2 7) ((NONE ∷ 2 ∷ 2 ∷ 6 ∷ 0 ∷ 0 ∷ 7 ∷ 3 ∷ NONE ∷ 3 ∷ 6 ∷ 0 ∷ 0 ∷ 2 ∷ 1 ∷ 7 ∷ 0 ∷ 1540040650 ∷ 29 ∷ 0 ∷ NONE ∷ 0 ∷ 26 ∷ 0 ∷ NONE ∷ 0 ∷ 0 ∷ 2 ∷ 0 ∷ 3 ∷ 3 ∷ 1 ∷ 9 ∷ 0 ∷ 0 ∷ 0 ∷ 0 ∷ 3594796084 ∷ NONE ∷ 0 ∷ []) ++ replicate 8 7) ((1 ∷ []) ++ replicate 1 7) ((0 ∷ 0 ∷ 0 ∷ 0 ∷ []) ++ replicate 2 7) ((0 ∷ 0 ∷ 1 ∷ 0 ∷ 1 ∷ []) ++ replicate 1 7) ((0 ∷ []) ++ replicate 1 7)) ≡
    gives (Err (BadHandle)) (own 4 5 1 ((0 ∷ NONE ∷ 2 ∷ 6 ∷ []) ++ replicate 2 7) ((NONE ∷ 2 ∷ 2 ∷ 6 ∷ 0 ∷ 0 ∷ 7 ∷ 3 ∷ NONE ∷ 3 ∷ 6 ∷ 0 ∷ 0 ∷ 2 ∷ 1 ∷ 7 ∷ 0 ∷ 1540040650 ∷ 29 ∷ 0 ∷ NONE ∷ 0 ∷ 26 ∷ 0 ∷ NONE ∷ 0 ∷ 0 ∷ 2 ∷ 0 ∷ 3 ∷ 3 ∷ 1 ∷ 9 ∷ 0 ∷ 0 ∷ 0 ∷ 0 ∷ 3594796084 ∷ NONE ∷ 0 ∷ []) ++ replicate 8 7) ((1 ∷ []) ++ replicate 1 7) ((0 ∷ 0 ∷ 0 ∷ 0 ∷ []) ++ replicate 2 7) ((0 ∷ 0 ∷ 1 ∷ 0 ∷ 1 ∷ []) ++ replicate 1 7) ((0 ∷ []) ++ replicate 1 7))
unfolding of_int of_bits add sub mul div Ieee.round said_checked said_subdivided said_edited links points tally turned heavy begin final work_needed enough unwanted overweight refusal last_links last_flag last_points last_marks subdivided left_after ended call then onward every c1_vertex c1_halfedge c1_face c2 c3 c4 c5 c6 c7 c8 c9 fault set_mark marked unmarked_new written edit_ended edit_refusal edit split_edge_edit split_face_edit insert_edge_edit swap_denied swap_ccw_edit swap_cw_edit triangulate_all split_edge joined paint across_face across_hole insert_edge insert_new cut_off cut_corner triangulate_face triangulate petal petals fan singles split_face swap_ccw swap_cw partner loop around is_v is_e is_h is_f put lay over each range round only has distinct first all number_of sum split_edges from_old pairs catmull_face catmull_pass corners loop_face loop_pass rim_of rim_side rim_face centre_face sqrt_face swap_inner sqrt_pass zero_p add_p scale_p over_p flat plus heads face_point catmull_edge catmull_rim catmull_inner catmull_vertex catmull_points inner on_rim loop_edge_point loop_vertex loop_points sqrt_vertex sqrt_answer answers sqrt_points cc_edge middle cc_inner loop_edge loop_rim weighted sqrt_rim sqrt_pair crowded two_rims catmull loop_scheme sqrt3 sizes fits fits_with used links_of marks_of points_of clean filled wiped counts_of tally_of counted triangulated catmull_tally loop_tally sqrt_tally dec row
edits-104 = refl

edits-121 :
    edit (triangulate_all) (own 4 5 3 ((3 ∷ 7 ∷ 9 ∷ 90733342 ∷ []) ++ replicate 2 7) ((396407170 ∷ 4 ∷ 1873995243 ∷ NONE ∷ 105929110 ∷ 1349304428 ∷ NONE ∷ NONE ∷ 0 ∷ 0 ∷ 6 ∷ 8 ∷ NONE ∷ 2 ∷ 9 ∷ 7 ∷ 1676307100 ∷ 35 ∷ NONE ∷ NONE ∷ 1874151779 ∷ 0 ∷ 23 ∷ 0 ∷ 0 ∷ 1 ∷ 8 ∷ 2 ∷ NONE ∷ 0 ∷ 3 ∷ 9 ∷ 0 ∷ 2 ∷ 2 ∷ 6 ∷ NONE ∷ 1 ∷ 7 ∷ 3 ∷ []) ++ replicate 8 7) ((8 ∷ 17 ∷ 25 ∷ []) ++ replicate 1 7) ((0 ∷ 0 ∷ 0 ∷ 1 ∷ []) ++ replicate 2 7) ((1 ∷ 0 ∷ 1 ∷ 0 ∷ 0 ∷ []) ++ replicate 1 7) ((0 ∷ 1 ∷ 1 ∷ []) ++ replicate 1 7)) ≡
    gives (Err (MarkedDeleted (AtFace 1))) (own 4 5 3 ((3 ∷ 7 ∷ 9 ∷ 90733342 ∷ []) ++ replicate 2 7) ((396407170 ∷ 4 ∷ 1873995243 ∷ NONE ∷ 105929110 ∷ 1349304428 ∷ NONE ∷ NONE ∷ 0 ∷ 0 ∷ 6 ∷ 8 ∷ NONE ∷ 2 ∷ 9 ∷ 7 ∷ 1676307100 ∷ 35 ∷ NONE ∷ NONE ∷ 1874151779 ∷ 0 ∷ 23 ∷ 0 ∷ 0 ∷ 1 ∷ 8 ∷ 2 ∷ NONE ∷ 0 ∷ 3 ∷ 9 ∷ 0 ∷ 2 ∷ 2 ∷ 6 ∷ NONE ∷ 1 ∷ 7 ∷ 3 ∷ []) ++ replicate 8 7) ((8 ∷ 17 ∷ 25 ∷ []) ++ replicate 1 7) ((0 ∷ 0 ∷ 0 ∷ 1 ∷ []) ++ replicate 2 7) ((1 ∷ 0 ∷ 1 ∷ 0 ∷ 0 ∷ []) ++ replicate 1 7) ((0 ∷ 1 ∷ 1 ∷ []) ++ replicate 1 7))
unfolding of_int of_bits add sub mul div Ieee.round said_checked said_subdivided said_edited links points tally turned heavy begin final work_needed enough unwanted overweight refusal last_links last_flag last_points last_marks subdivided left_after ended call then onward every c1_vertex c1_halfedge c1_face c2 c3 c4 c5 c6 c7 c8 c9 fault set_mark marked unmarked_new written edit_ended edit_refusal edit split_edge_edit split_face_edit insert_edge_edit swap_denied swap_ccw_edit swap_cw_edit triangulate_all split_edge joined paint across_face across_hole insert_edge insert_new cut_off cut_corner triangulate_face triangulate petal petals fan singles split_face swap_ccw swap_cw partner loop around is_v is_e is_h is_f put lay over each range round only has distinct first all number_of sum split_edges from_old pairs catmull_face catmull_pass corners loop_face loop_pass rim_of rim_side rim_face centre_face sqrt_face swap_inner sqrt_pass zero_p add_p scale_p over_p flat plus heads face_point catmull_edge catmull_rim catmull_inner catmull_vertex catmull_points inner on_rim loop_edge_point loop_vertex loop_points sqrt_vertex sqrt_answer answers sqrt_points cc_edge middle cc_inner loop_edge loop_rim weighted sqrt_rim sqrt_pair crowded two_rims catmull loop_scheme sqrt3 sizes fits fits_with used links_of marks_of points_of clean filled wiped counts_of tally_of counted triangulated catmull_tally loop_tally sqrt_tally dec row
edits-121 = refl

edits-132 :
    edit (swap_ccw_edit 5) (own 5 5 5 ((0 ∷ 3997845362 ∷ 3 ∷ 7 ∷ 5 ∷ []) ++ replicate 2 7) ((NONE ∷ 2 ∷ 3 ∷ 7 ∷ 0 ∷ 0 ∷ 8 ∷ 2 ∷ 0 ∷ 2 ∷ 1 ∷ 5 ∷ NONE ∷ 3 ∷ 7 ∷ 0 ∷ 3 ∷ 4 ∷ 9 ∷ 6 ∷ 0 ∷ 3 ∷ 2 ∷ 8 ∷ 3 ∷ 3 ∷ 4 ∷ 9 ∷ NONE ∷ 0 ∷ 0 ∷ 3 ∷ 0 ∷ 4 ∷ 5 ∷ 1 ∷ 3 ∷ 0 ∷ 6 ∷ 4 ∷ []) ++ replicate 8 7) ((1 ∷ 21 ∷ 35 ∷ 6 ∷ 35 ∷ []) ++ replicate 1 7) ((0 ∷ 1 ∷ 0 ∷ 0 ∷ 0 ∷ []) ++ replicate 2 7) ((0 ∷ 0 ∷ 0 ∷ 0 ∷ 0 ∷ []) ++ replicate 1 7) ((0 ∷ 1 ∷ 1 ∷ 0 ∷ 1 ∷ []) ++ replicate 1 7)) ≡
    gives (Err (BadHandle)) (own 5 5 5 ((0 ∷ 3997845362 ∷ 3 ∷ 7 ∷ 5 ∷ []) ++ replicate 2 7) ((NONE ∷ 2 ∷ 3 ∷ 7 ∷ 0 ∷ 0 ∷ 8 ∷ 2 ∷ 0 ∷ 2 ∷ 1 ∷ 5 ∷ NONE ∷ 3 ∷ 7 ∷ 0 ∷ 3 ∷ 4 ∷ 9 ∷ 6 ∷ 0 ∷ 3 ∷ 2 ∷ 8 ∷ 3 ∷ 3 ∷ 4 ∷ 9 ∷ NONE ∷ 0 ∷ 0 ∷ 3 ∷ 0 ∷ 4 ∷ 5 ∷ 1 ∷ 3 ∷ 0 ∷ 6 ∷ 4 ∷ []) ++ replicate 8 7) ((1 ∷ 21 ∷ 35 ∷ 6 ∷ 35 ∷ []) ++ replicate 1 7) ((0 ∷ 1 ∷ 0 ∷ 0 ∷ 0 ∷ []) ++ replicate 2 7) ((0 ∷ 0 ∷ 0 ∷ 0 ∷ 0 ∷ []) ++ replicate 1 7) ((0 ∷ 1 ∷ 1 ∷ 0 ∷ 1 ∷ []) ++ replicate 1 7))
unfolding of_int of_bits add sub mul div Ieee.round said_checked said_subdivided said_edited links points tally turned heavy begin final work_needed enough unwanted overweight refusal last_links last_flag last_points last_marks subdivided left_after ended call then onward every c1_vertex c1_halfedge c1_face c2 c3 c4 c5 c6 c7 c8 c9 fault set_mark marked unmarked_new written edit_ended edit_refusal edit split_edge_edit split_face_edit insert_edge_edit swap_denied swap_ccw_edit swap_cw_edit triangulate_all split_edge joined paint across_face across_hole insert_edge insert_new cut_off cut_corner triangulate_face triangulate petal petals fan singles split_face swap_ccw swap_cw partner loop around is_v is_e is_h is_f put lay over each range round only has distinct first all number_of sum split_edges from_old pairs catmull_face catmull_pass corners loop_face loop_pass rim_of rim_side rim_face centre_face sqrt_face swap_inner sqrt_pass zero_p add_p scale_p over_p flat plus heads face_point catmull_edge catmull_rim catmull_inner catmull_vertex catmull_points inner on_rim loop_edge_point loop_vertex loop_points sqrt_vertex sqrt_answer answers sqrt_points cc_edge middle cc_inner loop_edge loop_rim weighted sqrt_rim sqrt_pair crowded two_rims catmull loop_scheme sqrt3 sizes fits fits_with used links_of marks_of points_of clean filled wiped counts_of tally_of counted triangulated catmull_tally loop_tally sqrt_tally dec row
edits-132 = refl

edits-273 :
    edit (insert_edge_edit 2 4 0) (own 5 5 4 ((1 ∷ 7 ∷ 8 ∷ 2 ∷ 4 ∷ []) ++ replicate 2 7) ((3 ∷ 0 ∷ 9 ∷ 5 ∷ NONE ∷ 4 ∷ 4 ∷ 8 ∷ NONE ∷ 2 ∷ 8 ∷ 7 ∷ 3 ∷ 3 ∷ 6 ∷ 9 ∷ NONE ∷ 1 ∷ 7 ∷ 1 ∷ 3 ∷ 4 ∷ 0 ∷ 6 ∷ 3 ∷ 1 ∷ 5 ∷ 3 ∷ NONE ∷ 3 ∷ 2 ∷ 4 ∷ NONE ∷ 0 ∷ 1 ∷ 2 ∷ 3 ∷ 2 ∷ 3 ∷ 0 ∷ []) ++ replicate 16 7) ((24 ∷ 16 ∷ 38 ∷ 6 ∷ []) ++ replicate 1 7) ((0 ∷ 0 ∷ 0 ∷ 0 ∷ 0 ∷ []) ++ replicate 2 7) ((0 ∷ 0 ∷ 0 ∷ 0 ∷ 0 ∷ []) ++ replicate 2 7) ((1 ∷ 1 ∷ 1 ∷ 0 ∷ []) ++ replicate 1 7)) ≡
    gives (Ok (record { v = 5; e = 6; f = 4 }, 5)) (own 5 6 4 ((1 ∷ 7 ∷ 8 ∷ 2 ∷ 11 ∷ []) ++ replicate 2 7) ((3 ∷ 0 ∷ 9 ∷ 5 ∷ NONE ∷ 4 ∷ 11 ∷ 8 ∷ 0 ∷ 2 ∷ 10 ∷ 7 ∷ 3 ∷ 3 ∷ 6 ∷ 9 ∷ 0 ∷ 1 ∷ 7 ∷ 10 ∷ 3 ∷ 4 ∷ 0 ∷ 6 ∷ 3 ∷ 1 ∷ 5 ∷ 3 ∷ 0 ∷ 3 ∷ 2 ∷ 4 ∷ NONE ∷ 0 ∷ 1 ∷ 11 ∷ 3 ∷ 2 ∷ 3 ∷ 0 ∷ 0 ∷ 4 ∷ 4 ∷ 2 ∷ NONE ∷ 2 ∷ 8 ∷ 1 ∷ []) ++ replicate 8 7) ((10 ∷ 16 ∷ 38 ∷ 6 ∷ []) ++ replicate 1 7) ((0 ∷ 0 ∷ 0 ∷ 0 ∷ 0 ∷ []) ++ replicate 2 7) ((0 ∷ 0 ∷ 0 ∷ 0 ∷ 0 ∷ 0 ∷ []) ++ replicate 1 7) ((0 ∷ 1 ∷ 1 ∷ 0 ∷ []) ++ replicate 1 7))
unfolding of_int of_bits add sub mul div Ieee.round said_checked said_subdivided said_edited links points tally turned heavy begin final work_needed enough unwanted overweight refusal last_links last_flag last_points last_marks subdivided left_after ended call then onward every c1_vertex c1_halfedge c1_face c2 c3 c4 c5 c6 c7 c8 c9 fault set_mark marked unmarked_new written edit_ended edit_refusal edit split_edge_edit split_face_edit insert_edge_edit swap_denied swap_ccw_edit swap_cw_edit triangulate_all split_edge joined paint across_face across_hole insert_edge insert_new cut_off cut_corner triangulate_face triangulate petal petals fan singles split_face swap_ccw swap_cw partner loop around is_v is_e is_h is_f put lay over each range round only has distinct first all number_of sum split_edges from_old pairs catmull_face catmull_pass corners loop_face loop_pass rim_of rim_side rim_face centre_face sqrt_face swap_inner sqrt_pass zero_p add_p scale_p over_p flat plus heads face_point catmull_edge catmull_rim catmull_inner catmull_vertex catmull_points inner on_rim loop_edge_point loop_vertex loop_points sqrt_vertex sqrt_answer answers sqrt_points cc_edge middle cc_inner loop_edge loop_rim weighted sqrt_rim sqrt_pair crowded two_rims catmull loop_scheme sqrt3 sizes fits fits_with used links_of marks_of points_of clean filled wiped counts_of tally_of counted triangulated catmull_tally loop_tally sqrt_tally dec row
edits-273 = refl

edits-1 :
    edit (split_edge_edit 8 2) (own 6 6 3 ((3 ∷ 1 ∷ 9 ∷ 11 ∷ 4 ∷ 2697850425 ∷ []) ++ replicate 2 7) ((1 ∷ 1 ∷ 2 ∷ 5 ∷ NONE ∷ 4 ∷ 4 ∷ 3 ∷ 1 ∷ 0 ∷ 8 ∷ 0 ∷ NONE ∷ 1 ∷ 1 ∷ 9 ∷ NONE ∷ 3 ∷ 11 ∷ 1 ∷ 1 ∷ 4 ∷ 0 ∷ 10 ∷ NONE ∷ 26 ∷ 2934313665 ∷ 25 ∷ 1993084065 ∷ 1 ∷ NONE ∷ NONE ∷ 1 ∷ 2 ∷ 10 ∷ 2 ∷ NONE ∷ 0 ∷ 3 ∷ 11 ∷ 1 ∷ 3 ∷ 5 ∷ 8 ∷ NONE ∷ 2 ∷ 9 ∷ 4 ∷ []) ++ replicate 8 7) ((9 ∷ 8 ∷ 20 ∷ []) ++ replicate 1 7) ((0 ∷ 0 ∷ 0 ∷ 0 ∷ 0 ∷ 1 ∷ []) ++ replicate 2 7) ((0 ∷ 0 ∷ 0 ∷ 1 ∷ 0 ∷ 0 ∷ []) ++ replicate 1 7) ((1 ∷ 0 ∷ 1 ∷ []) ++ replicate 1 7)) ≡
    gives (Err (ComplexVertex)) (own 6 6 3 ((3 ∷ 1 ∷ 9 ∷ 11 ∷ 4 ∷ 2697850425 ∷ []) ++ replicate 2 7) ((1 ∷ 1 ∷ 2 ∷ 5 ∷ NONE ∷ 4 ∷ 4 ∷ 3 ∷ 1 ∷ 0 ∷ 8 ∷ 0 ∷ NONE ∷ 1 ∷ 1 ∷ 9 ∷ NONE ∷ 3 ∷ 11 ∷ 1 ∷ 1 ∷ 4 ∷ 0 ∷ 10 ∷ NONE ∷ 26 ∷ 2934313665 ∷ 25 ∷ 1993084065 ∷ 1 ∷ NONE ∷ NONE ∷ 1 ∷ 2 ∷ 10 ∷ 2 ∷ NONE ∷ 0 ∷ 3 ∷ 11 ∷ 1 ∷ 3 ∷ 5 ∷ 8 ∷ NONE ∷ 2 ∷ 9 ∷ 4 ∷ []) ++ replicate 8 7) ((9 ∷ 8 ∷ 20 ∷ []) ++ replicate 1 7) ((0 ∷ 0 ∷ 0 ∷ 0 ∷ 0 ∷ 1 ∷ []) ++ replicate 2 7) ((0 ∷ 0 ∷ 0 ∷ 1 ∷ 0 ∷ 0 ∷ []) ++ replicate 1 7) ((1 ∷ 0 ∷ 1 ∷ []) ++ replicate 1 7))
unfolding of_int of_bits add sub mul div Ieee.round said_checked said_subdivided said_edited links points tally turned heavy begin final work_needed enough unwanted overweight refusal last_links last_flag last_points last_marks subdivided left_after ended call then onward every c1_vertex c1_halfedge c1_face c2 c3 c4 c5 c6 c7 c8 c9 fault set_mark marked unmarked_new written edit_ended edit_refusal edit split_edge_edit split_face_edit insert_edge_edit swap_denied swap_ccw_edit swap_cw_edit triangulate_all split_edge joined paint across_face across_hole insert_edge insert_new cut_off cut_corner triangulate_face triangulate petal petals fan singles split_face swap_ccw swap_cw partner loop around is_v is_e is_h is_f put lay over each range round only has distinct first all number_of sum split_edges from_old pairs catmull_face catmull_pass corners loop_face loop_pass rim_of rim_side rim_face centre_face sqrt_face swap_inner sqrt_pass zero_p add_p scale_p over_p flat plus heads face_point catmull_edge catmull_rim catmull_inner catmull_vertex catmull_points inner on_rim loop_edge_point loop_vertex loop_points sqrt_vertex sqrt_answer answers sqrt_points cc_edge middle cc_inner loop_edge loop_rim weighted sqrt_rim sqrt_pair crowded two_rims catmull loop_scheme sqrt3 sizes fits fits_with used links_of marks_of points_of clean filled wiped counts_of tally_of counted triangulated catmull_tally loop_tally sqrt_tally dec row
edits-1 = refl

edits-9 :
    edit (swap_cw_edit 6) (own 5 6 4 ((4 ∷ 3 ∷ NONE ∷ 1 ∷ 2 ∷ []) ++ replicate 2 7) ((3 ∷ 3 ∷ 11 ∷ 4 ∷ 0 ∷ 1 ∷ 3 ∷ 7 ∷ 2 ∷ 1 ∷ 5 ∷ 9 ∷ 0 ∷ 4 ∷ 7 ∷ 1 ∷ 3 ∷ 1 ∷ 0 ∷ 11 ∷ 2 ∷ 0 ∷ 9 ∷ 2 ∷ 1 ∷ 4 ∷ 8 ∷ 10 ∷ 0 ∷ 3 ∷ 1 ∷ 3 ∷ 1 ∷ 0 ∷ 10 ∷ 6 ∷ 2 ∷ 4 ∷ 2 ∷ 5 ∷ 1 ∷ 3 ∷ 6 ∷ 8 ∷ 3 ∷ 0 ∷ 4 ∷ 0 ∷ []) ++ replicate 8 7) ((7 ∷ 8 ∷ 2 ∷ 11 ∷ []) ++ replicate 1 7) ((0 ∷ 0 ∷ 0 ∷ 0 ∷ 0 ∷ []) ++ replicate 2 7) ((0 ∷ 0 ∷ 0 ∷ 0 ∷ 0 ∷ 0 ∷ []) ++ replicate 1 7) ((0 ∷ 0 ∷ 0 ∷ 0 ∷ []) ++ replicate 1 7)) ≡
    gives (Err (BadHandle)) (own 5 6 4 ((4 ∷ 3 ∷ NONE ∷ 1 ∷ 2 ∷ []) ++ replicate 2 7) ((3 ∷ 3 ∷ 11 ∷ 4 ∷ 0 ∷ 1 ∷ 3 ∷ 7 ∷ 2 ∷ 1 ∷ 5 ∷ 9 ∷ 0 ∷ 4 ∷ 7 ∷ 1 ∷ 3 ∷ 1 ∷ 0 ∷ 11 ∷ 2 ∷ 0 ∷ 9 ∷ 2 ∷ 1 ∷ 4 ∷ 8 ∷ 10 ∷ 0 ∷ 3 ∷ 1 ∷ 3 ∷ 1 ∷ 0 ∷ 10 ∷ 6 ∷ 2 ∷ 4 ∷ 2 ∷ 5 ∷ 1 ∷ 3 ∷ 6 ∷ 8 ∷ 3 ∷ 0 ∷ 4 ∷ 0 ∷ []) ++ replicate 8 7) ((7 ∷ 8 ∷ 2 ∷ 11 ∷ []) ++ replicate 1 7) ((0 ∷ 0 ∷ 0 ∷ 0 ∷ 0 ∷ []) ++ replicate 2 7) ((0 ∷ 0 ∷ 0 ∷ 0 ∷ 0 ∷ 0 ∷ []) ++ replicate 1 7) ((0 ∷ 0 ∷ 0 ∷ 0 ∷ []) ++ replicate 1 7))
unfolding of_int of_bits add sub mul div Ieee.round said_checked said_subdivided said_edited links points tally turned heavy begin final work_needed enough unwanted overweight refusal last_links last_flag last_points last_marks subdivided left_after ended call then onward every c1_vertex c1_halfedge c1_face c2 c3 c4 c5 c6 c7 c8 c9 fault set_mark marked unmarked_new written edit_ended edit_refusal edit split_edge_edit split_face_edit insert_edge_edit swap_denied swap_ccw_edit swap_cw_edit triangulate_all split_edge joined paint across_face across_hole insert_edge insert_new cut_off cut_corner triangulate_face triangulate petal petals fan singles split_face swap_ccw swap_cw partner loop around is_v is_e is_h is_f put lay over each range round only has distinct first all number_of sum split_edges from_old pairs catmull_face catmull_pass corners loop_face loop_pass rim_of rim_side rim_face centre_face sqrt_face swap_inner sqrt_pass zero_p add_p scale_p over_p flat plus heads face_point catmull_edge catmull_rim catmull_inner catmull_vertex catmull_points inner on_rim loop_edge_point loop_vertex loop_points sqrt_vertex sqrt_answer answers sqrt_points cc_edge middle cc_inner loop_edge loop_rim weighted sqrt_rim sqrt_pair crowded two_rims catmull loop_scheme sqrt3 sizes fits fits_with used links_of marks_of points_of clean filled wiped counts_of tally_of counted triangulated catmull_tally loop_tally sqrt_tally dec row
edits-9 = refl

edits-16 :
    edit (split_face_edit 4 4) (own 4 6 4 ((6 ∷ 11 ∷ 1 ∷ 10 ∷ []) ++ replicate 2 7) ((3 ∷ 2 ∷ 9 ∷ 10 ∷ 2 ∷ 1 ∷ 3 ∷ 5 ∷ 1 ∷ 1 ∷ 11 ∷ 7 ∷ 2 ∷ 0 ∷ 5 ∷ 1 ∷ 0 ∷ 0 ∷ 6 ∷ 8 ∷ 2 ∷ 2 ∷ 1 ∷ 3 ∷ 0 ∷ 3 ∷ 8 ∷ 4 ∷ 1 ∷ 0 ∷ 2 ∷ 11 ∷ 0 ∷ 2 ∷ 4 ∷ 6 ∷ 3 ∷ 3 ∷ 10 ∷ 0 ∷ 3 ∷ 1 ∷ 0 ∷ 9 ∷ 1 ∷ 3 ∷ 7 ∷ 2 ∷ []) ++ replicate 8 7) ((8 ∷ 11 ∷ 5 ∷ 10 ∷ []) ++ replicate 1 7) ((0 ∷ 0 ∷ 0 ∷ 0 ∷ []) ++ replicate 2 7) ((0 ∷ 0 ∷ 0 ∷ 0 ∷ 0 ∷ 0 ∷ []) ++ replicate 1 7) ((0 ∷ 0 ∷ 0 ∷ 0 ∷ []) ++ replicate 1 7)) ≡
    gives (Err (BadHandle)) (own 4 6 4 ((6 ∷ 11 ∷ 1 ∷ 10 ∷ []) ++ replicate 2 7) ((3 ∷ 2 ∷ 9 ∷ 10 ∷ 2 ∷ 1 ∷ 3 ∷ 5 ∷ 1 ∷ 1 ∷ 11 ∷ 7 ∷ 2 ∷ 0 ∷ 5 ∷ 1 ∷ 0 ∷ 0 ∷ 6 ∷ 8 ∷ 2 ∷ 2 ∷ 1 ∷ 3 ∷ 0 ∷ 3 ∷ 8 ∷ 4 ∷ 1 ∷ 0 ∷ 2 ∷ 11 ∷ 0 ∷ 2 ∷ 4 ∷ 6 ∷ 3 ∷ 3 ∷ 10 ∷ 0 ∷ 3 ∷ 1 ∷ 0 ∷ 9 ∷ 1 ∷ 3 ∷ 7 ∷ 2 ∷ []) ++ replicate 8 7) ((8 ∷ 11 ∷ 5 ∷ 10 ∷ []) ++ replicate 1 7) ((0 ∷ 0 ∷ 0 ∷ 0 ∷ []) ++ replicate 2 7) ((0 ∷ 0 ∷ 0 ∷ 0 ∷ 0 ∷ 0 ∷ []) ++ replicate 1 7) ((0 ∷ 0 ∷ 0 ∷ 0 ∷ []) ++ replicate 1 7))
unfolding of_int of_bits add sub mul div Ieee.round said_checked said_subdivided said_edited links points tally turned heavy begin final work_needed enough unwanted overweight refusal last_links last_flag last_points last_marks subdivided left_after ended call then onward every c1_vertex c1_halfedge c1_face c2 c3 c4 c5 c6 c7 c8 c9 fault set_mark marked unmarked_new written edit_ended edit_refusal edit split_edge_edit split_face_edit insert_edge_edit swap_denied swap_ccw_edit swap_cw_edit triangulate_all split_edge joined paint across_face across_hole insert_edge insert_new cut_off cut_corner triangulate_face triangulate petal petals fan singles split_face swap_ccw swap_cw partner loop around is_v is_e is_h is_f put lay over each range round only has distinct first all number_of sum split_edges from_old pairs catmull_face catmull_pass corners loop_face loop_pass rim_of rim_side rim_face centre_face sqrt_face swap_inner sqrt_pass zero_p add_p scale_p over_p flat plus heads face_point catmull_edge catmull_rim catmull_inner catmull_vertex catmull_points inner on_rim loop_edge_point loop_vertex loop_points sqrt_vertex sqrt_answer answers sqrt_points cc_edge middle cc_inner loop_edge loop_rim weighted sqrt_rim sqrt_pair crowded two_rims catmull loop_scheme sqrt3 sizes fits fits_with used links_of marks_of points_of clean filled wiped counts_of tally_of counted triangulated catmull_tally loop_tally sqrt_tally dec row
edits-16 = refl

edits-73 :
    edit (swap_ccw_edit 2) (own 5 6 4 ((10 ∷ 3 ∷ 8 ∷ 5 ∷ 0 ∷ []) ++ replicate 2 7) ((23 ∷ NONE ∷ 0 ∷ 0 ∷ NONE ∷ 30 ∷ 32 ∷ NONE ∷ 2 ∷ 1 ∷ 9 ∷ 11 ∷ NONE ∷ 0 ∷ 10 ∷ 8 ∷ 2 ∷ 3 ∷ 11 ∷ 9 ∷ NONE ∷ 2 ∷ 8 ∷ 10 ∷ NONE ∷ NONE ∷ 1709576745 ∷ 28 ∷ NONE ∷ 0 ∷ 39 ∷ 13 ∷ NONE ∷ 1 ∷ 3 ∷ 5 ∷ 2 ∷ 2 ∷ 4 ∷ 2 ∷ NONE ∷ 3 ∷ 5 ∷ 3 ∷ 2 ∷ 0 ∷ 2 ∷ 4 ∷ []) ++ replicate 8 7) ((9 ∷ 0 ∷ 4 ∷ 3 ∷ []) ++ replicate 1 7) ((0 ∷ 0 ∷ 0 ∷ 0 ∷ 1 ∷ []) ++ replicate 2 7) ((1 ∷ 0 ∷ 0 ∷ 1 ∷ 0 ∷ 0 ∷ []) ++ replicate 1 7) ((1 ∷ 1 ∷ 0 ∷ 1 ∷ []) ++ replicate 1 7)) ≡
    gives (Err (CannotSwapBoundaryEdge)) (own 5 6 4 ((10 ∷ 3 ∷ 8 ∷ 5 ∷ 0 ∷ []) ++ replicate 2 7) ((23 ∷ NONE ∷ 0 ∷ 0 ∷ NONE ∷ 30 ∷ 32 ∷ NONE ∷ 2 ∷ 1 ∷ 9 ∷ 11 ∷ NONE ∷ 0 ∷ 10 ∷ 8 ∷ 2 ∷ 3 ∷ 11 ∷ 9 ∷ NONE ∷ 2 ∷ 8 ∷ 10 ∷ NONE ∷ NONE ∷ 1709576745 ∷ 28 ∷ NONE ∷ 0 ∷ 39 ∷ 13 ∷ NONE ∷ 1 ∷ 3 ∷ 5 ∷ 2 ∷ 2 ∷ 4 ∷ 2 ∷ NONE ∷ 3 ∷ 5 ∷ 3 ∷ 2 ∷ 0 ∷ 2 ∷ 4 ∷ []) ++ replicate 8 7) ((9 ∷ 0 ∷ 4 ∷ 3 ∷ []) ++ replicate 1 7) ((0 ∷ 0 ∷ 0 ∷ 0 ∷ 1 ∷ []) ++ replicate 2 7) ((1 ∷ 0 ∷ 0 ∷ 1 ∷ 0 ∷ 0 ∷ []) ++ replicate 1 7) ((1 ∷ 1 ∷ 0 ∷ 1 ∷ []) ++ replicate 1 7))
unfolding of_int of_bits add sub mul div Ieee.round said_checked said_subdivided said_edited links points tally turned heavy begin final work_needed enough unwanted overweight refusal last_links last_flag last_points last_marks subdivided left_after ended call then onward every c1_vertex c1_halfedge c1_face c2 c3 c4 c5 c6 c7 c8 c9 fault set_mark marked unmarked_new written edit_ended edit_refusal edit split_edge_edit split_face_edit insert_edge_edit swap_denied swap_ccw_edit swap_cw_edit triangulate_all split_edge joined paint across_face across_hole insert_edge insert_new cut_off cut_corner triangulate_face triangulate petal petals fan singles split_face swap_ccw swap_cw partner loop around is_v is_e is_h is_f put lay over each range round only has distinct first all number_of sum split_edges from_old pairs catmull_face catmull_pass corners loop_face loop_pass rim_of rim_side rim_face centre_face sqrt_face swap_inner sqrt_pass zero_p add_p scale_p over_p flat plus heads face_point catmull_edge catmull_rim catmull_inner catmull_vertex catmull_points inner on_rim loop_edge_point loop_vertex loop_points sqrt_vertex sqrt_answer answers sqrt_points cc_edge middle cc_inner loop_edge loop_rim weighted sqrt_rim sqrt_pair crowded two_rims catmull loop_scheme sqrt3 sizes fits fits_with used links_of marks_of points_of clean filled wiped counts_of tally_of counted triangulated catmull_tally loop_tally sqrt_tally dec row
edits-73 = refl

edits-78 :
    edit (swap_ccw_edit 5) (own 7 6 4 ((10 ∷ NONE ∷ NONE ∷ 3 ∷ NONE ∷ 2 ∷ 5 ∷ []) ++ replicate 2 7) ((2 ∷ 5 ∷ 11 ∷ 6 ∷ 3 ∷ 6 ∷ 5 ∷ 3 ∷ 0 ∷ 3 ∷ 9 ∷ 10 ∷ 3 ∷ 5 ∷ 1 ∷ 5 ∷ 1 ∷ 6 ∷ 7 ∷ 8 ∷ 3 ∷ 3 ∷ 3 ∷ 1 ∷ 2 ∷ 6 ∷ 0 ∷ 11 ∷ 1 ∷ 0 ∷ 8 ∷ 4 ∷ 1 ∷ 3 ∷ 4 ∷ 7 ∷ 0 ∷ 0 ∷ 10 ∷ 2 ∷ 0 ∷ 5 ∷ 2 ∷ 9 ∷ 2 ∷ 0 ∷ 6 ∷ 0 ∷ []) ++ replicate 8 7) ((9 ∷ 8 ∷ 6 ∷ 3 ∷ []) ++ replicate 1 7) ((0 ∷ 0 ∷ 0 ∷ 0 ∷ 0 ∷ 0 ∷ 0 ∷ []) ++ replicate 2 7) ((0 ∷ 0 ∷ 0 ∷ 0 ∷ 0 ∷ 0 ∷ []) ++ replicate 1 7) ((0 ∷ 0 ∷ 0 ∷ 0 ∷ []) ++ replicate 1 7)) ≡
    gives (Ok (record { v = 7; e = 6; f = 4 }, 0)) (own 7 6 4 ((6 ∷ NONE ∷ NONE ∷ 3 ∷ NONE ∷ 2 ∷ 5 ∷ []) ++ replicate 2 7) ((2 ∷ 5 ∷ 2 ∷ 11 ∷ 3 ∷ 6 ∷ 5 ∷ 3 ∷ 2 ∷ 3 ∷ 11 ∷ 0 ∷ 3 ∷ 5 ∷ 1 ∷ 5 ∷ 1 ∷ 6 ∷ 7 ∷ 8 ∷ 3 ∷ 3 ∷ 3 ∷ 1 ∷ 0 ∷ 6 ∷ 10 ∷ 9 ∷ 1 ∷ 0 ∷ 8 ∷ 4 ∷ 1 ∷ 3 ∷ 4 ∷ 7 ∷ 0 ∷ 0 ∷ 6 ∷ 10 ∷ 0 ∷ 3 ∷ 9 ∷ 6 ∷ 2 ∷ 6 ∷ 0 ∷ 2 ∷ []) ++ replicate 8 7) ((9 ∷ 8 ∷ 11 ∷ 3 ∷ []) ++ replicate 1 7) ((0 ∷ 0 ∷ 0 ∷ 0 ∷ 0 ∷ 0 ∷ 0 ∷ []) ++ replicate 2 7) ((0 ∷ 0 ∷ 0 ∷ 0 ∷ 0 ∷ 0 ∷ []) ++ replicate 1 7) ((0 ∷ 0 ∷ 0 ∷ 0 ∷ []) ++ replicate 1 7))
unfolding of_int of_bits add sub mul div Ieee.round said_checked said_subdivided said_edited links points tally turned heavy begin final work_needed enough unwanted overweight refusal last_links last_flag last_points last_marks subdivided left_after ended call then onward every c1_vertex c1_halfedge c1_face c2 c3 c4 c5 c6 c7 c8 c9 fault set_mark marked unmarked_new written edit_ended edit_refusal edit split_edge_edit split_face_edit insert_edge_edit swap_denied swap_ccw_edit swap_cw_edit triangulate_all split_edge joined paint across_face across_hole insert_edge insert_new cut_off cut_corner triangulate_face triangulate petal petals fan singles split_face swap_ccw swap_cw partner loop around is_v is_e is_h is_f put lay over each range round only has distinct first all number_of sum split_edges from_old pairs catmull_face catmull_pass corners loop_face loop_pass rim_of rim_side rim_face centre_face sqrt_face swap_inner sqrt_pass zero_p add_p scale_p over_p flat plus heads face_point catmull_edge catmull_rim catmull_inner catmull_vertex catmull_points inner on_rim loop_edge_point loop_vertex loop_points sqrt_vertex sqrt_answer answers sqrt_points cc_edge middle cc_inner loop_edge loop_rim weighted sqrt_rim sqrt_pair crowded two_rims catmull loop_scheme sqrt3 sizes fits fits_with used links_of marks_of points_of clean filled wiped counts_of tally_of counted triangulated catmull_tally loop_tally sqrt_tally dec row
edits-78 = refl

edits-96 :
    edit (swap_ccw_edit 2) (own 6 6 2 ((3 ∷ 4 ∷ 11 ∷ 9 ∷ 6 ∷ 8 ∷ []) ++ replicate 2 7) ((0 ∷ 4 ∷ 6 ∷ 9 ∷ 1 ∷ 5 ∷ 8 ∷ 7 ∷ 1 ∷ 0 ∷ 5 ∷ 10 ∷ 0 ∷ 2 ∷ 11 ∷ 4 ∷ 0 ∷ 0 ∷ 3 ∷ 6 ∷ 1 ∷ 1 ∷ 7 ∷ 2 ∷ 0 ∷ 1 ∷ 4 ∷ 0 ∷ 1 ∷ 4 ∷ 1 ∷ 5 ∷ 1 ∷ 3 ∷ 10 ∷ 1 ∷ 0 ∷ 5 ∷ 0 ∷ 11 ∷ 1 ∷ 2 ∷ 2 ∷ 8 ∷ 0 ∷ 3 ∷ 9 ∷ 3 ∷ []) ++ replicate 8 7) ((6 ∷ 1 ∷ []) ++ replicate 1 7) ((0 ∷ 0 ∷ 0 ∷ 0 ∷ 0 ∷ 0 ∷ []) ++ replicate 2 7) ((0 ∷ 0 ∷ 0 ∷ 0 ∷ 0 ∷ 0 ∷ []) ++ replicate 1 7) ((0 ∷ 0 ∷ []) ++ replicate 1 7)) ≡
    gives (Err (WouldBreak)) (own 6 6 2 ((3 ∷ 4 ∷ 11 ∷ 9 ∷ 6 ∷ 8 ∷ []) ++ replicate 2 7) ((0 ∷ 4 ∷ 6 ∷ 9 ∷ 1 ∷ 5 ∷ 8 ∷ 7 ∷ 1 ∷ 0 ∷ 5 ∷ 10 ∷ 0 ∷ 2 ∷ 11 ∷ 4 ∷ 0 ∷ 0 ∷ 3 ∷ 6 ∷ 1 ∷ 1 ∷ 7 ∷ 2 ∷ 0 ∷ 1 ∷ 4 ∷ 0 ∷ 1 ∷ 4 ∷ 1 ∷ 5 ∷ 1 ∷ 3 ∷ 10 ∷ 1 ∷ 0 ∷ 5 ∷ 0 ∷ 11 ∷ 1 ∷ 2 ∷ 2 ∷ 8 ∷ 0 ∷ 3 ∷ 9 ∷ 3 ∷ []) ++ replicate 8 7) ((6 ∷ 1 ∷ []) ++ replicate 1 7) ((0 ∷ 0 ∷ 0 ∷ 0 ∷ 0 ∷ 0 ∷ []) ++ replicate 2 7) ((0 ∷ 0 ∷ 0 ∷ 0 ∷ 0 ∷ 0 ∷ []) ++ replicate 1 7) ((0 ∷ 0 ∷ []) ++ replicate 1 7))
unfolding of_int of_bits add sub mul div Ieee.round said_checked said_subdivided said_edited links points tally turned heavy begin final work_needed enough unwanted overweight refusal last_links last_flag last_points last_marks subdivided left_after ended call then onward every c1_vertex c1_halfedge c1_face c2 c3 c4 c5 c6 c7 c8 c9 fault set_mark marked unmarked_new written edit_ended edit_refusal edit split_edge_edit split_face_edit insert_edge_edit swap_denied swap_ccw_edit swap_cw_edit triangulate_all split_edge joined paint across_face across_hole insert_edge insert_new cut_off cut_corner triangulate_face triangulate petal petals fan singles split_face swap_ccw swap_cw partner loop around is_v is_e is_h is_f put lay over each range round only has distinct first all number_of sum split_edges from_old pairs catmull_face catmull_pass corners loop_face loop_pass rim_of rim_side rim_face centre_face sqrt_face swap_inner sqrt_pass zero_p add_p scale_p over_p flat plus heads face_point catmull_edge catmull_rim catmull_inner catmull_vertex catmull_points inner on_rim loop_edge_point loop_vertex loop_points sqrt_vertex sqrt_answer answers sqrt_points cc_edge middle cc_inner loop_edge loop_rim weighted sqrt_rim sqrt_pair crowded two_rims catmull loop_scheme sqrt3 sizes fits fits_with used links_of marks_of points_of clean filled wiped counts_of tally_of counted triangulated catmull_tally loop_tally sqrt_tally dec row
edits-96 = refl

edits-123 :
    edit (insert_edge_edit 8 3 NONE) (own 4 6 4 ((4 ∷ 0 ∷ 7 ∷ 8 ∷ []) ++ replicate 2 7) ((2 ∷ 2 ∷ 9 ∷ 3 ∷ 1 ∷ 1 ∷ 5 ∷ 6 ∷ 0 ∷ 3 ∷ 10 ∷ 4 ∷ 2 ∷ 1 ∷ 0 ∷ 9 ∷ 0 ∷ 1 ∷ 2 ∷ 10 ∷ 1 ∷ 0 ∷ 6 ∷ 1 ∷ 1 ∷ 2 ∷ 1 ∷ 5 ∷ 3 ∷ 0 ∷ 11 ∷ 8 ∷ 3 ∷ 2 ∷ 7 ∷ 11 ∷ 2 ∷ 3 ∷ 3 ∷ 0 ∷ 0 ∷ 0 ∷ 4 ∷ 2 ∷ 3 ∷ 3 ∷ 8 ∷ 7 ∷ []) ++ replicate 8 7) ((10 ∷ 5 ∷ 3 ∷ 8 ∷ []) ++ replicate 1 7) ((0 ∷ 0 ∷ 0 ∷ 0 ∷ []) ++ replicate 2 7) ((0 ∷ 0 ∷ 0 ∷ 0 ∷ 0 ∷ 0 ∷ []) ++ replicate 1 7) ((0 ∷ 0 ∷ 0 ∷ 0 ∷ []) ++ replicate 1 7)) ≡
    gives (Err (HalfedgesNotInTheSameLoop)) (own 4 6 4 ((4 ∷ 0 ∷ 7 ∷ 8 ∷ []) ++ replicate 2 7) ((2 ∷ 2 ∷ 9 ∷ 3 ∷ 1 ∷ 1 ∷ 5 ∷ 6 ∷ 0 ∷ 3 ∷ 10 ∷ 4 ∷ 2 ∷ 1 ∷ 0 ∷ 9 ∷ 0 ∷ 1 ∷ 2 ∷ 10 ∷ 1 ∷ 0 ∷ 6 ∷ 1 ∷ 1 ∷ 2 ∷ 1 ∷ 5 ∷ 3 ∷ 0 ∷ 11 ∷ 8 ∷ 3 ∷ 2 ∷ 7 ∷ 11 ∷ 2 ∷ 3 ∷ 3 ∷ 0 ∷ 0 ∷ 0 ∷ 4 ∷ 2 ∷ 3 ∷ 3 ∷ 8 ∷ 7 ∷ []) ++ replicate 8 7) ((10 ∷ 5 ∷ 3 ∷ 8 ∷ []) ++ replicate 1 7) ((0 ∷ 0 ∷ 0 ∷ 0 ∷ []) ++ replicate 2 7) ((0 ∷ 0 ∷ 0 ∷ 0 ∷ 0 ∷ 0 ∷ []) ++ replicate 1 7) ((0 ∷ 0 ∷ 0 ∷ 0 ∷ []) ++ replicate 1 7))
unfolding of_int of_bits add sub mul div Ieee.round said_checked said_subdivided said_edited links points tally turned heavy begin final work_needed enough unwanted overweight refusal last_links last_flag last_points last_marks subdivided left_after ended call then onward every c1_vertex c1_halfedge c1_face c2 c3 c4 c5 c6 c7 c8 c9 fault set_mark marked unmarked_new written edit_ended edit_refusal edit split_edge_edit split_face_edit insert_edge_edit swap_denied swap_ccw_edit swap_cw_edit triangulate_all split_edge joined paint across_face across_hole insert_edge insert_new cut_off cut_corner triangulate_face triangulate petal petals fan singles split_face swap_ccw swap_cw partner loop around is_v is_e is_h is_f put lay over each range round only has distinct first all number_of sum split_edges from_old pairs catmull_face catmull_pass corners loop_face loop_pass rim_of rim_side rim_face centre_face sqrt_face swap_inner sqrt_pass zero_p add_p scale_p over_p flat plus heads face_point catmull_edge catmull_rim catmull_inner catmull_vertex catmull_points inner on_rim loop_edge_point loop_vertex loop_points sqrt_vertex sqrt_answer answers sqrt_points cc_edge middle cc_inner loop_edge loop_rim weighted sqrt_rim sqrt_pair crowded two_rims catmull loop_scheme sqrt3 sizes fits fits_with used links_of marks_of points_of clean filled wiped counts_of tally_of counted triangulated catmull_tally loop_tally sqrt_tally dec row
edits-123 = refl

edits-175 :
    edit (split_face_edit 0 3) (own 6 4 1 ((3 ∷ NONE ∷ 4 ∷ NONE ∷ 1 ∷ 7 ∷ []) ++ replicate 2 7) ((0 ∷ 4 ∷ 2 ∷ 5 ∷ NONE ∷ 2 ∷ 4 ∷ 3 ∷ 0 ∷ 0 ∷ 6 ∷ 0 ∷ NONE ∷ 4 ∷ 1 ∷ 7 ∷ NONE ∷ 5 ∷ 7 ∷ 1 ∷ 0 ∷ 2 ∷ 0 ∷ 6 ∷ 0 ∷ 5 ∷ 5 ∷ 2 ∷ NONE ∷ 0 ∷ 3 ∷ 4 ∷ []) ++ replicate 40 7) ((5 ∷ []) ++ replicate 4 7) ((0 ∷ 0 ∷ 0 ∷ 0 ∷ 0 ∷ 0 ∷ []) ++ replicate 2 7) ((0 ∷ 0 ∷ 0 ∷ 0 ∷ []) ++ replicate 5 7) ((0 ∷ []) ++ replicate 4 7)) ≡
    gives (Ok (record { v = 6; e = 8; f = 4 }, 0)) (own 6 8 4 ((3 ∷ NONE ∷ 4 ∷ 15 ∷ 1 ∷ 7 ∷ []) ++ replicate 2 7) ((1 ∷ 4 ∷ 10 ∷ 9 ∷ NONE ∷ 2 ∷ 4 ∷ 3 ∷ 2 ∷ 0 ∷ 12 ∷ 11 ∷ NONE ∷ 4 ∷ 1 ∷ 7 ∷ NONE ∷ 5 ∷ 7 ∷ 1 ∷ 0 ∷ 2 ∷ 8 ∷ 15 ∷ 3 ∷ 5 ∷ 14 ∷ 13 ∷ NONE ∷ 0 ∷ 3 ∷ 4 ∷ 0 ∷ 3 ∷ 15 ∷ 5 ∷ 1 ∷ 2 ∷ 0 ∷ 10 ∷ 1 ∷ 3 ∷ 9 ∷ 0 ∷ 2 ∷ 4 ∷ 2 ∷ 12 ∷ 2 ∷ 3 ∷ 11 ∷ 2 ∷ 3 ∷ 0 ∷ 6 ∷ 14 ∷ 3 ∷ 3 ∷ 13 ∷ 6 ∷ 0 ∷ 5 ∷ 5 ∷ 8 ∷ []) ++ replicate 8 7) ((5 ∷ 0 ∷ 2 ∷ 6 ∷ []) ++ replicate 1 7) ((0 ∷ 0 ∷ 0 ∷ 0 ∷ 0 ∷ 0 ∷ []) ++ replicate 2 7) ((0 ∷ 0 ∷ 0 ∷ 0 ∷ 0 ∷ 0 ∷ 0 ∷ 0 ∷ []) ++ replicate 1 7) ((0 ∷ 0 ∷ 0 ∷ 0 ∷ []) ++ replicate 1 7))
unfolding of_int of_bits add sub mul div Ieee.round said_checked said_subdivided said_edited links points tally turned heavy begin final work_needed enough unwanted overweight refusal last_links last_flag last_points last_marks subdivided left_after ended call then onward every c1_vertex c1_halfedge c1_face c2 c3 c4 c5 c6 c7 c8 c9 fault set_mark marked unmarked_new written edit_ended edit_refusal edit split_edge_edit split_face_edit insert_edge_edit swap_denied swap_ccw_edit swap_cw_edit triangulate_all split_edge joined paint across_face across_hole insert_edge insert_new cut_off cut_corner triangulate_face triangulate petal petals fan singles split_face swap_ccw swap_cw partner loop around is_v is_e is_h is_f put lay over each range round only has distinct first all number_of sum split_edges from_old pairs catmull_face catmull_pass corners loop_face loop_pass rim_of rim_side rim_face centre_face sqrt_face swap_inner sqrt_pass zero_p add_p scale_p over_p flat plus heads face_point catmull_edge catmull_rim catmull_inner catmull_vertex catmull_points inner on_rim loop_edge_point loop_vertex loop_points sqrt_vertex sqrt_answer answers sqrt_points cc_edge middle cc_inner loop_edge loop_rim weighted sqrt_rim sqrt_pair crowded two_rims catmull loop_scheme sqrt3 sizes fits fits_with used links_of marks_of points_of clean filled wiped counts_of tally_of counted triangulated catmull_tally loop_tally sqrt_tally dec row
edits-175 = refl

edits-57 :
    edit (swap_cw_edit 3) (own 7 9 8 ((NONE ∷ 9 ∷ 15 ∷ 5 ∷ 7 ∷ 13 ∷ 6 ∷ []) ++ replicate 2 7) ((3 ∷ 1 ∷ 9 ∷ 16 ∷ 6 ∷ 6 ∷ 6 ∷ 15 ∷ 1 ∷ 5 ∷ 13 ∷ 4 ∷ 3 ∷ 3 ∷ 16 ∷ 9 ∷ 1 ∷ 3 ∷ 2 ∷ 11 ∷ 7 ∷ 4 ∷ 7 ∷ 17 ∷ 6 ∷ 4 ∷ 10 ∷ 1 ∷ 7 ∷ 6 ∷ 17 ∷ 5 ∷ 2 ∷ 1 ∷ 14 ∷ 12 ∷ 3 ∷ 5 ∷ 3 ∷ 0 ∷ 6 ∷ 2 ∷ 15 ∷ 6 ∷ 1 ∷ 4 ∷ 4 ∷ 13 ∷ 2 ∷ 5 ∷ 8 ∷ 14 ∷ 1 ∷ 2 ∷ 11 ∷ 2 ∷ 2 ∷ 2 ∷ 12 ∷ 8 ∷ 6 ∷ 1 ∷ 1 ∷ 10 ∷ 3 ∷ 6 ∷ 0 ∷ 3 ∷ 7 ∷ 3 ∷ 5 ∷ 7 ∷ []) ++ replicate 8 7) ((24 ∷ 4 ∷ 14 ∷ 16 ∷ 5 ∷ 17 ∷ 6 ∷ 17 ∷ []) ++ replicate 1 7) ((0 ∷ 0 ∷ 0 ∷ 0 ∷ 0 ∷ 0 ∷ 0 ∷ []) ++ replicate 2 7) ((0 ∷ 0 ∷ 0 ∷ 0 ∷ 0 ∷ 0 ∷ 0 ∷ 0 ∷ 0 ∷ []) ++ replicate 1 7) ((1 ∷ 0 ∷ 0 ∷ 0 ∷ 1 ∷ 1 ∷ 0 ∷ 0 ∷ []) ++ replicate 1 7)) ≡
    gives (Ok (record { v = 7; e = 9; f = 8 }, 0)) (own 7 9 8 ((NONE ∷ 9 ∷ 15 ∷ 5 ∷ 10 ∷ 13 ∷ 17 ∷ []) ++ replicate 2 7) ((3 ∷ 1 ∷ 9 ∷ 16 ∷ 7 ∷ 6 ∷ 17 ∷ 7 ∷ 1 ∷ 5 ∷ 13 ∷ 4 ∷ 3 ∷ 3 ∷ 16 ∷ 9 ∷ 1 ∷ 3 ∷ 2 ∷ 11 ∷ 6 ∷ 4 ∷ 10 ∷ 6 ∷ 6 ∷ 3 ∷ 5 ∷ 15 ∷ 7 ∷ 1 ∷ 1 ∷ 17 ∷ 2 ∷ 1 ∷ 14 ∷ 12 ∷ 3 ∷ 5 ∷ 3 ∷ 0 ∷ 6 ∷ 2 ∷ 15 ∷ 5 ∷ 1 ∷ 4 ∷ 4 ∷ 13 ∷ 2 ∷ 5 ∷ 8 ∷ 14 ∷ 1 ∷ 2 ∷ 11 ∷ 2 ∷ 2 ∷ 2 ∷ 12 ∷ 8 ∷ 6 ∷ 1 ∷ 6 ∷ 10 ∷ 3 ∷ 6 ∷ 0 ∷ 3 ∷ 7 ∷ 3 ∷ 7 ∷ 1 ∷ []) ++ replicate 8 7) ((24 ∷ 4 ∷ 14 ∷ 16 ∷ 5 ∷ 17 ∷ 6 ∷ 17 ∷ []) ++ replicate 1 7) ((0 ∷ 0 ∷ 0 ∷ 0 ∷ 0 ∷ 0 ∷ 0 ∷ []) ++ replicate 2 7) ((0 ∷ 0 ∷ 0 ∷ 0 ∷ 0 ∷ 0 ∷ 0 ∷ 0 ∷ 0 ∷ []) ++ replicate 1 7) ((1 ∷ 0 ∷ 0 ∷ 0 ∷ 1 ∷ 1 ∷ 0 ∷ 0 ∷ []) ++ replicate 1 7))
unfolding of_int of_bits add sub mul div Ieee.round said_checked said_subdivided said_edited links points tally turned heavy begin final work_needed enough unwanted overweight refusal last_links last_flag last_points last_marks subdivided left_after ended call then onward every c1_vertex c1_halfedge c1_face c2 c3 c4 c5 c6 c7 c8 c9 fault set_mark marked unmarked_new written edit_ended edit_refusal edit split_edge_edit split_face_edit insert_edge_edit swap_denied swap_ccw_edit swap_cw_edit triangulate_all split_edge joined paint across_face across_hole insert_edge insert_new cut_off cut_corner triangulate_face triangulate petal petals fan singles split_face swap_ccw swap_cw partner loop around is_v is_e is_h is_f put lay over each range round only has distinct first all number_of sum split_edges from_old pairs catmull_face catmull_pass corners loop_face loop_pass rim_of rim_side rim_face centre_face sqrt_face swap_inner sqrt_pass zero_p add_p scale_p over_p flat plus heads face_point catmull_edge catmull_rim catmull_inner catmull_vertex catmull_points inner on_rim loop_edge_point loop_vertex loop_points sqrt_vertex sqrt_answer answers sqrt_points cc_edge middle cc_inner loop_edge loop_rim weighted sqrt_rim sqrt_pair crowded two_rims catmull loop_scheme sqrt3 sizes fits fits_with used links_of marks_of points_of clean filled wiped counts_of tally_of counted triangulated catmull_tally loop_tally sqrt_tally dec row
edits-57 = refl

edits-15 :
    edit (split_face_edit 2 7) (own 8 11 4 ((8 ∷ 17 ∷ 13 ∷ 15 ∷ 11 ∷ 2 ∷ 20 ∷ 5 ∷ []) ++ replicate 2 7) ((3 ∷ 6 ∷ 19 ∷ 9 ∷ 0 ∷ 0 ∷ 4 ∷ 21 ∷ NONE ∷ 3 ∷ 15 ∷ 11 ∷ 2 ∷ 5 ∷ 7 ∷ 20 ∷ 0 ∷ 7 ∷ 14 ∷ 1 ∷ NONE ∷ 0 ∷ 8 ∷ 15 ∷ 1 ∷ 5 ∷ 10 ∷ 16 ∷ 2 ∷ 1 ∷ 18 ∷ 3 ∷ NONE ∷ 2 ∷ 13 ∷ 5 ∷ 3 ∷ 0 ∷ 0 ∷ 17 ∷ 1 ∷ 4 ∷ 12 ∷ 6 ∷ NONE ∷ 5 ∷ 2 ∷ 13 ∷ 1 ∷ 2 ∷ 16 ∷ 10 ∷ NONE ∷ 4 ∷ 11 ∷ 8 ∷ 0 ∷ 3 ∷ 21 ∷ 4 ∷ NONE ∷ 7 ∷ 5 ∷ 2 ∷ 1 ∷ 1 ∷ 6 ∷ 12 ∷ 3 ∷ 2 ∷ 9 ∷ 19 ∷ 2 ∷ 6 ∷ 20 ∷ 7 ∷ 3 ∷ 1 ∷ 17 ∷ 0 ∷ 2 ∷ 3 ∷ 3 ∷ 18 ∷ 0 ∷ 6 ∷ 1 ∷ 14 ∷ []) ++ replicate 8 7) ((14 ∷ 16 ∷ 18 ∷ 17 ∷ []) ++ replicate 1 7) ((0 ∷ 0 ∷ 0 ∷ 0 ∷ 0 ∷ 0 ∷ 0 ∷ 0 ∷ []) ++ replicate 2 7) ((0 ∷ 0 ∷ 0 ∷ 0 ∷ 0 ∷ 0 ∷ 0 ∷ 0 ∷ 0 ∷ 0 ∷ 0 ∷ []) ++ replicate 1 7) ((0 ∷ 0 ∷ 0 ∷ 0 ∷ []) ++ replicate 1 7)) ≡
    gives (Err (ComplexVertex)) (own 8 11 4 ((8 ∷ 17 ∷ 13 ∷ 15 ∷ 11 ∷ 2 ∷ 20 ∷ 5 ∷ []) ++ replicate 2 7) ((3 ∷ 6 ∷ 19 ∷ 9 ∷ 0 ∷ 0 ∷ 4 ∷ 21 ∷ NONE ∷ 3 ∷ 15 ∷ 11 ∷ 2 ∷ 5 ∷ 7 ∷ 20 ∷ 0 ∷ 7 ∷ 14 ∷ 1 ∷ NONE ∷ 0 ∷ 8 ∷ 15 ∷ 1 ∷ 5 ∷ 10 ∷ 16 ∷ 2 ∷ 1 ∷ 18 ∷ 3 ∷ NONE ∷ 2 ∷ 13 ∷ 5 ∷ 3 ∷ 0 ∷ 0 ∷ 17 ∷ 1 ∷ 4 ∷ 12 ∷ 6 ∷ NONE ∷ 5 ∷ 2 ∷ 13 ∷ 1 ∷ 2 ∷ 16 ∷ 10 ∷ NONE ∷ 4 ∷ 11 ∷ 8 ∷ 0 ∷ 3 ∷ 21 ∷ 4 ∷ NONE ∷ 7 ∷ 5 ∷ 2 ∷ 1 ∷ 1 ∷ 6 ∷ 12 ∷ 3 ∷ 2 ∷ 9 ∷ 19 ∷ 2 ∷ 6 ∷ 20 ∷ 7 ∷ 3 ∷ 1 ∷ 17 ∷ 0 ∷ 2 ∷ 3 ∷ 3 ∷ 18 ∷ 0 ∷ 6 ∷ 1 ∷ 14 ∷ []) ++ replicate 8 7) ((14 ∷ 16 ∷ 18 ∷ 17 ∷ []) ++ replicate 1 7) ((0 ∷ 0 ∷ 0 ∷ 0 ∷ 0 ∷ 0 ∷ 0 ∷ 0 ∷ []) ++ replicate 2 7) ((0 ∷ 0 ∷ 0 ∷ 0 ∷ 0 ∷ 0 ∷ 0 ∷ 0 ∷ 0 ∷ 0 ∷ 0 ∷ []) ++ replicate 1 7) ((0 ∷ 0 ∷ 0 ∷ 0 ∷ []) ++ replicate 1 7))
unfolding of_int of_bits add sub mul div Ieee.round said_checked said_subdivided said_edited links points tally turned heavy begin final work_needed enough unwanted overweight refusal last_links last_flag last_points last_marks subdivided left_after ended call then onward every c1_vertex c1_halfedge c1_face c2 c3 c4 c5 c6 c7 c8 c9 fault set_mark marked unmarked_new written edit_ended edit_refusal edit split_edge_edit split_face_edit insert_edge_edit swap_denied swap_ccw_edit swap_cw_edit triangulate_all split_edge joined paint across_face across_hole insert_edge insert_new cut_off cut_corner triangulate_face triangulate petal petals fan singles split_face swap_ccw swap_cw partner loop around is_v is_e is_h is_f put lay over each range round only has distinct first all number_of sum split_edges from_old pairs catmull_face catmull_pass corners loop_face loop_pass rim_of rim_side rim_face centre_face sqrt_face swap_inner sqrt_pass zero_p add_p scale_p over_p flat plus heads face_point catmull_edge catmull_rim catmull_inner catmull_vertex catmull_points inner on_rim loop_edge_point loop_vertex loop_points sqrt_vertex sqrt_answer answers sqrt_points cc_edge middle cc_inner loop_edge loop_rim weighted sqrt_rim sqrt_pair crowded two_rims catmull loop_scheme sqrt3 sizes fits fits_with used links_of marks_of points_of clean filled wiped counts_of tally_of counted triangulated catmull_tally loop_tally sqrt_tally dec row
edits-15 = refl
