-- Recorded cases of the consistency check, by computation: the lowest broken rule and its first place. Written by tools/theorems.py from oracle/vectors. Assumes nothing.
use Rattle.std.specs.Prelude.{◌≡◌, refl, [], ◌∷◌, None, Some}
use Rattle.std.specs.Float.{binary64}
use Rattle.std.specs.Float.Ieee.{of_int, of_bits, add, sub, mul, div}
use Rattle.std.specs.Float.Ieee as Ieee
use Rattle.scope.specs.declared.answers.Place.TheVariants.{AtVertex, AtHalfedge, AtFace}
use Rattle.scope.specs.Answers.{said_checked, said_subdivided, said_edited}
use Rattle.scope.specs.Call.{links, points, tally, turned, heavy, begin, final, work_needed, enough, unwanted, overweight, refusal, last_links, last_flag, last_points, last_marks, subdivided, left_after, ended, call, then, onward}
use Rattle.scope.specs.Check.{every, c1_vertex, c1_halfedge, c1_face, c2, c3, c4, c5, c6, c7, c8, c9, fault, set_mark, marked}
use Rattle.scope.specs.EditCalls.{unmarked_new, written, edit_ended, edit_refusal, edit, split_edge_edit, split_face_edit, insert_edge_edit, swap_denied, swap_ccw_edit, swap_cw_edit, triangulate_all}
use Rattle.scope.specs.Edits.{split_edge, joined, paint, across_face, across_hole, insert_edge, insert_new, cut_off, cut_corner, triangulate_face, triangulate, petal, petals, fan, singles, split_face, swap_ccw, swap_cw}
use Rattle.scope.specs.Links.{NONE, partner, loop, around, is_v, is_e, is_h, is_f}
use Rattle.scope.specs.Lists.{put, lay, over, each, range, round, only, has, distinct, first, all, number_of, sum}
use Rattle.scope.specs.Passes.{split_edges, from_old, pairs, catmull_face, catmull_pass, corners, loop_face, loop_pass, rim_of, rim_side, rim_face, centre_face, sqrt_face, swap_inner, sqrt_pass}
use Rattle.scope.specs.Point.{zero_p, add_p, scale_p, over_p}
use Rattle.scope.specs.Points.{flat, plus, heads, face_point, catmull_edge, catmull_rim, catmull_inner, catmull_vertex, catmull_points, inner, on_rim, loop_edge_point, loop_vertex, loop_points, sqrt_vertex, sqrt_answer, answers, sqrt_points}
use Rattle.scope.specs.Rules.{cc_edge, middle, cc_inner, loop_edge, loop_rim, weighted, sqrt_rim, sqrt_pair}
use Rattle.scope.specs.Schemes.{crowded, two_rims, catmull, loop_scheme, sqrt3}
use Rattle.scope.specs.Slices.{sizes, fits, fits_with, used, links_of, marks_of, points_of, clean, filled, wiped}
use Rattle.scope.specs.Tally.{counts_of, tally_of, counted, triangulated, catmull_tally, loop_tally, sqrt_tally}
use Rattle.scope.specs.Weights.{dec, row}
use Rattle.scope.proofs.Recorded.{mesh, wrong}

check-12 :
    wrong (mesh 4 3 1 (NONE ∷ 4 ∷ 3 ∷ 1 ∷ []) (NONE ∷ 3 ∷ 5 ∷ 2 ∷ NONE ∷ 2 ∷ 3 ∷ 4 ∷ NONE ∷ 2 ∷ 0 ∷ 5 ∷ NONE ∷ 1 ∷ 4 ∷ 1 ∷ NONE ∷ 3 ∷ 1 ∷ 3 ∷ NONE ∷ 1 ∷ 2 ∷ 0 ∷ []) (0 ∷ []) (0 ∷ 0 ∷ 0 ∷ 0 ∷ []) (0 ∷ 0 ∷ 0 ∷ []) (1 ∷ []) (of_bits binary64 13844628204490326016 ∷ of_bits binary64 4625478292286210048 ∷ of_bits binary64 4626322717216342016 ∷ of_bits binary64 4624633867356078080 ∷ of_bits binary64 4619567317775286272 ∷ of_bits binary64 13845754104397168640 ∷ of_bits binary64 4607182418800017408 ∷ of_bits binary64 13839561654909534208 ∷ of_bits binary64 4616189618054758400 ∷ of_bits binary64 4623507967449235456 ∷ of_bits binary64 4613937818241073152 ∷ of_bits binary64 13846880004304011264 ∷ [])) ≡ Some (record { rule = 5; place = AtHalfedge 0 })
unfolding of_int of_bits add sub mul div Ieee.round said_checked said_subdivided said_edited links points tally turned heavy begin final work_needed enough unwanted overweight refusal last_links last_flag last_points last_marks subdivided left_after ended call then onward every c1_vertex c1_halfedge c1_face c2 c3 c4 c5 c6 c7 c8 c9 fault set_mark marked unmarked_new written edit_ended edit_refusal edit split_edge_edit split_face_edit insert_edge_edit swap_denied swap_ccw_edit swap_cw_edit triangulate_all split_edge joined paint across_face across_hole insert_edge insert_new cut_off cut_corner triangulate_face triangulate petal petals fan singles split_face swap_ccw swap_cw partner loop around is_v is_e is_h is_f put lay over each range round only has distinct first all number_of sum split_edges from_old pairs catmull_face catmull_pass corners loop_face loop_pass rim_of rim_side rim_face centre_face sqrt_face swap_inner sqrt_pass zero_p add_p scale_p over_p flat plus heads face_point catmull_edge catmull_rim catmull_inner catmull_vertex catmull_points inner on_rim loop_edge_point loop_vertex loop_points sqrt_vertex sqrt_answer answers sqrt_points cc_edge middle cc_inner loop_edge loop_rim weighted sqrt_rim sqrt_pair crowded two_rims catmull loop_scheme sqrt3 sizes fits fits_with used links_of marks_of points_of clean filled wiped counts_of tally_of counted triangulated catmull_tally loop_tally sqrt_tally dec row
check-12 = refl

check-19 :
    wrong (mesh 4 3 2 (NONE ∷ 5 ∷ 1 ∷ 4 ∷ []) (2 ∷ 2 ∷ 2 ∷ 5 ∷ 0 ∷ 3 ∷ 4 ∷ 3 ∷ 1 ∷ 1 ∷ 5 ∷ 0 ∷ 0 ∷ 2 ∷ 1 ∷ 4 ∷ 0 ∷ 1 ∷ 3 ∷ 1 ∷ 1 ∷ 3 ∷ 0 ∷ 2 ∷ []) (1 ∷ 2 ∷ []) (0 ∷ 0 ∷ 0 ∷ 0 ∷ []) (0 ∷ 0 ∷ 0 ∷ []) (0 ∷ 0 ∷ []) (of_bits binary64 13845191154443747328 ∷ of_bits binary64 13845191154443747328 ∷ of_bits binary64 4626041242239631360 ∷ of_bits binary64 13842939354630062080 ∷ of_bits binary64 13846317054350589952 ∷ of_bits binary64 4621819117588971520 ∷ of_bits binary64 13845754104397168640 ∷ of_bits binary64 4607182418800017408 ∷ of_bits binary64 13848005904210853888 ∷ of_bits binary64 13849694754071117824 ∷ of_bits binary64 4611686018427387904 ∷ of_bits binary64 4625759767262920704 ∷ [])) ≡ Some (record { rule = 1; place = AtHalfedge 0 })
unfolding of_int of_bits add sub mul div Ieee.round said_checked said_subdivided said_edited links points tally turned heavy begin final work_needed enough unwanted overweight refusal last_links last_flag last_points last_marks subdivided left_after ended call then onward every c1_vertex c1_halfedge c1_face c2 c3 c4 c5 c6 c7 c8 c9 fault set_mark marked unmarked_new written edit_ended edit_refusal edit split_edge_edit split_face_edit insert_edge_edit swap_denied swap_ccw_edit swap_cw_edit triangulate_all split_edge joined paint across_face across_hole insert_edge insert_new cut_off cut_corner triangulate_face triangulate petal petals fan singles split_face swap_ccw swap_cw partner loop around is_v is_e is_h is_f put lay over each range round only has distinct first all number_of sum split_edges from_old pairs catmull_face catmull_pass corners loop_face loop_pass rim_of rim_side rim_face centre_face sqrt_face swap_inner sqrt_pass zero_p add_p scale_p over_p flat plus heads face_point catmull_edge catmull_rim catmull_inner catmull_vertex catmull_points inner on_rim loop_edge_point loop_vertex loop_points sqrt_vertex sqrt_answer answers sqrt_points cc_edge middle cc_inner loop_edge loop_rim weighted sqrt_rim sqrt_pair crowded two_rims catmull loop_scheme sqrt3 sizes fits fits_with used links_of marks_of points_of clean filled wiped counts_of tally_of counted triangulated catmull_tally loop_tally sqrt_tally dec row
check-19 = refl

check-94 :
    wrong (mesh 5 3 2 (NONE ∷ 4 ∷ 2 ∷ NONE ∷ 3 ∷ []) (0 ∷ 4 ∷ 3 ∷ 2 ∷ 1 ∷ 4 ∷ 5 ∷ 4 ∷ 0 ∷ 4 ∷ 0 ∷ 3 ∷ 0 ∷ 2 ∷ 2 ∷ 0 ∷ 1 ∷ 4 ∷ 1 ∷ 5 ∷ 1 ∷ 1 ∷ 4 ∷ 1 ∷ []) (2 ∷ 1 ∷ []) (0 ∷ 0 ∷ 0 ∷ 0 ∷ 0 ∷ []) (0 ∷ 0 ∷ 0 ∷ []) (0 ∷ 0 ∷ []) (of_bits binary64 13848568854164275200 ∷ of_bits binary64 13849413279094407168 ∷ of_bits binary64 4613937818241073152 ∷ of_bits binary64 4625759767262920704 ∷ of_bits binary64 13844065254536904704 ∷ of_bits binary64 13846880004304011264 ∷ of_bits binary64 13845754104397168640 ∷ of_bits binary64 4616189618054758400 ∷ of_bits binary64 13845191154443747328 ∷ of_bits binary64 13842939354630062080 ∷ of_bits binary64 13839561654909534208 ∷ of_bits binary64 4620693217682128896 ∷ of_bits binary64 4616189618054758400 ∷ of_bits binary64 4626041242239631360 ∷ of_bits binary64 13849413279094407168 ∷ [])) ≡ Some (record { rule = 6; place = AtHalfedge 3 })
unfolding of_int of_bits add sub mul div Ieee.round said_checked said_subdivided said_edited links points tally turned heavy begin final work_needed enough unwanted overweight refusal last_links last_flag last_points last_marks subdivided left_after ended call then onward every c1_vertex c1_halfedge c1_face c2 c3 c4 c5 c6 c7 c8 c9 fault set_mark marked unmarked_new written edit_ended edit_refusal edit split_edge_edit split_face_edit insert_edge_edit swap_denied swap_ccw_edit swap_cw_edit triangulate_all split_edge joined paint across_face across_hole insert_edge insert_new cut_off cut_corner triangulate_face triangulate petal petals fan singles split_face swap_ccw swap_cw partner loop around is_v is_e is_h is_f put lay over each range round only has distinct first all number_of sum split_edges from_old pairs catmull_face catmull_pass corners loop_face loop_pass rim_of rim_side rim_face centre_face sqrt_face swap_inner sqrt_pass zero_p add_p scale_p over_p flat plus heads face_point catmull_edge catmull_rim catmull_inner catmull_vertex catmull_points inner on_rim loop_edge_point loop_vertex loop_points sqrt_vertex sqrt_answer answers sqrt_points cc_edge middle cc_inner loop_edge loop_rim weighted sqrt_rim sqrt_pair crowded two_rims catmull loop_scheme sqrt3 sizes fits fits_with used links_of marks_of points_of clean filled wiped counts_of tally_of counted triangulated catmull_tally loop_tally sqrt_tally dec row
check-94 = refl

check-44 :
    wrong (mesh 4 4 1 (NONE ∷ 2 ∷ 7 ∷ 4 ∷ []) (0 ∷ 2 ∷ 6 ∷ 5 ∷ NONE ∷ 3 ∷ 4 ∷ 7 ∷ NONE ∷ 2 ∷ 7 ∷ 4 ∷ 0 ∷ 1 ∷ 5 ∷ 6 ∷ NONE ∷ 1 ∷ 2 ∷ 1 ∷ 0 ∷ 3 ∷ 0 ∷ 3 ∷ 0 ∷ 2 ∷ 3 ∷ 0 ∷ NONE ∷ 2 ∷ 1 ∷ 2 ∷ []) (0 ∷ []) (0 ∷ 0 ∷ 0 ∷ 0 ∷ []) (0 ∷ 0 ∷ 0 ∷ 0 ∷ []) (0 ∷ []) (of_bits binary64 4622945017495814144 ∷ of_bits binary64 4619567317775286272 ∷ of_bits binary64 4624633867356078080 ∷ of_bits binary64 4625759767262920704 ∷ of_bits binary64 4625196817309499392 ∷ of_bits binary64 4623507967449235456 ∷ of_bits binary64 13849413279094407168 ∷ of_bits binary64 13837309855095848960 ∷ of_bits binary64 13848850329140985856 ∷ of_bits binary64 13848005904210853888 ∷ of_bits binary64 13849413279094407168 ∷ of_bits binary64 4621256167635550208 ∷ [])) ≡ Some (record { rule = 7; place = AtFace 0 })
unfolding of_int of_bits add sub mul div Ieee.round said_checked said_subdivided said_edited links points tally turned heavy begin final work_needed enough unwanted overweight refusal last_links last_flag last_points last_marks subdivided left_after ended call then onward every c1_vertex c1_halfedge c1_face c2 c3 c4 c5 c6 c7 c8 c9 fault set_mark marked unmarked_new written edit_ended edit_refusal edit split_edge_edit split_face_edit insert_edge_edit swap_denied swap_ccw_edit swap_cw_edit triangulate_all split_edge joined paint across_face across_hole insert_edge insert_new cut_off cut_corner triangulate_face triangulate petal petals fan singles split_face swap_ccw swap_cw partner loop around is_v is_e is_h is_f put lay over each range round only has distinct first all number_of sum split_edges from_old pairs catmull_face catmull_pass corners loop_face loop_pass rim_of rim_side rim_face centre_face sqrt_face swap_inner sqrt_pass zero_p add_p scale_p over_p flat plus heads face_point catmull_edge catmull_rim catmull_inner catmull_vertex catmull_points inner on_rim loop_edge_point loop_vertex loop_points sqrt_vertex sqrt_answer answers sqrt_points cc_edge middle cc_inner loop_edge loop_rim weighted sqrt_rim sqrt_pair crowded two_rims catmull loop_scheme sqrt3 sizes fits fits_with used links_of marks_of points_of clean filled wiped counts_of tally_of counted triangulated catmull_tally loop_tally sqrt_tally dec row
check-44 = refl

check-25 :
    wrong (mesh 4 5 2 (0 ∷ 2 ∷ 4 ∷ 7 ∷ []) (NONE ∷ 2 ∷ 4 ∷ 7 ∷ 0 ∷ 0 ∷ 8 ∷ 5 ∷ NONE ∷ 3 ∷ 7 ∷ 4 ∷ 1 ∷ 1 ∷ 9 ∷ 6 ∷ NONE ∷ 1 ∷ 2 ∷ 0 ∷ 0 ∷ 2 ∷ 1 ∷ 8 ∷ 1 ∷ 3 ∷ 3 ∷ 9 ∷ NONE ∷ 0 ∷ 0 ∷ 2 ∷ 0 ∷ 1 ∷ 5 ∷ 1 ∷ 1 ∷ 0 ∷ 6 ∷ 3 ∷ []) (1 ∷ 9 ∷ []) (0 ∷ 0 ∷ 0 ∷ 0 ∷ []) (1 ∷ 0 ∷ 0 ∷ 0 ∷ 0 ∷ []) (0 ∷ 0 ∷ []) (of_bits binary64 13837309855095848960 ∷ of_bits binary64 13849694754071117824 ∷ of_bits binary64 13846317054350589952 ∷ of_bits binary64 13849413279094407168 ∷ of_bits binary64 13830554455654793216 ∷ of_bits binary64 4623507967449235456 ∷ of_bits binary64 4616189618054758400 ∷ of_bits binary64 4613937818241073152 ∷ of_bits binary64 4622945017495814144 ∷ of_bits binary64 13849413279094407168 ∷ of_bits binary64 13848568854164275200 ∷ of_bits binary64 13841813454723219456 ∷ [])) ≡ Some (record { rule = 1; place = AtVertex 0 })
unfolding of_int of_bits add sub mul div Ieee.round said_checked said_subdivided said_edited links points tally turned heavy begin final work_needed enough unwanted overweight refusal last_links last_flag last_points last_marks subdivided left_after ended call then onward every c1_vertex c1_halfedge c1_face c2 c3 c4 c5 c6 c7 c8 c9 fault set_mark marked unmarked_new written edit_ended edit_refusal edit split_edge_edit split_face_edit insert_edge_edit swap_denied swap_ccw_edit swap_cw_edit triangulate_all split_edge joined paint across_face across_hole insert_edge insert_new cut_off cut_corner triangulate_face triangulate petal petals fan singles split_face swap_ccw swap_cw partner loop around is_v is_e is_h is_f put lay over each range round only has distinct first all number_of sum split_edges from_old pairs catmull_face catmull_pass corners loop_face loop_pass rim_of rim_side rim_face centre_face sqrt_face swap_inner sqrt_pass zero_p add_p scale_p over_p flat plus heads face_point catmull_edge catmull_rim catmull_inner catmull_vertex catmull_points inner on_rim loop_edge_point loop_vertex loop_points sqrt_vertex sqrt_answer answers sqrt_points cc_edge middle cc_inner loop_edge loop_rim weighted sqrt_rim sqrt_pair crowded two_rims catmull loop_scheme sqrt3 sizes fits fits_with used links_of marks_of points_of clean filled wiped counts_of tally_of counted triangulated catmull_tally loop_tally sqrt_tally dec row
check-25 = refl

check-27 :
    wrong (mesh 5 5 2 (8 ∷ 9 ∷ 5 ∷ 4 ∷ 6 ∷ []) (1 ∷ 2 ∷ 5 ∷ 7 ∷ 0 ∷ 4 ∷ 6 ∷ 4 ∷ 1 ∷ 1 ∷ 9 ∷ 5 ∷ 0 ∷ 3 ∷ 4 ∷ 8 ∷ 0 ∷ 2 ∷ 1 ∷ 8 ∷ 1 ∷ 3 ∷ 2 ∷ 0 ∷ 0 ∷ 0 ∷ 8 ∷ 1 ∷ 1 ∷ 4 ∷ 0 ∷ 9 ∷ 0 ∷ 1 ∷ 3 ∷ 6 ∷ 1 ∷ 0 ∷ 7 ∷ 2 ∷ []) (1 ∷ 2 ∷ []) (0 ∷ 0 ∷ 0 ∷ 0 ∷ 0 ∷ []) (0 ∷ 0 ∷ 0 ∷ 0 ∷ 0 ∷ []) (0 ∷ 0 ∷ []) (of_bits binary64 4625196817309499392 ∷ of_bits binary64 13841813454723219456 ∷ of_bits binary64 13848568854164275200 ∷ of_bits binary64 13846880004304011264 ∷ of_bits binary64 4611686018427387904 ∷ of_bits binary64 13842939354630062080 ∷ of_bits binary64 4625759767262920704 ∷ of_bits binary64 4607182418800017408 ∷ of_bits binary64 13839561654909534208 ∷ of_bits binary64 13835058055282163712 ∷ of_bits binary64 4625759767262920704 ∷ of_bits binary64 4625478292286210048 ∷ of_bits binary64 4625196817309499392 ∷ of_bits binary64 0 ∷ of_bits binary64 4622945017495814144 ∷ [])) ≡ Some (record { rule = 2; place = AtHalfedge 3 })
unfolding of_int of_bits add sub mul div Ieee.round said_checked said_subdivided said_edited links points tally turned heavy begin final work_needed enough unwanted overweight refusal last_links last_flag last_points last_marks subdivided left_after ended call then onward every c1_vertex c1_halfedge c1_face c2 c3 c4 c5 c6 c7 c8 c9 fault set_mark marked unmarked_new written edit_ended edit_refusal edit split_edge_edit split_face_edit insert_edge_edit swap_denied swap_ccw_edit swap_cw_edit triangulate_all split_edge joined paint across_face across_hole insert_edge insert_new cut_off cut_corner triangulate_face triangulate petal petals fan singles split_face swap_ccw swap_cw partner loop around is_v is_e is_h is_f put lay over each range round only has distinct first all number_of sum split_edges from_old pairs catmull_face catmull_pass corners loop_face loop_pass rim_of rim_side rim_face centre_face sqrt_face swap_inner sqrt_pass zero_p add_p scale_p over_p flat plus heads face_point catmull_edge catmull_rim catmull_inner catmull_vertex catmull_points inner on_rim loop_edge_point loop_vertex loop_points sqrt_vertex sqrt_answer answers sqrt_points cc_edge middle cc_inner loop_edge loop_rim weighted sqrt_rim sqrt_pair crowded two_rims catmull loop_scheme sqrt3 sizes fits fits_with used links_of marks_of points_of clean filled wiped counts_of tally_of counted triangulated catmull_tally loop_tally sqrt_tally dec row
check-27 = refl

check-36 :
    wrong (mesh 6 5 1 (0 ∷ 3 ∷ 9 ∷ 6 ∷ 5 ∷ NONE ∷ []) (NONE ∷ 1 ∷ 3 ∷ 9 ∷ 0 ∷ 0 ∷ 8 ∷ 2 ∷ 0 ∷ 1 ∷ 1 ∷ 4 ∷ NONE ∷ 4 ∷ 5 ∷ 0 ∷ 0 ∷ 4 ∷ 2 ∷ 7 ∷ NONE ∷ 3 ∷ 6 ∷ 3 ∷ NONE ∷ 2 ∷ 9 ∷ 5 ∷ 0 ∷ 3 ∷ 4 ∷ 8 ∷ 0 ∷ 2 ∷ 7 ∷ 1 ∷ NONE ∷ 0 ∷ 0 ∷ 6 ∷ []) (2 ∷ []) (0 ∷ 0 ∷ 0 ∷ 0 ∷ 0 ∷ 0 ∷ []) (0 ∷ 0 ∷ 0 ∷ 0 ∷ 0 ∷ []) (0 ∷ []) (of_bits binary64 13848005904210853888 ∷ of_bits binary64 13837309855095848960 ∷ of_bits binary64 13849413279094407168 ∷ of_bits binary64 4626322717216342016 ∷ of_bits binary64 4623507967449235456 ∷ of_bits binary64 4622382067542392832 ∷ of_bits binary64 13848005904210853888 ∷ of_bits binary64 13849131804117696512 ∷ of_bits binary64 4619567317775286272 ∷ of_bits binary64 13847442954257432576 ∷ of_bits binary64 4624633867356078080 ∷ of_bits binary64 13842939354630062080 ∷ of_bits binary64 13840687554816376832 ∷ of_bits binary64 13849694754071117824 ∷ of_bits binary64 4618441417868443648 ∷ of_bits binary64 13841813454723219456 ∷ of_bits binary64 4624633867356078080 ∷ of_bits binary64 13839561654909534208 ∷ [])) ≡ None
unfolding of_int of_bits add sub mul div Ieee.round said_checked said_subdivided said_edited links points tally turned heavy begin final work_needed enough unwanted overweight refusal last_links last_flag last_points last_marks subdivided left_after ended call then onward every c1_vertex c1_halfedge c1_face c2 c3 c4 c5 c6 c7 c8 c9 fault set_mark marked unmarked_new written edit_ended edit_refusal edit split_edge_edit split_face_edit insert_edge_edit swap_denied swap_ccw_edit swap_cw_edit triangulate_all split_edge joined paint across_face across_hole insert_edge insert_new cut_off cut_corner triangulate_face triangulate petal petals fan singles split_face swap_ccw swap_cw partner loop around is_v is_e is_h is_f put lay over each range round only has distinct first all number_of sum split_edges from_old pairs catmull_face catmull_pass corners loop_face loop_pass rim_of rim_side rim_face centre_face sqrt_face swap_inner sqrt_pass zero_p add_p scale_p over_p flat plus heads face_point catmull_edge catmull_rim catmull_inner catmull_vertex catmull_points inner on_rim loop_edge_point loop_vertex loop_points sqrt_vertex sqrt_answer answers sqrt_points cc_edge middle cc_inner loop_edge loop_rim weighted sqrt_rim sqrt_pair crowded two_rims catmull loop_scheme sqrt3 sizes fits fits_with used links_of marks_of points_of clean filled wiped counts_of tally_of counted triangulated catmull_tally loop_tally sqrt_tally dec row
check-36 = refl

check-59 :
    wrong (mesh 5 5 2 (1 ∷ 8 ∷ 7 ∷ NONE ∷ 5 ∷ []) (1 ∷ 0 ∷ 3 ∷ 6 ∷ NONE ∷ 2 ∷ 7 ∷ 5 ∷ 0 ∷ 0 ∷ 4 ∷ 8 ∷ 1 ∷ 1 ∷ 6 ∷ 0 ∷ 0 ∷ 4 ∷ 8 ∷ 2 ∷ NONE ∷ 0 ∷ 1 ∷ 9 ∷ 1 ∷ 2 ∷ 0 ∷ 3 ∷ NONE ∷ 1 ∷ 9 ∷ 1 ∷ 0 ∷ 1 ∷ 2 ∷ 4 ∷ NONE ∷ 4 ∷ 5 ∷ 7 ∷ []) (4 ∷ 3 ∷ []) (0 ∷ 0 ∷ 0 ∷ 0 ∷ 0 ∷ []) (0 ∷ 0 ∷ 0 ∷ 0 ∷ 0 ∷ []) (0 ∷ 0 ∷ []) (of_bits binary64 4625759767262920704 ∷ of_bits binary64 13848850329140985856 ∷ of_bits binary64 13837309855095848960 ∷ of_bits binary64 4617315517961601024 ∷ of_bits binary64 13846317054350589952 ∷ of_bits binary64 4624633867356078080 ∷ of_bits binary64 4624633867356078080 ∷ of_bits binary64 13844065254536904704 ∷ of_bits binary64 4611686018427387904 ∷ of_bits binary64 4625196817309499392 ∷ of_bits binary64 4620693217682128896 ∷ of_bits binary64 4619567317775286272 ∷ of_bits binary64 13849413279094407168 ∷ of_bits binary64 4625196817309499392 ∷ of_bits binary64 4625196817309499392 ∷ [])) ≡ Some (record { rule = 8; place = AtVertex 1 })
unfolding of_int of_bits add sub mul div Ieee.round said_checked said_subdivided said_edited links points tally turned heavy begin final work_needed enough unwanted overweight refusal last_links last_flag last_points last_marks subdivided left_after ended call then onward every c1_vertex c1_halfedge c1_face c2 c3 c4 c5 c6 c7 c8 c9 fault set_mark marked unmarked_new written edit_ended edit_refusal edit split_edge_edit split_face_edit insert_edge_edit swap_denied swap_ccw_edit swap_cw_edit triangulate_all split_edge joined paint across_face across_hole insert_edge insert_new cut_off cut_corner triangulate_face triangulate petal petals fan singles split_face swap_ccw swap_cw partner loop around is_v is_e is_h is_f put lay over each range round only has distinct first all number_of sum split_edges from_old pairs catmull_face catmull_pass corners loop_face loop_pass rim_of rim_side rim_face centre_face sqrt_face swap_inner sqrt_pass zero_p add_p scale_p over_p flat plus heads face_point catmull_edge catmull_rim catmull_inner catmull_vertex catmull_points inner on_rim loop_edge_point loop_vertex loop_points sqrt_vertex sqrt_answer answers sqrt_points cc_edge middle cc_inner loop_edge loop_rim weighted sqrt_rim sqrt_pair crowded two_rims catmull loop_scheme sqrt3 sizes fits fits_with used links_of marks_of points_of clean filled wiped counts_of tally_of counted triangulated catmull_tally loop_tally sqrt_tally dec row
check-59 = refl

check-60 :
    wrong (mesh 5 5 3 (2 ∷ 4 ∷ 5 ∷ 7 ∷ 9 ∷ []) (NONE ∷ 0 ∷ 2 ∷ 6 ∷ 2 ∷ 3 ∷ 7 ∷ 3 ∷ NONE ∷ 4 ∷ 9 ∷ 0 ∷ 2 ∷ 0 ∷ 1 ∷ 8 ∷ NONE ∷ 2 ∷ 6 ∷ 9 ∷ 2 ∷ 1 ∷ 8 ∷ 7 ∷ NONE ∷ 3 ∷ 0 ∷ 4 ∷ 2 ∷ 2 ∷ 5 ∷ 1 ∷ 2 ∷ 4 ∷ 3 ∷ 5 ∷ NONE ∷ 1 ∷ 4 ∷ 2 ∷ []) (4 ∷ 14 ∷ 1 ∷ []) (0 ∷ 0 ∷ 0 ∷ 0 ∷ 0 ∷ []) (0 ∷ 0 ∷ 0 ∷ 0 ∷ 0 ∷ []) (1 ∷ 1 ∷ 0 ∷ []) (of_bits binary64 13830554455654793216 ∷ of_bits binary64 13844065254536904704 ∷ of_bits binary64 13848850329140985856 ∷ of_bits binary64 13830554455654793216 ∷ of_bits binary64 4619567317775286272 ∷ of_bits binary64 13847442954257432576 ∷ of_bits binary64 4624070917402656768 ∷ of_bits binary64 13840687554816376832 ∷ of_bits binary64 13847442954257432576 ∷ of_bits binary64 4611686018427387904 ∷ of_bits binary64 13848005904210853888 ∷ of_bits binary64 4626041242239631360 ∷ of_bits binary64 4622382067542392832 ∷ of_bits binary64 0 ∷ of_bits binary64 13837309855095848960 ∷ [])) ≡ Some (record { rule = 9; place = AtVertex 2 })
unfolding of_int of_bits add sub mul div Ieee.round said_checked said_subdivided said_edited links points tally turned heavy begin final work_needed enough unwanted overweight refusal last_links last_flag last_points last_marks subdivided left_after ended call then onward every c1_vertex c1_halfedge c1_face c2 c3 c4 c5 c6 c7 c8 c9 fault set_mark marked unmarked_new written edit_ended edit_refusal edit split_edge_edit split_face_edit insert_edge_edit swap_denied swap_ccw_edit swap_cw_edit triangulate_all split_edge joined paint across_face across_hole insert_edge insert_new cut_off cut_corner triangulate_face triangulate petal petals fan singles split_face swap_ccw swap_cw partner loop around is_v is_e is_h is_f put lay over each range round only has distinct first all number_of sum split_edges from_old pairs catmull_face catmull_pass corners loop_face loop_pass rim_of rim_side rim_face centre_face sqrt_face swap_inner sqrt_pass zero_p add_p scale_p over_p flat plus heads face_point catmull_edge catmull_rim catmull_inner catmull_vertex catmull_points inner on_rim loop_edge_point loop_vertex loop_points sqrt_vertex sqrt_answer answers sqrt_points cc_edge middle cc_inner loop_edge loop_rim weighted sqrt_rim sqrt_pair crowded two_rims catmull loop_scheme sqrt3 sizes fits fits_with used links_of marks_of points_of clean filled wiped counts_of tally_of counted triangulated catmull_tally loop_tally sqrt_tally dec row
check-60 = refl

check-40 :
    wrong (mesh 7 8 2 (5 ∷ 11 ∷ 2 ∷ 15 ∷ 6 ∷ 8 ∷ 13 ∷ []) (0 ∷ 4 ∷ 14 ∷ 3 ∷ 1 ∷ 2 ∷ 2 ∷ 7 ∷ 1 ∷ 3 ∷ 9 ∷ 1 ∷ 0 ∷ 2 ∷ 0 ∷ 14 ∷ 1 ∷ 0 ∷ 12 ∷ 10 ∷ NONE ∷ 1 ∷ 11 ∷ 13 ∷ NONE ∷ 6 ∷ 13 ∷ 15 ∷ 1 ∷ 4 ∷ 1 ∷ 12 ∷ NONE ∷ 6 ∷ 15 ∷ 11 ∷ 1 ∷ 5 ∷ 10 ∷ 2 ∷ 1 ∷ 1 ∷ 4 ∷ 9 ∷ NONE ∷ 5 ∷ 8 ∷ 5 ∷ 1 ∷ 6 ∷ 7 ∷ 4 ∷ NONE ∷ 0 ∷ 5 ∷ 6 ∷ 0 ∷ 3 ∷ 3 ∷ 0 ∷ NONE ∷ 4 ∷ 6 ∷ 8 ∷ []) (14 ∷ 1 ∷ []) (0 ∷ 0 ∷ 0 ∷ 0 ∷ 0 ∷ 0 ∷ 0 ∷ []) (0 ∷ 0 ∷ 0 ∷ 0 ∷ 0 ∷ 0 ∷ 0 ∷ 0 ∷ []) (0 ∷ 0 ∷ []) (of_bits binary64 4625196817309499392 ∷ of_bits binary64 4617315517961601024 ∷ of_bits binary64 4622382067542392832 ∷ of_bits binary64 13849131804117696512 ∷ of_bits binary64 4622382067542392832 ∷ of_bits binary64 4622382067542392832 ∷ of_bits binary64 4613937818241073152 ∷ of_bits binary64 4625759767262920704 ∷ of_bits binary64 13849413279094407168 ∷ of_bits binary64 13848005904210853888 ∷ of_bits binary64 4619567317775286272 ∷ of_bits binary64 4626041242239631360 ∷ of_bits binary64 13848568854164275200 ∷ of_bits binary64 4620693217682128896 ∷ of_bits binary64 13841813454723219456 ∷ of_bits binary64 4624070917402656768 ∷ of_bits binary64 4618441417868443648 ∷ of_bits binary64 13842939354630062080 ∷ of_bits binary64 13847442954257432576 ∷ of_bits binary64 13840687554816376832 ∷ of_bits binary64 4613937818241073152 ∷ [])) ≡ Some (record { rule = 3; place = AtHalfedge 2 })
unfolding of_int of_bits add sub mul div Ieee.round said_checked said_subdivided said_edited links points tally turned heavy begin final work_needed enough unwanted overweight refusal last_links last_flag last_points last_marks subdivided left_after ended call then onward every c1_vertex c1_halfedge c1_face c2 c3 c4 c5 c6 c7 c8 c9 fault set_mark marked unmarked_new written edit_ended edit_refusal edit split_edge_edit split_face_edit insert_edge_edit swap_denied swap_ccw_edit swap_cw_edit triangulate_all split_edge joined paint across_face across_hole insert_edge insert_new cut_off cut_corner triangulate_face triangulate petal petals fan singles split_face swap_ccw swap_cw partner loop around is_v is_e is_h is_f put lay over each range round only has distinct first all number_of sum split_edges from_old pairs catmull_face catmull_pass corners loop_face loop_pass rim_of rim_side rim_face centre_face sqrt_face swap_inner sqrt_pass zero_p add_p scale_p over_p flat plus heads face_point catmull_edge catmull_rim catmull_inner catmull_vertex catmull_points inner on_rim loop_edge_point loop_vertex loop_points sqrt_vertex sqrt_answer answers sqrt_points cc_edge middle cc_inner loop_edge loop_rim weighted sqrt_rim sqrt_pair crowded two_rims catmull loop_scheme sqrt3 sizes fits fits_with used links_of marks_of points_of clean filled wiped counts_of tally_of counted triangulated catmull_tally loop_tally sqrt_tally dec row
check-40 = refl

check-83 :
    wrong (mesh 8 9 3 (6 ∷ 14 ∷ 12 ∷ 5 ∷ 9 ∷ 3 ∷ 17 ∷ 10 ∷ []) (1 ∷ 1 ∷ 8 ∷ 7 ∷ 2 ∷ 7 ∷ 4 ∷ 15 ∷ 2 ∷ 5 ∷ 16 ∷ 4 ∷ NONE ∷ 3 ∷ 5 ∷ 17 ∷ 2 ∷ 3 ∷ 2 ∷ 1 ∷ NONE ∷ 7 ∷ 10 ∷ 3 ∷ 0 ∷ 4 ∷ 9 ∷ 11 ∷ 1 ∷ 7 ∷ 0 ∷ 8 ∷ 1 ∷ 4 ∷ 7 ∷ 0 ∷ 0 ∷ 1 ∷ 11 ∷ 6 ∷ NONE ∷ 1 ∷ 14 ∷ 5 ∷ 0 ∷ 7 ∷ 6 ∷ 9 ∷ NONE ∷ 6 ∷ 17 ∷ 14 ∷ 2 ∷ 2 ∷ 15 ∷ 16 ∷ NONE ∷ 2 ∷ 12 ∷ 10 ∷ 2 ∷ 1 ∷ 1 ∷ 13 ∷ 2 ∷ 6 ∷ 13 ∷ 2 ∷ NONE ∷ 5 ∷ 3 ∷ 12 ∷ []) (0 ∷ 8 ∷ 16 ∷ []) (1 ∷ 0 ∷ 0 ∷ 0 ∷ 0 ∷ 0 ∷ 0 ∷ 0 ∷ []) (0 ∷ 0 ∷ 0 ∷ 0 ∷ 0 ∷ 0 ∷ 0 ∷ 0 ∷ 0 ∷ []) (0 ∷ 0 ∷ 0 ∷ []) (of_bits binary64 4453455217169748346 ∷ of_bits binary64 905331775904684823 ∷ of_bits binary64 2873160019275419092 ∷ of_bits binary64 13849413279094407168 ∷ of_bits binary64 4625196817309499392 ∷ of_bits binary64 4616189618054758400 ∷ of_bits binary64 13844628204490326016 ∷ of_bits binary64 4621256167635550208 ∷ of_bits binary64 4626041242239631360 ∷ of_bits binary64 4623507967449235456 ∷ of_bits binary64 13835058055282163712 ∷ of_bits binary64 4622382067542392832 ∷ of_bits binary64 13839561654909534208 ∷ of_bits binary64 13837309855095848960 ∷ of_bits binary64 4616189618054758400 ∷ of_bits binary64 13835058055282163712 ∷ of_bits binary64 4623507967449235456 ∷ of_bits binary64 4621819117588971520 ∷ of_bits binary64 4626041242239631360 ∷ of_bits binary64 4617315517961601024 ∷ of_bits binary64 4607182418800017408 ∷ of_bits binary64 13839561654909534208 ∷ of_bits binary64 4617315517961601024 ∷ of_bits binary64 13841813454723219456 ∷ [])) ≡ Some (record { rule = 4; place = AtFace 0 })
unfolding of_int of_bits add sub mul div Ieee.round said_checked said_subdivided said_edited links points tally turned heavy begin final work_needed enough unwanted overweight refusal last_links last_flag last_points last_marks subdivided left_after ended call then onward every c1_vertex c1_halfedge c1_face c2 c3 c4 c5 c6 c7 c8 c9 fault set_mark marked unmarked_new written edit_ended edit_refusal edit split_edge_edit split_face_edit insert_edge_edit swap_denied swap_ccw_edit swap_cw_edit triangulate_all split_edge joined paint across_face across_hole insert_edge insert_new cut_off cut_corner triangulate_face triangulate petal petals fan singles split_face swap_ccw swap_cw partner loop around is_v is_e is_h is_f put lay over each range round only has distinct first all number_of sum split_edges from_old pairs catmull_face catmull_pass corners loop_face loop_pass rim_of rim_side rim_face centre_face sqrt_face swap_inner sqrt_pass zero_p add_p scale_p over_p flat plus heads face_point catmull_edge catmull_rim catmull_inner catmull_vertex catmull_points inner on_rim loop_edge_point loop_vertex loop_points sqrt_vertex sqrt_answer answers sqrt_points cc_edge middle cc_inner loop_edge loop_rim weighted sqrt_rim sqrt_pair crowded two_rims catmull loop_scheme sqrt3 sizes fits fits_with used links_of marks_of points_of clean filled wiped counts_of tally_of counted triangulated catmull_tally loop_tally sqrt_tally dec row
check-83 = refl

check-2 :
    wrong (mesh 7 13 7 (0 ∷ 15 ∷ 2 ∷ 23 ∷ 24 ∷ 13 ∷ 9 ∷ []) (NONE ∷ 6 ∷ 9 ∷ 13 ∷ 3 ∷ 0 ∷ 12 ∷ 5 ∷ NONE ∷ 1 ∷ 15 ∷ 24 ∷ 2 ∷ 2 ∷ 11 ∷ 14 ∷ 0 ∷ 4 ∷ 10 ∷ 7 ∷ 3 ∷ 6 ∷ 1 ∷ 25 ∷ 6 ∷ 2 ∷ 21 ∷ 8 ∷ 0 ∷ 6 ∷ 4 ∷ 10 ∷ 6 ∷ 6 ∷ 6 ∷ 22 ∷ NONE ∷ 3 ∷ 23 ∷ 0 ∷ 0 ∷ 2 ∷ 7 ∷ 4 ∷ 2 ∷ 4 ∷ 14 ∷ 3 ∷ 3 ∷ 5 ∷ 20 ∷ 1 ∷ NONE ∷ 0 ∷ 0 ∷ 23 ∷ 2 ∷ 1 ∷ 3 ∷ 11 ∷ NONE ∷ 4 ∷ 24 ∷ 2 ∷ NONE ∷ NONE ∷ NONE ∷ 0 ∷ 0 ∷ 0 ∷ 36 ∷ NONE ∷ NONE ∷ NONE ∷ 0 ∷ 0 ∷ NONE ∷ NONE ∷ NONE ∷ 14 ∷ 3 ∷ 2 ∷ 25 ∷ 12 ∷ 6 ∷ 5 ∷ 22 ∷ 6 ∷ 6 ∷ 3 ∷ 8 ∷ 21 ∷ NONE ∷ 5 ∷ 13 ∷ 9 ∷ NONE ∷ 2 ∷ 2 ∷ 15 ∷ 3 ∷ 4 ∷ 5 ∷ 20 ∷ []) (7 ∷ 6 ∷ 11 ∷ 20 ∷ 38 ∷ 26 ∷ NONE ∷ []) (0 ∷ 0 ∷ 0 ∷ 0 ∷ 0 ∷ 0 ∷ 0 ∷ []) (0 ∷ 0 ∷ 0 ∷ 0 ∷ 0 ∷ 0 ∷ 0 ∷ 0 ∷ 1 ∷ 1 ∷ 0 ∷ 0 ∷ 0 ∷ []) (0 ∷ 1 ∷ 0 ∷ 0 ∷ 1 ∷ 1 ∷ 0 ∷ []) (of_bits binary64 4617315517961601024 ∷ of_bits binary64 13846880004304011264 ∷ of_bits binary64 4621256167635550208 ∷ of_bits binary64 4616189618054758400 ∷ of_bits binary64 4625196817309499392 ∷ of_bits binary64 4626041242239631360 ∷ of_bits binary64 4626322717216342016 ∷ of_bits binary64 4611686018427387904 ∷ of_bits binary64 13840687554816376832 ∷ of_bits binary64 4626322717216342016 ∷ of_bits binary64 4616189618054758400 ∷ of_bits binary64 4618441417868443648 ∷ of_bits binary64 13848568854164275200 ∷ of_bits binary64 4625196817309499392 ∷ of_bits binary64 4624633867356078080 ∷ of_bits binary64 4625196817309499392 ∷ of_bits binary64 4624633867356078080 ∷ of_bits binary64 13845191154443747328 ∷ of_bits binary64 13842939354630062080 ∷ of_bits binary64 13840687554816376832 ∷ of_bits binary64 4622382067542392832 ∷ [])) ≡ Some (record { rule = 1; place = AtFace 6 })
unfolding of_int of_bits add sub mul div Ieee.round said_checked said_subdivided said_edited links points tally turned heavy begin final work_needed enough unwanted overweight refusal last_links last_flag last_points last_marks subdivided left_after ended call then onward every c1_vertex c1_halfedge c1_face c2 c3 c4 c5 c6 c7 c8 c9 fault set_mark marked unmarked_new written edit_ended edit_refusal edit split_edge_edit split_face_edit insert_edge_edit swap_denied swap_ccw_edit swap_cw_edit triangulate_all split_edge joined paint across_face across_hole insert_edge insert_new cut_off cut_corner triangulate_face triangulate petal petals fan singles split_face swap_ccw swap_cw partner loop around is_v is_e is_h is_f put lay over each range round only has distinct first all number_of sum split_edges from_old pairs catmull_face catmull_pass corners loop_face loop_pass rim_of rim_side rim_face centre_face sqrt_face swap_inner sqrt_pass zero_p add_p scale_p over_p flat plus heads face_point catmull_edge catmull_rim catmull_inner catmull_vertex catmull_points inner on_rim loop_edge_point loop_vertex loop_points sqrt_vertex sqrt_answer answers sqrt_points cc_edge middle cc_inner loop_edge loop_rim weighted sqrt_rim sqrt_pair crowded two_rims catmull loop_scheme sqrt3 sizes fits fits_with used links_of marks_of points_of clean filled wiped counts_of tally_of counted triangulated catmull_tally loop_tally sqrt_tally dec row
check-2 = refl
