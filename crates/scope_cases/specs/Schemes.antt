-- Recorded cases of the three schemes in the Rust, by computation on whole calls: every link, mark and point bit, the next flag, what is lent beyond
-- what is used, refusals with their places. Written by tools/theorems.py from oracle/vectors. Assumes nothing.
use Rattle.std.specs.Prelude.{◌≡◌, refl, true, false, [], ◌∷◌, Some}
use Rattle.std.specs.Float.{binary64, nan}
use Rattle.std.specs.Float.Ieee.{of_int, of_bits, add, sub, mul, div}
use Rattle.std.specs.Float.Ieee as Ieee
use Rattle.scope.specs.declared.answers.Place.TheVariants.{AtFace}
use Rattle.scope.specs.declared.answers.Refusal.TheVariants.{TooManyPasses, MarkedDeleted, NoWeight}
use Rattle.scope.specs.Answers.{said_checked, said_subdivided, said_edited}
use Rattle.scope.specs.Call.{links, points, tally, turned, heavy, begin, final, work_needed, enough, unwanted, overweight, refusal, last_links, last_flag, last_points, last_marks, subdivided, left_after, ended, call, then, onward}
use Rattle.scope.specs.Check.{every, c1_vertex, c1_halfedge, c1_face, c2, c3, c4, c5, c6, c7, c8, c9, fault, set_mark, marked}
use Rattle.scope.specs.EditCalls.{unmarked_new, written, edit_ended, edit_refusal, edit, split_edge_edit, split_face_edit, insert_edge_edit, swap_denied, swap_ccw_edit, swap_cw_edit, triangulate_all}
use Rattle.scope.specs.Edits.{split_edge, joined, paint, across_face, across_hole, insert_edge, insert_new, cut_off, cut_corner, triangulate_face, triangulate, petal, petals, fan, singles, split_face, swap_ccw, swap_cw}
use Rattle.scope.specs.Links.{NONE, partner, loop, around, is_v, is_e, is_h, is_f}
use Rattle.scope.specs.Lists.{put, lay, over, each, range, round, only, has, distinct, first, all, number_of, sum}
use Rattle.scope.specs.Passes.{split_edges, from_old, pairs, catmull_face, catmull_pass, corners, loop_face, loop_pass, rim_of, rim_side, rim_face, centre_face, sqrt_face, swap_inner, sqrt_pass}
use Rattle.scope.specs.Point.{zero_p, add_p, scale_p, over_p}
use Rattle.scope.specs.Points.{flat, plus, heads, face_point, catmull_edge, catmull_rim, catmull_inner, catmull_vertex, catmull_points, inner, on_rim, loop_edge_point, loop_vertex, loop_points, sqrt_vertex, sqrt_answer, answers, sqrt_points}
use Rattle.scope.specs.Rules.{cc_edge, middle, cc_inner, loop_edge, loop_rim, weighted, sqrt_rim, sqrt_pair}
use Rattle.scope.specs.Schemes.{crowded, two_rims, catmull, loop_scheme, sqrt3}
use Rattle.scope.specs.Slices.{sizes, fits, fits_with, used, links_of, marks_of, points_of, clean, filled, wiped}
use Rattle.scope.specs.Tally.{counts_of, tally_of, counted, triangulated, catmull_tally, loop_tally, sqrt_tally}
use Rattle.scope.specs.Weights.{dec, row}
use Rattle.scope.proofs.Recorded.{mesh, lent, done, refused, refuses}

refusals-19 :
    call catmull 12 true (mesh 0 0 0 ([]) ([]) ([]) ([]) ([]) ([]) ([])) (lent 0 0 0 0) ≡
    done (mesh 0 0 0 ([]) ([]) ([]) ([]) ([]) ([]) ([])) true 0
unfolding of_int of_bits add sub mul div Ieee.round said_checked said_subdivided said_edited links points tally turned heavy begin final work_needed enough unwanted overweight refusal last_links last_flag last_points last_marks subdivided left_after ended call then onward every c1_vertex c1_halfedge c1_face c2 c3 c4 c5 c6 c7 c8 c9 fault set_mark marked unmarked_new written edit_ended edit_refusal edit split_edge_edit split_face_edit insert_edge_edit swap_denied swap_ccw_edit swap_cw_edit triangulate_all split_edge joined paint across_face across_hole insert_edge insert_new cut_off cut_corner triangulate_face triangulate petal petals fan singles split_face swap_ccw swap_cw partner loop around is_v is_e is_h is_f put lay over each range round only has distinct first all number_of sum split_edges from_old pairs catmull_face catmull_pass corners loop_face loop_pass rim_of rim_side rim_face centre_face sqrt_face swap_inner sqrt_pass zero_p add_p scale_p over_p flat plus heads face_point catmull_edge catmull_rim catmull_inner catmull_vertex catmull_points inner on_rim loop_edge_point loop_vertex loop_points sqrt_vertex sqrt_answer answers sqrt_points cc_edge middle cc_inner loop_edge loop_rim weighted sqrt_rim sqrt_pair crowded two_rims catmull loop_scheme sqrt3 sizes fits fits_with used links_of marks_of points_of clean filled wiped counts_of tally_of counted triangulated catmull_tally loop_tally sqrt_tally dec row
refusals-19 = refl

refusals-20 :
    call loop_scheme 12 false (mesh 0 0 0 ([]) ([]) ([]) ([]) ([]) ([]) ([])) (lent 0 0 0 0) ≡
    done (mesh 0 0 0 ([]) ([]) ([]) ([]) ([]) ([]) ([])) false 0
unfolding of_int of_bits add sub mul div Ieee.round said_checked said_subdivided said_edited links points tally turned heavy begin final work_needed enough unwanted overweight refusal last_links last_flag last_points last_marks subdivided left_after ended call then onward every c1_vertex c1_halfedge c1_face c2 c3 c4 c5 c6 c7 c8 c9 fault set_mark marked unmarked_new written edit_ended edit_refusal edit split_edge_edit split_face_edit insert_edge_edit swap_denied swap_ccw_edit swap_cw_edit triangulate_all split_edge joined paint across_face across_hole insert_edge insert_new cut_off cut_corner triangulate_face triangulate petal petals fan singles split_face swap_ccw swap_cw partner loop around is_v is_e is_h is_f put lay over each range round only has distinct first all number_of sum split_edges from_old pairs catmull_face catmull_pass corners loop_face loop_pass rim_of rim_side rim_face centre_face sqrt_face swap_inner sqrt_pass zero_p add_p scale_p over_p flat plus heads face_point catmull_edge catmull_rim catmull_inner catmull_vertex catmull_points inner on_rim loop_edge_point loop_vertex loop_points sqrt_vertex sqrt_answer answers sqrt_points cc_edge middle cc_inner loop_edge loop_rim weighted sqrt_rim sqrt_pair crowded two_rims catmull loop_scheme sqrt3 sizes fits fits_with used links_of marks_of points_of clean filled wiped counts_of tally_of counted triangulated catmull_tally loop_tally sqrt_tally dec row
refusals-20 = refl

refusals-21 :
    call sqrt3 12 true (mesh 0 0 0 ([]) ([]) ([]) ([]) ([]) ([]) ([])) (lent 0 0 0 0) ≡
    done (mesh 0 0 0 ([]) ([]) ([]) ([]) ([]) ([]) ([])) true 0
unfolding of_int of_bits add sub mul div Ieee.round said_checked said_subdivided said_edited links points tally turned heavy begin final work_needed enough unwanted overweight refusal last_links last_flag last_points last_marks subdivided left_after ended call then onward every c1_vertex c1_halfedge c1_face c2 c3 c4 c5 c6 c7 c8 c9 fault set_mark marked unmarked_new written edit_ended edit_refusal edit split_edge_edit split_face_edit insert_edge_edit swap_denied swap_ccw_edit swap_cw_edit triangulate_all split_edge joined paint across_face across_hole insert_edge insert_new cut_off cut_corner triangulate_face triangulate petal petals fan singles split_face swap_ccw swap_cw partner loop around is_v is_e is_h is_f put lay over each range round only has distinct first all number_of sum split_edges from_old pairs catmull_face catmull_pass corners loop_face loop_pass rim_of rim_side rim_face centre_face sqrt_face swap_inner sqrt_pass zero_p add_p scale_p over_p flat plus heads face_point catmull_edge catmull_rim catmull_inner catmull_vertex catmull_points inner on_rim loop_edge_point loop_vertex loop_points sqrt_vertex sqrt_answer answers sqrt_points cc_edge middle cc_inner loop_edge loop_rim weighted sqrt_rim sqrt_pair crowded two_rims catmull loop_scheme sqrt3 sizes fits fits_with used links_of marks_of points_of clean filled wiped counts_of tally_of counted triangulated catmull_tally loop_tally sqrt_tally dec row
refusals-21 = refl

refusals-22 :
    call sqrt3 0 true (mesh 0 0 0 ([]) ([]) ([]) ([]) ([]) ([]) ([])) (lent 0 0 0 0) ≡
    done (mesh 0 0 0 ([]) ([]) ([]) ([]) ([]) ([]) ([])) true 0
unfolding of_int of_bits add sub mul div Ieee.round said_checked said_subdivided said_edited links points tally turned heavy begin final work_needed enough unwanted overweight refusal last_links last_flag last_points last_marks subdivided left_after ended call then onward every c1_vertex c1_halfedge c1_face c2 c3 c4 c5 c6 c7 c8 c9 fault set_mark marked unmarked_new written edit_ended edit_refusal edit split_edge_edit split_face_edit insert_edge_edit swap_denied swap_ccw_edit swap_cw_edit triangulate_all split_edge joined paint across_face across_hole insert_edge insert_new cut_off cut_corner triangulate_face triangulate petal petals fan singles split_face swap_ccw swap_cw partner loop around is_v is_e is_h is_f put lay over each range round only has distinct first all number_of sum split_edges from_old pairs catmull_face catmull_pass corners loop_face loop_pass rim_of rim_side rim_face centre_face sqrt_face swap_inner sqrt_pass zero_p add_p scale_p over_p flat plus heads face_point catmull_edge catmull_rim catmull_inner catmull_vertex catmull_points inner on_rim loop_edge_point loop_vertex loop_points sqrt_vertex sqrt_answer answers sqrt_points cc_edge middle cc_inner loop_edge loop_rim weighted sqrt_rim sqrt_pair crowded two_rims catmull loop_scheme sqrt3 sizes fits fits_with used links_of marks_of points_of clean filled wiped counts_of tally_of counted triangulated catmull_tally loop_tally sqrt_tally dec row
refusals-22 = refl

refusals-23 :
    call catmull 13 false (mesh 0 0 0 ([]) ([]) ([]) ([]) ([]) ([]) ([])) (lent 0 0 0 6) ≡
    refused (TooManyPasses) (lent 0 0 0 6)
unfolding of_int of_bits add sub mul div Ieee.round said_checked said_subdivided said_edited links points tally turned heavy begin final work_needed enough unwanted overweight refusal last_links last_flag last_points last_marks subdivided left_after ended call then onward every c1_vertex c1_halfedge c1_face c2 c3 c4 c5 c6 c7 c8 c9 fault set_mark marked unmarked_new written edit_ended edit_refusal edit split_edge_edit split_face_edit insert_edge_edit swap_denied swap_ccw_edit swap_cw_edit triangulate_all split_edge joined paint across_face across_hole insert_edge insert_new cut_off cut_corner triangulate_face triangulate petal petals fan singles split_face swap_ccw swap_cw partner loop around is_v is_e is_h is_f put lay over each range round only has distinct first all number_of sum split_edges from_old pairs catmull_face catmull_pass corners loop_face loop_pass rim_of rim_side rim_face centre_face sqrt_face swap_inner sqrt_pass zero_p add_p scale_p over_p flat plus heads face_point catmull_edge catmull_rim catmull_inner catmull_vertex catmull_points inner on_rim loop_edge_point loop_vertex loop_points sqrt_vertex sqrt_answer answers sqrt_points cc_edge middle cc_inner loop_edge loop_rim weighted sqrt_rim sqrt_pair crowded two_rims catmull loop_scheme sqrt3 sizes fits fits_with used links_of marks_of points_of clean filled wiped counts_of tally_of counted triangulated catmull_tally loop_tally sqrt_tally dec row
refusals-23 = refl

schemes-162 :
    call sqrt3 2 true (mesh 4 3 3 (4 ∷ 5 ∷ 0 ∷ 1 ∷ []) (0 ∷ 3 ∷ 3 ∷ 5 ∷ 1 ∷ 0 ∷ 4 ∷ 2 ∷ 1 ∷ 3 ∷ 1 ∷ 4 ∷ 0 ∷ 1 ∷ 5 ∷ 0 ∷ 1 ∷ 1 ∷ 2 ∷ 1 ∷ 0 ∷ 0 ∷ 0 ∷ 3 ∷ []) (0 ∷ 1 ∷ 1 ∷ []) (0 ∷ 0 ∷ 1 ∷ 0 ∷ []) (0 ∷ 0 ∷ 0 ∷ []) (0 ∷ 0 ∷ 1 ∷ []) (of_bits binary64 360484889929053559 ∷ of_bits binary64 6499498491581357846 ∷ of_bits binary64 18228810593320493409 ∷ of_bits binary64 8023635119430390009 ∷ of_bits binary64 8955158979523300799 ∷ of_bits binary64 6669562763149243324 ∷ of_bits binary64 2765374688105415499 ∷ of_bits binary64 3712115153012917822 ∷ of_bits binary64 642978913922288518 ∷ of_bits binary64 5294833701115904007 ∷ of_bits binary64 17192681494715619081 ∷ of_bits binary64 342139073594782911 ∷ [])) (lent 4 3 3 6) ≡
    refused (MarkedDeleted (AtFace 2)) (lent 4 3 3 6)
unfolding of_int of_bits add sub mul div Ieee.round said_checked said_subdivided said_edited links points tally turned heavy begin final work_needed enough unwanted overweight refusal last_links last_flag last_points last_marks subdivided left_after ended call then onward every c1_vertex c1_halfedge c1_face c2 c3 c4 c5 c6 c7 c8 c9 fault set_mark marked unmarked_new written edit_ended edit_refusal edit split_edge_edit split_face_edit insert_edge_edit swap_denied swap_ccw_edit swap_cw_edit triangulate_all split_edge joined paint across_face across_hole insert_edge insert_new cut_off cut_corner triangulate_face triangulate petal petals fan singles split_face swap_ccw swap_cw partner loop around is_v is_e is_h is_f put lay over each range round only has distinct first all number_of sum split_edges from_old pairs catmull_face catmull_pass corners loop_face loop_pass rim_of rim_side rim_face centre_face sqrt_face swap_inner sqrt_pass zero_p add_p scale_p over_p flat plus heads face_point catmull_edge catmull_rim catmull_inner catmull_vertex catmull_points inner on_rim loop_edge_point loop_vertex loop_points sqrt_vertex sqrt_answer answers sqrt_points cc_edge middle cc_inner loop_edge loop_rim weighted sqrt_rim sqrt_pair crowded two_rims catmull loop_scheme sqrt3 sizes fits fits_with used links_of marks_of points_of clean filled wiped counts_of tally_of counted triangulated catmull_tally loop_tally sqrt_tally dec row
schemes-162 = refl

refusals-42 :
    call catmull 2 false (mesh 3 4 2 (7 ∷ 3 ∷ 5 ∷ []) (NONE ∷ 6 ∷ 0 ∷ 1600231920 ∷ 0 ∷ NONE ∷ NONE ∷ NONE ∷ 0 ∷ 1 ∷ 4 ∷ 6 ∷ NONE ∷ 0 ∷ 7 ∷ 5 ∷ 0 ∷ 2 ∷ 6 ∷ 2 ∷ NONE ∷ 1 ∷ 3 ∷ 7 ∷ 0 ∷ 0 ∷ 2 ∷ 4 ∷ NONE ∷ 2 ∷ 5 ∷ 3 ∷ []) (4 ∷ 8 ∷ []) (0 ∷ 0 ∷ 0 ∷ []) (1 ∷ 0 ∷ 0 ∷ 0 ∷ []) (0 ∷ 1 ∷ []) (of_bits binary64 4620703060072331178 ∷ of_bits binary64 13841127256322497007 ∷ of_bits binary64 13841319756670546827 ∷ of_bits binary64 13844095360262125150 ∷ of_bits binary64 13842058345262712212 ∷ of_bits binary64 4619105830454304168 ∷ of_bits binary64 4610183008759550416 ∷ of_bits binary64 4612795283491061920 ∷ of_bits binary64 4613349710649596564 ∷ [])) (lent 3 4 2 6) ≡
    refused (MarkedDeleted (AtFace 1)) (lent 3 4 2 6)
unfolding of_int of_bits add sub mul div Ieee.round said_checked said_subdivided said_edited links points tally turned heavy begin final work_needed enough unwanted overweight refusal last_links last_flag last_points last_marks subdivided left_after ended call then onward every c1_vertex c1_halfedge c1_face c2 c3 c4 c5 c6 c7 c8 c9 fault set_mark marked unmarked_new written edit_ended edit_refusal edit split_edge_edit split_face_edit insert_edge_edit swap_denied swap_ccw_edit swap_cw_edit triangulate_all split_edge joined paint across_face across_hole insert_edge insert_new cut_off cut_corner triangulate_face triangulate petal petals fan singles split_face swap_ccw swap_cw partner loop around is_v is_e is_h is_f put lay over each range round only has distinct first all number_of sum split_edges from_old pairs catmull_face catmull_pass corners loop_face loop_pass rim_of rim_side rim_face centre_face sqrt_face swap_inner sqrt_pass zero_p add_p scale_p over_p flat plus heads face_point catmull_edge catmull_rim catmull_inner catmull_vertex catmull_points inner on_rim loop_edge_point loop_vertex loop_points sqrt_vertex sqrt_answer answers sqrt_points cc_edge middle cc_inner loop_edge loop_rim weighted sqrt_rim sqrt_pair crowded two_rims catmull loop_scheme sqrt3 sizes fits fits_with used links_of marks_of points_of clean filled wiped counts_of tally_of counted triangulated catmull_tally loop_tally sqrt_tally dec row
refusals-42 = refl

schemes-139 :
    call loop_scheme 1 true (mesh 6 7 3 (5 ∷ 2 ∷ 12 ∷ 4 ∷ 7 ∷ 13 ∷ []) (1 ∷ 1 ∷ 2 ∷ 13 ∷ 2 ∷ 2 ∷ 12 ∷ 3 ∷ 1 ∷ 3 ∷ 4 ∷ 0 ∷ 2 ∷ 1 ∷ 1 ∷ 5 ∷ 1 ∷ 0 ∷ 9 ∷ 2 ∷ 2 ∷ 3 ∷ 3 ∷ 8 ∷ 2 ∷ 4 ∷ 8 ∷ 12 ∷ 1 ∷ 5 ∷ 13 ∷ 9 ∷ 2 ∷ 0 ∷ 5 ∷ 6 ∷ 1 ∷ 4 ∷ 7 ∷ 4 ∷ 0 ∷ 3766258647 ∷ 71791143 ∷ 5 ∷ 0 ∷ 2674672903 ∷ 22 ∷ 39 ∷ 2 ∷ 5 ∷ 6 ∷ 1 ∷ 1 ∷ 2 ∷ 0 ∷ 7 ∷ []) (21 ∷ 0 ∷ 3 ∷ []) (0 ∷ 0 ∷ 0 ∷ 0 ∷ 0 ∷ 0 ∷ []) (0 ∷ 0 ∷ 0 ∷ 0 ∷ 0 ∷ 1 ∷ 0 ∷ []) (1 ∷ 0 ∷ 0 ∷ []) (of_bits binary64 5669028270409035918 ∷ of_bits binary64 3121731769145612110 ∷ of_bits binary64 1216114409276287534 ∷ of_bits binary64 7352463995421699422 ∷ of_bits binary64 15456958887750236888 ∷ of_bits binary64 13926335088282815418 ∷ of_bits binary64 8932373412019210815 ∷ of_bits binary64 7739945341721988783 ∷ of_bits binary64 12133549297074227326 ∷ of_bits binary64 15444842496424261442 ∷ of_bits binary64 13443871391439535346 ∷ of_bits binary64 4084515753752906952 ∷ of_bits binary64 6506018337027865174 ∷ of_bits binary64 1639060493975258007 ∷ of_bits binary64 8846745815879649168 ∷ of_bits binary64 9996468663326250840 ∷ of_bits binary64 1455710455423124223 ∷ of_bits binary64 14965661658819105263 ∷ [])) (lent 6 7 3 6) ≡
    refused (MarkedDeleted (AtFace 0)) (lent 6 7 3 6)
unfolding of_int of_bits add sub mul div Ieee.round said_checked said_subdivided said_edited links points tally turned heavy begin final work_needed enough unwanted overweight refusal last_links last_flag last_points last_marks subdivided left_after ended call then onward every c1_vertex c1_halfedge c1_face c2 c3 c4 c5 c6 c7 c8 c9 fault set_mark marked unmarked_new written edit_ended edit_refusal edit split_edge_edit split_face_edit insert_edge_edit swap_denied swap_ccw_edit swap_cw_edit triangulate_all split_edge joined paint across_face across_hole insert_edge insert_new cut_off cut_corner triangulate_face triangulate petal petals fan singles split_face swap_ccw swap_cw partner loop around is_v is_e is_h is_f put lay over each range round only has distinct first all number_of sum split_edges from_old pairs catmull_face catmull_pass corners loop_face loop_pass rim_of rim_side rim_face centre_face sqrt_face swap_inner sqrt_pass zero_p add_p scale_p over_p flat plus heads face_point catmull_edge catmull_rim catmull_inner catmull_vertex catmull_points inner on_rim loop_edge_point loop_vertex loop_points sqrt_vertex sqrt_answer answers sqrt_points cc_edge middle cc_inner loop_edge loop_rim weighted sqrt_rim sqrt_pair crowded two_rims catmull loop_scheme sqrt3 sizes fits fits_with used links_of marks_of points_of clean filled wiped counts_of tally_of counted triangulated catmull_tally loop_tally sqrt_tally dec row
schemes-139 = refl

schemes-56 :
    call sqrt3 1 true (mesh 6 3 1 (0 ∷ NONE ∷ 2 ∷ NONE ∷ NONE ∷ 4 ∷ []) (NONE ∷ 2 ∷ 2 ∷ 4 ∷ 0 ∷ 0 ∷ 5 ∷ 3 ∷ NONE ∷ 5 ∷ 4 ∷ 0 ∷ 0 ∷ 2 ∷ 1 ∷ 5 ∷ NONE ∷ 0 ∷ 0 ∷ 2 ∷ 0 ∷ 5 ∷ 3 ∷ 1 ∷ []) (5 ∷ []) (0 ∷ 0 ∷ 0 ∷ 0 ∷ 0 ∷ 0 ∷ []) (0 ∷ 0 ∷ 0 ∷ []) (0 ∷ []) (of_bits binary64 4610944590611637400 ∷ of_bits binary64 4617935479248770296 ∷ of_bits binary64 4615086907563457136 ∷ of_bits binary64 13836409667603431136 ∷ of_bits binary64 4614696438957864608 ∷ of_bits binary64 13837913357952636176 ∷ of_bits binary64 13827497123693196080 ∷ of_bits binary64 4618325783825231412 ∷ of_bits binary64 4607235676659941400 ∷ of_bits binary64 13817755075861934976 ∷ of_bits binary64 4597213144275258304 ∷ of_bits binary64 4614797627608667724 ∷ of_bits binary64 13844957342950457908 ∷ of_bits binary64 4620979722730200026 ∷ of_bits binary64 4611942225181322224 ∷ of_bits binary64 13842112987300984844 ∷ of_bits binary64 13833168126383533480 ∷ of_bits binary64 13839991491944865962 ∷ [])) (lent 7 6 3 96) ≡
    done (mesh 7 6 3 (0 ∷ NONE ∷ 2 ∷ NONE ∷ NONE ∷ 4 ∷ 11 ∷ []) (NONE ∷ 2 ∷ 2 ∷ 4 ∷ 2 ∷ 0 ∷ 10 ∷ 9 ∷ NONE ∷ 5 ∷ 4 ∷ 0 ∷ 1 ∷ 2 ∷ 8 ∷ 7 ∷ NONE ∷ 0 ∷ 0 ∷ 2 ∷ 0 ∷ 5 ∷ 6 ∷ 11 ∷ 0 ∷ 6 ∷ 11 ∷ 5 ∷ 1 ∷ 5 ∷ 3 ∷ 8 ∷ 1 ∷ 6 ∷ 7 ∷ 3 ∷ 2 ∷ 2 ∷ 1 ∷ 10 ∷ 2 ∷ 6 ∷ 9 ∷ 1 ∷ 0 ∷ 0 ∷ 5 ∷ 6 ∷ []) (5 ∷ 3 ∷ 1 ∷ []) (0 ∷ 0 ∷ 0 ∷ 0 ∷ 0 ∷ 0 ∷ 0 ∷ []) (0 ∷ 0 ∷ 0 ∷ 0 ∷ 0 ∷ 0 ∷ []) (0 ∷ 0 ∷ 0 ∷ []) (of_bits binary64 4610944590611637400 ∷ of_bits binary64 4617935479248770296 ∷ of_bits binary64 4615086907563457136 ∷ of_bits binary64 13836409667603431136 ∷ of_bits binary64 4614696438957864608 ∷ of_bits binary64 13837913357952636176 ∷ of_bits binary64 13827497123693196080 ∷ of_bits binary64 4618325783825231412 ∷ of_bits binary64 4607235676659941400 ∷ of_bits binary64 13817755075861934976 ∷ of_bits binary64 4597213144275258304 ∷ of_bits binary64 4614797627608667724 ∷ of_bits binary64 13844957342950457908 ∷ of_bits binary64 4620979722730200026 ∷ of_bits binary64 4611942225181322224 ∷ of_bits binary64 13842112987300984844 ∷ of_bits binary64 13833168126383533480 ∷ of_bits binary64 13839991491944865962 ∷ of_bits binary64 13833693819455044709 ∷ of_bits binary64 4614589024553482881 ∷ of_bits binary64 4586903096911687168 ∷ [])) true 96
unfolding of_int of_bits add sub mul div Ieee.round said_checked said_subdivided said_edited links points tally turned heavy begin final work_needed enough unwanted overweight refusal last_links last_flag last_points last_marks subdivided left_after ended call then onward every c1_vertex c1_halfedge c1_face c2 c3 c4 c5 c6 c7 c8 c9 fault set_mark marked unmarked_new written edit_ended edit_refusal edit split_edge_edit split_face_edit insert_edge_edit swap_denied swap_ccw_edit swap_cw_edit triangulate_all split_edge joined paint across_face across_hole insert_edge insert_new cut_off cut_corner triangulate_face triangulate petal petals fan singles split_face swap_ccw swap_cw partner loop around is_v is_e is_h is_f put lay over each range round only has distinct first all number_of sum split_edges from_old pairs catmull_face catmull_pass corners loop_face loop_pass rim_of rim_side rim_face centre_face sqrt_face swap_inner sqrt_pass zero_p add_p scale_p over_p flat plus heads face_point catmull_edge catmull_rim catmull_inner catmull_vertex catmull_points inner on_rim loop_edge_point loop_vertex loop_points sqrt_vertex sqrt_answer answers sqrt_points cc_edge middle cc_inner loop_edge loop_rim weighted sqrt_rim sqrt_pair crowded two_rims catmull loop_scheme sqrt3 sizes fits fits_with used links_of marks_of points_of clean filled wiped counts_of tally_of counted triangulated catmull_tally loop_tally sqrt_tally dec row
schemes-56 = refl

schemes-167 :
    call loop_scheme 0 true (mesh 5 5 2 (9 ∷ 5 ∷ 6 ∷ 1 ∷ 8 ∷ []) (1 ∷ 3 ∷ 3 ∷ 4 ∷ 0 ∷ 1 ∷ 5 ∷ 2 ∷ 0 ∷ 3 ∷ 1 ∷ 8 ∷ 1 ∷ 0 ∷ 9 ∷ 0 ∷ 1 ∷ 1 ∷ 0 ∷ 7 ∷ 0 ∷ 2 ∷ 6 ∷ 1 ∷ 0 ∷ 4 ∷ 8 ∷ 5 ∷ 1 ∷ 2 ∷ 4 ∷ 9 ∷ 0 ∷ 0 ∷ 2 ∷ 6 ∷ 1 ∷ 4 ∷ 7 ∷ 3 ∷ []) (1 ∷ 4 ∷ []) (0 ∷ 0 ∷ 0 ∷ 0 ∷ 0 ∷ []) (0 ∷ 0 ∷ 0 ∷ 0 ∷ 0 ∷ []) (0 ∷ 0 ∷ []) (of_bits binary64 10459633652002781278 ∷ of_bits binary64 1952855698203726063 ∷ of_bits binary64 3379346222663800806 ∷ of_bits binary64 2793885763270192731 ∷ of_bits binary64 11714433357174470610 ∷ of_bits binary64 14459977502908254219 ∷ of_bits binary64 7143694006091879648 ∷ of_bits binary64 5907596854478772789 ∷ of_bits binary64 10579975453389097590 ∷ of_bits binary64 15511391752981533220 ∷ of_bits binary64 6420747596572246195 ∷ of_bits binary64 12167458247797263425 ∷ of_bits binary64 12431004168898925385 ∷ of_bits binary64 16347889362036067212 ∷ of_bits binary64 4319830264986929175 ∷ [])) (lent 5 5 2 72) ≡
    done (mesh 5 5 2 (9 ∷ 5 ∷ 6 ∷ 1 ∷ 8 ∷ []) (1 ∷ 3 ∷ 3 ∷ 4 ∷ 0 ∷ 1 ∷ 5 ∷ 2 ∷ 0 ∷ 3 ∷ 1 ∷ 8 ∷ 1 ∷ 0 ∷ 9 ∷ 0 ∷ 1 ∷ 1 ∷ 0 ∷ 7 ∷ 0 ∷ 2 ∷ 6 ∷ 1 ∷ 0 ∷ 4 ∷ 8 ∷ 5 ∷ 1 ∷ 2 ∷ 4 ∷ 9 ∷ 0 ∷ 0 ∷ 2 ∷ 6 ∷ 1 ∷ 4 ∷ 7 ∷ 3 ∷ []) (1 ∷ 4 ∷ []) (0 ∷ 0 ∷ 0 ∷ 0 ∷ 0 ∷ []) (0 ∷ 0 ∷ 0 ∷ 0 ∷ 0 ∷ []) (0 ∷ 0 ∷ []) (of_bits binary64 10459633652002781278 ∷ of_bits binary64 1952855698203726063 ∷ of_bits binary64 3379346222663800806 ∷ of_bits binary64 2793885763270192731 ∷ of_bits binary64 11714433357174470610 ∷ of_bits binary64 14459977502908254219 ∷ of_bits binary64 7143694006091879648 ∷ of_bits binary64 5907596854478772789 ∷ of_bits binary64 10579975453389097590 ∷ of_bits binary64 15511391752981533220 ∷ of_bits binary64 6420747596572246195 ∷ of_bits binary64 12167458247797263425 ∷ of_bits binary64 12431004168898925385 ∷ of_bits binary64 16347889362036067212 ∷ of_bits binary64 4319830264986929175 ∷ [])) true 72
unfolding of_int of_bits add sub mul div Ieee.round said_checked said_subdivided said_edited links points tally turned heavy begin final work_needed enough unwanted overweight refusal last_links last_flag last_points last_marks subdivided left_after ended call then onward every c1_vertex c1_halfedge c1_face c2 c3 c4 c5 c6 c7 c8 c9 fault set_mark marked unmarked_new written edit_ended edit_refusal edit split_edge_edit split_face_edit insert_edge_edit swap_denied swap_ccw_edit swap_cw_edit triangulate_all split_edge joined paint across_face across_hole insert_edge insert_new cut_off cut_corner triangulate_face triangulate petal petals fan singles split_face swap_ccw swap_cw partner loop around is_v is_e is_h is_f put lay over each range round only has distinct first all number_of sum split_edges from_old pairs catmull_face catmull_pass corners loop_face loop_pass rim_of rim_side rim_face centre_face sqrt_face swap_inner sqrt_pass zero_p add_p scale_p over_p flat plus heads face_point catmull_edge catmull_rim catmull_inner catmull_vertex catmull_points inner on_rim loop_edge_point loop_vertex loop_points sqrt_vertex sqrt_answer answers sqrt_points cc_edge middle cc_inner loop_edge loop_rim weighted sqrt_rim sqrt_pair crowded two_rims catmull loop_scheme sqrt3 sizes fits fits_with used links_of marks_of points_of clean filled wiped counts_of tally_of counted triangulated catmull_tally loop_tally sqrt_tally dec row
schemes-167 = refl

schemes-174 :
    call catmull 0 true (mesh 5 5 1 (4 ∷ 7 ∷ 0 ∷ 9 ∷ 2 ∷ []) (NONE ∷ 1 ∷ 7 ∷ 9 ∷ 0 ∷ 2 ∷ 8 ∷ 6 ∷ NONE ∷ 0 ∷ 4 ∷ 7 ∷ 0 ∷ 4 ∷ 6 ∷ 5 ∷ NONE ∷ 3 ∷ 9 ∷ 2 ∷ 0 ∷ 0 ∷ 3 ∷ 8 ∷ 0 ∷ 1 ∷ 1 ∷ 3 ∷ NONE ∷ 4 ∷ 2 ∷ 0 ∷ 0 ∷ 3 ∷ 5 ∷ 1 ∷ NONE ∷ 2 ∷ 0 ∷ 4 ∷ []) (5 ∷ []) (0 ∷ 0 ∷ 0 ∷ 0 ∷ 0 ∷ []) (0 ∷ 0 ∷ 0 ∷ 0 ∷ 0 ∷ []) (0 ∷ []) (of_bits binary64 4619612282638712948 ∷ of_bits binary64 13835265213706318686 ∷ of_bits binary64 13843360252330642602 ∷ of_bits binary64 13831292522164926168 ∷ of_bits binary64 4604898661884461552 ∷ of_bits binary64 4617264924699356960 ∷ of_bits binary64 4616190886223401682 ∷ of_bits binary64 4620536348760137644 ∷ of_bits binary64 13844269061075912139 ∷ of_bits binary64 4614976329499681280 ∷ of_bits binary64 13844987687621437497 ∷ of_bits binary64 4619124138156201056 ∷ of_bits binary64 4619574823029228656 ∷ of_bits binary64 13832168859815480768 ∷ of_bits binary64 4620739667787252068 ∷ [])) (lent 5 5 1 66) ≡
    done (mesh 5 5 1 (4 ∷ 7 ∷ 0 ∷ 9 ∷ 2 ∷ []) (NONE ∷ 1 ∷ 7 ∷ 9 ∷ 0 ∷ 2 ∷ 8 ∷ 6 ∷ NONE ∷ 0 ∷ 4 ∷ 7 ∷ 0 ∷ 4 ∷ 6 ∷ 5 ∷ NONE ∷ 3 ∷ 9 ∷ 2 ∷ 0 ∷ 0 ∷ 3 ∷ 8 ∷ 0 ∷ 1 ∷ 1 ∷ 3 ∷ NONE ∷ 4 ∷ 2 ∷ 0 ∷ 0 ∷ 3 ∷ 5 ∷ 1 ∷ NONE ∷ 2 ∷ 0 ∷ 4 ∷ []) (5 ∷ []) (0 ∷ 0 ∷ 0 ∷ 0 ∷ 0 ∷ []) (0 ∷ 0 ∷ 0 ∷ 0 ∷ 0 ∷ []) (0 ∷ []) (of_bits binary64 4619612282638712948 ∷ of_bits binary64 13835265213706318686 ∷ of_bits binary64 13843360252330642602 ∷ of_bits binary64 13831292522164926168 ∷ of_bits binary64 4604898661884461552 ∷ of_bits binary64 4617264924699356960 ∷ of_bits binary64 4616190886223401682 ∷ of_bits binary64 4620536348760137644 ∷ of_bits binary64 13844269061075912139 ∷ of_bits binary64 4614976329499681280 ∷ of_bits binary64 13844987687621437497 ∷ of_bits binary64 4619124138156201056 ∷ of_bits binary64 4619574823029228656 ∷ of_bits binary64 13832168859815480768 ∷ of_bits binary64 4620739667787252068 ∷ [])) true 66
unfolding of_int of_bits add sub mul div Ieee.round said_checked said_subdivided said_edited links points tally turned heavy begin final work_needed enough unwanted overweight refusal last_links last_flag last_points last_marks subdivided left_after ended call then onward every c1_vertex c1_halfedge c1_face c2 c3 c4 c5 c6 c7 c8 c9 fault set_mark marked unmarked_new written edit_ended edit_refusal edit split_edge_edit split_face_edit insert_edge_edit swap_denied swap_ccw_edit swap_cw_edit triangulate_all split_edge joined paint across_face across_hole insert_edge insert_new cut_off cut_corner triangulate_face triangulate petal petals fan singles split_face swap_ccw swap_cw partner loop around is_v is_e is_h is_f put lay over each range round only has distinct first all number_of sum split_edges from_old pairs catmull_face catmull_pass corners loop_face loop_pass rim_of rim_side rim_face centre_face sqrt_face swap_inner sqrt_pass zero_p add_p scale_p over_p flat plus heads face_point catmull_edge catmull_rim catmull_inner catmull_vertex catmull_points inner on_rim loop_edge_point loop_vertex loop_points sqrt_vertex sqrt_answer answers sqrt_points cc_edge middle cc_inner loop_edge loop_rim weighted sqrt_rim sqrt_pair crowded two_rims catmull loop_scheme sqrt3 sizes fits fits_with used links_of marks_of points_of clean filled wiped counts_of tally_of counted triangulated catmull_tally loop_tally sqrt_tally dec row
schemes-174 = refl

schemes-159 :
    call catmull 0 false (mesh 6 7 2 (11 ∷ 13 ∷ 5 ∷ 9 ∷ 3 ∷ 6 ∷ []) (0 ∷ 4 ∷ 8 ∷ 10 ∷ 1 ∷ 0 ∷ 7 ∷ 2 ∷ 1 ∷ 4 ∷ 1 ∷ 7 ∷ NONE ∷ 5 ∷ 6 ∷ 9 ∷ 0 ∷ 2 ∷ 10 ∷ 12 ∷ NONE ∷ 1 ∷ 13 ∷ 11 ∷ NONE ∷ 0 ∷ 11 ∷ 3 ∷ 1 ∷ 5 ∷ 2 ∷ 1 ∷ 0 ∷ 3 ∷ 12 ∷ 0 ∷ NONE ∷ 4 ∷ 3 ∷ 13 ∷ 0 ∷ 0 ∷ 0 ∷ 4 ∷ NONE ∷ 2 ∷ 5 ∷ 6 ∷ 0 ∷ 1 ∷ 4 ∷ 8 ∷ NONE ∷ 3 ∷ 9 ∷ 5 ∷ []) (4 ∷ 7 ∷ []) (0 ∷ 0 ∷ 0 ∷ 0 ∷ 0 ∷ 0 ∷ []) (0 ∷ 0 ∷ 0 ∷ 0 ∷ 0 ∷ 0 ∷ 0 ∷ []) (0 ∷ 0 ∷ []) (of_bits binary64 1 ∷ of_bits binary64 16113862632893029736 ∷ of_bits binary64 8144753495898899821 ∷ of_bits binary64 9218868437227405311 ∷ of_bits binary64 8346043933105856465 ∷ of_bits binary64 4607182418800017408 ∷ of_bits binary64 17412826638591228712 ∷ of_bits binary64 9214364837600034816 ∷ of_bits binary64 2041021773385842072 ∷ of_bits binary64 11650097621268598561 ∷ of_bits binary64 4503599627370495 ∷ of_bits binary64 2614155531511292971 ∷ of_bits binary64 4503599627370496 ∷ of_bits binary64 1456891352594161291 ∷ of_bits binary64 7540354322756566911 ∷ of_bits binary64 12624991010966828375 ∷ of_bits binary64 4607182418800017408 ∷ of_bits binary64 10656800145197242994 ∷ [])) (lent 6 7 2 90) ≡
    done (mesh 6 7 2 (11 ∷ 13 ∷ 5 ∷ 9 ∷ 3 ∷ 6 ∷ []) (0 ∷ 4 ∷ 8 ∷ 10 ∷ 1 ∷ 0 ∷ 7 ∷ 2 ∷ 1 ∷ 4 ∷ 1 ∷ 7 ∷ NONE ∷ 5 ∷ 6 ∷ 9 ∷ 0 ∷ 2 ∷ 10 ∷ 12 ∷ NONE ∷ 1 ∷ 13 ∷ 11 ∷ NONE ∷ 0 ∷ 11 ∷ 3 ∷ 1 ∷ 5 ∷ 2 ∷ 1 ∷ 0 ∷ 3 ∷ 12 ∷ 0 ∷ NONE ∷ 4 ∷ 3 ∷ 13 ∷ 0 ∷ 0 ∷ 0 ∷ 4 ∷ NONE ∷ 2 ∷ 5 ∷ 6 ∷ 0 ∷ 1 ∷ 4 ∷ 8 ∷ NONE ∷ 3 ∷ 9 ∷ 5 ∷ []) (4 ∷ 7 ∷ []) (0 ∷ 0 ∷ 0 ∷ 0 ∷ 0 ∷ 0 ∷ []) (0 ∷ 0 ∷ 0 ∷ 0 ∷ 0 ∷ 0 ∷ 0 ∷ []) (0 ∷ 0 ∷ []) (of_bits binary64 1 ∷ of_bits binary64 16113862632893029736 ∷ of_bits binary64 8144753495898899821 ∷ of_bits binary64 9218868437227405311 ∷ of_bits binary64 8346043933105856465 ∷ of_bits binary64 4607182418800017408 ∷ of_bits binary64 17412826638591228712 ∷ of_bits binary64 9214364837600034816 ∷ of_bits binary64 2041021773385842072 ∷ of_bits binary64 11650097621268598561 ∷ of_bits binary64 4503599627370495 ∷ of_bits binary64 2614155531511292971 ∷ of_bits binary64 4503599627370496 ∷ of_bits binary64 1456891352594161291 ∷ of_bits binary64 7540354322756566911 ∷ of_bits binary64 12624991010966828375 ∷ of_bits binary64 4607182418800017408 ∷ of_bits binary64 10656800145197242994 ∷ [])) false 90
unfolding of_int of_bits add sub mul div Ieee.round said_checked said_subdivided said_edited links points tally turned heavy begin final work_needed enough unwanted overweight refusal last_links last_flag last_points last_marks subdivided left_after ended call then onward every c1_vertex c1_halfedge c1_face c2 c3 c4 c5 c6 c7 c8 c9 fault set_mark marked unmarked_new written edit_ended edit_refusal edit split_edge_edit split_face_edit insert_edge_edit swap_denied swap_ccw_edit swap_cw_edit triangulate_all split_edge joined paint across_face across_hole insert_edge insert_new cut_off cut_corner triangulate_face triangulate petal petals fan singles split_face swap_ccw swap_cw partner loop around is_v is_e is_h is_f put lay over each range round only has distinct first all number_of sum split_edges from_old pairs catmull_face catmull_pass corners loop_face loop_pass rim_of rim_side rim_face centre_face sqrt_face swap_inner sqrt_pass zero_p add_p scale_p over_p flat plus heads face_point catmull_edge catmull_rim catmull_inner catmull_vertex catmull_points inner on_rim loop_edge_point loop_vertex loop_points sqrt_vertex sqrt_answer answers sqrt_points cc_edge middle cc_inner loop_edge loop_rim weighted sqrt_rim sqrt_pair crowded two_rims catmull loop_scheme sqrt3 sizes fits fits_with used links_of marks_of points_of clean filled wiped counts_of tally_of counted triangulated catmull_tally loop_tally sqrt_tally dec row
schemes-159 = refl

refusals-24 :
    call sqrt3 0 true (mesh 7 7 3 (8 ∷ 1697283811 ∷ 1 ∷ 11 ∷ NONE ∷ 10 ∷ 2 ∷ []) (1 ∷ 2 ∷ 9 ∷ 10 ∷ 0 ∷ 3 ∷ 11 ∷ 8 ∷ 1 ∷ 5 ∷ 10 ∷ 5 ∷ 0 ∷ 6 ∷ 4 ∷ 11 ∷ 0 ∷ 0 ∷ 8 ∷ 3 ∷ 1 ∷ 6 ∷ 2 ∷ 9 ∷ 20 ∷ 536471397 ∷ NONE ∷ 447802778 ∷ NONE ∷ NONE ∷ 0 ∷ 16821317 ∷ 0 ∷ 2 ∷ 1 ∷ 4 ∷ 1 ∷ 0 ∷ 5 ∷ 0 ∷ 1 ∷ 3 ∷ 0 ∷ 2 ∷ 0 ∷ 5 ∷ 3 ∷ 1 ∷ NONE ∷ 35 ∷ 0 ∷ 22 ∷ NONE ∷ NONE ∷ 0 ∷ 0 ∷ []) (1 ∷ 0 ∷ 7 ∷ []) (0 ∷ 1 ∷ 0 ∷ 0 ∷ 1 ∷ 0 ∷ 0 ∷ []) (0 ∷ 0 ∷ 0 ∷ 1 ∷ 0 ∷ 0 ∷ 1 ∷ []) (0 ∷ 0 ∷ 1 ∷ []) (of_bits binary64 13839687960591462007 ∷ of_bits binary64 4598575513353085760 ∷ of_bits binary64 4617818293410600084 ∷ of_bits binary64 715219275402008331 ∷ of_bits binary64 2419627630278698854 ∷ of_bits binary64 1232903484880296519 ∷ of_bits binary64 13843560265774388962 ∷ of_bits binary64 13813887431661526144 ∷ of_bits binary64 13819891078058993728 ∷ of_bits binary64 13840573973620436852 ∷ of_bits binary64 13833013453548959760 ∷ of_bits binary64 4614915469302198324 ∷ of_bits binary64 3834231561571891256 ∷ of_bits binary64 2336942903695004663 ∷ of_bits binary64 607580743826513197 ∷ of_bits binary64 13797437205055477760 ∷ of_bits binary64 4620314228000852288 ∷ of_bits binary64 4620943238005702668 ∷ of_bits binary64 4613260941079310832 ∷ of_bits binary64 13835786395542390632 ∷ of_bits binary64 13844698089649423632 ∷ [])) (lent 7 7 3 102) ≡
    done (mesh 7 7 3 (8 ∷ 1697283811 ∷ 1 ∷ 11 ∷ NONE ∷ 10 ∷ 2 ∷ []) (1 ∷ 2 ∷ 9 ∷ 10 ∷ 0 ∷ 3 ∷ 11 ∷ 8 ∷ 1 ∷ 5 ∷ 10 ∷ 5 ∷ 0 ∷ 6 ∷ 4 ∷ 11 ∷ 0 ∷ 0 ∷ 8 ∷ 3 ∷ 1 ∷ 6 ∷ 2 ∷ 9 ∷ 20 ∷ 536471397 ∷ NONE ∷ 447802778 ∷ NONE ∷ NONE ∷ 0 ∷ 16821317 ∷ 0 ∷ 2 ∷ 1 ∷ 4 ∷ 1 ∷ 0 ∷ 5 ∷ 0 ∷ 1 ∷ 3 ∷ 0 ∷ 2 ∷ 0 ∷ 5 ∷ 3 ∷ 1 ∷ NONE ∷ 35 ∷ 0 ∷ 22 ∷ NONE ∷ NONE ∷ 0 ∷ 0 ∷ []) (1 ∷ 0 ∷ 7 ∷ []) (0 ∷ 1 ∷ 0 ∷ 0 ∷ 1 ∷ 0 ∷ 0 ∷ []) (0 ∷ 0 ∷ 0 ∷ 1 ∷ 0 ∷ 0 ∷ 1 ∷ []) (0 ∷ 0 ∷ 1 ∷ []) (of_bits binary64 13839687960591462007 ∷ of_bits binary64 4598575513353085760 ∷ of_bits binary64 4617818293410600084 ∷ of_bits binary64 715219275402008331 ∷ of_bits binary64 2419627630278698854 ∷ of_bits binary64 1232903484880296519 ∷ of_bits binary64 13843560265774388962 ∷ of_bits binary64 13813887431661526144 ∷ of_bits binary64 13819891078058993728 ∷ of_bits binary64 13840573973620436852 ∷ of_bits binary64 13833013453548959760 ∷ of_bits binary64 4614915469302198324 ∷ of_bits binary64 3834231561571891256 ∷ of_bits binary64 2336942903695004663 ∷ of_bits binary64 607580743826513197 ∷ of_bits binary64 13797437205055477760 ∷ of_bits binary64 4620314228000852288 ∷ of_bits binary64 4620943238005702668 ∷ of_bits binary64 4613260941079310832 ∷ of_bits binary64 13835786395542390632 ∷ of_bits binary64 13844698089649423632 ∷ [])) true 102
unfolding of_int of_bits add sub mul div Ieee.round said_checked said_subdivided said_edited links points tally turned heavy begin final work_needed enough unwanted overweight refusal last_links last_flag last_points last_marks subdivided left_after ended call then onward every c1_vertex c1_halfedge c1_face c2 c3 c4 c5 c6 c7 c8 c9 fault set_mark marked unmarked_new written edit_ended edit_refusal edit split_edge_edit split_face_edit insert_edge_edit swap_denied swap_ccw_edit swap_cw_edit triangulate_all split_edge joined paint across_face across_hole insert_edge insert_new cut_off cut_corner triangulate_face triangulate petal petals fan singles split_face swap_ccw swap_cw partner loop around is_v is_e is_h is_f put lay over each range round only has distinct first all number_of sum split_edges from_old pairs catmull_face catmull_pass corners loop_face loop_pass rim_of rim_side rim_face centre_face sqrt_face swap_inner sqrt_pass zero_p add_p scale_p over_p flat plus heads face_point catmull_edge catmull_rim catmull_inner catmull_vertex catmull_points inner on_rim loop_edge_point loop_vertex loop_points sqrt_vertex sqrt_answer answers sqrt_points cc_edge middle cc_inner loop_edge loop_rim weighted sqrt_rim sqrt_pair crowded two_rims catmull loop_scheme sqrt3 sizes fits fits_with used links_of marks_of points_of clean filled wiped counts_of tally_of counted triangulated catmull_tally loop_tally sqrt_tally dec row
refusals-24 = refl

schemes-37 :
    call catmull 1 false (mesh 4 4 1 (4 ∷ 6 ∷ 2 ∷ 0 ∷ []) (NONE ∷ 1 ∷ 6 ∷ 4 ∷ 0 ∷ 3 ∷ 5 ∷ 7 ∷ NONE ∷ 0 ∷ 4 ∷ 6 ∷ 0 ∷ 2 ∷ 7 ∷ 5 ∷ NONE ∷ 3 ∷ 0 ∷ 2 ∷ 0 ∷ 0 ∷ 3 ∷ 1 ∷ NONE ∷ 2 ∷ 2 ∷ 0 ∷ 0 ∷ 1 ∷ 1 ∷ 3 ∷ []) (7 ∷ []) (0 ∷ 0 ∷ 0 ∷ 0 ∷ []) (0 ∷ 0 ∷ 0 ∷ 0 ∷ []) (0 ∷ []) (of_bits binary64 6759219761388730703 ∷ of_bits binary64 4475507786634200213 ∷ of_bits binary64 14186655528842470886 ∷ of_bits binary64 9223372036854775809 ∷ of_bits binary64 17499352161022177216 ∷ of_bits binary64 7341804568708044211 ∷ of_bits binary64 9214364837600034816 ∷ of_bits binary64 14294671265113636863 ∷ of_bits binary64 9223372036854775808 ∷ nan ∷ of_bits binary64 1 ∷ of_bits binary64 8445707157107298257 ∷ [])) (lent 9 12 4 150) ≡
    done (mesh 9 12 4 (12 ∷ 14 ∷ 10 ∷ 8 ∷ 0 ∷ 2 ∷ 4 ∷ 6 ∷ 17 ∷ []) (NONE ∷ 1 ∷ 14 ∷ 8 ∷ 0 ∷ 4 ∷ 18 ∷ 15 ∷ NONE ∷ 0 ∷ 12 ∷ 10 ∷ 2 ∷ 5 ∷ 22 ∷ 13 ∷ NONE ∷ 3 ∷ 8 ∷ 12 ∷ 1 ∷ 6 ∷ 20 ∷ 9 ∷ NONE ∷ 2 ∷ 10 ∷ 14 ∷ 3 ∷ 7 ∷ 16 ∷ 11 ∷ NONE ∷ 4 ∷ 0 ∷ 4 ∷ 1 ∷ 3 ∷ 5 ∷ 19 ∷ NONE ∷ 5 ∷ 2 ∷ 6 ∷ 3 ∷ 2 ∷ 7 ∷ 23 ∷ NONE ∷ 6 ∷ 4 ∷ 2 ∷ 2 ∷ 0 ∷ 3 ∷ 21 ∷ NONE ∷ 7 ∷ 6 ∷ 0 ∷ 0 ∷ 1 ∷ 1 ∷ 17 ∷ 3 ∷ 8 ∷ 23 ∷ 7 ∷ 0 ∷ 7 ∷ 15 ∷ 18 ∷ 0 ∷ 8 ∷ 17 ∷ 1 ∷ 1 ∷ 4 ∷ 9 ∷ 20 ∷ 1 ∷ 8 ∷ 19 ∷ 5 ∷ 2 ∷ 6 ∷ 13 ∷ 22 ∷ 2 ∷ 8 ∷ 21 ∷ 3 ∷ 3 ∷ 5 ∷ 11 ∷ 16 ∷ []) (15 ∷ 9 ∷ 13 ∷ 11 ∷ []) (0 ∷ 0 ∷ 0 ∷ 0 ∷ 0 ∷ 0 ∷ 0 ∷ 0 ∷ 0 ∷ []) (0 ∷ 0 ∷ 0 ∷ 0 ∷ 0 ∷ 0 ∷ 0 ∷ 0 ∷ 0 ∷ 0 ∷ 0 ∷ 0 ∷ []) (0 ∷ 0 ∷ 0 ∷ 0 ∷ []) (of_bits binary64 6759219761388730703 ∷ of_bits binary64 4475507786634200213 ∷ of_bits binary64 14186655528842470886 ∷ of_bits binary64 9223372036854775809 ∷ of_bits binary64 17499352161022177216 ∷ of_bits binary64 7341804568708044211 ∷ of_bits binary64 9214364837600034816 ∷ of_bits binary64 14294671265113636863 ∷ of_bits binary64 9223372036854775808 ∷ nan ∷ of_bits binary64 1 ∷ of_bits binary64 8445707157107298257 ∷ nan ∷ of_bits binary64 17494848561394806720 ∷ of_bits binary64 8441203557479927761 ∷ of_bits binary64 9209861237972664320 ∷ of_bits binary64 14290167665486266367 ∷ of_bits binary64 14182151929215100390 ∷ nan ∷ of_bits binary64 4471004187006829717 ∷ of_bits binary64 8441203557479927761 ∷ of_bits binary64 9209861237972664320 ∷ of_bits binary64 17494848561394806720 ∷ of_bits binary64 7337300969080673715 ∷ nan ∷ of_bits binary64 17490344961767436224 ∷ of_bits binary64 8436699957852557265 ∷ [])) false 150
unfolding of_int of_bits add sub mul div Ieee.round said_checked said_subdivided said_edited links points tally turned heavy begin final work_needed enough unwanted overweight refusal last_links last_flag last_points last_marks subdivided left_after ended call then onward every c1_vertex c1_halfedge c1_face c2 c3 c4 c5 c6 c7 c8 c9 fault set_mark marked unmarked_new written edit_ended edit_refusal edit split_edge_edit split_face_edit insert_edge_edit swap_denied swap_ccw_edit swap_cw_edit triangulate_all split_edge joined paint across_face across_hole insert_edge insert_new cut_off cut_corner triangulate_face triangulate petal petals fan singles split_face swap_ccw swap_cw partner loop around is_v is_e is_h is_f put lay over each range round only has distinct first all number_of sum split_edges from_old pairs catmull_face catmull_pass corners loop_face loop_pass rim_of rim_side rim_face centre_face sqrt_face swap_inner sqrt_pass zero_p add_p scale_p over_p flat plus heads face_point catmull_edge catmull_rim catmull_inner catmull_vertex catmull_points inner on_rim loop_edge_point loop_vertex loop_points sqrt_vertex sqrt_answer answers sqrt_points cc_edge middle cc_inner loop_edge loop_rim weighted sqrt_rim sqrt_pair crowded two_rims catmull loop_scheme sqrt3 sizes fits fits_with used links_of marks_of points_of clean filled wiped counts_of tally_of counted triangulated catmull_tally loop_tally sqrt_tally dec row
schemes-37 = refl

schemes-123 :
    call catmull 1 true (mesh 4 4 1 (5 ∷ 2 ∷ 6 ∷ 1 ∷ []) (0 ∷ 3 ∷ 4 ∷ 3 ∷ NONE ∷ 1 ∷ 2 ∷ 5 ∷ NONE ∷ 2 ∷ 6 ∷ 1 ∷ 0 ∷ 1 ∷ 0 ∷ 7 ∷ 0 ∷ 0 ∷ 7 ∷ 0 ∷ NONE ∷ 3 ∷ 1 ∷ 6 ∷ NONE ∷ 0 ∷ 5 ∷ 2 ∷ 0 ∷ 2 ∷ 3 ∷ 4 ∷ []) (0 ∷ []) (0 ∷ 0 ∷ 0 ∷ 0 ∷ []) (0 ∷ 0 ∷ 0 ∷ 0 ∷ []) (0 ∷ []) (of_bits binary64 9214364837600034816 ∷ of_bits binary64 14149984814905522057 ∷ of_bits binary64 1619445595311717064 ∷ of_bits binary64 234708374838296190 ∷ nan ∷ of_bits binary64 4299265635691795760 ∷ of_bits binary64 15875786283829592556 ∷ of_bits binary64 13176871216503158994 ∷ of_bits binary64 0 ∷ of_bits binary64 8525416543882939452 ∷ of_bits binary64 13688376956189427894 ∷ of_bits binary64 10130830783666559593 ∷ [])) (lent 9 12 4 150) ≡
    done (mesh 9 12 4 (5 ∷ 10 ∷ 14 ∷ 1 ∷ 9 ∷ 2 ∷ 13 ∷ 6 ∷ 17 ∷ []) (0 ∷ 3 ∷ 12 ∷ 17 ∷ NONE ∷ 4 ∷ 9 ∷ 13 ∷ NONE ∷ 2 ∷ 14 ∷ 10 ∷ 2 ∷ 5 ∷ 22 ∷ 15 ∷ 1 ∷ 0 ∷ 7 ∷ 19 ∷ NONE ∷ 6 ∷ 13 ∷ 6 ∷ NONE ∷ 0 ∷ 5 ∷ 14 ∷ 1 ∷ 7 ∷ 20 ∷ 4 ∷ 3 ∷ 4 ∷ 16 ∷ 11 ∷ NONE ∷ 1 ∷ 10 ∷ 1 ∷ NONE ∷ 5 ∷ 2 ∷ 9 ∷ 3 ∷ 1 ∷ 8 ∷ 23 ∷ 0 ∷ 6 ∷ 18 ∷ 0 ∷ NONE ∷ 3 ∷ 1 ∷ 5 ∷ NONE ∷ 7 ∷ 6 ∷ 2 ∷ 2 ∷ 2 ∷ 3 ∷ 21 ∷ 3 ∷ 8 ∷ 23 ∷ 8 ∷ 0 ∷ 4 ∷ 0 ∷ 18 ∷ 0 ∷ 8 ∷ 17 ∷ 12 ∷ 1 ∷ 6 ∷ 4 ∷ 20 ∷ 1 ∷ 8 ∷ 19 ∷ 7 ∷ 2 ∷ 7 ∷ 15 ∷ 22 ∷ 2 ∷ 8 ∷ 21 ∷ 3 ∷ 3 ∷ 5 ∷ 11 ∷ 16 ∷ []) (0 ∷ 4 ∷ 15 ∷ 11 ∷ []) (0 ∷ 0 ∷ 0 ∷ 0 ∷ 0 ∷ 0 ∷ 0 ∷ 0 ∷ 0 ∷ []) (0 ∷ 0 ∷ 0 ∷ 0 ∷ 0 ∷ 0 ∷ 0 ∷ 0 ∷ 0 ∷ 0 ∷ 0 ∷ 0 ∷ []) (0 ∷ 0 ∷ 0 ∷ 0 ∷ []) (of_bits binary64 9218868437227405312 ∷ of_bits binary64 14147090819918133851 ∷ of_bits binary64 1617059952407357232 ∷ of_bits binary64 8513441094633481637 ∷ nan ∷ of_bits binary64 4296820572089224736 ∷ of_bits binary64 9202355238593713493 ∷ nan ∷ of_bits binary64 4287813372834483744 ∷ of_bits binary64 9202355238593713493 ∷ nan ∷ of_bits binary64 4287813372834483744 ∷ of_bits binary64 8520912944255568956 ∷ nan ∷ of_bits binary64 4294762036064425264 ∷ of_bits binary64 15871282684202222060 ∷ nan ∷ of_bits binary64 4294762036064425264 ∷ of_bits binary64 9209861237972664320 ∷ of_bits binary64 14145481215278151561 ∷ of_bits binary64 1614941995684346568 ∷ of_bits binary64 9209861237972664320 ∷ of_bits binary64 14145481215278151561 ∷ of_bits binary64 1614941995684346568 ∷ of_bits binary64 9205357638345293824 ∷ nan ∷ of_bits binary64 4290258436437054768 ∷ [])) true 150
unfolding of_int of_bits add sub mul div Ieee.round said_checked said_subdivided said_edited links points tally turned heavy begin final work_needed enough unwanted overweight refusal last_links last_flag last_points last_marks subdivided left_after ended call then onward every c1_vertex c1_halfedge c1_face c2 c3 c4 c5 c6 c7 c8 c9 fault set_mark marked unmarked_new written edit_ended edit_refusal edit split_edge_edit split_face_edit insert_edge_edit swap_denied swap_ccw_edit swap_cw_edit triangulate_all split_edge joined paint across_face across_hole insert_edge insert_new cut_off cut_corner triangulate_face triangulate petal petals fan singles split_face swap_ccw swap_cw partner loop around is_v is_e is_h is_f put lay over each range round only has distinct first all number_of sum split_edges from_old pairs catmull_face catmull_pass corners loop_face loop_pass rim_of rim_side rim_face centre_face sqrt_face swap_inner sqrt_pass zero_p add_p scale_p over_p flat plus heads face_point catmull_edge catmull_rim catmull_inner catmull_vertex catmull_points inner on_rim loop_edge_point loop_vertex loop_points sqrt_vertex sqrt_answer answers sqrt_points cc_edge middle cc_inner loop_edge loop_rim weighted sqrt_rim sqrt_pair crowded two_rims catmull loop_scheme sqrt3 sizes fits fits_with used links_of marks_of points_of clean filled wiped counts_of tally_of counted triangulated catmull_tally loop_tally sqrt_tally dec row
schemes-123 = refl

schemes-120 :
    call loop_scheme 1 false (mesh 6 4 1 (NONE ∷ NONE ∷ 7 ∷ 0 ∷ 2 ∷ 5 ∷ []) (NONE ∷ 4 ∷ 2 ∷ 7 ∷ 0 ∷ 3 ∷ 6 ∷ 3 ∷ NONE ∷ 5 ∷ 5 ∷ 0 ∷ 0 ∷ 4 ∷ 1 ∷ 4 ∷ 0 ∷ 5 ∷ 3 ∷ 6 ∷ NONE ∷ 2 ∷ 7 ∷ 2 ∷ 0 ∷ 2 ∷ 4 ∷ 1 ∷ NONE ∷ 3 ∷ 0 ∷ 5 ∷ []) (4 ∷ []) (0 ∷ 0 ∷ 0 ∷ 0 ∷ 0 ∷ 0 ∷ []) (0 ∷ 0 ∷ 0 ∷ 0 ∷ []) (0 ∷ []) (of_bits binary64 4991950325045397601 ∷ of_bits binary64 3569190773600738727 ∷ of_bits binary64 3440233398381002651 ∷ of_bits binary64 9928941178655049711 ∷ of_bits binary64 18092001781464199549 ∷ of_bits binary64 6180457998004624885 ∷ of_bits binary64 3200692628091179586 ∷ of_bits binary64 10046558107450641994 ∷ of_bits binary64 13742668948766180406 ∷ of_bits binary64 18398097115871051206 ∷ of_bits binary64 15361084365699700780 ∷ of_bits binary64 10367149949831386269 ∷ of_bits binary64 17918379099886222139 ∷ of_bits binary64 3400851128045158458 ∷ of_bits binary64 11950483983248559996 ∷ of_bits binary64 318919603648471050 ∷ of_bits binary64 17069368141857541293 ∷ of_bits binary64 17566711790917729245 ∷ [])) (lent 11 16 8 210) ≡
    done (mesh 11 16 8 (NONE ∷ NONE ∷ 7 ∷ 10 ∷ 12 ∷ 5 ∷ 0 ∷ 2 ∷ 15 ∷ 17 ∷ 8 ∷ []) (NONE ∷ 4 ∷ 12 ∷ 10 ∷ 0 ∷ 6 ∷ 20 ∷ 8 ∷ NONE ∷ 5 ∷ 5 ∷ 12 ∷ 1 ∷ 7 ∷ 26 ∷ 4 ∷ 1 ∷ 5 ∷ 3 ∷ 26 ∷ NONE ∷ 8 ∷ 15 ∷ 2 ∷ 3 ∷ 2 ∷ 18 ∷ 24 ∷ NONE ∷ 9 ∷ 17 ∷ 15 ∷ 0 ∷ 4 ∷ 1 ∷ 20 ∷ 5 ∷ 10 ∷ 28 ∷ 13 ∷ NONE ∷ 6 ∷ 0 ∷ 17 ∷ 2 ∷ 3 ∷ 16 ∷ 22 ∷ NONE ∷ 7 ∷ 2 ∷ 0 ∷ 5 ∷ 4 ∷ 9 ∷ 28 ∷ 6 ∷ 8 ∷ 30 ∷ 19 ∷ NONE ∷ 2 ∷ 7 ∷ 5 ∷ 2 ∷ 9 ∷ 22 ∷ 11 ∷ NONE ∷ 3 ∷ 10 ∷ 7 ∷ 3 ∷ 10 ∷ 24 ∷ 6 ∷ 6 ∷ 2 ∷ 14 ∷ 30 ∷ 0 ∷ 10 ∷ 8 ∷ 1 ∷ 4 ∷ 6 ∷ 23 ∷ 25 ∷ 2 ∷ 6 ∷ 11 ∷ 16 ∷ 4 ∷ 9 ∷ 25 ∷ 21 ∷ 3 ∷ 9 ∷ 6 ∷ 18 ∷ 4 ∷ 10 ∷ 21 ∷ 23 ∷ 1 ∷ 8 ∷ 4 ∷ 3 ∷ 7 ∷ 7 ∷ 29 ∷ 31 ∷ 5 ∷ 7 ∷ 13 ∷ 9 ∷ 7 ∷ 10 ∷ 31 ∷ 27 ∷ 6 ∷ 10 ∷ 19 ∷ 14 ∷ 7 ∷ 8 ∷ 27 ∷ 29 ∷ []) (8 ∷ 4 ∷ 22 ∷ 24 ∷ 25 ∷ 28 ∷ 30 ∷ 31 ∷ []) (0 ∷ 0 ∷ 0 ∷ 0 ∷ 0 ∷ 0 ∷ 0 ∷ 0 ∷ 0 ∷ 0 ∷ 0 ∷ []) (0 ∷ 0 ∷ 0 ∷ 0 ∷ 0 ∷ 0 ∷ 0 ∷ 0 ∷ 0 ∷ 0 ∷ 0 ∷ 0 ∷ 0 ∷ 0 ∷ 0 ∷ 0 ∷ []) (0 ∷ 0 ∷ 0 ∷ 0 ∷ 0 ∷ 0 ∷ 0 ∷ 0 ∷ []) (of_bits binary64 4991950325045397601 ∷ of_bits binary64 3569190773600738727 ∷ of_bits binary64 3440233398381002651 ∷ of_bits binary64 9928941178655049711 ∷ of_bits binary64 18092001781464199549 ∷ of_bits binary64 6180457998004624885 ∷ of_bits binary64 3200692628091179586 ∷ of_bits binary64 10046558107450641994 ∷ of_bits binary64 13742668948766180406 ∷ of_bits binary64 18398097115871051206 ∷ of_bits binary64 15361084365699700780 ∷ of_bits binary64 10367149949831386269 ∷ of_bits binary64 17918379099886222139 ∷ of_bits binary64 3400851128045158458 ∷ of_bits binary64 11950483983248559996 ∷ of_bits binary64 318919603648471050 ∷ of_bits binary64 17069368141857541293 ∷ of_bits binary64 17566711790917729245 ∷ of_bits binary64 18393593516243680710 ∷ of_bits binary64 15356580766072330284 ∷ of_bits binary64 11945980383621189500 ∷ of_bits binary64 17913875500258851643 ∷ of_bits binary64 17064864542230170797 ∷ of_bits binary64 17562208191290358749 ∷ of_bits binary64 3196189028463809090 ∷ of_bits binary64 17064864542230170797 ∷ of_bits binary64 17562208191290358749 ∷ of_bits binary64 18393593516243680710 ∷ of_bits binary64 15356580766072330284 ∷ of_bits binary64 13738165349138809910 ∷ of_bits binary64 17913875500258851643 ∷ of_bits binary64 3396347528417787962 ∷ of_bits binary64 13738165349138809910 ∷ [])) false 210
unfolding of_int of_bits add sub mul div Ieee.round said_checked said_subdivided said_edited links points tally turned heavy begin final work_needed enough unwanted overweight refusal last_links last_flag last_points last_marks subdivided left_after ended call then onward every c1_vertex c1_halfedge c1_face c2 c3 c4 c5 c6 c7 c8 c9 fault set_mark marked unmarked_new written edit_ended edit_refusal edit split_edge_edit split_face_edit insert_edge_edit swap_denied swap_ccw_edit swap_cw_edit triangulate_all split_edge joined paint across_face across_hole insert_edge insert_new cut_off cut_corner triangulate_face triangulate petal petals fan singles split_face swap_ccw swap_cw partner loop around is_v is_e is_h is_f put lay over each range round only has distinct first all number_of sum split_edges from_old pairs catmull_face catmull_pass corners loop_face loop_pass rim_of rim_side rim_face centre_face sqrt_face swap_inner sqrt_pass zero_p add_p scale_p over_p flat plus heads face_point catmull_edge catmull_rim catmull_inner catmull_vertex catmull_points inner on_rim loop_edge_point loop_vertex loop_points sqrt_vertex sqrt_answer answers sqrt_points cc_edge middle cc_inner loop_edge loop_rim weighted sqrt_rim sqrt_pair crowded two_rims catmull loop_scheme sqrt3 sizes fits fits_with used links_of marks_of points_of clean filled wiped counts_of tally_of counted triangulated catmull_tally loop_tally sqrt_tally dec row
schemes-120 = refl

schemes-163 :
    call sqrt3 0 false (mesh 6 10 3 (12 ∷ 15 ∷ 19 ∷ 11 ∷ 4 ∷ 0 ∷ []) (NONE ∷ 3 ∷ 11 ∷ 4 ∷ 1 ∷ 5 ∷ 17 ∷ 6 ∷ 2 ∷ 0 ∷ 12 ∷ 10 ∷ 0 ∷ 3 ∷ 7 ∷ 13 ∷ NONE ∷ 5 ∷ 0 ∷ 19 ∷ 0 ∷ 4 ∷ 13 ∷ 16 ∷ 1 ∷ 3 ∷ 1 ∷ 8 ∷ 0 ∷ 2 ∷ 14 ∷ 3 ∷ 1 ∷ 2 ∷ 6 ∷ 17 ∷ 2 ∷ 1 ∷ 10 ∷ 18 ∷ 2 ∷ 3 ∷ 2 ∷ 9 ∷ NONE ∷ 1 ∷ 15 ∷ 0 ∷ 2 ∷ 4 ∷ 18 ∷ 2 ∷ 0 ∷ 0 ∷ 3 ∷ 5 ∷ 0 ∷ 1 ∷ 16 ∷ 7 ∷ NONE ∷ 2 ∷ 19 ∷ 11 ∷ 0 ∷ 5 ∷ 5 ∷ 14 ∷ 1 ∷ 1 ∷ 8 ∷ 1 ∷ 2 ∷ 2 ∷ 9 ∷ 12 ∷ NONE ∷ 4 ∷ 4 ∷ 15 ∷ []) (5 ∷ 17 ∷ 18 ∷ []) (0 ∷ 0 ∷ 0 ∷ 0 ∷ 0 ∷ 0 ∷ []) (0 ∷ 0 ∷ 0 ∷ 0 ∷ 0 ∷ 0 ∷ 0 ∷ 0 ∷ 0 ∷ 0 ∷ []) (0 ∷ 0 ∷ 0 ∷ []) (of_bits binary64 9757624441568162187 ∷ of_bits binary64 18204107074186686151 ∷ of_bits binary64 18290505066155099920 ∷ of_bits binary64 4689028188557244570 ∷ of_bits binary64 10932858204769236104 ∷ of_bits binary64 7908878504772712743 ∷ of_bits binary64 16524478801116188566 ∷ of_bits binary64 7375916467683363223 ∷ of_bits binary64 11259183354995085701 ∷ of_bits binary64 11738783652305136140 ∷ of_bits binary64 14311035528036610958 ∷ of_bits binary64 9934870928703998474 ∷ of_bits binary64 12945024341689066535 ∷ of_bits binary64 5549033067684300804 ∷ of_bits binary64 1647609403092400250 ∷ of_bits binary64 877110548536994277 ∷ of_bits binary64 3832490183785682582 ∷ of_bits binary64 16615594178077798787 ∷ [])) (lent 6 10 3 114) ≡
    done (mesh 6 10 3 (12 ∷ 15 ∷ 19 ∷ 11 ∷ 4 ∷ 0 ∷ []) (NONE ∷ 3 ∷ 11 ∷ 4 ∷ 1 ∷ 5 ∷ 17 ∷ 6 ∷ 2 ∷ 0 ∷ 12 ∷ 10 ∷ 0 ∷ 3 ∷ 7 ∷ 13 ∷ NONE ∷ 5 ∷ 0 ∷ 19 ∷ 0 ∷ 4 ∷ 13 ∷ 16 ∷ 1 ∷ 3 ∷ 1 ∷ 8 ∷ 0 ∷ 2 ∷ 14 ∷ 3 ∷ 1 ∷ 2 ∷ 6 ∷ 17 ∷ 2 ∷ 1 ∷ 10 ∷ 18 ∷ 2 ∷ 3 ∷ 2 ∷ 9 ∷ NONE ∷ 1 ∷ 15 ∷ 0 ∷ 2 ∷ 4 ∷ 18 ∷ 2 ∷ 0 ∷ 0 ∷ 3 ∷ 5 ∷ 0 ∷ 1 ∷ 16 ∷ 7 ∷ NONE ∷ 2 ∷ 19 ∷ 11 ∷ 0 ∷ 5 ∷ 5 ∷ 14 ∷ 1 ∷ 1 ∷ 8 ∷ 1 ∷ 2 ∷ 2 ∷ 9 ∷ 12 ∷ NONE ∷ 4 ∷ 4 ∷ 15 ∷ []) (5 ∷ 17 ∷ 18 ∷ []) (0 ∷ 0 ∷ 0 ∷ 0 ∷ 0 ∷ 0 ∷ []) (0 ∷ 0 ∷ 0 ∷ 0 ∷ 0 ∷ 0 ∷ 0 ∷ 0 ∷ 0 ∷ 0 ∷ []) (0 ∷ 0 ∷ 0 ∷ []) (of_bits binary64 9757624441568162187 ∷ of_bits binary64 18204107074186686151 ∷ of_bits binary64 18290505066155099920 ∷ of_bits binary64 4689028188557244570 ∷ of_bits binary64 10932858204769236104 ∷ of_bits binary64 7908878504772712743 ∷ of_bits binary64 16524478801116188566 ∷ of_bits binary64 7375916467683363223 ∷ of_bits binary64 11259183354995085701 ∷ of_bits binary64 11738783652305136140 ∷ of_bits binary64 14311035528036610958 ∷ of_bits binary64 9934870928703998474 ∷ of_bits binary64 12945024341689066535 ∷ of_bits binary64 5549033067684300804 ∷ of_bits binary64 1647609403092400250 ∷ of_bits binary64 877110548536994277 ∷ of_bits binary64 3832490183785682582 ∷ of_bits binary64 16615594178077798787 ∷ [])) false 114
unfolding of_int of_bits add sub mul div Ieee.round said_checked said_subdivided said_edited links points tally turned heavy begin final work_needed enough unwanted overweight refusal last_links last_flag last_points last_marks subdivided left_after ended call then onward every c1_vertex c1_halfedge c1_face c2 c3 c4 c5 c6 c7 c8 c9 fault set_mark marked unmarked_new written edit_ended edit_refusal edit split_edge_edit split_face_edit insert_edge_edit swap_denied swap_ccw_edit swap_cw_edit triangulate_all split_edge joined paint across_face across_hole insert_edge insert_new cut_off cut_corner triangulate_face triangulate petal petals fan singles split_face swap_ccw swap_cw partner loop around is_v is_e is_h is_f put lay over each range round only has distinct first all number_of sum split_edges from_old pairs catmull_face catmull_pass corners loop_face loop_pass rim_of rim_side rim_face centre_face sqrt_face swap_inner sqrt_pass zero_p add_p scale_p over_p flat plus heads face_point catmull_edge catmull_rim catmull_inner catmull_vertex catmull_points inner on_rim loop_edge_point loop_vertex loop_points sqrt_vertex sqrt_answer answers sqrt_points cc_edge middle cc_inner loop_edge loop_rim weighted sqrt_rim sqrt_pair crowded two_rims catmull loop_scheme sqrt3 sizes fits fits_with used links_of marks_of points_of clean filled wiped counts_of tally_of counted triangulated catmull_tally loop_tally sqrt_tally dec row
schemes-163 = refl

schemes-108 :
    call sqrt3 2 false (mesh 3 3 1 (1 ∷ 5 ∷ 3 ∷ []) (0 ∷ 0 ∷ 4 ∷ 2 ∷ NONE ∷ 2 ∷ 3 ∷ 5 ∷ 0 ∷ 2 ∷ 0 ∷ 4 ∷ NONE ∷ 1 ∷ 5 ∷ 1 ∷ 0 ∷ 1 ∷ 2 ∷ 0 ∷ NONE ∷ 0 ∷ 1 ∷ 3 ∷ []) (2 ∷ []) (0 ∷ 0 ∷ 0 ∷ []) (0 ∷ 0 ∷ 0 ∷ []) (0 ∷ []) (of_bits binary64 4607182418800017408 ∷ of_bits binary64 4607182418800017408 ∷ of_bits binary64 0 ∷ of_bits binary64 6394822262044462570 ∷ of_bits binary64 3600204359958578121 ∷ of_bits binary64 16076969794551969629 ∷ of_bits binary64 10283040262476086192 ∷ of_bits binary64 9218868437227405311 ∷ of_bits binary64 3199920877624060731 ∷ [])) (lent 10 18 9 222) ≡
    done (mesh 10 18 9 (1 ∷ 5 ∷ 3 ∷ 34 ∷ 13 ∷ 15 ∷ 21 ∷ 23 ∷ 29 ∷ 31 ∷ []) (5 ∷ 0 ∷ 28 ∷ 8 ∷ NONE ∷ 7 ∷ 23 ∷ 29 ∷ 3 ∷ 2 ∷ 20 ∷ 6 ∷ NONE ∷ 5 ∷ 15 ∷ 21 ∷ 7 ∷ 1 ∷ 12 ∷ 10 ∷ NONE ∷ 9 ∷ 31 ∷ 13 ∷ 3 ∷ 5 ∷ 2 ∷ 20 ∷ 1 ∷ 6 ∷ 24 ∷ 18 ∷ 5 ∷ 7 ∷ 0 ∷ 28 ∷ 2 ∷ 8 ∷ 32 ∷ 26 ∷ 7 ∷ 9 ∷ 4 ∷ 12 ∷ 0 ∷ 4 ∷ 16 ∷ 34 ∷ 7 ∷ 4 ∷ 10 ∷ 4 ∷ NONE ∷ 1 ∷ 5 ∷ 15 ∷ 4 ∷ 5 ∷ 19 ∷ 17 ∷ NONE ∷ 4 ∷ 13 ∷ 3 ∷ 0 ∷ 3 ∷ 34 ∷ 11 ∷ 4 ∷ 4 ∷ 14 ∷ 19 ∷ 1 ∷ 5 ∷ 7 ∷ 24 ∷ 4 ∷ 3 ∷ 17 ∷ 14 ∷ 3 ∷ 6 ∷ 6 ∷ 2 ∷ NONE ∷ 2 ∷ 3 ∷ 23 ∷ 6 ∷ 7 ∷ 27 ∷ 25 ∷ NONE ∷ 6 ∷ 21 ∷ 1 ∷ 1 ∷ 3 ∷ 18 ∷ 7 ∷ 6 ∷ 6 ∷ 22 ∷ 27 ∷ 2 ∷ 7 ∷ 9 ∷ 32 ∷ 6 ∷ 3 ∷ 25 ∷ 22 ∷ 5 ∷ 8 ∷ 8 ∷ 0 ∷ NONE ∷ 0 ∷ 1 ∷ 31 ∷ 8 ∷ 9 ∷ 35 ∷ 33 ∷ NONE ∷ 8 ∷ 29 ∷ 5 ∷ 2 ∷ 3 ∷ 26 ∷ 9 ∷ 8 ∷ 8 ∷ 30 ∷ 35 ∷ 0 ∷ 9 ∷ 11 ∷ 16 ∷ 8 ∷ 3 ∷ 33 ∷ 30 ∷ []) (16 ∷ 24 ∷ 32 ∷ 6 ∷ 19 ∷ 8 ∷ 27 ∷ 10 ∷ 35 ∷ []) (0 ∷ 0 ∷ 0 ∷ 0 ∷ 0 ∷ 0 ∷ 0 ∷ 0 ∷ 0 ∷ 0 ∷ []) (0 ∷ 0 ∷ 0 ∷ 0 ∷ 0 ∷ 0 ∷ 0 ∷ 0 ∷ 0 ∷ 0 ∷ 0 ∷ 0 ∷ 0 ∷ 0 ∷ 0 ∷ 0 ∷ 0 ∷ 0 ∷ []) (0 ∷ 0 ∷ 0 ∷ 0 ∷ 0 ∷ 0 ∷ 0 ∷ 0 ∷ 0 ∷ []) (of_bits binary64 6382263288909570035 ∷ of_bits binary64 9218868437227405312 ∷ of_bits binary64 16064651870666323492 ∷ of_bits binary64 6392239153767988721 ∷ of_bits binary64 9218868437227405312 ∷ of_bits binary64 16074561994820402251 ∷ of_bits binary64 6382263288909570035 ∷ of_bits binary64 9218868437227405312 ∷ of_bits binary64 16064651870666323492 ∷ of_bits binary64 6387412665606058993 ∷ of_bits binary64 9211362437848454485 ∷ of_bits binary64 16069757420226585833 ∷ of_bits binary64 6391270488164311027 ∷ of_bits binary64 9218868437227405312 ∷ of_bits binary64 16073659069921064484 ∷ of_bits binary64 6388058442675177455 ∷ of_bits binary64 9218868437227405312 ∷ of_bits binary64 16070359370159477677 ∷ of_bits binary64 6373256089654829043 ∷ of_bits binary64 9218868437227405312 ∷ of_bits binary64 16055644671411582500 ∷ of_bits binary64 6373256089654829043 ∷ of_bits binary64 9218868437227405312 ∷ of_bits binary64 16055644671411582500 ∷ of_bits binary64 6388058442675177455 ∷ of_bits binary64 9197184439021547368 ∷ of_bits binary64 16070359370159477677 ∷ of_bits binary64 6391270488164311027 ∷ of_bits binary64 9197184439021547368 ∷ of_bits binary64 16073659069921064484 ∷ [])) false 222
unfolding of_int of_bits add sub mul div Ieee.round said_checked said_subdivided said_edited links points tally turned heavy begin final work_needed enough unwanted overweight refusal last_links last_flag last_points last_marks subdivided left_after ended call then onward every c1_vertex c1_halfedge c1_face c2 c3 c4 c5 c6 c7 c8 c9 fault set_mark marked unmarked_new written edit_ended edit_refusal edit split_edge_edit split_face_edit insert_edge_edit swap_denied swap_ccw_edit swap_cw_edit triangulate_all split_edge joined paint across_face across_hole insert_edge insert_new cut_off cut_corner triangulate_face triangulate petal petals fan singles split_face swap_ccw swap_cw partner loop around is_v is_e is_h is_f put lay over each range round only has distinct first all number_of sum split_edges from_old pairs catmull_face catmull_pass corners loop_face loop_pass rim_of rim_side rim_face centre_face sqrt_face swap_inner sqrt_pass zero_p add_p scale_p over_p flat plus heads face_point catmull_edge catmull_rim catmull_inner catmull_vertex catmull_points inner on_rim loop_edge_point loop_vertex loop_points sqrt_vertex sqrt_answer answers sqrt_points cc_edge middle cc_inner loop_edge loop_rim weighted sqrt_rim sqrt_pair crowded two_rims catmull loop_scheme sqrt3 sizes fits fits_with used links_of marks_of points_of clean filled wiped counts_of tally_of counted triangulated catmull_tally loop_tally sqrt_tally dec row
schemes-108 = refl

schemes-95 :
    call loop_scheme 0 false (mesh 12 11 4 (13 ∷ NONE ∷ NONE ∷ 16 ∷ 18 ∷ 15 ∷ 29 ∷ 6 ∷ 1 ∷ 20 ∷ 0 ∷ 3 ∷ []) (3 ∷ 8 ∷ 8 ∷ 19 ∷ NONE ∷ 4 ∷ 18 ∷ 3 ∷ 0 ∷ 11 ∷ 10 ∷ 9 ∷ NONE ∷ 8 ∷ 1 ∷ 13 ∷ 513946304 ∷ 2312205957 ∷ 2794972567 ∷ NONE ∷ 0 ∷ 16 ∷ 0 ∷ 21 ∷ NONE ∷ 5 ∷ 15 ∷ 20 ∷ 0 ∷ 7 ∷ 21 ∷ 10 ∷ 3 ∷ 3 ∷ 19 ∷ 0 ∷ 0 ∷ 8 ∷ 2 ∷ 17 ∷ 0 ∷ 5 ∷ 7 ∷ 2 ∷ 1 ∷ 11 ∷ 12 ∷ 14 ∷ 1 ∷ 0 ∷ 14 ∷ 11 ∷ NONE ∷ 11 ∷ 3 ∷ 15 ∷ 1 ∷ 5 ∷ 11 ∷ 12 ∷ NONE ∷ 0 ∷ 13 ∷ 6 ∷ NONE ∷ 9 ∷ 20 ∷ 18 ∷ 0 ∷ 3 ∷ 9 ∷ 21 ∷ NONE ∷ 3 ∷ 16 ∷ 1 ∷ 3 ∷ 4 ∷ 0 ∷ 8 ∷ NONE ∷ 7 ∷ 6 ∷ 16 ∷ 0 ∷ 9 ∷ 17 ∷ 7 ∷ []) (21 ∷ 14 ∷ 38 ∷ 8 ∷ []) (0 ∷ 0 ∷ 0 ∷ 0 ∷ 0 ∷ 0 ∷ 1 ∷ 0 ∷ 0 ∷ 0 ∷ 1 ∷ 0 ∷ []) (0 ∷ 0 ∷ 1 ∷ 0 ∷ 0 ∷ 0 ∷ 0 ∷ 0 ∷ 0 ∷ 0 ∷ 0 ∷ []) (0 ∷ 0 ∷ 1 ∷ 0 ∷ []) (of_bits binary64 10586002222224196332 ∷ of_bits binary64 7873734909664717363 ∷ of_bits binary64 13977635091519220890 ∷ of_bits binary64 8490565101345857381 ∷ of_bits binary64 16787359059099599840 ∷ of_bits binary64 16750690117853952987 ∷ of_bits binary64 9344745166734522038 ∷ of_bits binary64 1846072975420334988 ∷ of_bits binary64 4459341257302547571 ∷ of_bits binary64 8032356741564195115 ∷ of_bits binary64 16296733603859889477 ∷ of_bits binary64 6424784096806440349 ∷ of_bits binary64 13877684514728143988 ∷ of_bits binary64 10375334580671672139 ∷ of_bits binary64 1610824610270912979 ∷ of_bits binary64 5287211326338329524 ∷ of_bits binary64 1338311674240123044 ∷ of_bits binary64 8347003910493428206 ∷ of_bits binary64 2034488801672362056 ∷ of_bits binary64 4125365630451106394 ∷ of_bits binary64 1767857965444953812 ∷ of_bits binary64 7079154190231461003 ∷ of_bits binary64 10408431779065976061 ∷ of_bits binary64 3581199468424286138 ∷ of_bits binary64 2214945311697923122 ∷ of_bits binary64 10819040947456187261 ∷ of_bits binary64 13214317857258210106 ∷ of_bits binary64 15402877878979017595 ∷ of_bits binary64 7874149923614962546 ∷ of_bits binary64 16129475763681952505 ∷ of_bits binary64 300375681555752148 ∷ of_bits binary64 1758439532015254485 ∷ of_bits binary64 3672434973782820299 ∷ of_bits binary64 12212730182789574842 ∷ of_bits binary64 7379318752809037391 ∷ of_bits binary64 4088131447626337868 ∷ [])) (lent 12 11 4 162) ≡
    done (mesh 12 11 4 (13 ∷ NONE ∷ NONE ∷ 16 ∷ 18 ∷ 15 ∷ 29 ∷ 6 ∷ 1 ∷ 20 ∷ 0 ∷ 3 ∷ []) (3 ∷ 8 ∷ 8 ∷ 19 ∷ NONE ∷ 4 ∷ 18 ∷ 3 ∷ 0 ∷ 11 ∷ 10 ∷ 9 ∷ NONE ∷ 8 ∷ 1 ∷ 13 ∷ 513946304 ∷ 2312205957 ∷ 2794972567 ∷ NONE ∷ 0 ∷ 16 ∷ 0 ∷ 21 ∷ NONE ∷ 5 ∷ 15 ∷ 20 ∷ 0 ∷ 7 ∷ 21 ∷ 10 ∷ 3 ∷ 3 ∷ 19 ∷ 0 ∷ 0 ∷ 8 ∷ 2 ∷ 17 ∷ 0 ∷ 5 ∷ 7 ∷ 2 ∷ 1 ∷ 11 ∷ 12 ∷ 14 ∷ 1 ∷ 0 ∷ 14 ∷ 11 ∷ NONE ∷ 11 ∷ 3 ∷ 15 ∷ 1 ∷ 5 ∷ 11 ∷ 12 ∷ NONE ∷ 0 ∷ 13 ∷ 6 ∷ NONE ∷ 9 ∷ 20 ∷ 18 ∷ 0 ∷ 3 ∷ 9 ∷ 21 ∷ NONE ∷ 3 ∷ 16 ∷ 1 ∷ 3 ∷ 4 ∷ 0 ∷ 8 ∷ NONE ∷ 7 ∷ 6 ∷ 16 ∷ 0 ∷ 9 ∷ 17 ∷ 7 ∷ []) (21 ∷ 14 ∷ 38 ∷ 8 ∷ []) (0 ∷ 0 ∷ 0 ∷ 0 ∷ 0 ∷ 0 ∷ 1 ∷ 0 ∷ 0 ∷ 0 ∷ 1 ∷ 0 ∷ []) (0 ∷ 0 ∷ 1 ∷ 0 ∷ 0 ∷ 0 ∷ 0 ∷ 0 ∷ 0 ∷ 0 ∷ 0 ∷ []) (0 ∷ 0 ∷ 1 ∷ 0 ∷ []) (of_bits binary64 10586002222224196332 ∷ of_bits binary64 7873734909664717363 ∷ of_bits binary64 13977635091519220890 ∷ of_bits binary64 8490565101345857381 ∷ of_bits binary64 16787359059099599840 ∷ of_bits binary64 16750690117853952987 ∷ of_bits binary64 9344745166734522038 ∷ of_bits binary64 1846072975420334988 ∷ of_bits binary64 4459341257302547571 ∷ of_bits binary64 8032356741564195115 ∷ of_bits binary64 16296733603859889477 ∷ of_bits binary64 6424784096806440349 ∷ of_bits binary64 13877684514728143988 ∷ of_bits binary64 10375334580671672139 ∷ of_bits binary64 1610824610270912979 ∷ of_bits binary64 5287211326338329524 ∷ of_bits binary64 1338311674240123044 ∷ of_bits binary64 8347003910493428206 ∷ of_bits binary64 2034488801672362056 ∷ of_bits binary64 4125365630451106394 ∷ of_bits binary64 1767857965444953812 ∷ of_bits binary64 7079154190231461003 ∷ of_bits binary64 10408431779065976061 ∷ of_bits binary64 3581199468424286138 ∷ of_bits binary64 2214945311697923122 ∷ of_bits binary64 10819040947456187261 ∷ of_bits binary64 13214317857258210106 ∷ of_bits binary64 15402877878979017595 ∷ of_bits binary64 7874149923614962546 ∷ of_bits binary64 16129475763681952505 ∷ of_bits binary64 300375681555752148 ∷ of_bits binary64 1758439532015254485 ∷ of_bits binary64 3672434973782820299 ∷ of_bits binary64 12212730182789574842 ∷ of_bits binary64 7379318752809037391 ∷ of_bits binary64 4088131447626337868 ∷ [])) false 162
unfolding of_int of_bits add sub mul div Ieee.round said_checked said_subdivided said_edited links points tally turned heavy begin final work_needed enough unwanted overweight refusal last_links last_flag last_points last_marks subdivided left_after ended call then onward every c1_vertex c1_halfedge c1_face c2 c3 c4 c5 c6 c7 c8 c9 fault set_mark marked unmarked_new written edit_ended edit_refusal edit split_edge_edit split_face_edit insert_edge_edit swap_denied swap_ccw_edit swap_cw_edit triangulate_all split_edge joined paint across_face across_hole insert_edge insert_new cut_off cut_corner triangulate_face triangulate petal petals fan singles split_face swap_ccw swap_cw partner loop around is_v is_e is_h is_f put lay over each range round only has distinct first all number_of sum split_edges from_old pairs catmull_face catmull_pass corners loop_face loop_pass rim_of rim_side rim_face centre_face sqrt_face swap_inner sqrt_pass zero_p add_p scale_p over_p flat plus heads face_point catmull_edge catmull_rim catmull_inner catmull_vertex catmull_points inner on_rim loop_edge_point loop_vertex loop_points sqrt_vertex sqrt_answer answers sqrt_points cc_edge middle cc_inner loop_edge loop_rim weighted sqrt_rim sqrt_pair crowded two_rims catmull loop_scheme sqrt3 sizes fits fits_with used links_of marks_of points_of clean filled wiped counts_of tally_of counted triangulated catmull_tally loop_tally sqrt_tally dec row
schemes-95 = refl

schemes-154 :
    call sqrt3 1 false (mesh 6 6 2 (0 ∷ 10 ∷ 8 ∷ NONE ∷ 2 ∷ 4 ∷ []) (NONE ∷ 1 ∷ 10 ∷ 8 ∷ 1 ∷ 0 ∷ 9 ∷ 7 ∷ NONE ∷ 2 ∷ 8 ∷ 4 ∷ 1 ∷ 4 ∷ 7 ∷ 9 ∷ NONE ∷ 4 ∷ 2 ∷ 10 ∷ 0 ∷ 5 ∷ 11 ∷ 6 ∷ 0 ∷ 4 ∷ 5 ∷ 11 ∷ 1 ∷ 1 ∷ 1 ∷ 3 ∷ NONE ∷ 0 ∷ 0 ∷ 2 ∷ 1 ∷ 2 ∷ 3 ∷ 1 ∷ NONE ∷ 5 ∷ 4 ∷ 0 ∷ 0 ∷ 1 ∷ 6 ∷ 5 ∷ []) (11 ∷ 1 ∷ []) (0 ∷ 0 ∷ 0 ∷ 0 ∷ 0 ∷ 0 ∷ []) (0 ∷ 0 ∷ 0 ∷ 0 ∷ 0 ∷ 0 ∷ []) (0 ∷ 0 ∷ []) (of_bits binary64 13208171951434938213 ∷ of_bits binary64 5196380585673006053 ∷ of_bits binary64 10637015196689661983 ∷ of_bits binary64 240241845899776705 ∷ of_bits binary64 4506003170978223205 ∷ of_bits binary64 18150202283727978904 ∷ of_bits binary64 5029683877920641497 ∷ of_bits binary64 17368980588610922432 ∷ of_bits binary64 13686957375014524638 ∷ of_bits binary64 10464541888631576238 ∷ of_bits binary64 5573077911169793161 ∷ of_bits binary64 3908806440201142195 ∷ of_bits binary64 9972285244632471780 ∷ of_bits binary64 8575751403622851236 ∷ of_bits binary64 15038310262468891752 ∷ of_bits binary64 598917126412680856 ∷ of_bits binary64 406078888399621764 ∷ of_bits binary64 12744914129923370659 ∷ [])) (lent 9 16 9 204) ≡
    done (mesh 9 16 9 (0 ∷ 10 ∷ 8 ∷ NONE ∷ 2 ∷ 4 ∷ 19 ∷ 25 ∷ 31 ∷ []) (NONE ∷ 1 ∷ 10 ∷ 8 ∷ 2 ∷ 0 ∷ 26 ∷ 31 ∷ NONE ∷ 2 ∷ 8 ∷ 4 ∷ 5 ∷ 4 ∷ 22 ∷ 21 ∷ NONE ∷ 4 ∷ 2 ∷ 10 ∷ 4 ∷ 5 ∷ 18 ∷ 17 ∷ 3 ∷ 6 ∷ 15 ∷ 24 ∷ 6 ∷ 7 ∷ 23 ∷ 16 ∷ NONE ∷ 0 ∷ 0 ∷ 2 ∷ 7 ∷ 2 ∷ 28 ∷ 27 ∷ NONE ∷ 5 ∷ 4 ∷ 0 ∷ 0 ∷ 1 ∷ 14 ∷ 19 ∷ 1 ∷ 7 ∷ 25 ∷ 30 ∷ 8 ∷ 8 ∷ 29 ∷ 20 ∷ 0 ∷ 6 ∷ 19 ∷ 11 ∷ 3 ∷ 1 ∷ 24 ∷ 6 ∷ 6 ∷ 6 ∷ 7 ∷ 23 ∷ 4 ∷ 4 ∷ 5 ∷ 18 ∷ 4 ∷ 6 ∷ 17 ∷ 5 ∷ 0 ∷ 5 ∷ 11 ∷ 14 ∷ 8 ∷ 7 ∷ 13 ∷ 29 ∷ 5 ∷ 2 ∷ 3 ∷ 22 ∷ 5 ∷ 7 ∷ 21 ∷ 3 ∷ 6 ∷ 4 ∷ 16 ∷ 7 ∷ 3 ∷ 7 ∷ 6 ∷ 15 ∷ 1 ∷ 1 ∷ 30 ∷ 12 ∷ 2 ∷ 8 ∷ 31 ∷ 1 ∷ 7 ∷ 0 ∷ 9 ∷ 28 ∷ 7 ∷ 8 ∷ 27 ∷ 9 ∷ 8 ∷ 2 ∷ 20 ∷ 13 ∷ 1 ∷ 8 ∷ 12 ∷ 25 ∷ 2 ∷ 1 ∷ 1 ∷ 26 ∷ []) (11 ∷ 12 ∷ 1 ∷ 6 ∷ 5 ∷ 3 ∷ 7 ∷ 9 ∷ 13 ∷ []) (0 ∷ 0 ∷ 0 ∷ 0 ∷ 0 ∷ 0 ∷ 0 ∷ 0 ∷ 0 ∷ []) (0 ∷ 0 ∷ 0 ∷ 0 ∷ 0 ∷ 0 ∷ 0 ∷ 0 ∷ 0 ∷ 0 ∷ 0 ∷ 0 ∷ 0 ∷ 0 ∷ 0 ∷ 0 ∷ []) (0 ∷ 0 ∷ 0 ∷ 0 ∷ 0 ∷ 0 ∷ 0 ∷ 0 ∷ 0 ∷ []) (of_bits binary64 13208171951434938213 ∷ of_bits binary64 5196380585673006053 ∷ of_bits binary64 10637015196689661983 ∷ of_bits binary64 240241845899776705 ∷ of_bits binary64 4506003170978223205 ∷ of_bits binary64 18150202283727978904 ∷ of_bits binary64 5029683877920641497 ∷ of_bits binary64 17368980588610922432 ∷ of_bits binary64 13686957375014524638 ∷ of_bits binary64 10464541888631576238 ∷ of_bits binary64 5573077911169793161 ∷ of_bits binary64 3908806440201142195 ∷ of_bits binary64 9972285244632471780 ∷ of_bits binary64 8575751403622851236 ∷ of_bits binary64 15038310262468891752 ∷ of_bits binary64 598917126412680856 ∷ of_bits binary64 406078888399621764 ∷ of_bits binary64 12744914129923370659 ∷ of_bits binary64 9965217801797557897 ∷ of_bits binary64 8568544641947042693 ∷ of_bits binary64 18142928212823988085 ∷ of_bits binary64 5022456847159091515 ∷ of_bits binary64 8568544641947042693 ∷ of_bits binary64 18142928212823988085 ∷ of_bits binary64 5022456847159091515 ∷ of_bits binary64 17361942313950998485 ∷ of_bits binary64 18142928212823988085 ∷ [])) true 204
unfolding of_int of_bits add sub mul div Ieee.round said_checked said_subdivided said_edited links points tally turned heavy begin final work_needed enough unwanted overweight refusal last_links last_flag last_points last_marks subdivided left_after ended call then onward every c1_vertex c1_halfedge c1_face c2 c3 c4 c5 c6 c7 c8 c9 fault set_mark marked unmarked_new written edit_ended edit_refusal edit split_edge_edit split_face_edit insert_edge_edit swap_denied swap_ccw_edit swap_cw_edit triangulate_all split_edge joined paint across_face across_hole insert_edge insert_new cut_off cut_corner triangulate_face triangulate petal petals fan singles split_face swap_ccw swap_cw partner loop around is_v is_e is_h is_f put lay over each range round only has distinct first all number_of sum split_edges from_old pairs catmull_face catmull_pass corners loop_face loop_pass rim_of rim_side rim_face centre_face sqrt_face swap_inner sqrt_pass zero_p add_p scale_p over_p flat plus heads face_point catmull_edge catmull_rim catmull_inner catmull_vertex catmull_points inner on_rim loop_edge_point loop_vertex loop_points sqrt_vertex sqrt_answer answers sqrt_points cc_edge middle cc_inner loop_edge loop_rim weighted sqrt_rim sqrt_pair crowded two_rims catmull loop_scheme sqrt3 sizes fits fits_with used links_of marks_of points_of clean filled wiped counts_of tally_of counted triangulated catmull_tally loop_tally sqrt_tally dec row
schemes-154 = refl

refusals-37 :
    call loop_scheme 0 true (mesh 14 11 4 (21 ∷ 0 ∷ 5 ∷ 19 ∷ 1 ∷ 7 ∷ NONE ∷ 8 ∷ 3884089607 ∷ 17 ∷ 11 ∷ 12 ∷ 15 ∷ 3 ∷ []) (0 ∷ 4 ∷ 2 ∷ 16 ∷ NONE ∷ 9 ∷ 17 ∷ 3 ∷ 0 ∷ 13 ∷ 14 ∷ 0 ∷ NONE ∷ 4 ∷ 1 ∷ 15 ∷ 0 ∷ 2 ∷ 20 ∷ 14 ∷ NONE ∷ 12 ∷ 15 ∷ 21 ∷ 1 ∷ 5 ∷ 10 ∷ 9 ∷ NONE ∷ 7 ∷ 8 ∷ 11 ∷ NONE ∷ 3 ∷ 19 ∷ 7 ∷ 1 ∷ 7 ∷ 6 ∷ 18 ∷ 1 ∷ 10 ∷ 18 ∷ 6 ∷ NONE ∷ 5 ∷ 7 ∷ 19 ∷ NONE ∷ 0 ∷ 21 ∷ 17 ∷ 0 ∷ 11 ∷ 16 ∷ 20 ∷ 0 ∷ 12 ∷ 4 ∷ 2 ∷ NONE ∷ 13 ∷ 3 ∷ 5 ∷ 0 ∷ 9 ∷ 0 ∷ 13 ∷ NONE ∷ 11 ∷ 12 ∷ 1 ∷ 1 ∷ 3 ∷ 9 ∷ 10 ∷ NONE ∷ 10 ∷ 11 ∷ 8 ∷ 0 ∷ 0 ∷ 13 ∷ 4 ∷ NONE ∷ 2 ∷ 5 ∷ 12 ∷ []) (20 ∷ 9 ∷ 36 ∷ 31 ∷ []) (0 ∷ 1 ∷ 0 ∷ 0 ∷ 0 ∷ 0 ∷ 0 ∷ 0 ∷ 1 ∷ 0 ∷ 0 ∷ 0 ∷ 0 ∷ 0 ∷ []) (0 ∷ 0 ∷ 0 ∷ 0 ∷ 0 ∷ 0 ∷ 0 ∷ 0 ∷ 0 ∷ 0 ∷ 0 ∷ []) (0 ∷ 0 ∷ 1 ∷ 1 ∷ []) (of_bits binary64 4622945017495814144 ∷ of_bits binary64 4617315517961601024 ∷ of_bits binary64 13849694754071117824 ∷ of_bits binary64 2331199414707550054 ∷ of_bits binary64 3162632367551351749 ∷ of_bits binary64 2191983016314494889 ∷ of_bits binary64 13848850329140985856 ∷ of_bits binary64 4626041242239631360 ∷ of_bits binary64 13848005904210853888 ∷ of_bits binary64 4622945017495814144 ∷ of_bits binary64 4619567317775286272 ∷ of_bits binary64 4622945017495814144 ∷ of_bits binary64 13847442954257432576 ∷ of_bits binary64 13844628204490326016 ∷ of_bits binary64 4622945017495814144 ∷ of_bits binary64 4613937818241073152 ∷ of_bits binary64 0 ∷ of_bits binary64 13848568854164275200 ∷ of_bits binary64 4625759767262920704 ∷ of_bits binary64 4618441417868443648 ∷ of_bits binary64 4622382067542392832 ∷ of_bits binary64 4624070917402656768 ∷ of_bits binary64 4617315517961601024 ∷ of_bits binary64 4617315517961601024 ∷ of_bits binary64 2131235121615027488 ∷ of_bits binary64 3421184080654659132 ∷ of_bits binary64 38800270868602395 ∷ of_bits binary64 4621256167635550208 ∷ of_bits binary64 13835058055282163712 ∷ of_bits binary64 13835058055282163712 ∷ of_bits binary64 4618441417868443648 ∷ of_bits binary64 4621256167635550208 ∷ of_bits binary64 13849131804117696512 ∷ of_bits binary64 4619567317775286272 ∷ of_bits binary64 4625759767262920704 ∷ of_bits binary64 13841813454723219456 ∷ of_bits binary64 4611686018427387904 ∷ of_bits binary64 13841813454723219456 ∷ of_bits binary64 13849131804117696512 ∷ of_bits binary64 4618441417868443648 ∷ of_bits binary64 4625478292286210048 ∷ of_bits binary64 13841813454723219456 ∷ [])) (lent 14 11 4 174) ≡
    done (mesh 14 11 4 (21 ∷ 0 ∷ 5 ∷ 19 ∷ 1 ∷ 7 ∷ NONE ∷ 8 ∷ 3884089607 ∷ 17 ∷ 11 ∷ 12 ∷ 15 ∷ 3 ∷ []) (0 ∷ 4 ∷ 2 ∷ 16 ∷ NONE ∷ 9 ∷ 17 ∷ 3 ∷ 0 ∷ 13 ∷ 14 ∷ 0 ∷ NONE ∷ 4 ∷ 1 ∷ 15 ∷ 0 ∷ 2 ∷ 20 ∷ 14 ∷ NONE ∷ 12 ∷ 15 ∷ 21 ∷ 1 ∷ 5 ∷ 10 ∷ 9 ∷ NONE ∷ 7 ∷ 8 ∷ 11 ∷ NONE ∷ 3 ∷ 19 ∷ 7 ∷ 1 ∷ 7 ∷ 6 ∷ 18 ∷ 1 ∷ 10 ∷ 18 ∷ 6 ∷ NONE ∷ 5 ∷ 7 ∷ 19 ∷ NONE ∷ 0 ∷ 21 ∷ 17 ∷ 0 ∷ 11 ∷ 16 ∷ 20 ∷ 0 ∷ 12 ∷ 4 ∷ 2 ∷ NONE ∷ 13 ∷ 3 ∷ 5 ∷ 0 ∷ 9 ∷ 0 ∷ 13 ∷ NONE ∷ 11 ∷ 12 ∷ 1 ∷ 1 ∷ 3 ∷ 9 ∷ 10 ∷ NONE ∷ 10 ∷ 11 ∷ 8 ∷ 0 ∷ 0 ∷ 13 ∷ 4 ∷ NONE ∷ 2 ∷ 5 ∷ 12 ∷ []) (20 ∷ 9 ∷ 36 ∷ 31 ∷ []) (0 ∷ 1 ∷ 0 ∷ 0 ∷ 0 ∷ 0 ∷ 0 ∷ 0 ∷ 1 ∷ 0 ∷ 0 ∷ 0 ∷ 0 ∷ 0 ∷ []) (0 ∷ 0 ∷ 0 ∷ 0 ∷ 0 ∷ 0 ∷ 0 ∷ 0 ∷ 0 ∷ 0 ∷ 0 ∷ []) (0 ∷ 0 ∷ 1 ∷ 1 ∷ []) (of_bits binary64 4622945017495814144 ∷ of_bits binary64 4617315517961601024 ∷ of_bits binary64 13849694754071117824 ∷ of_bits binary64 2331199414707550054 ∷ of_bits binary64 3162632367551351749 ∷ of_bits binary64 2191983016314494889 ∷ of_bits binary64 13848850329140985856 ∷ of_bits binary64 4626041242239631360 ∷ of_bits binary64 13848005904210853888 ∷ of_bits binary64 4622945017495814144 ∷ of_bits binary64 4619567317775286272 ∷ of_bits binary64 4622945017495814144 ∷ of_bits binary64 13847442954257432576 ∷ of_bits binary64 13844628204490326016 ∷ of_bits binary64 4622945017495814144 ∷ of_bits binary64 4613937818241073152 ∷ of_bits binary64 0 ∷ of_bits binary64 13848568854164275200 ∷ of_bits binary64 4625759767262920704 ∷ of_bits binary64 4618441417868443648 ∷ of_bits binary64 4622382067542392832 ∷ of_bits binary64 4624070917402656768 ∷ of_bits binary64 4617315517961601024 ∷ of_bits binary64 4617315517961601024 ∷ of_bits binary64 2131235121615027488 ∷ of_bits binary64 3421184080654659132 ∷ of_bits binary64 38800270868602395 ∷ of_bits binary64 4621256167635550208 ∷ of_bits binary64 13835058055282163712 ∷ of_bits binary64 13835058055282163712 ∷ of_bits binary64 4618441417868443648 ∷ of_bits binary64 4621256167635550208 ∷ of_bits binary64 13849131804117696512 ∷ of_bits binary64 4619567317775286272 ∷ of_bits binary64 4625759767262920704 ∷ of_bits binary64 13841813454723219456 ∷ of_bits binary64 4611686018427387904 ∷ of_bits binary64 13841813454723219456 ∷ of_bits binary64 13849131804117696512 ∷ of_bits binary64 4618441417868443648 ∷ of_bits binary64 4625478292286210048 ∷ of_bits binary64 13841813454723219456 ∷ [])) true 174
unfolding of_int of_bits add sub mul div Ieee.round said_checked said_subdivided said_edited links points tally turned heavy begin final work_needed enough unwanted overweight refusal last_links last_flag last_points last_marks subdivided left_after ended call then onward every c1_vertex c1_halfedge c1_face c2 c3 c4 c5 c6 c7 c8 c9 fault set_mark marked unmarked_new written edit_ended edit_refusal edit split_edge_edit split_face_edit insert_edge_edit swap_denied swap_ccw_edit swap_cw_edit triangulate_all split_edge joined paint across_face across_hole insert_edge insert_new cut_off cut_corner triangulate_face triangulate petal petals fan singles split_face swap_ccw swap_cw partner loop around is_v is_e is_h is_f put lay over each range round only has distinct first all number_of sum split_edges from_old pairs catmull_face catmull_pass corners loop_face loop_pass rim_of rim_side rim_face centre_face sqrt_face swap_inner sqrt_pass zero_p add_p scale_p over_p flat plus heads face_point catmull_edge catmull_rim catmull_inner catmull_vertex catmull_points inner on_rim loop_edge_point loop_vertex loop_points sqrt_vertex sqrt_answer answers sqrt_points cc_edge middle cc_inner loop_edge loop_rim weighted sqrt_rim sqrt_pair crowded two_rims catmull loop_scheme sqrt3 sizes fits fits_with used links_of marks_of points_of clean filled wiped counts_of tally_of counted triangulated catmull_tally loop_tally sqrt_tally dec row
refusals-37 = refl

schemes-16 :
    call sqrt3 0 false (mesh 6 12 6 (1 ∷ 16 ∷ 0 ∷ 22 ∷ 8 ∷ 21 ∷ []) (2 ∷ 0 ∷ 17 ∷ 10 ∷ 0 ∷ 2 ∷ 23 ∷ 14 ∷ 1 ∷ 0 ∷ 15 ∷ 22 ∷ 5 ∷ 2 ∷ 11 ∷ 16 ∷ 0 ∷ 5 ∷ 14 ∷ 23 ∷ 4 ∷ 3 ∷ 13 ∷ 20 ∷ 2 ∷ 4 ∷ 10 ∷ 17 ∷ 4 ∷ 1 ∷ 20 ∷ 13 ∷ 5 ∷ 1 ∷ 16 ∷ 11 ∷ 3 ∷ 4 ∷ 12 ∷ 21 ∷ 2 ∷ 2 ∷ 0 ∷ 6 ∷ 5 ∷ 4 ∷ 8 ∷ 3 ∷ 3 ∷ 3 ∷ 19 ∷ 9 ∷ 4 ∷ 4 ∷ 7 ∷ 5 ∷ 0 ∷ 0 ∷ 1 ∷ 4 ∷ 1 ∷ 5 ∷ 18 ∷ 2 ∷ 5 ∷ 0 ∷ 3 ∷ 8 ∷ 2 ∷ 1 ∷ 6 ∷ 0 ∷ 1 ∷ 3 ∷ 22 ∷ 15 ∷ 3 ∷ 5 ∷ 21 ∷ 12 ∷ 4 ∷ 5 ∷ 5 ∷ 7 ∷ 3 ∷ 1 ∷ 9 ∷ 19 ∷ 1 ∷ 2 ∷ 2 ∷ 18 ∷ 0 ∷ 3 ∷ 4 ∷ 1 ∷ []) (23 ∷ 18 ∷ 0 ∷ 21 ∷ 7 ∷ 16 ∷ []) (0 ∷ 0 ∷ 0 ∷ 0 ∷ 0 ∷ 0 ∷ []) (0 ∷ 0 ∷ 0 ∷ 0 ∷ 0 ∷ 0 ∷ 0 ∷ 0 ∷ 0 ∷ 0 ∷ 0 ∷ 0 ∷ []) (0 ∷ 0 ∷ 0 ∷ 0 ∷ 0 ∷ 0 ∷ []) (of_bits binary64 4620906571972276890 ∷ of_bits binary64 4614262554995923072 ∷ of_bits binary64 4609382288723188336 ∷ of_bits binary64 13818437358660683008 ∷ of_bits binary64 4618941451565591120 ∷ of_bits binary64 4614932979216084600 ∷ of_bits binary64 13843901642696338962 ∷ of_bits binary64 4614210464080088608 ∷ of_bits binary64 13844915224444100270 ∷ of_bits binary64 13840905687387268312 ∷ of_bits binary64 13838461374083712380 ∷ of_bits binary64 4621530474529802778 ∷ of_bits binary64 13844840150304533844 ∷ of_bits binary64 4607825927411687672 ∷ of_bits binary64 13839569274213630332 ∷ of_bits binary64 13838944194605264220 ∷ of_bits binary64 4611226092219360952 ∷ of_bits binary64 4621377484716402072 ∷ [])) (lent 6 12 6 144) ≡
    done (mesh 6 12 6 (1 ∷ 16 ∷ 0 ∷ 22 ∷ 8 ∷ 21 ∷ []) (2 ∷ 0 ∷ 17 ∷ 10 ∷ 0 ∷ 2 ∷ 23 ∷ 14 ∷ 1 ∷ 0 ∷ 15 ∷ 22 ∷ 5 ∷ 2 ∷ 11 ∷ 16 ∷ 0 ∷ 5 ∷ 14 ∷ 23 ∷ 4 ∷ 3 ∷ 13 ∷ 20 ∷ 2 ∷ 4 ∷ 10 ∷ 17 ∷ 4 ∷ 1 ∷ 20 ∷ 13 ∷ 5 ∷ 1 ∷ 16 ∷ 11 ∷ 3 ∷ 4 ∷ 12 ∷ 21 ∷ 2 ∷ 2 ∷ 0 ∷ 6 ∷ 5 ∷ 4 ∷ 8 ∷ 3 ∷ 3 ∷ 3 ∷ 19 ∷ 9 ∷ 4 ∷ 4 ∷ 7 ∷ 5 ∷ 0 ∷ 0 ∷ 1 ∷ 4 ∷ 1 ∷ 5 ∷ 18 ∷ 2 ∷ 5 ∷ 0 ∷ 3 ∷ 8 ∷ 2 ∷ 1 ∷ 6 ∷ 0 ∷ 1 ∷ 3 ∷ 22 ∷ 15 ∷ 3 ∷ 5 ∷ 21 ∷ 12 ∷ 4 ∷ 5 ∷ 5 ∷ 7 ∷ 3 ∷ 1 ∷ 9 ∷ 19 ∷ 1 ∷ 2 ∷ 2 ∷ 18 ∷ 0 ∷ 3 ∷ 4 ∷ 1 ∷ []) (23 ∷ 18 ∷ 0 ∷ 21 ∷ 7 ∷ 16 ∷ []) (0 ∷ 0 ∷ 0 ∷ 0 ∷ 0 ∷ 0 ∷ []) (0 ∷ 0 ∷ 0 ∷ 0 ∷ 0 ∷ 0 ∷ 0 ∷ 0 ∷ 0 ∷ 0 ∷ 0 ∷ 0 ∷ []) (0 ∷ 0 ∷ 0 ∷ 0 ∷ 0 ∷ 0 ∷ []) (of_bits binary64 4620906571972276890 ∷ of_bits binary64 4614262554995923072 ∷ of_bits binary64 4609382288723188336 ∷ of_bits binary64 13818437358660683008 ∷ of_bits binary64 4618941451565591120 ∷ of_bits binary64 4614932979216084600 ∷ of_bits binary64 13843901642696338962 ∷ of_bits binary64 4614210464080088608 ∷ of_bits binary64 13844915224444100270 ∷ of_bits binary64 13840905687387268312 ∷ of_bits binary64 13838461374083712380 ∷ of_bits binary64 4621530474529802778 ∷ of_bits binary64 13844840150304533844 ∷ of_bits binary64 4607825927411687672 ∷ of_bits binary64 13839569274213630332 ∷ of_bits binary64 13838944194605264220 ∷ of_bits binary64 4611226092219360952 ∷ of_bits binary64 4621377484716402072 ∷ [])) false 144
unfolding of_int of_bits add sub mul div Ieee.round said_checked said_subdivided said_edited links points tally turned heavy begin final work_needed enough unwanted overweight refusal last_links last_flag last_points last_marks subdivided left_after ended call then onward every c1_vertex c1_halfedge c1_face c2 c3 c4 c5 c6 c7 c8 c9 fault set_mark marked unmarked_new written edit_ended edit_refusal edit split_edge_edit split_face_edit insert_edge_edit swap_denied swap_ccw_edit swap_cw_edit triangulate_all split_edge joined paint across_face across_hole insert_edge insert_new cut_off cut_corner triangulate_face triangulate petal petals fan singles split_face swap_ccw swap_cw partner loop around is_v is_e is_h is_f put lay over each range round only has distinct first all number_of sum split_edges from_old pairs catmull_face catmull_pass corners loop_face loop_pass rim_of rim_side rim_face centre_face sqrt_face swap_inner sqrt_pass zero_p add_p scale_p over_p flat plus heads face_point catmull_edge catmull_rim catmull_inner catmull_vertex catmull_points inner on_rim loop_edge_point loop_vertex loop_points sqrt_vertex sqrt_answer answers sqrt_points cc_edge middle cc_inner loop_edge loop_rim weighted sqrt_rim sqrt_pair crowded two_rims catmull loop_scheme sqrt3 sizes fits fits_with used links_of marks_of points_of clean filled wiped counts_of tally_of counted triangulated catmull_tally loop_tally sqrt_tally dec row
schemes-16 = refl

schemes-82 :
    call loop_scheme 0 false (mesh 6 12 8 (15 ∷ 17 ∷ 16 ∷ 13 ∷ 7 ∷ 0 ∷ []) (1 ∷ 3 ∷ 13 ∷ 2 ∷ 4 ∷ 5 ∷ 22 ∷ 9 ∷ 1 ∷ 5 ∷ 0 ∷ 13 ∷ 0 ∷ 1 ∷ 21 ∷ 7 ∷ 2 ∷ 0 ∷ 15 ∷ 11 ∷ 5 ∷ 2 ∷ 18 ∷ 8 ∷ 7 ∷ 4 ∷ 14 ∷ 23 ∷ 0 ∷ 5 ∷ 3 ∷ 21 ∷ 5 ∷ 0 ∷ 5 ∷ 18 ∷ 4 ∷ 3 ∷ 1 ∷ 22 ∷ 6 ∷ 4 ∷ 20 ∷ 17 ∷ 2 ∷ 2 ∷ 4 ∷ 15 ∷ 3 ∷ 3 ∷ 19 ∷ 16 ∷ 1 ∷ 1 ∷ 2 ∷ 0 ∷ 7 ∷ 0 ∷ 23 ∷ 6 ∷ 2 ∷ 4 ∷ 11 ∷ 4 ∷ 3 ∷ 1 ∷ 12 ∷ 19 ∷ 6 ∷ 2 ∷ 10 ∷ 20 ∷ 5 ∷ 3 ∷ 8 ∷ 5 ∷ 3 ∷ 2 ∷ 16 ∷ 12 ∷ 6 ∷ 1 ∷ 17 ∷ 10 ∷ 0 ∷ 4 ∷ 7 ∷ 3 ∷ 4 ∷ 0 ∷ 9 ∷ 1 ∷ 7 ∷ 5 ∷ 6 ∷ 14 ∷ []) (3 ∷ 2 ∷ 11 ∷ 19 ∷ 1 ∷ 18 ∷ 10 ∷ 6 ∷ []) (0 ∷ 0 ∷ 0 ∷ 0 ∷ 0 ∷ 0 ∷ []) (0 ∷ 0 ∷ 0 ∷ 0 ∷ 0 ∷ 0 ∷ 0 ∷ 0 ∷ 0 ∷ 0 ∷ 0 ∷ 0 ∷ []) (0 ∷ 0 ∷ 0 ∷ 0 ∷ 0 ∷ 0 ∷ 0 ∷ 0 ∷ []) (of_bits binary64 17955844628720161529 ∷ of_bits binary64 9866447717568305832 ∷ of_bits binary64 5654284236293730726 ∷ of_bits binary64 14561494536249006086 ∷ of_bits binary64 6953456147194152465 ∷ of_bits binary64 7345412047236953789 ∷ of_bits binary64 1717502615844418908 ∷ of_bits binary64 9405678891780351268 ∷ of_bits binary64 15403343073494516793 ∷ of_bits binary64 14687295771506840835 ∷ of_bits binary64 5007922506110483235 ∷ of_bits binary64 4749375668284800166 ∷ of_bits binary64 17119722054285454235 ∷ of_bits binary64 17256014331170829614 ∷ of_bits binary64 17118861732221867533 ∷ of_bits binary64 14742074605612929205 ∷ of_bits binary64 2018204507858388060 ∷ of_bits binary64 7248472632835457154 ∷ [])) (lent 6 12 8 156) ≡
    done (mesh 6 12 8 (15 ∷ 17 ∷ 16 ∷ 13 ∷ 7 ∷ 0 ∷ []) (1 ∷ 3 ∷ 13 ∷ 2 ∷ 4 ∷ 5 ∷ 22 ∷ 9 ∷ 1 ∷ 5 ∷ 0 ∷ 13 ∷ 0 ∷ 1 ∷ 21 ∷ 7 ∷ 2 ∷ 0 ∷ 15 ∷ 11 ∷ 5 ∷ 2 ∷ 18 ∷ 8 ∷ 7 ∷ 4 ∷ 14 ∷ 23 ∷ 0 ∷ 5 ∷ 3 ∷ 21 ∷ 5 ∷ 0 ∷ 5 ∷ 18 ∷ 4 ∷ 3 ∷ 1 ∷ 22 ∷ 6 ∷ 4 ∷ 20 ∷ 17 ∷ 2 ∷ 2 ∷ 4 ∷ 15 ∷ 3 ∷ 3 ∷ 19 ∷ 16 ∷ 1 ∷ 1 ∷ 2 ∷ 0 ∷ 7 ∷ 0 ∷ 23 ∷ 6 ∷ 2 ∷ 4 ∷ 11 ∷ 4 ∷ 3 ∷ 1 ∷ 12 ∷ 19 ∷ 6 ∷ 2 ∷ 10 ∷ 20 ∷ 5 ∷ 3 ∷ 8 ∷ 5 ∷ 3 ∷ 2 ∷ 16 ∷ 12 ∷ 6 ∷ 1 ∷ 17 ∷ 10 ∷ 0 ∷ 4 ∷ 7 ∷ 3 ∷ 4 ∷ 0 ∷ 9 ∷ 1 ∷ 7 ∷ 5 ∷ 6 ∷ 14 ∷ []) (3 ∷ 2 ∷ 11 ∷ 19 ∷ 1 ∷ 18 ∷ 10 ∷ 6 ∷ []) (0 ∷ 0 ∷ 0 ∷ 0 ∷ 0 ∷ 0 ∷ []) (0 ∷ 0 ∷ 0 ∷ 0 ∷ 0 ∷ 0 ∷ 0 ∷ 0 ∷ 0 ∷ 0 ∷ 0 ∷ 0 ∷ []) (0 ∷ 0 ∷ 0 ∷ 0 ∷ 0 ∷ 0 ∷ 0 ∷ 0 ∷ []) (of_bits binary64 17955844628720161529 ∷ of_bits binary64 9866447717568305832 ∷ of_bits binary64 5654284236293730726 ∷ of_bits binary64 14561494536249006086 ∷ of_bits binary64 6953456147194152465 ∷ of_bits binary64 7345412047236953789 ∷ of_bits binary64 1717502615844418908 ∷ of_bits binary64 9405678891780351268 ∷ of_bits binary64 15403343073494516793 ∷ of_bits binary64 14687295771506840835 ∷ of_bits binary64 5007922506110483235 ∷ of_bits binary64 4749375668284800166 ∷ of_bits binary64 17119722054285454235 ∷ of_bits binary64 17256014331170829614 ∷ of_bits binary64 17118861732221867533 ∷ of_bits binary64 14742074605612929205 ∷ of_bits binary64 2018204507858388060 ∷ of_bits binary64 7248472632835457154 ∷ [])) false 156
unfolding of_int of_bits add sub mul div Ieee.round said_checked said_subdivided said_edited links points tally turned heavy begin final work_needed enough unwanted overweight refusal last_links last_flag last_points last_marks subdivided left_after ended call then onward every c1_vertex c1_halfedge c1_face c2 c3 c4 c5 c6 c7 c8 c9 fault set_mark marked unmarked_new written edit_ended edit_refusal edit split_edge_edit split_face_edit insert_edge_edit swap_denied swap_ccw_edit swap_cw_edit triangulate_all split_edge joined paint across_face across_hole insert_edge insert_new cut_off cut_corner triangulate_face triangulate petal petals fan singles split_face swap_ccw swap_cw partner loop around is_v is_e is_h is_f put lay over each range round only has distinct first all number_of sum split_edges from_old pairs catmull_face catmull_pass corners loop_face loop_pass rim_of rim_side rim_face centre_face sqrt_face swap_inner sqrt_pass zero_p add_p scale_p over_p flat plus heads face_point catmull_edge catmull_rim catmull_inner catmull_vertex catmull_points inner on_rim loop_edge_point loop_vertex loop_points sqrt_vertex sqrt_answer answers sqrt_points cc_edge middle cc_inner loop_edge loop_rim weighted sqrt_rim sqrt_pair crowded two_rims catmull loop_scheme sqrt3 sizes fits fits_with used links_of marks_of points_of clean filled wiped counts_of tally_of counted triangulated catmull_tally loop_tally sqrt_tally dec row
schemes-82 = refl

schemes-134 :
    call sqrt3 1 true (mesh 4 6 4 (3 ∷ 7 ∷ 10 ∷ 8 ∷ []) (1 ∷ 1 ∷ 11 ∷ 4 ∷ 0 ∷ 3 ∷ 8 ∷ 6 ∷ 2 ∷ 0 ∷ 9 ∷ 5 ∷ 3 ∷ 2 ∷ 10 ∷ 7 ∷ 1 ∷ 3 ∷ 0 ∷ 11 ∷ 2 ∷ 2 ∷ 2 ∷ 9 ∷ 0 ∷ 1 ∷ 1 ∷ 8 ∷ 3 ∷ 0 ∷ 3 ∷ 10 ∷ 0 ∷ 0 ∷ 6 ∷ 1 ∷ 2 ∷ 3 ∷ 5 ∷ 2 ∷ 3 ∷ 1 ∷ 7 ∷ 3 ∷ 1 ∷ 2 ∷ 4 ∷ 0 ∷ []) (8 ∷ 11 ∷ 2 ∷ 3 ∷ []) (0 ∷ 0 ∷ 0 ∷ 0 ∷ []) (0 ∷ 0 ∷ 0 ∷ 0 ∷ 0 ∷ 0 ∷ []) (0 ∷ 0 ∷ 0 ∷ 0 ∷ []) (of_bits binary64 13835669757423463200 ∷ of_bits binary64 4616940701366011224 ∷ of_bits binary64 4594078681204930432 ∷ of_bits binary64 13843653336174131770 ∷ of_bits binary64 4612233750220152776 ∷ of_bits binary64 4608214480632675872 ∷ of_bits binary64 13844515609359011682 ∷ of_bits binary64 13839615167401332477 ∷ of_bits binary64 4620586771261554908 ∷ of_bits binary64 13822226931996644544 ∷ of_bits binary64 4602783375772611488 ∷ of_bits binary64 13837180092516878346 ∷ [])) (lent 8 18 12 228) ≡
    done (mesh 8 18 12 (24 ∷ 14 ∷ 18 ∷ 26 ∷ 17 ∷ 23 ∷ 29 ∷ 35 ∷ []) (7 ∷ 5 ∷ 21 ∷ 16 ∷ 5 ∷ 4 ∷ 15 ∷ 22 ∷ 2 ∷ 6 ∷ 29 ∷ 30 ∷ 3 ∷ 7 ∷ 35 ∷ 24 ∷ 6 ∷ 5 ∷ 19 ∷ 28 ∷ 9 ∷ 6 ∷ 27 ∷ 20 ∷ 4 ∷ 4 ∷ 13 ∷ 34 ∷ 11 ∷ 7 ∷ 33 ∷ 14 ∷ 0 ∷ 4 ∷ 17 ∷ 26 ∷ 8 ∷ 6 ∷ 25 ∷ 12 ∷ 10 ∷ 7 ∷ 31 ∷ 18 ∷ 1 ∷ 5 ∷ 23 ∷ 32 ∷ 8 ∷ 4 ∷ 9 ∷ 25 ∷ 4 ∷ 0 ∷ 34 ∷ 6 ∷ 11 ∷ 4 ∷ 7 ∷ 33 ∷ 5 ∷ 1 ∷ 22 ∷ 1 ∷ 7 ∷ 4 ∷ 0 ∷ 21 ∷ 0 ∷ 3 ∷ 26 ∷ 8 ∷ 10 ∷ 5 ∷ 10 ∷ 31 ∷ 6 ∷ 2 ∷ 28 ∷ 4 ∷ 9 ∷ 5 ∷ 5 ∷ 27 ∷ 7 ∷ 3 ∷ 16 ∷ 0 ∷ 5 ∷ 5 ∷ 1 ∷ 15 ∷ 1 ∷ 1 ∷ 32 ∷ 11 ∷ 3 ∷ 6 ∷ 3 ∷ 35 ∷ 8 ∷ 0 ∷ 12 ∷ 9 ∷ 0 ∷ 6 ∷ 8 ∷ 17 ∷ 9 ∷ 3 ∷ 20 ∷ 5 ∷ 6 ∷ 6 ∷ 4 ∷ 19 ∷ 2 ∷ 2 ∷ 30 ∷ 2 ∷ 2 ∷ 7 ∷ 2 ∷ 29 ∷ 10 ∷ 2 ∷ 18 ∷ 10 ∷ 1 ∷ 7 ∷ 11 ∷ 23 ∷ 11 ∷ 1 ∷ 14 ∷ 7 ∷ 4 ∷ 7 ∷ 6 ∷ 13 ∷ 3 ∷ 0 ∷ 24 ∷ 3 ∷ []) (8 ∷ 11 ∷ 2 ∷ 3 ∷ 6 ∷ 1 ∷ 4 ∷ 0 ∷ 9 ∷ 5 ∷ 10 ∷ 7 ∷ []) (0 ∷ 0 ∷ 0 ∷ 0 ∷ 0 ∷ 0 ∷ 0 ∷ 0 ∷ []) (0 ∷ 0 ∷ 0 ∷ 0 ∷ 0 ∷ 0 ∷ 0 ∷ 0 ∷ 0 ∷ 0 ∷ 0 ∷ 0 ∷ 0 ∷ 0 ∷ 0 ∷ 0 ∷ 0 ∷ 0 ∷ []) (0 ∷ 0 ∷ 0 ∷ 0 ∷ 0 ∷ 0 ∷ 0 ∷ 0 ∷ 0 ∷ 0 ∷ 0 ∷ 0 ∷ []) (of_bits binary64 13839681297247871984 ∷ of_bits binary64 4610942383744507482 ∷ of_bits binary64 4608115966829470101 ∷ of_bits binary64 13841246608731332407 ∷ of_bits binary64 4608112291803783120 ∷ of_bits binary64 4609391996530214808 ∷ of_bits binary64 13841586919696106786 ∷ of_bits binary64 13824690177984228828 ∷ of_bits binary64 4614436626907254566 ∷ of_bits binary64 13838642726750664484 ∷ of_bits binary64 4604998454208569395 ∷ of_bits binary64 4601041581749748688 ∷ of_bits binary64 13838205713306660367 ∷ of_bits binary64 4612753330918089333 ∷ of_bits binary64 13826281776166613507 ∷ of_bits binary64 13841333770112970605 ∷ of_bits binary64 13824805933469664112 ∷ of_bits binary64 4611830318645438527 ∷ of_bits binary64 13839080798644651627 ∷ of_bits binary64 4600464101773220261 ∷ of_bits binary64 4610334009248245956 ∷ of_bits binary64 13842078335507249712 ∷ of_bits binary64 4606770516957335720 ∷ of_bits binary64 4614141169701850133 ∷ [])) false 228
unfolding of_int of_bits add sub mul div Ieee.round said_checked said_subdivided said_edited links points tally turned heavy begin final work_needed enough unwanted overweight refusal last_links last_flag last_points last_marks subdivided left_after ended call then onward every c1_vertex c1_halfedge c1_face c2 c3 c4 c5 c6 c7 c8 c9 fault set_mark marked unmarked_new written edit_ended edit_refusal edit split_edge_edit split_face_edit insert_edge_edit swap_denied swap_ccw_edit swap_cw_edit triangulate_all split_edge joined paint across_face across_hole insert_edge insert_new cut_off cut_corner triangulate_face triangulate petal petals fan singles split_face swap_ccw swap_cw partner loop around is_v is_e is_h is_f put lay over each range round only has distinct first all number_of sum split_edges from_old pairs catmull_face catmull_pass corners loop_face loop_pass rim_of rim_side rim_face centre_face sqrt_face swap_inner sqrt_pass zero_p add_p scale_p over_p flat plus heads face_point catmull_edge catmull_rim catmull_inner catmull_vertex catmull_points inner on_rim loop_edge_point loop_vertex loop_points sqrt_vertex sqrt_answer answers sqrt_points cc_edge middle cc_inner loop_edge loop_rim weighted sqrt_rim sqrt_pair crowded two_rims catmull loop_scheme sqrt3 sizes fits fits_with used links_of marks_of points_of clean filled wiped counts_of tally_of counted triangulated catmull_tally loop_tally sqrt_tally dec row
schemes-134 = refl

schemes-181 :
    call catmull 0 false (mesh 9 12 8 (5 ∷ NONE ∷ NONE ∷ 1 ∷ 23 ∷ NONE ∷ 6 ∷ 21 ∷ 7 ∷ []) (7 ∷ 3 ∷ 15 ∷ 19 ∷ 6 ∷ 4 ∷ 17 ∷ 9 ∷ 1 ∷ 0 ∷ 12 ∷ 7 ∷ 5 ∷ 6 ∷ 14 ∷ 10 ∷ 0 ∷ 0 ∷ 11 ∷ 8 ∷ 4 ∷ 7 ∷ 21 ∷ 13 ∷ 2 ∷ 8 ∷ 22 ∷ 18 ∷ 1 ∷ 6 ∷ 2 ∷ 12 ∷ 0 ∷ 7 ∷ 4 ∷ 11 ∷ 6 ∷ 3 ∷ 1 ∷ 17 ∷ 5 ∷ 0 ∷ 3 ∷ 14 ∷ 0 ∷ 3 ∷ 8 ∷ 4 ∷ 1 ∷ 8 ∷ 7 ∷ 2 ∷ 4 ∷ 0 ∷ 5 ∷ 21 ∷ 5 ∷ 3 ∷ 10 ∷ 3 ∷ 7 ∷ 6 ∷ 19 ∷ 0 ∷ 3 ∷ 4 ∷ 23 ∷ 20 ∷ 6 ∷ 7 ∷ 9 ∷ 1 ∷ 2 ∷ 6 ∷ 6 ∷ 22 ∷ 7 ∷ 4 ∷ 0 ∷ 15 ∷ 3 ∷ 7 ∷ 16 ∷ 23 ∷ 4 ∷ 8 ∷ 13 ∷ 5 ∷ 2 ∷ 4 ∷ 18 ∷ 6 ∷ 3 ∷ 8 ∷ 20 ∷ 16 ∷ []) (11 ∷ 2 ∷ 18 ∷ 20 ∷ 5 ∷ 3 ∷ 17 ∷ 0 ∷ []) (0 ∷ 0 ∷ 0 ∷ 0 ∷ 0 ∷ 0 ∷ 0 ∷ 0 ∷ 0 ∷ []) (0 ∷ 0 ∷ 0 ∷ 0 ∷ 0 ∷ 0 ∷ 0 ∷ 0 ∷ 0 ∷ 0 ∷ 0 ∷ 0 ∷ []) (0 ∷ 0 ∷ 0 ∷ 0 ∷ 0 ∷ 0 ∷ 0 ∷ 0 ∷ []) (of_bits binary64 9495536774937863116 ∷ of_bits binary64 14224547543427641444 ∷ of_bits binary64 1773985182327588294 ∷ of_bits binary64 1128959246030506570 ∷ of_bits binary64 2126742710156662886 ∷ of_bits binary64 15178396410012543745 ∷ of_bits binary64 1928022520679487216 ∷ of_bits binary64 11067638740358815500 ∷ of_bits binary64 9363779324900714667 ∷ of_bits binary64 5706397772701241991 ∷ of_bits binary64 4491241824011842452 ∷ of_bits binary64 1730918498071170057 ∷ of_bits binary64 11519305342975511981 ∷ of_bits binary64 13102420654289896545 ∷ of_bits binary64 3272594774584486830 ∷ of_bits binary64 8481344223419330914 ∷ of_bits binary64 13921533214012012382 ∷ of_bits binary64 1040963047366138421 ∷ of_bits binary64 6673911382888943818 ∷ of_bits binary64 14829893266615103888 ∷ of_bits binary64 3458774466810160513 ∷ of_bits binary64 9936212729109948290 ∷ of_bits binary64 9385933919606390876 ∷ of_bits binary64 2775693688056788939 ∷ of_bits binary64 3105365309578879258 ∷ of_bits binary64 4846588100129247758 ∷ of_bits binary64 16171026900238038803 ∷ [])) (lent 9 12 8 174) ≡
    done (mesh 9 12 8 (5 ∷ NONE ∷ NONE ∷ 1 ∷ 23 ∷ NONE ∷ 6 ∷ 21 ∷ 7 ∷ []) (7 ∷ 3 ∷ 15 ∷ 19 ∷ 6 ∷ 4 ∷ 17 ∷ 9 ∷ 1 ∷ 0 ∷ 12 ∷ 7 ∷ 5 ∷ 6 ∷ 14 ∷ 10 ∷ 0 ∷ 0 ∷ 11 ∷ 8 ∷ 4 ∷ 7 ∷ 21 ∷ 13 ∷ 2 ∷ 8 ∷ 22 ∷ 18 ∷ 1 ∷ 6 ∷ 2 ∷ 12 ∷ 0 ∷ 7 ∷ 4 ∷ 11 ∷ 6 ∷ 3 ∷ 1 ∷ 17 ∷ 5 ∷ 0 ∷ 3 ∷ 14 ∷ 0 ∷ 3 ∷ 8 ∷ 4 ∷ 1 ∷ 8 ∷ 7 ∷ 2 ∷ 4 ∷ 0 ∷ 5 ∷ 21 ∷ 5 ∷ 3 ∷ 10 ∷ 3 ∷ 7 ∷ 6 ∷ 19 ∷ 0 ∷ 3 ∷ 4 ∷ 23 ∷ 20 ∷ 6 ∷ 7 ∷ 9 ∷ 1 ∷ 2 ∷ 6 ∷ 6 ∷ 22 ∷ 7 ∷ 4 ∷ 0 ∷ 15 ∷ 3 ∷ 7 ∷ 16 ∷ 23 ∷ 4 ∷ 8 ∷ 13 ∷ 5 ∷ 2 ∷ 4 ∷ 18 ∷ 6 ∷ 3 ∷ 8 ∷ 20 ∷ 16 ∷ []) (11 ∷ 2 ∷ 18 ∷ 20 ∷ 5 ∷ 3 ∷ 17 ∷ 0 ∷ []) (0 ∷ 0 ∷ 0 ∷ 0 ∷ 0 ∷ 0 ∷ 0 ∷ 0 ∷ 0 ∷ []) (0 ∷ 0 ∷ 0 ∷ 0 ∷ 0 ∷ 0 ∷ 0 ∷ 0 ∷ 0 ∷ 0 ∷ 0 ∷ 0 ∷ []) (0 ∷ 0 ∷ 0 ∷ 0 ∷ 0 ∷ 0 ∷ 0 ∷ 0 ∷ []) (of_bits binary64 9495536774937863116 ∷ of_bits binary64 14224547543427641444 ∷ of_bits binary64 1773985182327588294 ∷ of_bits binary64 1128959246030506570 ∷ of_bits binary64 2126742710156662886 ∷ of_bits binary64 15178396410012543745 ∷ of_bits binary64 1928022520679487216 ∷ of_bits binary64 11067638740358815500 ∷ of_bits binary64 9363779324900714667 ∷ of_bits binary64 5706397772701241991 ∷ of_bits binary64 4491241824011842452 ∷ of_bits binary64 1730918498071170057 ∷ of_bits binary64 11519305342975511981 ∷ of_bits binary64 13102420654289896545 ∷ of_bits binary64 3272594774584486830 ∷ of_bits binary64 8481344223419330914 ∷ of_bits binary64 13921533214012012382 ∷ of_bits binary64 1040963047366138421 ∷ of_bits binary64 6673911382888943818 ∷ of_bits binary64 14829893266615103888 ∷ of_bits binary64 3458774466810160513 ∷ of_bits binary64 9936212729109948290 ∷ of_bits binary64 9385933919606390876 ∷ of_bits binary64 2775693688056788939 ∷ of_bits binary64 3105365309578879258 ∷ of_bits binary64 4846588100129247758 ∷ of_bits binary64 16171026900238038803 ∷ [])) false 174
unfolding of_int of_bits add sub mul div Ieee.round said_checked said_subdivided said_edited links points tally turned heavy begin final work_needed enough unwanted overweight refusal last_links last_flag last_points last_marks subdivided left_after ended call then onward every c1_vertex c1_halfedge c1_face c2 c3 c4 c5 c6 c7 c8 c9 fault set_mark marked unmarked_new written edit_ended edit_refusal edit split_edge_edit split_face_edit insert_edge_edit swap_denied swap_ccw_edit swap_cw_edit triangulate_all split_edge joined paint across_face across_hole insert_edge insert_new cut_off cut_corner triangulate_face triangulate petal petals fan singles split_face swap_ccw swap_cw partner loop around is_v is_e is_h is_f put lay over each range round only has distinct first all number_of sum split_edges from_old pairs catmull_face catmull_pass corners loop_face loop_pass rim_of rim_side rim_face centre_face sqrt_face swap_inner sqrt_pass zero_p add_p scale_p over_p flat plus heads face_point catmull_edge catmull_rim catmull_inner catmull_vertex catmull_points inner on_rim loop_edge_point loop_vertex loop_points sqrt_vertex sqrt_answer answers sqrt_points cc_edge middle cc_inner loop_edge loop_rim weighted sqrt_rim sqrt_pair crowded two_rims catmull loop_scheme sqrt3 sizes fits fits_with used links_of marks_of points_of clean filled wiped counts_of tally_of counted triangulated catmull_tally loop_tally sqrt_tally dec row
schemes-181 = refl

schemes-65 :
    call catmull 1 true (mesh 4 6 4 (6 ∷ 5 ∷ 8 ∷ 10 ∷ []) (2 ∷ 2 ∷ 8 ∷ 3 ∷ 1 ∷ 0 ∷ 6 ∷ 5 ∷ 0 ∷ 3 ∷ 10 ∷ 7 ∷ 2 ∷ 0 ∷ 0 ∷ 8 ∷ 3 ∷ 1 ∷ 11 ∷ 9 ∷ 1 ∷ 2 ∷ 1 ∷ 6 ∷ 1 ∷ 1 ∷ 5 ∷ 1 ∷ 0 ∷ 0 ∷ 2 ∷ 10 ∷ 2 ∷ 3 ∷ 3 ∷ 0 ∷ 3 ∷ 2 ∷ 4 ∷ 11 ∷ 0 ∷ 1 ∷ 7 ∷ 2 ∷ 3 ∷ 3 ∷ 9 ∷ 4 ∷ []) (2 ∷ 6 ∷ 3 ∷ 4 ∷ []) (0 ∷ 0 ∷ 0 ∷ 0 ∷ []) (0 ∷ 0 ∷ 0 ∷ 0 ∷ 0 ∷ 0 ∷ []) (0 ∷ 0 ∷ 0 ∷ 0 ∷ []) (of_bits binary64 12828160061508487860 ∷ of_bits binary64 7659280640298048162 ∷ of_bits binary64 4607182418800017408 ∷ of_bits binary64 2912072168153477553 ∷ of_bits binary64 16048361902212265143 ∷ of_bits binary64 5237998941582258076 ∷ of_bits binary64 17994535286222550529 ∷ of_bits binary64 9491961400817420525 ∷ of_bits binary64 6529122289849725234 ∷ of_bits binary64 1 ∷ of_bits binary64 7150951714805636977 ∷ of_bits binary64 9223372036854775808 ∷ [])) (lent 14 24 12 300) ≡
    done (mesh 14 24 12 (18 ∷ 5 ∷ 20 ∷ 22 ∷ 0 ∷ 2 ∷ 4 ∷ 6 ∷ 8 ∷ 10 ∷ 25 ∷ 31 ∷ 37 ∷ 43 ∷ []) (8 ∷ 2 ∷ 20 ∷ 39 ∷ 6 ∷ 4 ∷ 34 ∷ 17 ∷ 0 ∷ 3 ∷ 22 ∷ 25 ∷ 9 ∷ 5 ∷ 36 ∷ 8 ∷ 3 ∷ 1 ∷ 11 ∷ 43 ∷ 1 ∷ 6 ∷ 32 ∷ 6 ∷ 1 ∷ 1 ∷ 5 ∷ 31 ∷ 4 ∷ 7 ∷ 28 ∷ 10 ∷ 9 ∷ 3 ∷ 3 ∷ 41 ∷ 10 ∷ 8 ∷ 46 ∷ 23 ∷ 4 ∷ 1 ∷ 7 ∷ 27 ∷ 3 ∷ 9 ∷ 44 ∷ 4 ∷ 2 ∷ 4 ∷ 38 ∷ 15 ∷ 7 ∷ 0 ∷ 18 ∷ 35 ∷ 5 ∷ 5 ∷ 24 ∷ 19 ∷ 2 ∷ 0 ∷ 12 ∷ 37 ∷ 11 ∷ 6 ∷ 42 ∷ 21 ∷ 6 ∷ 2 ∷ 1 ∷ 33 ∷ 7 ∷ 7 ∷ 30 ∷ 13 ∷ 5 ∷ 0 ∷ 14 ∷ 29 ∷ 8 ∷ 8 ∷ 40 ∷ 0 ∷ 11 ∷ 2 ∷ 16 ∷ 47 ∷ 0 ∷ 9 ∷ 26 ∷ 2 ∷ 10 ∷ 3 ∷ 9 ∷ 45 ∷ 5 ∷ 10 ∷ 29 ∷ 14 ∷ 0 ∷ 5 ∷ 2 ∷ 26 ∷ 0 ∷ 10 ∷ 25 ∷ 22 ∷ 4 ∷ 9 ∷ 10 ∷ 28 ∷ 4 ∷ 10 ∷ 27 ∷ 7 ∷ 5 ∷ 7 ∷ 19 ∷ 24 ∷ 7 ∷ 11 ∷ 35 ∷ 18 ∷ 1 ∷ 7 ∷ 6 ∷ 32 ∷ 1 ∷ 11 ∷ 31 ∷ 5 ∷ 6 ∷ 6 ∷ 17 ∷ 34 ∷ 6 ∷ 11 ∷ 33 ∷ 1 ∷ 7 ∷ 4 ∷ 13 ∷ 30 ∷ 9 ∷ 12 ∷ 41 ∷ 3 ∷ 2 ∷ 5 ∷ 15 ∷ 38 ∷ 2 ∷ 12 ∷ 37 ∷ 12 ∷ 8 ∷ 4 ∷ 0 ∷ 40 ∷ 8 ∷ 12 ∷ 39 ∷ 20 ∷ 9 ∷ 8 ∷ 8 ∷ 36 ∷ 11 ∷ 13 ∷ 47 ∷ 16 ∷ 3 ∷ 6 ∷ 4 ∷ 44 ∷ 3 ∷ 13 ∷ 43 ∷ 11 ∷ 10 ∷ 9 ∷ 23 ∷ 46 ∷ 10 ∷ 13 ∷ 45 ∷ 9 ∷ 11 ∷ 8 ∷ 21 ∷ 42 ∷ []) (2 ∷ 6 ∷ 15 ∷ 4 ∷ 10 ∷ 19 ∷ 17 ∷ 13 ∷ 0 ∷ 8 ∷ 23 ∷ 21 ∷ []) (0 ∷ 0 ∷ 0 ∷ 0 ∷ 0 ∷ 0 ∷ 0 ∷ 0 ∷ 0 ∷ 0 ∷ 0 ∷ 0 ∷ 0 ∷ 0 ∷ []) (0 ∷ 0 ∷ 0 ∷ 0 ∷ 0 ∷ 0 ∷ 0 ∷ 0 ∷ 0 ∷ 0 ∷ 0 ∷ 0 ∷ 0 ∷ 0 ∷ 0 ∷ 0 ∷ 0 ∷ 0 ∷ 0 ∷ 0 ∷ 0 ∷ 0 ∷ 0 ∷ 0 ∷ []) (0 ∷ 0 ∷ 0 ∷ 0 ∷ 0 ∷ 0 ∷ 0 ∷ 0 ∷ 0 ∷ 0 ∷ 0 ∷ 0 ∷ []) (of_bits binary64 17983672212096197443 ∷ of_bits binary64 7653925388071169281 ∷ of_bits binary64 6518064342227549827 ∷ of_bits binary64 17983672212096197443 ∷ of_bits binary64 7648286251644454274 ∷ of_bits binary64 6518064342227549827 ∷ of_bits binary64 17989236311650203421 ∷ of_bits binary64 7648286251644454274 ∷ of_bits binary64 6523739798064882847 ∷ of_bits binary64 17983672212096197443 ∷ of_bits binary64 7648286251644454274 ∷ of_bits binary64 6518064342227549827 ∷ of_bits binary64 17988838624177715116 ∷ of_bits binary64 7653499561771415089 ∷ of_bits binary64 6523300351986146901 ∷ of_bits binary64 17978638362505509206 ∷ of_bits binary64 7653499561771415089 ∷ of_bits binary64 6512974814495198071 ∷ of_bits binary64 17988838624177715116 ∷ of_bits binary64 7643214883617411521 ∷ of_bits binary64 6523300351986146901 ∷ of_bits binary64 17978638362505509206 ∷ of_bits binary64 7653499561771415089 ∷ of_bits binary64 6512974814495198071 ∷ of_bits binary64 17988838624177715116 ∷ of_bits binary64 7643214883617411521 ∷ of_bits binary64 6523300351986146901 ∷ of_bits binary64 17978638362505509206 ∷ of_bits binary64 7643214883617411521 ∷ of_bits binary64 6512974814495198071 ∷ of_bits binary64 12821290169715308784 ∷ of_bits binary64 7652222082872152513 ∷ of_bits binary64 5230597133853430992 ∷ of_bits binary64 17987645561760250198 ∷ of_bits binary64 7652222082872152513 ∷ of_bits binary64 6521982013749939063 ∷ of_bits binary64 17987645561760250198 ∷ of_bits binary64 7652222082872152513 ∷ of_bits binary64 6521982013749939063 ∷ of_bits binary64 17987645561760250198 ∷ of_bits binary64 7143700546579589707 ∷ of_bits binary64 6521982013749939063 ∷ [])) true 300
unfolding of_int of_bits add sub mul div Ieee.round said_checked said_subdivided said_edited links points tally turned heavy begin final work_needed enough unwanted overweight refusal last_links last_flag last_points last_marks subdivided left_after ended call then onward every c1_vertex c1_halfedge c1_face c2 c3 c4 c5 c6 c7 c8 c9 fault set_mark marked unmarked_new written edit_ended edit_refusal edit split_edge_edit split_face_edit insert_edge_edit swap_denied swap_ccw_edit swap_cw_edit triangulate_all split_edge joined paint across_face across_hole insert_edge insert_new cut_off cut_corner triangulate_face triangulate petal petals fan singles split_face swap_ccw swap_cw partner loop around is_v is_e is_h is_f put lay over each range round only has distinct first all number_of sum split_edges from_old pairs catmull_face catmull_pass corners loop_face loop_pass rim_of rim_side rim_face centre_face sqrt_face swap_inner sqrt_pass zero_p add_p scale_p over_p flat plus heads face_point catmull_edge catmull_rim catmull_inner catmull_vertex catmull_points inner on_rim loop_edge_point loop_vertex loop_points sqrt_vertex sqrt_answer answers sqrt_points cc_edge middle cc_inner loop_edge loop_rim weighted sqrt_rim sqrt_pair crowded two_rims catmull loop_scheme sqrt3 sizes fits fits_with used links_of marks_of points_of clean filled wiped counts_of tally_of counted triangulated catmull_tally loop_tally sqrt_tally dec row
schemes-65 = refl

schemes-62 :
    call loop_scheme 1 true (mesh 7 7 2 (0 ∷ 3 ∷ 7 ∷ 4 ∷ 8 ∷ 11 ∷ 13 ∷ []) (NONE ∷ 6 ∷ 13 ∷ 7 ∷ 1 ∷ 0 ∷ 6 ∷ 12 ∷ 1 ∷ 1 ∷ 12 ∷ 6 ∷ NONE ∷ 2 ∷ 7 ∷ 13 ∷ NONE ∷ 4 ∷ 8 ∷ 11 ∷ 0 ∷ 3 ∷ 10 ∷ 9 ∷ 1 ∷ 2 ∷ 2 ∷ 1 ∷ NONE ∷ 0 ∷ 0 ∷ 3 ∷ NONE ∷ 5 ∷ 11 ∷ 4 ∷ 0 ∷ 4 ∷ 5 ∷ 10 ∷ 0 ∷ 5 ∷ 9 ∷ 5 ∷ NONE ∷ 3 ∷ 4 ∷ 8 ∷ 1 ∷ 6 ∷ 1 ∷ 2 ∷ NONE ∷ 1 ∷ 3 ∷ 0 ∷ []) (10 ∷ 2 ∷ []) (0 ∷ 0 ∷ 0 ∷ 0 ∷ 0 ∷ 0 ∷ 0 ∷ []) (0 ∷ 0 ∷ 0 ∷ 0 ∷ 0 ∷ 0 ∷ 0 ∷ []) (0 ∷ 0 ∷ []) (of_bits binary64 0 ∷ of_bits binary64 6366866773116702108 ∷ of_bits binary64 14781848188731582408 ∷ of_bits binary64 9218868437227405312 ∷ of_bits binary64 15237957157554785355 ∷ of_bits binary64 10384237144766519888 ∷ of_bits binary64 6303799086481752965 ∷ of_bits binary64 9214364837600034816 ∷ of_bits binary64 9218868437227405312 ∷ of_bits binary64 6055581949823755050 ∷ of_bits binary64 669348935709273273 ∷ of_bits binary64 9218868437227405311 ∷ of_bits binary64 1938910903661520450 ∷ of_bits binary64 392504143553243473 ∷ of_bits binary64 5992343195685720729 ∷ of_bits binary64 9360496253938849004 ∷ of_bits binary64 12953564076244073073 ∷ of_bits binary64 12761979329240602227 ∷ of_bits binary64 1 ∷ of_bits binary64 5662119299022143661 ∷ of_bits binary64 3867040669984559203 ∷ [])) (lent 15 25 12 312) ≡
    done (mesh 15 25 12 (16 ∷ 3 ∷ 7 ∷ 20 ∷ 24 ∷ 11 ∷ 13 ∷ 0 ∷ 19 ∷ 4 ∷ 23 ∷ 8 ∷ 27 ∷ 29 ∷ 14 ∷ []) (NONE ∷ 6 ∷ 13 ∷ 16 ∷ 1 ∷ 7 ∷ 38 ∷ 14 ∷ 2 ∷ 1 ∷ 28 ∷ 44 ∷ NONE ∷ 8 ∷ 19 ∷ 29 ∷ NONE ∷ 4 ∷ 24 ∷ 20 ∷ 3 ∷ 9 ∷ 34 ∷ 25 ∷ 7 ∷ 2 ∷ 30 ∷ 42 ∷ NONE ∷ 10 ∷ 23 ∷ 19 ∷ NONE ∷ 5 ∷ 11 ∷ 24 ∷ 0 ∷ 11 ∷ 32 ∷ 10 ∷ 0 ∷ 5 ∷ 9 ∷ 32 ∷ NONE ∷ 12 ∷ 27 ∷ 8 ∷ 9 ∷ 6 ∷ 15 ∷ 46 ∷ NONE ∷ 13 ∷ 29 ∷ 0 ∷ 1 ∷ 6 ∷ 1 ∷ 38 ∷ 9 ∷ 14 ∷ 46 ∷ 12 ∷ NONE ∷ 7 ∷ 0 ∷ 23 ∷ 6 ∷ 0 ∷ 22 ∷ 40 ∷ 10 ∷ 8 ∷ 48 ∷ 31 ∷ NONE ∷ 2 ∷ 7 ∷ 3 ∷ NONE ∷ 9 ∷ 4 ∷ 27 ∷ 4 ∷ 3 ∷ 26 ∷ 36 ∷ 6 ∷ 10 ∷ 40 ∷ 17 ∷ NONE ∷ 0 ∷ 16 ∷ 7 ∷ NONE ∷ 11 ∷ 8 ∷ 4 ∷ 3 ∷ 4 ∷ 5 ∷ 34 ∷ 4 ∷ 12 ∷ 36 ∷ 21 ∷ NONE ∷ 3 ∷ 20 ∷ 11 ∷ 2 ∷ 13 ∷ 44 ∷ 2 ∷ NONE ∷ 1 ∷ 3 ∷ 13 ∷ 7 ∷ 14 ∷ 42 ∷ 6 ∷ 10 ∷ 2 ∷ 18 ∷ 48 ∷ 0 ∷ 12 ∷ 10 ∷ 9 ∷ 5 ∷ 11 ∷ 35 ∷ 37 ∷ 3 ∷ 11 ∷ 25 ∷ 5 ∷ 5 ∷ 9 ∷ 37 ∷ 33 ∷ 4 ∷ 9 ∷ 21 ∷ 26 ∷ 5 ∷ 12 ∷ 33 ∷ 35 ∷ 1 ∷ 14 ∷ 14 ∷ 1 ∷ 8 ∷ 7 ∷ 41 ∷ 43 ∷ 6 ∷ 7 ∷ 17 ∷ 22 ∷ 8 ∷ 10 ∷ 43 ∷ 39 ∷ 7 ∷ 10 ∷ 6 ∷ 30 ∷ 8 ∷ 14 ∷ 39 ∷ 41 ∷ 2 ∷ 8 ∷ 2 ∷ 28 ∷ 11 ∷ 13 ∷ 47 ∷ 49 ∷ 9 ∷ 13 ∷ 12 ∷ 15 ∷ 11 ∷ 14 ∷ 49 ∷ 45 ∷ 10 ∷ 14 ∷ 31 ∷ 18 ∷ 11 ∷ 8 ∷ 45 ∷ 47 ∷ []) (10 ∷ 14 ∷ 2 ∷ 34 ∷ 36 ∷ 37 ∷ 40 ∷ 42 ∷ 43 ∷ 46 ∷ 48 ∷ 49 ∷ []) (0 ∷ 0 ∷ 0 ∷ 0 ∷ 0 ∷ 0 ∷ 0 ∷ 0 ∷ 0 ∷ 0 ∷ 0 ∷ 0 ∷ 0 ∷ 0 ∷ 0 ∷ []) (0 ∷ 0 ∷ 0 ∷ 0 ∷ 0 ∷ 0 ∷ 0 ∷ 0 ∷ 0 ∷ 0 ∷ 0 ∷ 0 ∷ 0 ∷ 0 ∷ 0 ∷ 0 ∷ 0 ∷ 0 ∷ 0 ∷ 0 ∷ 0 ∷ 0 ∷ 0 ∷ 0 ∷ 0 ∷ []) (0 ∷ 0 ∷ 0 ∷ 0 ∷ 0 ∷ 0 ∷ 0 ∷ 0 ∷ 0 ∷ 0 ∷ 0 ∷ 0 ∷ []) (of_bits binary64 6290288287599641477 ∷ of_bits binary64 9200854038717923328 ∷ of_bits binary64 9218868437227405312 ∷ of_bits binary64 9218868437227405312 ∷ of_bits binary64 9200854038717923328 ∷ of_bits binary64 9218868437227405312 ∷ of_bits binary64 9218868437227405312 ∷ of_bits binary64 9218868437227405312 ∷ of_bits binary64 9218868437227405312 ∷ of_bits binary64 6053770037257460320 ∷ of_bits binary64 12940053277361961585 ∷ of_bits binary64 9218868437227405312 ∷ of_bits binary64 6042071150941643562 ∷ of_bits binary64 12940053277361961585 ∷ of_bits binary64 9205357638345293823 ∷ of_bits binary64 6042071150941643562 ∷ of_bits binary64 12951918050393651114 ∷ of_bits binary64 9205357638345293823 ∷ of_bits binary64 9218868437227405312 ∷ of_bits binary64 6353355974234590620 ∷ of_bits binary64 14768337389849470920 ∷ of_bits binary64 0 ∷ of_bits binary64 6362363173489331612 ∷ of_bits binary64 14777344589104211912 ∷ of_bits binary64 9218868437227405312 ∷ of_bits binary64 9209861237972664320 ∷ of_bits binary64 9218868437227405312 ∷ of_bits binary64 6051078350196384554 ∷ of_bits binary64 664845336081902777 ∷ of_bits binary64 9214364837600034815 ∷ of_bits binary64 6299295486854382469 ∷ of_bits binary64 9209861237972664320 ∷ of_bits binary64 9218868437227405312 ∷ of_bits binary64 1934407304034149954 ∷ of_bits binary64 12949060476616702577 ∷ of_bits binary64 5987839596058350233 ∷ of_bits binary64 6051078350196384554 ∷ of_bits binary64 12949060476616702577 ∷ of_bits binary64 9214364837600034815 ∷ of_bits binary64 9218868437227405312 ∷ of_bits binary64 15233453557927414859 ∷ of_bits binary64 3862537070357188707 ∷ of_bits binary64 9218868437227405312 ∷ of_bits binary64 9218868437227405312 ∷ of_bits binary64 9218868437227405312 ∷ [])) true 312
unfolding of_int of_bits add sub mul div Ieee.round said_checked said_subdivided said_edited links points tally turned heavy begin final work_needed enough unwanted overweight refusal last_links last_flag last_points last_marks subdivided left_after ended call then onward every c1_vertex c1_halfedge c1_face c2 c3 c4 c5 c6 c7 c8 c9 fault set_mark marked unmarked_new written edit_ended edit_refusal edit split_edge_edit split_face_edit insert_edge_edit swap_denied swap_ccw_edit swap_cw_edit triangulate_all split_edge joined paint across_face across_hole insert_edge insert_new cut_off cut_corner triangulate_face triangulate petal petals fan singles split_face swap_ccw swap_cw partner loop around is_v is_e is_h is_f put lay over each range round only has distinct first all number_of sum split_edges from_old pairs catmull_face catmull_pass corners loop_face loop_pass rim_of rim_side rim_face centre_face sqrt_face swap_inner sqrt_pass zero_p add_p scale_p over_p flat plus heads face_point catmull_edge catmull_rim catmull_inner catmull_vertex catmull_points inner on_rim loop_edge_point loop_vertex loop_points sqrt_vertex sqrt_answer answers sqrt_points cc_edge middle cc_inner loop_edge loop_rim weighted sqrt_rim sqrt_pair crowded two_rims catmull loop_scheme sqrt3 sizes fits fits_with used links_of marks_of points_of clean filled wiped counts_of tally_of counted triangulated catmull_tally loop_tally sqrt_tally dec row
schemes-62 = refl

schemes-73 :
    call sqrt3 1 false (mesh 5 5 2 (7 ∷ 9 ∷ 0 ∷ 5 ∷ 3 ∷ []) (0 ∷ 3 ∷ 5 ∷ 9 ∷ 1 ∷ 2 ∷ 8 ∷ 4 ∷ 1 ∷ 4 ∷ 6 ∷ 8 ∷ 0 ∷ 1 ∷ 9 ∷ 7 ∷ 1 ∷ 3 ∷ 1 ∷ 6 ∷ 0 ∷ 0 ∷ 7 ∷ 0 ∷ 1 ∷ 0 ∷ 4 ∷ 2 ∷ 0 ∷ 4 ∷ 3 ∷ 5 ∷ 1 ∷ 1 ∷ 2 ∷ 1 ∷ 0 ∷ 2 ∷ 0 ∷ 3 ∷ []) (9 ∷ 1 ∷ []) (0 ∷ 0 ∷ 0 ∷ 0 ∷ 0 ∷ []) (0 ∷ 0 ∷ 0 ∷ 0 ∷ 0 ∷ []) (0 ∷ 0 ∷ []) (of_bits binary64 13842056357651586952 ∷ of_bits binary64 13845137012642236103 ∷ of_bits binary64 13845167371663751957 ∷ of_bits binary64 13839623760476406910 ∷ of_bits binary64 4621098494530468732 ∷ of_bits binary64 13834070947707793744 ∷ of_bits binary64 4621081573192826374 ∷ of_bits binary64 13843111092237881727 ∷ of_bits binary64 13836814406629334206 ∷ of_bits binary64 13844541080194977748 ∷ of_bits binary64 13841748638984579070 ∷ of_bits binary64 13840818073401068657 ∷ of_bits binary64 13845012714884371349 ∷ of_bits binary64 13822694299784484800 ∷ of_bits binary64 13844539023359773460 ∷ [])) (lent 11 27 18 336) ≡
    done (mesh 11 27 18 (26 ∷ 44 ∷ 42 ∷ 28 ∷ 50 ∷ 23 ∷ 29 ∷ 35 ∷ 41 ∷ 47 ∷ 53 ∷ []) (10 ∷ 7 ∷ 31 ∷ 42 ∷ 4 ∷ 9 ∷ 47 ∷ 32 ∷ 16 ∷ 10 ∷ 49 ∷ 22 ∷ 7 ∷ 5 ∷ 21 ∷ 50 ∷ 9 ∷ 6 ∷ 27 ∷ 38 ∷ 12 ∷ 8 ∷ 37 ∷ 28 ∷ 8 ∷ 6 ∷ 25 ∷ 20 ∷ 6 ∷ 5 ∷ 19 ∷ 26 ∷ 14 ∷ 9 ∷ 43 ∷ 30 ∷ 2 ∷ 7 ∷ 35 ∷ 44 ∷ 3 ∷ 8 ∷ 41 ∷ 34 ∷ 11 ∷ 7 ∷ 33 ∷ 36 ∷ 0 ∷ 5 ∷ 23 ∷ 40 ∷ 13 ∷ 8 ∷ 39 ∷ 18 ∷ 5 ∷ 10 ∷ 53 ∷ 46 ∷ 15 ∷ 9 ∷ 45 ∷ 48 ∷ 1 ∷ 6 ∷ 29 ∷ 52 ∷ 17 ∷ 10 ∷ 51 ∷ 24 ∷ 13 ∷ 5 ∷ 13 ∷ 39 ∷ 6 ∷ 0 ∷ 26 ∷ 7 ∷ 8 ∷ 5 ∷ 6 ∷ 25 ∷ 7 ∷ 4 ∷ 50 ∷ 3 ∷ 16 ∷ 5 ∷ 2 ∷ 49 ∷ 0 ∷ 1 ∷ 40 ∷ 12 ∷ 17 ∷ 6 ∷ 17 ∷ 51 ∷ 8 ∷ 4 ∷ 20 ∷ 6 ∷ 6 ∷ 6 ∷ 7 ∷ 19 ∷ 9 ∷ 0 ∷ 38 ∷ 4 ∷ 12 ∷ 6 ∷ 5 ∷ 37 ∷ 1 ∷ 3 ∷ 52 ∷ 16 ∷ 14 ∷ 7 ∷ 8 ∷ 43 ∷ 10 ∷ 2 ∷ 42 ∷ 0 ∷ 4 ∷ 7 ∷ 1 ∷ 47 ∷ 11 ∷ 3 ∷ 36 ∷ 11 ∷ 3 ∷ 7 ∷ 10 ∷ 41 ∷ 2 ∷ 1 ∷ 44 ∷ 9 ∷ 11 ∷ 8 ∷ 11 ∷ 33 ∷ 12 ∷ 3 ∷ 28 ∷ 5 ∷ 9 ∷ 8 ∷ 4 ∷ 27 ∷ 13 ∷ 0 ∷ 18 ∷ 13 ∷ 0 ∷ 8 ∷ 12 ∷ 23 ∷ 3 ∷ 1 ∷ 34 ∷ 10 ∷ 10 ∷ 9 ∷ 0 ∷ 31 ∷ 14 ∷ 2 ∷ 30 ∷ 8 ∷ 2 ∷ 9 ∷ 9 ∷ 35 ∷ 15 ∷ 1 ∷ 48 ∷ 15 ∷ 5 ∷ 9 ∷ 14 ∷ 53 ∷ 4 ∷ 3 ∷ 32 ∷ 1 ∷ 15 ∷ 10 ∷ 15 ∷ 45 ∷ 16 ∷ 1 ∷ 22 ∷ 2 ∷ 7 ∷ 10 ∷ 3 ∷ 21 ∷ 17 ∷ 4 ∷ 24 ∷ 17 ∷ 1 ∷ 10 ∷ 16 ∷ 29 ∷ 5 ∷ 3 ∷ 46 ∷ 14 ∷ []) (12 ∷ 16 ∷ 9 ∷ 10 ∷ 1 ∷ 14 ∷ 7 ∷ 3 ∷ 6 ∷ 4 ∷ 0 ∷ 11 ∷ 5 ∷ 13 ∷ 8 ∷ 15 ∷ 2 ∷ 17 ∷ []) (0 ∷ 0 ∷ 0 ∷ 0 ∷ 0 ∷ 0 ∷ 0 ∷ 0 ∷ 0 ∷ 0 ∷ 0 ∷ []) (0 ∷ 0 ∷ 0 ∷ 0 ∷ 0 ∷ 0 ∷ 0 ∷ 0 ∷ 0 ∷ 0 ∷ 0 ∷ 0 ∷ 0 ∷ 0 ∷ 0 ∷ 0 ∷ 0 ∷ 0 ∷ 0 ∷ 0 ∷ 0 ∷ 0 ∷ 0 ∷ 0 ∷ 0 ∷ 0 ∷ 0 ∷ []) (0 ∷ 0 ∷ 0 ∷ 0 ∷ 0 ∷ 0 ∷ 0 ∷ 0 ∷ 0 ∷ 0 ∷ 0 ∷ 0 ∷ 0 ∷ 0 ∷ 0 ∷ 0 ∷ 0 ∷ 0 ∷ []) (of_bits binary64 13842877055541685997 ∷ of_bits binary64 13839438793823756727 ∷ of_bits binary64 13843322354978408416 ∷ of_bits binary64 13840014992859102978 ∷ of_bits binary64 4614488501683461704 ∷ of_bits binary64 13838441146552412354 ∷ of_bits binary64 13832371716679415158 ∷ of_bits binary64 13832618679636373001 ∷ of_bits binary64 13837817800005638680 ∷ of_bits binary64 13842570892891240598 ∷ of_bits binary64 13838895515667517228 ∷ of_bits binary64 13840780954531040335 ∷ of_bits binary64 13843889156395825156 ∷ of_bits binary64 13832622072818658976 ∷ of_bits binary64 13842996544746715862 ∷ of_bits binary64 13842546764453277285 ∷ of_bits binary64 13826036337851192757 ∷ of_bits binary64 13842781786391832631 ∷ of_bits binary64 13844204867057864975 ∷ of_bits binary64 13841122876734182659 ∷ of_bits binary64 13844033451458103360 ∷ of_bits binary64 13832371716679415160 ∷ of_bits binary64 13832618679636372997 ∷ of_bits binary64 13837817800005638680 ∷ of_bits binary64 13842232341327014885 ∷ of_bits binary64 13835903486465725539 ∷ of_bits binary64 13841383546797974779 ∷ of_bits binary64 13832371716679415160 ∷ of_bits binary64 13832618679636372999 ∷ of_bits binary64 13837817800005638680 ∷ of_bits binary64 13843533613853765232 ∷ of_bits binary64 4605572563707323387 ∷ of_bits binary64 13840964647928655780 ∷ [])) true 336
unfolding of_int of_bits add sub mul div Ieee.round said_checked said_subdivided said_edited links points tally turned heavy begin final work_needed enough unwanted overweight refusal last_links last_flag last_points last_marks subdivided left_after ended call then onward every c1_vertex c1_halfedge c1_face c2 c3 c4 c5 c6 c7 c8 c9 fault set_mark marked unmarked_new written edit_ended edit_refusal edit split_edge_edit split_face_edit insert_edge_edit swap_denied swap_ccw_edit swap_cw_edit triangulate_all split_edge joined paint across_face across_hole insert_edge insert_new cut_off cut_corner triangulate_face triangulate petal petals fan singles split_face swap_ccw swap_cw partner loop around is_v is_e is_h is_f put lay over each range round only has distinct first all number_of sum split_edges from_old pairs catmull_face catmull_pass corners loop_face loop_pass rim_of rim_side rim_face centre_face sqrt_face swap_inner sqrt_pass zero_p add_p scale_p over_p flat plus heads face_point catmull_edge catmull_rim catmull_inner catmull_vertex catmull_points inner on_rim loop_edge_point loop_vertex loop_points sqrt_vertex sqrt_answer answers sqrt_points cc_edge middle cc_inner loop_edge loop_rim weighted sqrt_rim sqrt_pair crowded two_rims catmull loop_scheme sqrt3 sizes fits fits_with used links_of marks_of points_of clean filled wiped counts_of tally_of counted triangulated catmull_tally loop_tally sqrt_tally dec row
schemes-73 = refl

schemes-97 :
    call catmull 2 true (mesh 6 3 1 (1 ∷ 3 ∷ NONE ∷ NONE ∷ NONE ∷ 5 ∷ []) (0 ∷ 0 ∷ 2 ∷ 4 ∷ NONE ∷ 5 ∷ 5 ∷ 3 ∷ 0 ∷ 1 ∷ 4 ∷ 0 ∷ NONE ∷ 0 ∷ 1 ∷ 5 ∷ 0 ∷ 5 ∷ 0 ∷ 2 ∷ NONE ∷ 1 ∷ 3 ∷ 1 ∷ []) (2 ∷ []) (0 ∷ 0 ∷ 0 ∷ 0 ∷ 0 ∷ 0 ∷ []) (0 ∷ 0 ∷ 0 ∷ []) (0 ∷ []) (of_bits binary64 13846317054350589952 ∷ of_bits binary64 0 ∷ of_bits binary64 0 ∷ of_bits binary64 13848568854164275200 ∷ of_bits binary64 4620693217682128896 ∷ of_bits binary64 13842939354630062080 ∷ of_bits binary64 13848850329140985856 ∷ of_bits binary64 4620693217682128896 ∷ of_bits binary64 0 ∷ of_bits binary64 13849413279094407168 ∷ of_bits binary64 13848568854164275200 ∷ of_bits binary64 13846317054350589952 ∷ of_bits binary64 0 ∷ of_bits binary64 13842939354630062080 ∷ of_bits binary64 13845754104397168640 ∷ of_bits binary64 13835058055282163712 ∷ of_bits binary64 4616189618054758400 ∷ of_bits binary64 4623507967449235456 ∷ [])) (lent 22 30 12 384) ≡
    done (mesh 22 30 12 (1 ∷ 3 ∷ NONE ∷ NONE ∷ NONE ∷ 5 ∷ 7 ∷ 9 ∷ 11 ∷ 13 ∷ 19 ∷ 21 ∷ 23 ∷ 25 ∷ 27 ∷ 29 ∷ 12 ∷ 14 ∷ 16 ∷ 37 ∷ 45 ∷ 53 ∷ []) (2 ∷ 0 ∷ 26 ∷ 53 ∷ NONE ∷ 10 ∷ 19 ∷ 27 ∷ 0 ∷ 1 ∷ 28 ∷ 37 ∷ NONE ∷ 11 ∷ 21 ∷ 29 ∷ 1 ∷ 5 ∷ 24 ∷ 45 ∷ NONE ∷ 12 ∷ 23 ∷ 25 ∷ 6 ∷ 6 ∷ 34 ∷ 47 ∷ NONE ∷ 13 ∷ 25 ∷ 19 ∷ 9 ∷ 7 ∷ 30 ∷ 55 ∷ NONE ∷ 14 ∷ 27 ∷ 21 ∷ 3 ∷ 8 ∷ 32 ∷ 39 ∷ NONE ∷ 15 ∷ 29 ∷ 23 ∷ 10 ∷ 9 ∷ 17 ∷ 57 ∷ 4 ∷ 16 ∷ 42 ∷ 14 ∷ 4 ∷ 9 ∷ 13 ∷ 41 ∷ 7 ∷ 17 ∷ 50 ∷ 16 ∷ 7 ∷ 9 ∷ 15 ∷ 49 ∷ 10 ∷ 18 ∷ 58 ∷ 12 ∷ 11 ∷ 10 ∷ 52 ∷ 35 ∷ NONE ∷ 6 ∷ 7 ∷ 1 ∷ 5 ∷ 11 ∷ 36 ∷ 31 ∷ NONE ∷ 7 ∷ 9 ∷ 3 ∷ 8 ∷ 12 ∷ 44 ∷ 33 ∷ NONE ∷ 8 ∷ 11 ∷ 5 ∷ 1 ∷ 13 ∷ 46 ∷ 4 ∷ NONE ∷ 5 ∷ 5 ∷ 7 ∷ 2 ∷ 14 ∷ 54 ∷ 0 ∷ NONE ∷ 0 ∷ 1 ∷ 9 ∷ 0 ∷ 15 ∷ 38 ∷ 2 ∷ NONE ∷ 1 ∷ 3 ∷ 11 ∷ 9 ∷ 16 ∷ 56 ∷ 8 ∷ 5 ∷ 7 ∷ 20 ∷ 43 ∷ 3 ∷ 17 ∷ 40 ∷ 10 ∷ 8 ∷ 8 ∷ 22 ∷ 51 ∷ 6 ∷ 18 ∷ 48 ∷ 6 ∷ 11 ∷ 6 ∷ 18 ∷ 59 ∷ 5 ∷ 19 ∷ 43 ∷ 20 ∷ 0 ∷ 11 ∷ 2 ∷ 38 ∷ 0 ∷ 19 ∷ 37 ∷ 28 ∷ 3 ∷ 15 ∷ 10 ∷ 40 ∷ 3 ∷ 19 ∷ 39 ∷ 32 ∷ 4 ∷ 17 ∷ 14 ∷ 42 ∷ 4 ∷ 19 ∷ 41 ∷ 13 ∷ 5 ∷ 16 ∷ 31 ∷ 36 ∷ 8 ∷ 20 ∷ 51 ∷ 22 ∷ 1 ∷ 12 ∷ 4 ∷ 46 ∷ 1 ∷ 20 ∷ 45 ∷ 24 ∷ 6 ∷ 13 ∷ 6 ∷ 48 ∷ 6 ∷ 20 ∷ 47 ∷ 34 ∷ 7 ∷ 18 ∷ 16 ∷ 50 ∷ 7 ∷ 20 ∷ 49 ∷ 15 ∷ 8 ∷ 17 ∷ 33 ∷ 44 ∷ 11 ∷ 21 ∷ 59 ∷ 18 ∷ 2 ∷ 10 ∷ 0 ∷ 54 ∷ 2 ∷ 21 ∷ 53 ∷ 26 ∷ 9 ∷ 14 ∷ 8 ∷ 56 ∷ 9 ∷ 21 ∷ 55 ∷ 30 ∷ 10 ∷ 16 ∷ 12 ∷ 58 ∷ 10 ∷ 21 ∷ 57 ∷ 17 ∷ 11 ∷ 18 ∷ 35 ∷ 52 ∷ []) (2 ∷ 4 ∷ 0 ∷ 10 ∷ 14 ∷ 31 ∷ 6 ∷ 16 ∷ 33 ∷ 8 ∷ 12 ∷ 35 ∷ []) (0 ∷ 0 ∷ 0 ∷ 0 ∷ 0 ∷ 0 ∷ 0 ∷ 0 ∷ 0 ∷ 0 ∷ 0 ∷ 0 ∷ 0 ∷ 0 ∷ 0 ∷ 0 ∷ 0 ∷ 0 ∷ 0 ∷ 0 ∷ 0 ∷ 0 ∷ []) (0 ∷ 0 ∷ 0 ∷ 0 ∷ 0 ∷ 0 ∷ 0 ∷ 0 ∷ 0 ∷ 0 ∷ 0 ∷ 0 ∷ 0 ∷ 0 ∷ 0 ∷ 0 ∷ 0 ∷ 0 ∷ 0 ∷ 0 ∷ 0 ∷ 0 ∷ 0 ∷ 0 ∷ 0 ∷ 0 ∷ 0 ∷ 0 ∷ 0 ∷ 0 ∷ []) (0 ∷ 0 ∷ 0 ∷ 0 ∷ 0 ∷ 0 ∷ 0 ∷ 0 ∷ 0 ∷ 0 ∷ 0 ∷ 0 ∷ []) (of_bits binary64 13845660279404931755 ∷ of_bits binary64 4612436618365282987 ∷ of_bits binary64 4607933018737912491 ∷ of_bits binary64 13846598529327300608 ∷ of_bits binary64 4618066117899496107 ∷ of_bits binary64 13833932155375321088 ∷ of_bits binary64 13848850329140985856 ∷ of_bits binary64 4620693217682128896 ∷ of_bits binary64 0 ∷ of_bits binary64 13849413279094407168 ∷ of_bits binary64 13848568854164275200 ∷ of_bits binary64 13846317054350589952 ∷ of_bits binary64 0 ∷ of_bits binary64 13842939354630062080 ∷ of_bits binary64 13845754104397168640 ∷ of_bits binary64 13842564054661114539 ∷ of_bits binary64 4616189618054758400 ∷ of_bits binary64 4619098192814101845 ∷ of_bits binary64 13843502304583483392 ∷ of_bits binary64 4612436618365282987 ∷ of_bits binary64 4618159942891732992 ∷ of_bits binary64 13847067654288485035 ∷ of_bits binary64 4616189618054758400 ∷ of_bits binary64 13836371605173480107 ∷ of_bits binary64 13844722029482562901 ∷ of_bits binary64 4618066117899496107 ∷ of_bits binary64 4613562518272125611 ∷ of_bits binary64 13845191154443747328 ∷ of_bits binary64 4616189618054758400 ∷ of_bits binary64 4611686018427387904 ∷ of_bits binary64 13844628204490326016 ∷ of_bits binary64 4611686018427387904 ∷ of_bits binary64 4615626668101337088 ∷ of_bits binary64 13847161479280721920 ∷ of_bits binary64 4617315517961601024 ∷ of_bits binary64 13837309855095848960 ∷ of_bits binary64 13843502304583483392 ∷ of_bits binary64 4617315517961601024 ∷ of_bits binary64 4617596992938311680 ∷ of_bits binary64 13842376404676640768 ∷ of_bits binary64 4613937818241073152 ∷ of_bits binary64 4619567317775286272 ∷ of_bits binary64 13846598529327300608 ∷ of_bits binary64 4613937818241073152 ∷ of_bits binary64 13831680355561635840 ∷ of_bits binary64 13845754104397168640 ∷ of_bits binary64 4618441417868443648 ∷ of_bits binary64 4598175219545276416 ∷ of_bits binary64 13846035579373879296 ∷ of_bits binary64 4616189618054758400 ∷ of_bits binary64 13812540057145311232 ∷ of_bits binary64 13844980048211214336 ∷ of_bits binary64 4617034042984890368 ∷ of_bits binary64 4612530443357519872 ∷ of_bits binary64 13844557835746148352 ∷ of_bits binary64 4614500768194494464 ∷ of_bits binary64 4615485930612981760 ∷ of_bits binary64 13846035579373879296 ∷ of_bits binary64 4617315517961601024 ∷ of_bits binary64 13821547256400052224 ∷ of_bits binary64 13844065254536904704 ∷ of_bits binary64 4616189618054758400 ∷ of_bits binary64 4617034042984890368 ∷ of_bits binary64 13845472629420457984 ∷ of_bits binary64 4613937818241073152 ∷ of_bits binary64 4609434218613702656 ∷ [])) true 384
unfolding of_int of_bits add sub mul div Ieee.round said_checked said_subdivided said_edited links points tally turned heavy begin final work_needed enough unwanted overweight refusal last_links last_flag last_points last_marks subdivided left_after ended call then onward every c1_vertex c1_halfedge c1_face c2 c3 c4 c5 c6 c7 c8 c9 fault set_mark marked unmarked_new written edit_ended edit_refusal edit split_edge_edit split_face_edit insert_edge_edit swap_denied swap_ccw_edit swap_cw_edit triangulate_all split_edge joined paint across_face across_hole insert_edge insert_new cut_off cut_corner triangulate_face triangulate petal petals fan singles split_face swap_ccw swap_cw partner loop around is_v is_e is_h is_f put lay over each range round only has distinct first all number_of sum split_edges from_old pairs catmull_face catmull_pass corners loop_face loop_pass rim_of rim_side rim_face centre_face sqrt_face swap_inner sqrt_pass zero_p add_p scale_p over_p flat plus heads face_point catmull_edge catmull_rim catmull_inner catmull_vertex catmull_points inner on_rim loop_edge_point loop_vertex loop_points sqrt_vertex sqrt_answer answers sqrt_points cc_edge middle cc_inner loop_edge loop_rim weighted sqrt_rim sqrt_pair crowded two_rims catmull loop_scheme sqrt3 sizes fits fits_with used links_of marks_of points_of clean filled wiped counts_of tally_of counted triangulated catmull_tally loop_tally sqrt_tally dec row
schemes-97 = refl

refusals-7 :
    refuses sqrt3 2 true (mesh 33 64 32 (89 ∷ 60 ∷ 109 ∷ 19 ∷ 81 ∷ 0 ∷ 117 ∷ 13 ∷ 67 ∷ 31 ∷ 107 ∷ 24 ∷ 55 ∷ 32 ∷ 92 ∷ 82 ∷ 71 ∷ 74 ∷ 87 ∷ 5 ∷ 50 ∷ 64 ∷ 52 ∷ 41 ∷ 20 ∷ 29 ∷ 77 ∷ 34 ∷ 85 ∷ 72 ∷ 10 ∷ 36 ∷ 68 ∷ []) (NONE ∷ 14 ∷ 92 ∷ 64 ∷ 15 ∷ 5 ∷ 123 ∷ 47 ∷ 0 ∷ 4 ∷ 11 ∷ 102 ∷ 20 ∷ 7 ∷ 127 ∷ 80 ∷ 24 ∷ 19 ∷ 115 ∷ 118 ∷ NONE ∷ 29 ∷ 72 ∷ 29 ∷ 12 ∷ 17 ∷ 53 ∷ 12 ∷ 14 ∷ 7 ∷ 113 ∷ 75 ∷ 25 ∷ 23 ∷ 116 ∷ 125 ∷ 6 ∷ 7 ∷ 110 ∷ 40 ∷ NONE ∷ 4 ∷ 81 ∷ 109 ∷ 0 ∷ 30 ∷ 102 ∷ 2 ∷ 12 ∷ 7 ∷ 6 ∷ 53 ∷ 29 ∷ 22 ∷ 70 ∷ 48 ∷ 30 ∷ 2 ∷ 73 ∷ 119 ∷ 5 ∷ 7 ∷ 103 ∷ 108 ∷ 13 ∷ 7 ∷ 91 ∷ 69 ∷ 17 ∷ 32 ∷ 25 ∷ 38 ∷ 9 ∷ 3 ∷ 98 ∷ 39 ∷ NONE ∷ 11 ∷ 24 ∷ 107 ∷ NONE ∷ 20 ∷ 50 ∷ 87 ∷ 7 ∷ 24 ∷ 58 ∷ 26 ∷ 2 ∷ 15 ∷ 61 ∷ 111 ∷ 3 ∷ 7 ∷ 44 ∷ 83 ∷ NONE ∷ 32 ∷ 68 ∷ 19 ∷ 17 ∷ 11 ∷ 38 ∷ 17 ∷ 7 ∷ 20 ∷ 21 ∷ 58 ∷ 19 ∷ 7 ∷ 97 ∷ 51 ∷ 16 ∷ 25 ∷ 90 ∷ 114 ∷ NONE ∷ 19 ∷ 5 ∷ 68 ∷ 23 ∷ 9 ∷ 45 ∷ 62 ∷ NONE ∷ 27 ∷ 34 ∷ 82 ∷ NONE ∷ 12 ∷ 55 ∷ 92 ∷ 8 ∷ 13 ∷ 56 ∷ 79 ∷ NONE ∷ 10 ∷ 107 ∷ 31 ∷ 1 ∷ 27 ∷ 63 ∷ 42 ∷ NONE ∷ 18 ∷ 87 ∷ 74 ∷ 21 ∷ 31 ∷ 112 ∷ 120 ∷ 17 ∷ 7 ∷ 17 ∷ 25 ∷ 9 ∷ 11 ∷ 18 ∷ 98 ∷ 6 ∷ 23 ∷ 9 ∷ 110 ∷ NONE ∷ 1 ∷ 60 ∷ 117 ∷ 1 ∷ 10 ∷ 35 ∷ 63 ∷ 26 ∷ 7 ∷ 99 ∷ 106 ∷ 3 ∷ 9 ∷ 83 ∷ 23 ∷ 23 ∷ 7 ∷ 62 ∷ 30 ∷ 28 ∷ 7 ∷ 57 ∷ 93 ∷ 15 ∷ 14 ∷ 1 ∷ 123 ∷ 29 ∷ 7 ∷ 13 ∷ 70 ∷ 31 ∷ 16 ∷ 84 ∷ 100 ∷ NONE ∷ 21 ∷ 64 ∷ 20 ∷ 19 ∷ 20 ∷ 27 ∷ 97 ∷ NONE ∷ 17 ∷ 74 ∷ 71 ∷ 12 ∷ 22 ∷ 12 ∷ 6 ∷ 22 ∷ 12 ∷ 78 ∷ 95 ∷ NONE ∷ 8 ∷ 67 ∷ 32 ∷ 8 ∷ 7 ∷ 79 ∷ 33 ∷ 28 ∷ 13 ∷ 93 ∷ 46 ∷ 7 ∷ 7 ∷ 26 ∷ 21 ∷ 11 ∷ 24 ∷ 86 ∷ 121 ∷ NONE ∷ 15 ∷ 82 ∷ 41 ∷ 2 ∷ 1 ∷ 111 ∷ 22 ∷ 23 ∷ 27 ∷ 30 ∷ 45 ∷ 1 ∷ 7 ∷ 42 ∷ 35 ∷ NONE ∷ 5 ∷ 0 ∷ 50 ∷ 27 ∷ 21 ∷ 96 ∷ 122 ∷ 4 ∷ 8 ∷ 94 ∷ 124 ∷ NONE ∷ 6 ∷ 117 ∷ 55 ∷ NONE ∷ 25 ∷ 29 ∷ 24 ∷ 13 ∷ 32 ∷ 16 ∷ 91 ∷ 29 ∷ 16 ∷ 48 ∷ 13 ∷ NONE ∷ 22 ∷ 52 ∷ 85 ∷ NONE ∷ 2 ∷ 109 ∷ 5 ∷ 30 ∷ 29 ∷ 119 ∷ 14 ∷ NONE ∷ 31 ∷ 36 ∷ 52 ∷ 14 ∷ 17 ∷ 7 ∷ 113 ∷ 18 ∷ 26 ∷ 105 ∷ 101 ∷ NONE ∷ 28 ∷ 85 ∷ 89 ∷ 22 ∷ 7 ∷ 95 ∷ 54 ∷ 8 ∷ 12 ∷ 33 ∷ 56 ∷ 20 ∷ 4 ∷ 3 ∷ 127 ∷ NONE ∷ 0 ∷ 89 ∷ 10 ∷ NONE ∷ 9 ∷ 31 ∷ 60 ∷ 3 ∷ 15 ∷ 23 ∷ 44 ∷ 31 ∷ 28 ∷ 100 ∷ 49 ∷ NONE ∷ 16 ∷ 71 ∷ 77 ∷ 11 ∷ 18 ∷ 121 ∷ 59 ∷ NONE ∷ 24 ∷ 20 ∷ 36 ∷ 10 ∷ 0 ∷ 126 ∷ 104 ∷ NONE ∷ 26 ∷ 77 ∷ 81 ∷ 16 ∷ 7 ∷ 114 ∷ 28 ∷ 13 ∷ 25 ∷ 69 ∷ 16 ∷ NONE ∷ 13 ∷ 32 ∷ 0 ∷ 28 ∷ 14 ∷ 46 ∷ 57 ∷ 4 ∷ 7 ∷ 124 ∷ 66 ∷ 22 ∷ 8 ∷ 54 ∷ 78 ∷ 27 ∷ 7 ∷ 122 ∷ 65 ∷ 19 ∷ 21 ∷ 51 ∷ 27 ∷ 9 ∷ 7 ∷ 39 ∷ 18 ∷ 26 ∷ 3 ∷ 106 ∷ 43 ∷ 31 ∷ 7 ∷ 49 ∷ 84 ∷ 18 ∷ 28 ∷ 76 ∷ 105 ∷ 0 ∷ 7 ∷ 2 ∷ 11 ∷ 5 ∷ 30 ∷ 108 ∷ 15 ∷ 10 ∷ 26 ∷ 88 ∷ 126 ∷ 18 ∷ 7 ∷ 101 ∷ 76 ∷ 26 ∷ 10 ∷ 43 ∷ 99 ∷ NONE ∷ 3 ∷ 19 ∷ 34 ∷ 5 ∷ 2 ∷ 15 ∷ 103 ∷ NONE ∷ 30 ∷ 10 ∷ 72 ∷ 6 ∷ 1 ∷ 40 ∷ 9 ∷ 2 ∷ 7 ∷ 22 ∷ 61 ∷ 21 ∷ 7 ∷ 120 ∷ 37 ∷ 14 ∷ 31 ∷ 75 ∷ 7 ∷ 16 ∷ 19 ∷ 28 ∷ 90 ∷ 24 ∷ 7 ∷ 118 ∷ 4 ∷ 25 ∷ 6 ∷ 125 ∷ 8 ∷ NONE ∷ 23 ∷ 41 ∷ 67 ∷ 24 ∷ 29 ∷ 4 ∷ 115 ∷ 30 ∷ 7 ∷ 14 ∷ 73 ∷ 21 ∷ 18 ∷ 37 ∷ 112 ∷ 11 ∷ 7 ∷ 59 ∷ 86 ∷ 27 ∷ 5 ∷ 65 ∷ 96 ∷ 15 ∷ 7 ∷ 47 ∷ 1 ∷ 4 ∷ 6 ∷ 66 ∷ 94 ∷ 25 ∷ 7 ∷ 8 ∷ 116 ∷ 10 ∷ 7 ∷ 104 ∷ 88 ∷ 20 ∷ 0 ∷ 80 ∷ 3 ∷ []) (11 ∷ 35 ∷ 22 ∷ 23 ∷ 66 ∷ 15 ∷ 40 ∷ 26 ∷ 79 ∷ 98 ∷ 126 ∷ 121 ∷ 53 ∷ 69 ∷ 113 ∷ 123 ∷ 90 ∷ 38 ∷ 76 ∷ 97 ∷ 3 ∷ 120 ∷ 95 ∷ 62 ∷ 118 ∷ 125 ∷ 99 ∷ 96 ∷ 93 ∷ 70 ∷ 14 ∷ 49 ∷ []) (0 ∷ 0 ∷ 0 ∷ 0 ∷ 0 ∷ 0 ∷ 0 ∷ 0 ∷ 0 ∷ 0 ∷ 0 ∷ 0 ∷ 0 ∷ 0 ∷ 0 ∷ 0 ∷ 0 ∷ 0 ∷ 0 ∷ 0 ∷ 0 ∷ 0 ∷ 0 ∷ 0 ∷ 0 ∷ 0 ∷ 0 ∷ 0 ∷ 0 ∷ 0 ∷ 0 ∷ 0 ∷ 0 ∷ []) (0 ∷ 0 ∷ 0 ∷ 0 ∷ 0 ∷ 0 ∷ 0 ∷ 0 ∷ 0 ∷ 0 ∷ 0 ∷ 0 ∷ 0 ∷ 0 ∷ 0 ∷ 0 ∷ 0 ∷ 0 ∷ 0 ∷ 0 ∷ 0 ∷ 0 ∷ 0 ∷ 0 ∷ 0 ∷ 0 ∷ 0 ∷ 0 ∷ 0 ∷ 0 ∷ 0 ∷ 0 ∷ 0 ∷ 0 ∷ 0 ∷ 0 ∷ 0 ∷ 0 ∷ 0 ∷ 0 ∷ 0 ∷ 0 ∷ 0 ∷ 0 ∷ 0 ∷ 0 ∷ 0 ∷ 0 ∷ 0 ∷ 0 ∷ 0 ∷ 0 ∷ 0 ∷ 0 ∷ 0 ∷ 0 ∷ 0 ∷ 0 ∷ 0 ∷ 0 ∷ 0 ∷ 0 ∷ 0 ∷ 0 ∷ []) (0 ∷ 0 ∷ 0 ∷ 0 ∷ 0 ∷ 0 ∷ 0 ∷ 0 ∷ 0 ∷ 0 ∷ 0 ∷ 0 ∷ 0 ∷ 0 ∷ 0 ∷ 0 ∷ 0 ∷ 0 ∷ 0 ∷ 0 ∷ 0 ∷ 0 ∷ 0 ∷ 0 ∷ 0 ∷ 0 ∷ 0 ∷ 0 ∷ 0 ∷ 0 ∷ 0 ∷ 0 ∷ []) (of_bits binary64 13843752039641756740 ∷ of_bits binary64 4621766217442683670 ∷ of_bits binary64 4614372723070595880 ∷ of_bits binary64 4604294677345886048 ∷ of_bits binary64 4619359274995107708 ∷ of_bits binary64 4617259179166175740 ∷ of_bits binary64 4613037033337899908 ∷ of_bits binary64 4621047315841763338 ∷ of_bits binary64 4618994957674784696 ∷ of_bits binary64 4617258598925847074 ∷ of_bits binary64 4612644812077841000 ∷ of_bits binary64 4621126896496083488 ∷ of_bits binary64 4618402245835070900 ∷ of_bits binary64 4615029465684209948 ∷ of_bits binary64 4617881710492229772 ∷ of_bits binary64 13844733583981514097 ∷ of_bits binary64 4620481586726695952 ∷ of_bits binary64 4616118560674566164 ∷ of_bits binary64 4619101728224650040 ∷ of_bits binary64 4616031856507636168 ∷ of_bits binary64 4617152603672472622 ∷ of_bits binary64 4617304579145670036 ∷ of_bits binary64 4613016351272381480 ∷ of_bits binary64 4598526023363281088 ∷ of_bits binary64 13839575872773955280 ∷ of_bits binary64 13841898929466774427 ∷ of_bits binary64 4618713524845226656 ∷ of_bits binary64 13838468432037875186 ∷ of_bits binary64 13841850939180003814 ∷ of_bits binary64 13828489227995601200 ∷ of_bits binary64 13841913764664366327 ∷ of_bits binary64 4616001059189539592 ∷ of_bits binary64 4619665707207970520 ∷ of_bits binary64 13836555073003027996 ∷ of_bits binary64 13840554333119164430 ∷ of_bits binary64 4621805867813936404 ∷ of_bits binary64 4618605392353413056 ∷ of_bits binary64 4615602071023638928 ∷ of_bits binary64 13844371885137109654 ∷ of_bits binary64 4620791312575347092 ∷ of_bits binary64 4616623655655507724 ∷ of_bits binary64 13844704657683070407 ∷ of_bits binary64 13844902616306055840 ∷ of_bits binary64 13843892306607130910 ∷ of_bits binary64 4620876201039382564 ∷ of_bits binary64 4621027089214662568 ∷ of_bits binary64 4621481133574352770 ∷ of_bits binary64 13830973622032931008 ∷ of_bits binary64 4620931498835956292 ∷ of_bits binary64 13839999696797757510 ∷ of_bits binary64 13817242361266023872 ∷ of_bits binary64 4618037843671585620 ∷ of_bits binary64 4614736487176502576 ∷ of_bits binary64 4616691569104582056 ∷ of_bits binary64 4609223250047505616 ∷ of_bits binary64 4607775835172085632 ∷ of_bits binary64 13835595326678919976 ∷ of_bits binary64 4619147505911200684 ∷ of_bits binary64 4621642455390875334 ∷ of_bits binary64 13844409120177566947 ∷ of_bits binary64 13841075783234292204 ∷ of_bits binary64 13845059040907607139 ∷ of_bits binary64 13830945278973389768 ∷ of_bits binary64 4618667873126799924 ∷ of_bits binary64 4620839018075445272 ∷ of_bits binary64 13842924170594713462 ∷ of_bits binary64 13839068166374291746 ∷ of_bits binary64 13839477832918033932 ∷ of_bits binary64 13816218990596785920 ∷ of_bits binary64 13843089725562084517 ∷ of_bits binary64 13826587784151612688 ∷ of_bits binary64 4614700969282295928 ∷ of_bits binary64 4613726516600792640 ∷ of_bits binary64 4610121213022027544 ∷ of_bits binary64 4607740997606297552 ∷ of_bits binary64 4621600692209049264 ∷ of_bits binary64 4601705260519516000 ∷ of_bits binary64 4621634669596407794 ∷ of_bits binary64 13840278203588634312 ∷ of_bits binary64 13841652373907656837 ∷ of_bits binary64 13836059791555422852 ∷ of_bits binary64 13843925910073125647 ∷ of_bits binary64 4616528116947234954 ∷ of_bits binary64 13844210683989432549 ∷ of_bits binary64 4617357986307760588 ∷ of_bits binary64 4620626450233022500 ∷ of_bits binary64 4613234452164948848 ∷ of_bits binary64 4619732764194874656 ∷ of_bits binary64 13843090253112209964 ∷ of_bits binary64 13843939884805246954 ∷ of_bits binary64 13826616524346950368 ∷ of_bits binary64 4621199102781651364 ∷ of_bits binary64 13842094443040743074 ∷ of_bits binary64 4621264592691608530 ∷ of_bits binary64 13841207754261487067 ∷ of_bits binary64 4616822801715867108 ∷ of_bits binary64 13844512033694944679 ∷ of_bits binary64 13842610365047184742 ∷ of_bits binary64 4619676715918919852 ∷ [])) ≡ Some (NoWeight 2 7)
unfolding of_int of_bits add sub mul div Ieee.round said_checked said_subdivided said_edited links points tally turned heavy begin final work_needed enough unwanted overweight refusal last_links last_flag last_points last_marks subdivided left_after ended call then onward every c1_vertex c1_halfedge c1_face c2 c3 c4 c5 c6 c7 c8 c9 fault set_mark marked unmarked_new written edit_ended edit_refusal edit split_edge_edit split_face_edit insert_edge_edit swap_denied swap_ccw_edit swap_cw_edit triangulate_all split_edge joined paint across_face across_hole insert_edge insert_new cut_off cut_corner triangulate_face triangulate petal petals fan singles split_face swap_ccw swap_cw partner loop around is_v is_e is_h is_f put lay over each range round only has distinct first all number_of sum split_edges from_old pairs catmull_face catmull_pass corners loop_face loop_pass rim_of rim_side rim_face centre_face sqrt_face swap_inner sqrt_pass zero_p add_p scale_p over_p flat plus heads face_point catmull_edge catmull_rim catmull_inner catmull_vertex catmull_points inner on_rim loop_edge_point loop_vertex loop_points sqrt_vertex sqrt_answer answers sqrt_points cc_edge middle cc_inner loop_edge loop_rim weighted sqrt_rim sqrt_pair crowded two_rims catmull loop_scheme sqrt3 sizes fits fits_with used links_of marks_of points_of clean filled wiped counts_of tally_of counted triangulated catmull_tally loop_tally sqrt_tally dec row
refusals-7 = refl

refusals-12 :
    refuses loop_scheme 1 true (mesh 70 70 2 (93 ∷ 41 ∷ 8 ∷ 62 ∷ 49 ∷ 132 ∷ 131 ∷ 53 ∷ 45 ∷ 108 ∷ 18 ∷ 61 ∷ 91 ∷ 40 ∷ 123 ∷ 29 ∷ 28 ∷ 84 ∷ 110 ∷ 15 ∷ 25 ∷ 129 ∷ 2 ∷ 22 ∷ 10 ∷ 86 ∷ 134 ∷ 75 ∷ 89 ∷ 1 ∷ 34 ∷ 51 ∷ 44 ∷ 95 ∷ 47 ∷ 66 ∷ 90 ∷ 72 ∷ 9 ∷ 30 ∷ 23 ∷ 12 ∷ 69 ∷ 78 ∷ 113 ∷ 87 ∷ 94 ∷ 57 ∷ 114 ∷ 13 ∷ 59 ∷ 35 ∷ 118 ∷ 102 ∷ 82 ∷ 46 ∷ 11 ∷ 71 ∷ 7 ∷ 109 ∷ 24 ∷ 80 ∷ 67 ∷ 136 ∷ 137 ∷ 124 ∷ 100 ∷ 85 ∷ 138 ∷ 106 ∷ []) (0 ∷ 29 ∷ 98 ∷ 60 ∷ 1 ∷ 11 ∷ 61 ∷ 99 ∷ 1 ∷ 28 ∷ 89 ∷ 33 ∷ 0 ∷ 22 ∷ 32 ∷ 88 ∷ 0 ∷ 59 ∷ 109 ∷ 95 ∷ 1 ∷ 46 ∷ 94 ∷ 108 ∷ 1 ∷ 58 ∷ 130 ∷ 10 ∷ 0 ∷ 56 ∷ 11 ∷ 131 ∷ 0 ∷ 38 ∷ 76 ∷ 126 ∷ 1 ∷ 2 ∷ 127 ∷ 77 ∷ 1 ∷ 56 ∷ 6 ∷ 54 ∷ 0 ∷ 24 ∷ 55 ∷ 7 ∷ 1 ∷ 49 ∷ 101 ∷ 80 ∷ 0 ∷ 41 ∷ 81 ∷ 100 ∷ 0 ∷ 19 ∷ 73 ∷ 50 ∷ 1 ∷ 31 ∷ 51 ∷ 72 ∷ 1 ∷ 61 ∷ 80 ∷ 111 ∷ 0 ∷ 18 ∷ 110 ∷ 81 ∷ 1 ∷ 43 ∷ 78 ∷ 61 ∷ 0 ∷ 10 ∷ 60 ∷ 79 ∷ 0 ∷ 55 ∷ 46 ∷ 52 ∷ 1 ∷ 7 ∷ 53 ∷ 47 ∷ 1 ∷ 40 ∷ 58 ∷ 49 ∷ 0 ∷ 23 ∷ 48 ∷ 59 ∷ 0 ∷ 20 ∷ 97 ∷ 110 ∷ 1 ∷ 60 ∷ 111 ∷ 96 ∷ 1 ∷ 36 ∷ 90 ∷ 40 ∷ 0 ∷ 1 ∷ 41 ∷ 91 ∷ 0 ∷ 15 ∷ 74 ∷ 76 ∷ 1 ∷ 16 ∷ 77 ∷ 75 ∷ 0 ∷ 42 ∷ 69 ∷ 39 ∷ 1 ∷ 39 ∷ 38 ∷ 68 ∷ 0 ∷ 33 ∷ 95 ∷ 3 ∷ 1 ∷ 22 ∷ 2 ∷ 94 ∷ 1 ∷ 51 ∷ 103 ∷ 37 ∷ 0 ∷ 30 ∷ 36 ∷ 102 ∷ 0 ∷ 48 ∷ 114 ∷ 35 ∷ 1 ∷ 30 ∷ 34 ∷ 115 ∷ 1 ∷ 65 ∷ 124 ∷ 31 ∷ 0 ∷ 39 ∷ 30 ∷ 125 ∷ 1 ∷ 1 ∷ 26 ∷ 42 ∷ 0 ∷ 13 ∷ 43 ∷ 27 ∷ 1 ∷ 13 ∷ 40 ∷ 85 ∷ 0 ∷ 17 ∷ 84 ∷ 41 ∷ 0 ∷ 8 ∷ 104 ∷ 116 ∷ 1 ∷ 32 ∷ 117 ∷ 105 ∷ 0 ∷ 34 ∷ 88 ∷ 20 ∷ 1 ∷ 55 ∷ 21 ∷ 89 ∷ 0 ∷ 4 ∷ 112 ∷ 23 ∷ 1 ∷ 23 ∷ 22 ∷ 113 ∷ 0 ∷ 31 ∷ 14 ∷ 67 ∷ 1 ∷ 35 ∷ 66 ∷ 15 ∷ 0 ∷ 7 ∷ 20 ∷ 56 ∷ 1 ∷ 47 ∷ 57 ∷ 21 ∷ 1 ∷ 24 ∷ 10 ∷ 66 ∷ 0 ∷ 62 ∷ 67 ∷ 11 ∷ 0 ∷ 47 ∷ 52 ∷ 112 ∷ 1 ∷ 44 ∷ 113 ∷ 53 ∷ 1 ∷ 50 ∷ 139 ∷ 22 ∷ 0 ∷ 40 ∷ 23 ∷ 138 ∷ 0 ∷ 11 ∷ 0 ∷ 19 ∷ 1 ∷ 10 ∷ 18 ∷ 1 ∷ 0 ∷ 5 ∷ 132 ∷ 69 ∷ 1 ∷ 3 ∷ 68 ∷ 133 ∷ 0 ∷ 25 ∷ 86 ∷ 122 ∷ 1 ∷ 14 ∷ 123 ∷ 87 ∷ 1 ∷ 62 ∷ 54 ∷ 51 ∷ 0 ∷ 35 ∷ 50 ∷ 55 ∷ 1 ∷ 42 ∷ 31 ∷ 63 ∷ 0 ∷ 3 ∷ 62 ∷ 30 ∷ 0 ∷ 57 ∷ 120 ∷ 84 ∷ 1 ∷ 67 ∷ 85 ∷ 121 ∷ 1 ∷ 19 ∷ 15 ∷ 118 ∷ 0 ∷ 37 ∷ 119 ∷ 14 ∷ 0 ∷ 27 ∷ 79 ∷ 28 ∷ 1 ∷ 15 ∷ 29 ∷ 78 ∷ 0 ∷ 16 ∷ 28 ∷ 8 ∷ 1 ∷ 38 ∷ 9 ∷ 29 ∷ 1 ∷ 27 ∷ 75 ∷ 18 ∷ 0 ∷ 43 ∷ 19 ∷ 74 ∷ 1 ∷ 41 ∷ 12 ∷ 16 ∷ 0 ∷ 61 ∷ 17 ∷ 13 ∷ 0 ∷ 66 ∷ 100 ∷ 93 ∷ 1 ∷ 54 ∷ 92 ∷ 101 ∷ 0 ∷ 67 ∷ 70 ∷ 43 ∷ 1 ∷ 17 ∷ 42 ∷ 71 ∷ 0 ∷ 45 ∷ 125 ∷ 64 ∷ 1 ∷ 25 ∷ 65 ∷ 124 ∷ 0 ∷ 28 ∷ 3 ∷ 46 ∷ 1 ∷ 34 ∷ 47 ∷ 2 ∷ 1 ∷ 12 ∷ 105 ∷ 26 ∷ 0 ∷ 36 ∷ 27 ∷ 104 ∷ 1 ∷ 0 ∷ 121 ∷ 83 ∷ 0 ∷ 54 ∷ 82 ∷ 120 ∷ 1 ∷ 33 ∷ 33 ∷ 5 ∷ 0 ∷ 46 ∷ 4 ∷ 32 ∷ 1 ∷ 20 ∷ 25 ∷ 103 ∷ 0 ∷ 53 ∷ 102 ∷ 24 ∷ 0 ∷ 68 ∷ 138 ∷ 0 ∷ 1 ∷ 29 ∷ 1 ∷ 139 ∷ 0 ∷ 49 ∷ 13 ∷ 82 ∷ 1 ∷ 66 ∷ 83 ∷ 12 ∷ 0 ∷ 51 ∷ 35 ∷ 97 ∷ 1 ∷ 53 ∷ 96 ∷ 34 ∷ 0 ∷ 12 ∷ 91 ∷ 44 ∷ 1 ∷ 8 ∷ 45 ∷ 90 ∷ 0 ∷ 63 ∷ 136 ∷ 134 ∷ 1 ∷ 69 ∷ 135 ∷ 137 ∷ 1 ∷ 59 ∷ 5 ∷ 117 ∷ 0 ∷ 9 ∷ 116 ∷ 4 ∷ 0 ∷ 60 ∷ 24 ∷ 17 ∷ 1 ∷ 18 ∷ 16 ∷ 25 ∷ 0 ∷ 44 ∷ 56 ∷ 48 ∷ 1 ∷ 4 ∷ 49 ∷ 57 ∷ 0 ∷ 26 ∷ 134 ∷ 36 ∷ 1 ∷ 48 ∷ 37 ∷ 135 ∷ 0 ∷ 32 ∷ 44 ∷ 109 ∷ 1 ∷ 9 ∷ 108 ∷ 45 ∷ 1 ∷ 37 ∷ 72 ∷ 127 ∷ 0 ∷ 52 ∷ 126 ∷ 73 ∷ 0 ∷ 0 ∷ 93 ∷ 70 ∷ 1 ∷ 57 ∷ 71 ∷ 92 ∷ 0 ∷ 14 ∷ 64 ∷ 136 ∷ 1 ∷ 64 ∷ 137 ∷ 65 ∷ 1 ∷ 45 ∷ 87 ∷ 38 ∷ 0 ∷ 65 ∷ 39 ∷ 86 ∷ 0 ∷ 2 ∷ 8 ∷ 119 ∷ 1 ∷ 52 ∷ 118 ∷ 9 ∷ 1 ∷ 21 ∷ 133 ∷ 130 ∷ 0 ∷ 6 ∷ 131 ∷ 132 ∷ 1 ∷ 6 ∷ 128 ∷ 6 ∷ 0 ∷ 58 ∷ 7 ∷ 129 ∷ 0 ∷ 21 ∷ 129 ∷ 62 ∷ 1 ∷ 5 ∷ 63 ∷ 128 ∷ 0 ∷ 69 ∷ 106 ∷ 114 ∷ 1 ∷ 26 ∷ 115 ∷ 107 ∷ 0 ∷ 64 ∷ 122 ∷ 106 ∷ 1 ∷ 63 ∷ 107 ∷ 123 ∷ 0 ∷ 50 ∷ 59 ∷ 98 ∷ 1 ∷ 68 ∷ 99 ∷ 58 ∷ []) (46 ∷ 105 ∷ []) (0 ∷ 0 ∷ 0 ∷ 0 ∷ 0 ∷ 0 ∷ 0 ∷ 0 ∷ 0 ∷ 0 ∷ 0 ∷ 0 ∷ 0 ∷ 0 ∷ 0 ∷ 0 ∷ 0 ∷ 0 ∷ 0 ∷ 0 ∷ 0 ∷ 0 ∷ 0 ∷ 0 ∷ 0 ∷ 0 ∷ 0 ∷ 0 ∷ 0 ∷ 0 ∷ 0 ∷ 0 ∷ 0 ∷ 0 ∷ 0 ∷ 0 ∷ 0 ∷ 0 ∷ 0 ∷ 0 ∷ 0 ∷ 0 ∷ 0 ∷ 0 ∷ 0 ∷ 0 ∷ 0 ∷ 0 ∷ 0 ∷ 0 ∷ 0 ∷ 0 ∷ 0 ∷ 0 ∷ 0 ∷ 0 ∷ 0 ∷ 0 ∷ 0 ∷ 0 ∷ 0 ∷ 0 ∷ 0 ∷ 0 ∷ 0 ∷ 0 ∷ 0 ∷ 0 ∷ 0 ∷ 0 ∷ []) (0 ∷ 0 ∷ 0 ∷ 0 ∷ 0 ∷ 0 ∷ 0 ∷ 0 ∷ 0 ∷ 0 ∷ 0 ∷ 0 ∷ 0 ∷ 0 ∷ 0 ∷ 0 ∷ 0 ∷ 0 ∷ 0 ∷ 0 ∷ 0 ∷ 0 ∷ 0 ∷ 0 ∷ 0 ∷ 0 ∷ 0 ∷ 0 ∷ 0 ∷ 0 ∷ 0 ∷ 0 ∷ 0 ∷ 0 ∷ 0 ∷ 0 ∷ 0 ∷ 0 ∷ 0 ∷ 0 ∷ 0 ∷ 0 ∷ 0 ∷ 0 ∷ 0 ∷ 0 ∷ 0 ∷ 0 ∷ 0 ∷ 0 ∷ 0 ∷ 0 ∷ 0 ∷ 0 ∷ 0 ∷ 0 ∷ 0 ∷ 0 ∷ 0 ∷ 0 ∷ 0 ∷ 0 ∷ 0 ∷ 0 ∷ 0 ∷ 0 ∷ 0 ∷ 0 ∷ 0 ∷ 0 ∷ []) (0 ∷ 0 ∷ []) (of_bits binary64 13836443278890705032 ∷ of_bits binary64 13841188910036939234 ∷ of_bits binary64 13841623987360075620 ∷ of_bits binary64 4621593959175326368 ∷ of_bits binary64 13839599808855172197 ∷ of_bits binary64 4612345083503078024 ∷ of_bits binary64 4621158192142264912 ∷ of_bits binary64 4605217716444004976 ∷ of_bits binary64 4619108204670306284 ∷ of_bits binary64 4613552580327716448 ∷ of_bits binary64 13840467612188727707 ∷ of_bits binary64 13834002589389268624 ∷ of_bits binary64 13823101495729869120 ∷ of_bits binary64 13844094563696685194 ∷ of_bits binary64 4616306432349098042 ∷ of_bits binary64 4617276904977071524 ∷ of_bits binary64 13822510111194641248 ∷ of_bits binary64 13838262930524576540 ∷ of_bits binary64 13842074238261444800 ∷ of_bits binary64 13844209483542168790 ∷ of_bits binary64 13840334809961167167 ∷ of_bits binary64 13844374595381962579 ∷ of_bits binary64 4621487472400372012 ∷ of_bits binary64 4618359342613810396 ∷ of_bits binary64 4618927237148630276 ∷ of_bits binary64 4618314683786170388 ∷ of_bits binary64 13842033597065374137 ∷ of_bits binary64 13843506480432673202 ∷ of_bits binary64 4619152549223932016 ∷ of_bits binary64 13836809004836242576 ∷ of_bits binary64 4620805121230612052 ∷ of_bits binary64 4612679211893374548 ∷ of_bits binary64 4621305692894794716 ∷ of_bits binary64 4621227703833896944 ∷ of_bits binary64 4616174640965318092 ∷ of_bits binary64 13843789834080474262 ∷ of_bits binary64 13835116178197584846 ∷ of_bits binary64 4620723888642159824 ∷ of_bits binary64 4621451995198258746 ∷ of_bits binary64 4617121398884630764 ∷ of_bits binary64 13835955259959840976 ∷ of_bits binary64 4620874031814719364 ∷ of_bits binary64 4617554675854622892 ∷ of_bits binary64 4617675616857606746 ∷ of_bits binary64 4620409503253917592 ∷ of_bits binary64 4618439016152437336 ∷ of_bits binary64 13842818212988850442 ∷ of_bits binary64 13841787790986833377 ∷ of_bits binary64 13840572657817826977 ∷ of_bits binary64 4621096879677337702 ∷ of_bits binary64 4619176048560228216 ∷ of_bits binary64 4620364150447815268 ∷ of_bits binary64 13829884110352290752 ∷ of_bits binary64 13844552546244336866 ∷ of_bits binary64 13836779402771910836 ∷ of_bits binary64 4620814430016680058 ∷ of_bits binary64 4619317474841508868 ∷ of_bits binary64 4620695785321733734 ∷ of_bits binary64 4621474464281765714 ∷ of_bits binary64 4606610921823576016 ∷ of_bits binary64 13835227691425717312 ∷ of_bits binary64 4598235724227721728 ∷ of_bits binary64 4609604387501720120 ∷ of_bits binary64 4614681175737438456 ∷ of_bits binary64 4620843674835516390 ∷ of_bits binary64 4608841784523198736 ∷ of_bits binary64 4616224134004828628 ∷ of_bits binary64 13838866457736541636 ∷ of_bits binary64 4607266711483984656 ∷ of_bits binary64 4615567815741997840 ∷ of_bits binary64 4600372569093747520 ∷ of_bits binary64 4605727422255762160 ∷ of_bits binary64 13844237572786461903 ∷ of_bits binary64 4617346190870861200 ∷ of_bits binary64 13831790250563454872 ∷ of_bits binary64 4621699958692503470 ∷ of_bits binary64 4617139263267574480 ∷ of_bits binary64 4605713990353148128 ∷ of_bits binary64 4617513359452360180 ∷ of_bits binary64 4620992561517019398 ∷ of_bits binary64 4619630636615679760 ∷ of_bits binary64 13833568529856453472 ∷ of_bits binary64 13830529838622932896 ∷ of_bits binary64 13829364269586026976 ∷ of_bits binary64 4599606100059411168 ∷ of_bits binary64 4615954798580228924 ∷ of_bits binary64 13843152631424221742 ∷ of_bits binary64 13844940988864185987 ∷ of_bits binary64 4607801888497865632 ∷ of_bits binary64 13837580196086550386 ∷ of_bits binary64 13835831639072818040 ∷ of_bits binary64 4619804491431345228 ∷ of_bits binary64 13844971141022980266 ∷ of_bits binary64 4611776708988203804 ∷ of_bits binary64 13844301604969539100 ∷ of_bits binary64 13841089493066180687 ∷ of_bits binary64 13844165308373884737 ∷ of_bits binary64 4618262716479858924 ∷ of_bits binary64 4620848881131427186 ∷ of_bits binary64 13844096862832222967 ∷ of_bits binary64 4617274316153474536 ∷ of_bits binary64 13823077488317375232 ∷ of_bits binary64 13841606894485713540 ∷ of_bits binary64 13840044743174161804 ∷ of_bits binary64 4607940217896561776 ∷ of_bits binary64 4615423672528492008 ∷ of_bits binary64 4621062774762428156 ∷ of_bits binary64 13839888741100403627 ∷ of_bits binary64 13844625650469816793 ∷ of_bits binary64 13843136002175326864 ∷ of_bits binary64 13839861855126755014 ∷ of_bits binary64 4612451312795493888 ∷ of_bits binary64 13843749235981270922 ∷ of_bits binary64 4621684825958415334 ∷ of_bits binary64 13842865364091588180 ∷ of_bits binary64 4620445681513742596 ∷ of_bits binary64 13842387719718103132 ∷ of_bits binary64 4621225742865869956 ∷ of_bits binary64 4617462595018578704 ∷ of_bits binary64 4616515124439591094 ∷ of_bits binary64 4617966396194809182 ∷ of_bits binary64 4608219871116881648 ∷ of_bits binary64 13842511124464205590 ∷ of_bits binary64 4621062776142701884 ∷ of_bits binary64 4609543683295940112 ∷ of_bits binary64 4621111237674746614 ∷ of_bits binary64 4601327393788517312 ∷ of_bits binary64 4609162483674187216 ∷ of_bits binary64 4620367032884191832 ∷ of_bits binary64 13843860739284987390 ∷ of_bits binary64 13820773684882581568 ∷ of_bits binary64 4615963332960016416 ∷ of_bits binary64 4614795261751319524 ∷ of_bits binary64 4607022045778747056 ∷ of_bits binary64 4618654737561971628 ∷ of_bits binary64 13844453217382154428 ∷ of_bits binary64 13840600307699347070 ∷ of_bits binary64 4616430861703475484 ∷ of_bits binary64 13842077429348244070 ∷ of_bits binary64 13842770508430627687 ∷ of_bits binary64 13813918050184021888 ∷ of_bits binary64 13842252840558563757 ∷ of_bits binary64 4617272526406746842 ∷ of_bits binary64 4620931309534743318 ∷ of_bits binary64 13845185234894862004 ∷ of_bits binary64 4621392100766234072 ∷ of_bits binary64 4621274094008329426 ∷ of_bits binary64 13841857172251742924 ∷ of_bits binary64 4611778978399182428 ∷ of_bits binary64 13839882358096821527 ∷ of_bits binary64 13844855947978816082 ∷ of_bits binary64 13836070195001522846 ∷ of_bits binary64 4614701310568152028 ∷ of_bits binary64 13837737624691156000 ∷ of_bits binary64 4621356067685946716 ∷ of_bits binary64 4621155788634845436 ∷ of_bits binary64 13837967896673961386 ∷ of_bits binary64 4618545971925221924 ∷ of_bits binary64 4616364842472001252 ∷ of_bits binary64 4621421938877023682 ∷ of_bits binary64 13818853602054186688 ∷ of_bits binary64 13841584210751656022 ∷ of_bits binary64 13839649166188661604 ∷ of_bits binary64 4620983734613638336 ∷ of_bits binary64 13834485680106945360 ∷ of_bits binary64 13840663207413734040 ∷ of_bits binary64 4618879855688759368 ∷ of_bits binary64 13830483087060399040 ∷ of_bits binary64 13840902573226239177 ∷ of_bits binary64 4616391364481226860 ∷ of_bits binary64 13818926291316626496 ∷ of_bits binary64 4618006753629079964 ∷ of_bits binary64 13844235883711015592 ∷ of_bits binary64 13839281606485925140 ∷ of_bits binary64 13841823600090462872 ∷ of_bits binary64 4621756615414561360 ∷ of_bits binary64 4608880013548726952 ∷ of_bits binary64 13835123169676404296 ∷ of_bits binary64 13845175806585897810 ∷ of_bits binary64 13844983258446992443 ∷ of_bits binary64 13844167800386404413 ∷ of_bits binary64 4621165684736776650 ∷ of_bits binary64 13841871233315918062 ∷ of_bits binary64 13841217196797881850 ∷ of_bits binary64 13827082484537897680 ∷ of_bits binary64 13830332611742280304 ∷ of_bits binary64 13836741012415849176 ∷ of_bits binary64 13840952613749163610 ∷ of_bits binary64 13817863196991811648 ∷ of_bits binary64 4613774720806578812 ∷ of_bits binary64 4612811625269026024 ∷ of_bits binary64 13842578719758301692 ∷ of_bits binary64 4616532923109133192 ∷ of_bits binary64 4609609201261582344 ∷ of_bits binary64 4619795717823341736 ∷ of_bits binary64 13836866402648242740 ∷ of_bits binary64 13839755844284851977 ∷ of_bits binary64 13833695960509205680 ∷ of_bits binary64 13844793194351347003 ∷ of_bits binary64 4619913572888480408 ∷ of_bits binary64 13827666762513354880 ∷ of_bits binary64 13841513168685362277 ∷ of_bits binary64 13844432665267417948 ∷ of_bits binary64 4616958422069765704 ∷ of_bits binary64 4618755537365388612 ∷ of_bits binary64 4615748260917469448 ∷ of_bits binary64 13823987033093676800 ∷ of_bits binary64 13844624123511039582 ∷ of_bits binary64 13842910299312815882 ∷ of_bits binary64 13844898460963586284 ∷ [])) ≡ Some (NoWeight 1 12)
unfolding of_int of_bits add sub mul div Ieee.round said_checked said_subdivided said_edited links points tally turned heavy begin final work_needed enough unwanted overweight refusal last_links last_flag last_points last_marks subdivided left_after ended call then onward every c1_vertex c1_halfedge c1_face c2 c3 c4 c5 c6 c7 c8 c9 fault set_mark marked unmarked_new written edit_ended edit_refusal edit split_edge_edit split_face_edit insert_edge_edit swap_denied swap_ccw_edit swap_cw_edit triangulate_all split_edge joined paint across_face across_hole insert_edge insert_new cut_off cut_corner triangulate_face triangulate petal petals fan singles split_face swap_ccw swap_cw partner loop around is_v is_e is_h is_f put lay over each range round only has distinct first all number_of sum split_edges from_old pairs catmull_face catmull_pass corners loop_face loop_pass rim_of rim_side rim_face centre_face sqrt_face swap_inner sqrt_pass zero_p add_p scale_p over_p flat plus heads face_point catmull_edge catmull_rim catmull_inner catmull_vertex catmull_points inner on_rim loop_edge_point loop_vertex loop_points sqrt_vertex sqrt_answer answers sqrt_points cc_edge middle cc_inner loop_edge loop_rim weighted sqrt_rim sqrt_pair crowded two_rims catmull loop_scheme sqrt3 sizes fits fits_with used links_of marks_of points_of clean filled wiped counts_of tally_of counted triangulated catmull_tally loop_tally sqrt_tally dec row
refusals-12 = refl
