-- The six edits, each as a whole call: what one that is done leaves, and that a refused one changes nothing. Assumes nothing.
use mathlib.Core.Path.{◌≡◌, refl, ap}
use Rattle.std.specs.Prelude.{Option, None, Some, Ok, Err}
use Prim.Native.Nat.{ℕ}
use Rattle.scope.specs.declared.records.Counts.{Counts}
use Rattle.scope.specs.declared.answers.Refusal.{Refusal}
use Rattle.scope.specs.Slices.{sizes}
use Rattle.scope.specs.EditCalls.{Edit, Own, edit, edit_ended, edit_refusal, split_edge_edit, split_face_edit, insert_edge_edit, swap_ccw_edit, swap_cw_edit, triangulate_all}
use Rattle.laws_check.proofs.Tells.{never}
use Rattle.laws_edit.specs.Kept.{marks_after}
use Rattle.laws_edit.specs.Leaves.{own_links, own_marks, Leaves}
use Rattle.laws_edit.proofs.Splits.{split_edge-keeps, split_face-keeps}
use Rattle.laws_edit.proofs.InsertCall.{insert_edge-keeps}
use Rattle.laws_edit.proofs.Swaps.{swap_ccw-keeps, swap_cw-keeps}
use Rattle.laws_edit.proofs.Triangulated.{triangulate-keeps}
use Rattle.laws_edit.proofs.Whole.{done, edit-leaves}

-- ---- done
pub split_edge-leaves : (h v : ℕ) (o : Own) (c : Counts) (x : ℕ) → (edit (split_edge_edit h v) o).answer ≡ Ok (c, x) → Leaves (split_edge_edit h v) o c
split_edge-leaves h v = edit-leaves (split_edge_edit h v) (split_edge-keeps h v)

pub split_face-leaves : (f v : ℕ) (o : Own) (c : Counts) (x : ℕ) → (edit (split_face_edit f v) o).answer ≡ Ok (c, x) → Leaves (split_face_edit f v) o c
split_face-leaves f v = edit-leaves (split_face_edit f v) (split_face-keeps f v)

pub insert_edge-leaves : (p n g : ℕ) (o : Own) (c : Counts) (x : ℕ) → (edit (insert_edge_edit p n g) o).answer ≡ Ok (c, x) → Leaves (insert_edge_edit p n g) o c
insert_edge-leaves p n g = edit-leaves (insert_edge_edit p n g) (insert_edge-keeps p n g)

pub swap_ccw-leaves : (e : ℕ) (o : Own) (c : Counts) (x : ℕ) → (edit (swap_ccw_edit e) o).answer ≡ Ok (c, x) → Leaves (swap_ccw_edit e) o c
swap_ccw-leaves e = edit-leaves (swap_ccw_edit e) (swap_ccw-keeps e)

pub swap_cw-leaves : (e : ℕ) (o : Own) (c : Counts) (x : ℕ) → (edit (swap_cw_edit e) o).answer ≡ Ok (c, x) → Leaves (swap_cw_edit e) o c
swap_cw-leaves e = edit-leaves (swap_cw_edit e) (swap_cw-keeps e)

pub triangulate-leaves : (o : Own) (c : Counts) (x : ℕ) → (edit triangulate_all o).answer ≡ Ok (c, x) → Leaves triangulate_all o c
triangulate-leaves = edit-leaves triangulate_all triangulate-keeps

-- ---- refused: a refusal changes nothing
pub refused-same : (E : Edit) (o : Own) (r : Refusal) → (edit E o).answer ≡ Err r → (edit E o).left ≡ o
unfolding edit edit_ended
refused-same E o r e = go (edit_refusal E (own_links o) (own_marks o) (sizes o.slices)) e
  where
    go : (q : Option Refusal) → (edit_ended q (E.links (own_links o)) (marks_after E (own_links o) (own_marks o)) (E.value (own_links o)) o).answer ≡ Err r
        → (edit_ended q (E.links (own_links o)) (marks_after E (own_links o) (own_marks o)) (E.value (own_links o)) o).left ≡ o
    go None e = never (ap done e)
    go (Some q) e = refl
