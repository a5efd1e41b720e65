-- A corner cut off a face: halfedge h and the one after it, with a new edge, keep the face and become a triangle; the rest, one shorter, gets a new face. Assumes nothing.
use mathlib.Core.Path.{◌≡◌, sym, ap, ◌∙◌}
use mathlib.Core.Logic.{◌≢◌}
use Prim.Native.Nat.{ℕ, ◌+◌, ◌*◌, ◌≤◌, ◌<◌}
use native.Mathlib.Omega.{arith}
use lib.ListN.{length}
use Rattle.scope.specs.Links.{Links, NONE, face, next, prev, start, loop}
use Rattle.scope.specs.Edits.{cut_off}
use Rattle.laws_mesh.specs.Mesh.{Core}
use Rattle.laws_mesh.specs.Of.{mesh, Good}
use Rattle.laws_mesh.proofs.Cycle.{Part}
use Rattle.laws_mesh.proofs.Count.{Length}
use Rattle.laws_mesh.proofs.Loops.{loop-length, loop-cycle}
use Rattle.laws_mesh.proofs.Sides.{bears-length, three-cycle}
use Rattle.laws_mesh.proofs.InsertEdge.{InsertEdge}
use Rattle.laws_mesh.proofs.InsertLaws.{cut-off-is, cut-off-start-old}
use Rattle.laws_loop.proofs.CutGood.{face-h, f_in, h-three, walk}
pub use Rattle.laws_loop.proofs.CutGood.{across, cut-counts, cut-good, cut-walk, cut-x_in, cut-x-face, cut-rest}

module _ (m : Links) (g : Good m) (h j : ℕ) (h-in : h < 2 * m.ne) (faced : face m h ≢ NONE) (len : Length (next m) h (j + 3)) (more : 1 ≤ j)
    (room_e : m.ne + 1 ≤ 1048576) (room_f : m.nf + 1 ≤ 1048576) where
  c : Core (mesh m)
  c = g.consistent.core

  abbrev m' : Links
  m' = cut_off (next m h) h m

  r : InsertEdge (mesh m) (mesh m') (next m h) (prev m h) (2 * m.ne + 1) m.nf (Part (next m) (next m (next m h)) j)
  r = cut-off-is m g (next m h) h j (across m g h j h-in faced len more room_e room_f) room_e room_f

  good-cut : Good m'
  good-cut = cut-good m g h j h-in faced len more room_e room_f

  -- a face is as long as the loop of any halfedge that bears it
  by : (y f k : ℕ) → y < 2 * m'.ne → face m' y ≡ f → f < m'.nf → Length (next m') y k → length (loop m' (start m' f)) ≡ k
  by y f k i e u l = sym (loop-length m' good-cut y _ i (bears-length m' good-cut f u y i e)) ∙ loop-length m' good-cut y k i l

  f-in' : face m h < m'.nf
  f-in' = let a = (f_in m g h j h-in faced len more room_e room_f) in let (_, _, b) = (cut-counts m g h j h-in faced len more room_e room_f) in omega arith

  pub cut-corner : length (loop (cut_off (next m h) h m) (start (cut_off (next m h) h m) (face m h))) ≡ 3
  cut-corner = by h (face m h) 3 (r.keep-H h h-in) (face-h m g h j h-in faced len more room_e room_f) f-in' (three-cycle m' good-cut h (r.keep-H h h-in) (λ e. faced (sym (face-h m g h j h-in faced len more room_e room_f) ∙ e)) (h-three m g h j h-in faced len more room_e room_f))

  pub cut-rest-length : length (loop (cut_off (next m h) h m) (start (cut_off (next m h) h m) m.nf)) ≡ j + 2
  cut-rest-length = by (next m (next m h)) m.nf (j + 2) (cut-x_in m g h j h-in faced len more room_e room_f) (cut-x-face m g h j h-in faced len more room_e room_f) (let (_, _, b) = (cut-counts m g h j h-in faced len more room_e room_f) in omega arith) (cut-rest m g h j h-in faced len more room_e room_f)

  pub cut-old : (f : ℕ) → f < m.nf → f ≢ face m h → length (loop (cut_off (next m h) h m) (start (cut_off (next m h) h m) f)) ≡ length (loop m (start m f))
  cut-old f i ne =
      let a = c.start_in f i in
      let b : face m (start m f) ≢ face m h = λ e. ne (sym (c.start_bears f i) ∙ e) in
      let l = loop-cycle m g (start m f) a in
      ap (λ (y : ℕ). length (loop m' y)) (cut-off-start-old m g (next m h) h j (across m g h j h-in faced len more room_e room_f) room_e room_f f (omega arith) (λ e. ne (e ∙ c.next_face h h-in)))
      ∙ loop-length m' good-cut (start m f) _ (r.keep-H (start m f) a)
      (record { long = l.long; closes = (walk m g h j h-in faced len more room_e room_f) (start m f) a b (length (loop m (start m f))) ∙ l.closes; no-sooner = λ k u v e. l.no-sooner k u v (sym ((walk m g h j h-in faced len more room_e room_f) (start m f) a b k) ∙ e) })
