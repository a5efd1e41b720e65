-- A whole Loop pass over triangles: good again, with the counts of document 01's table, and every face a triangle. Assumes nothing.
use mathlib.Core.Path.{◌≡◌, ◌∙◌}
use Prim.Native.Nat.{◌+◌, ◌*◌}
use native.Mathlib.Omega.{arith}
use lib.ListN.{length}
use Rattle.scope.specs.Links.{Links, start, loop}
use Rattle.scope.specs.Passes.{loop_pass}
use Rattle.scope.specs.Tally.{tally_of, loop_tally}
use Rattle.laws_mesh.specs.Of.{Good}
use Rattle.laws_mesh.specs.Sides.{Within, Triangles}
use Rattle.laws_mesh.proofs.Corners.{sum-all, rims-corners}
use Rattle.laws_mesh.proofs.Sides.{tally-is}
use Rattle.laws_loop.proofs.Partway.{at_last}
pub use Rattle.laws_loop.proofs.Partway.{Partway, partway, loop-good, loop-triangles}

module _ (m : Links) (g : Good m) (T : Triangles m) (w : Within (loop_tally (tally_of m))) where
  pub loop-tally : tally_of (loop_pass m) ≡ loop_tally (tally_of m)
  unfolding tally_of loop_tally
  loop-tally =
      let v = (at_last m g T w).nv_is in
      let e = (at_last m g T w).ne_is in
      let f = (at_last m g T w).nf_is in
      let nf : (loop_pass m).nf ≡ 4 * m.nf = omega arith in
      let s = sum-all m.nf 3 (λ f. length (loop m (start m f))) T in
      let s' = sum-all (loop_pass m).nf 3 (λ f. length (loop (loop_pass m) (start (loop_pass m) f))) (loop-triangles m g T w) in
      let b = rims-corners m g in
      let b' = rims-corners (loop_pass m) (loop-good m g T w) in
      tally-is _ _ v e nf (s' ∙ (let q : 3 * (loop_pass m).nf ≡ 12 * m.nf = omega arith in q)) (omega arith)

  -- one pass, all in one
  pub loop-pass : Good (loop_pass m) × Triangles (loop_pass m) × (tally_of (loop_pass m) ≡ loop_tally (tally_of m))
  loop-pass = (loop-good m g T w, loop-triangles m g T w, loop-tally)

  -- Euler's number stays
  pub loop-euler : (loop_pass m).nv + (loop_pass m).nf + m.ne ≡ m.nv + m.nf + (loop_pass m).ne
  loop-euler = let v = (at_last m g T w).nv_is in let e = (at_last m g T w).ne_is in let f = (at_last m g T w).nf_is in omega arith
